use Rattle.std.proofs.Common.{Option, sym, subst}
use Rattle.std.specs.Prelude.{IfSome}
use Rattle.collected_fields.specs.Views.{setting_of_planning}
use Rattle.merged_selections.specs.declared.calls.BuiltAt.{BuiltAt}
use Rattle.merged_selections.specs.NodeTests.{IsBuiltAt}
use Rattle.merged_selections.proofs.calls.Calls.take_built.Goals as goal

pub returns-in-None-clause-kept : goal.returns-in-None-clause-kept
returns-in-None-clause-kept c = λ e kept. (kept.0, kept.1, kept.2, subst (λ (built : Option BuiltAt). IfSome built (IsBuiltAt e c.args.self.now.made.items)) (sym c.take.ensures.after) tt)

pub returns-in-None-clause-given : goal.returns-in-None-clause-given
returns-in-None-clause-given c = λ kept. c.build-in-None.ensures (kept.0, kept.1, kept.2, subst (λ (built : Option BuiltAt). IfSome built (IsBuiltAt (setting_of_planning c.args.planning.now) c.args.self.now.made.items)) (sym c.take.ensures.after) tt)
