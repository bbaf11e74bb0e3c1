use Rattle.std.proofs.Common.{All, sym, subst}
use Rattle.std.proofs.lemmas.List.Elements.{All-push}
use Rattle.variable_coercion.specs.Calls.{environment}
use Rattle.distinct_selections.specs.SameVariables.{StandsIn}
use Rattle.distinct_selections.proofs.stand_ins.StandIns.put.Goals as goal

pub returns-in_err-insert-clause-right : goal.returns-in_err-insert-clause-right
returns-in_err-insert-clause-right c = λ same right. let values = environment c.args.self.now.variables.now in
    subst (All (StandsIn values)) (sym c.in_ok-push.ensures.items) (All-push (StandsIn values) c.args.self.now.others.items (record { name = c.args.name; other = c.args.other }) right same)

pub returns-clause-right : goal.returns-clause-right
returns-clause-right c = λ same right. let values = environment c.args.self.now.variables.now in
    subst (All (StandsIn values)) (sym c.in_ok-push.ensures.items) (All-push (StandsIn values) c.args.self.now.others.items (record { name = c.args.name; other = c.args.other }) right same)
