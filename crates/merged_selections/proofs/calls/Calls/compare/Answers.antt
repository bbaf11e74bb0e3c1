use Rattle.std.proofs.Common.{List, Ok, sym, subst}
use Rattle.collected_fields.specs.Views.{setting_of_planning, collected_field}
use Rattle.merged_selections.specs.declared.call.Call.{Call}
use Rattle.merged_selections.specs.NodeTests.{GivesAt}
use Rattle.merged_selections.proofs.KeptCalls.{gives_compares, untold_field}
use Rattle.merged_selections.proofs.calls.Calls.compare.Goals as goal

pub returns-in-Ok-clause-kept : goal.returns-in-Ok-clause-kept
returns-in-Ok-clause-kept c = λ kept.
    let e = setting_of_planning c.args.planning.now in
    let first = c.seen_same.ensures.kept e kept in
    c.compare_built.ensures.kept (subst (λ (cs : List Call). GivesAt e cs c.args.at (Ok c.in-Ok.args)) (sym c.take_built.ensures.made) (c.in-Ok.ensures.given first)) (c.take_built.ensures.kept e first)

pub returns-in-Ok-clause-compares : goal.returns-in-Ok-clause-compares
returns-in-Ok-clause-compares c = λ kept.
    let e = setting_of_planning c.args.planning.now in
    gives_compares e c.args.self.now.made.items c.args.at c.args.of.number (collected_field c.args.field.now) c.in-Ok.args c.compare_built.result
    (subst (λ (cs : List Call). GivesAt e cs c.args.at (Ok c.in-Ok.args)) c.seen_same.ensures.made (c.in-Ok.ensures.given (c.seen_same.ensures.kept e kept))) c.compare_built.ensures.compares

pub returns-in-Err-clause-kept : goal.returns-in-Err-clause-kept
returns-in-Err-clause-kept c = λ kept. let e = setting_of_planning c.args.planning.now in c.take_built.ensures.kept e (c.seen_same.ensures.kept e kept)

pub returns-in-Err-clause-compares : goal.returns-in-Err-clause-compares
returns-in-Err-clause-compares c = λ kept.
    let e = setting_of_planning c.args.planning.now in
    untold_field e c.args.self.now.made.items c.args.at c.args.of.number (collected_field c.args.field.now) c.in-Err.fault (c.in-Err.ensures.given (c.seen_same.ensures.kept e kept))
