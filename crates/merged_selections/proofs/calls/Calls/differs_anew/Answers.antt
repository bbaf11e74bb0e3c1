use Rattle.std.proofs.Common.{Bool, List, Ok, sym, subst}
use Rattle.collected_fields.specs.Views.{setting_of_planning, collected_field}
use Rattle.merged_selections.specs.declared.call.Call.{Call}
use Rattle.merged_selections.specs.NodeTests.{IsSameAsAt, ComparesField}
use Rattle.merged_selections.proofs.KeptCalls.{field_differs, field_untold, field_same, untold_compares}
use Rattle.merged_selections.proofs.calls.Calls.differs_anew.Goals as goal

pub returns-in_err-put_same-in-Ok-true-clause-kept : goal.returns-in_err-put_same-in-Ok-true-clause-kept
returns-in_err-put_same-in-Ok-true-clause-kept c = λ kept. let e = setting_of_planning c.args.planning.now in
    let own = c.in-Ok.ensures.call kept.2 in
    let compares = subst (λ (b : Bool). ComparesField e c.args.self.now.made.items c.args.at c.args.of.number (collected_field c.args.other.now) (Ok b)) c.in-Ok-true.field-0-test (c.in-Ok-true.ensures.compares (kept.0, kept.1, c.in-Ok.ensures.scaled kept.2, kept.3)) in
    c.in_err-put_same-in-Ok-true.ensures.kept e (c.in-Ok-true.ensures.kept (kept.0, kept.1, c.in-Ok.ensures.scaled kept.2, kept.3)) own.1
    (subst (λ (cs : List Call). IsSameAsAt e cs c.args.at c.in-Ok.call) (sym c.in-Ok-true.ensures.made) (field_same e c.args.of.number (collected_field c.args.other.now) c.in-Ok.call own.0 c.args.self.now.made.items c.args.at c.requires.there compares))

pub returns-in_ok-put_same-in-Ok-true-clause-kept : goal.returns-in_ok-put_same-in-Ok-true-clause-kept
returns-in_ok-put_same-in-Ok-true-clause-kept c = λ kept. let e = setting_of_planning c.args.planning.now in
    let own = c.in-Ok.ensures.call kept.2 in
    let compares = subst (λ (b : Bool). ComparesField e c.args.self.now.made.items c.args.at c.args.of.number (collected_field c.args.other.now) (Ok b)) c.in-Ok-true.field-0-test (c.in-Ok-true.ensures.compares (kept.0, kept.1, c.in-Ok.ensures.scaled kept.2, kept.3)) in
    c.in_ok-put_same-in-Ok-true.ensures.kept e (c.in-Ok-true.ensures.kept (kept.0, kept.1, c.in-Ok.ensures.scaled kept.2, kept.3)) own.1
    (subst (λ (cs : List Call). IsSameAsAt e cs c.args.at c.in-Ok.call) (sym c.in-Ok-true.ensures.made) (field_same e c.args.of.number (collected_field c.args.other.now) c.in-Ok.call own.0 c.args.self.now.made.items c.args.at c.requires.there compares))

pub returns-in_ok-put_same-in-Ok-true-clause-compares : goal.returns-in_ok-put_same-in-Ok-true-clause-compares
returns-in_ok-put_same-in-Ok-true-clause-compares c = λ kept. let e = setting_of_planning c.args.planning.now in
    let own = c.in-Ok.ensures.call kept.2 in
    field_differs e c.args.of.number (collected_field c.args.other.now) c.in-Ok.call own.0 c.args.self.now.made.items c.args.at _
    (subst (λ (b : Bool). ComparesField e c.args.self.now.made.items c.args.at c.args.of.number (collected_field c.args.other.now) (Ok b)) c.in-Ok-true.field-0-test (c.in-Ok-true.ensures.compares (kept.0, kept.1, c.in-Ok.ensures.scaled kept.2, kept.3)))

pub returns-in-Ok-false-clause-compares : goal.returns-in-Ok-false-clause-compares
returns-in-Ok-false-clause-compares c = λ kept. let e = setting_of_planning c.args.planning.now in
    let own = c.in-Ok.ensures.call kept.2 in
    field_differs e c.args.of.number (collected_field c.args.other.now) c.in-Ok.call own.0 c.args.self.now.made.items c.args.at _
    (subst (λ (b : Bool). ComparesField e c.args.self.now.made.items c.args.at c.args.of.number (collected_field c.args.other.now) (Ok b)) c.in-Ok-false.field-0-test (c.in-Ok-false.ensures.compares (kept.0, kept.1, c.in-Ok.ensures.scaled kept.2, kept.3)))

pub returns-in-Ok-false-clause-kept : goal.returns-in-Ok-false-clause-kept
returns-in-Ok-false-clause-kept c = λ kept. c.in-Ok-false.ensures.kept (kept.0, kept.1, c.in-Ok.ensures.scaled kept.2, kept.3)

pub returns-in-Err-compare-clause-kept : goal.returns-in-Err-compare-clause-kept
returns-in-Err-compare-clause-kept c = λ kept. c.in-Err-compare.ensures.kept (kept.0, kept.1, c.in-Ok.ensures.scaled kept.2, kept.3)

pub returns-in-Err-compare-clause-compares : goal.returns-in-Err-compare-clause-compares
returns-in-Err-compare-clause-compares c = λ kept. let e = setting_of_planning c.args.planning.now in
    let own = c.in-Ok.ensures.call kept.2 in
    untold_compares e c.args.of.number (collected_field c.args.other.now) c.args.self.now.made.items c.args.at c.in-Err-compare.fault
    (field_untold e c.args.of.number (collected_field c.args.other.now) c.in-Ok.call own.0 c.args.self.now.made.items c.args.at c.in-Err-compare.fault c.requires.there (c.in-Err-compare.ensures.compares (kept.0, kept.1, c.in-Ok.ensures.scaled kept.2, kept.3)))
