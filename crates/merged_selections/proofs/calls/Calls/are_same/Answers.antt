use Rattle.std.proofs.Common.{◌≡◌, Bool, List, Ok, Err, refl, sym, ap, ◌∙◌, subst}
use Rattle.collected_fields.specs.Views.{setting_of_planning}
use Rattle.merged_selections.specs.declared.call.Call.{Call}
use Rattle.merged_selections.specs.NodeTests.{AreSameAt, values_at}
use Rattle.merged_selections.proofs.EqualCalls.{equal_same, same_equal}
use Rattle.merged_selections.proofs.KeptCalls.{field_places}
use Rattle.merged_selections.proofs.calls.Calls.are_same.Goals as goal

pub returns-in_err-point-clause-kept : goal.returns-in_err-point-clause-kept
returns-in_err-point-clause-kept c = λ kept. let e = setting_of_planning c.args.planning.now in c.point.ensures.kept e kept (ap (values_at e c.args.self.now.made.items) c.if-one-other.true ∙ c.root-other.ensures e kept)

pub returns-then-one-other-clause-kept : goal.returns-then-one-other-clause-kept
returns-then-one-other-clause-kept c = λ kept. let e = setting_of_planning c.args.planning.now in c.point.ensures.kept e kept (ap (values_at e c.args.self.now.made.items) c.if-one-other.true ∙ c.root-other.ensures e kept)

pub returns-then-one-other-clause-same : goal.returns-then-one-other-clause-same
returns-then-one-other-clause-same c = λ kept. let e = setting_of_planning c.args.planning.now in equal_same e c.args.self.now.made.items c.args.at c.args.place
    (sym (c.root-one.ensures e kept) ∙ (ap (values_at e c.args.self.now.made.items) c.if-one-other.true ∙ c.root-other.ensures e kept))

pub returns-in_err-point-in-Ok-true-clause-kept : goal.returns-in_err-point-in-Ok-true-clause-kept
returns-in_err-point-in-Ok-true-clause-kept c = λ kept.
    let e = setting_of_planning c.args.planning.now in
    let told : AreSameAt e c.args.self.now.made.items c.args.at c.args.place c.in-Ok-true.field-0 = field_places e c.args.self.now.made.items c.args.at c.args.place c.index-second.result.now (Ok c.in-Ok-true.field-0) c.requires.there c.requires.there_too c.index-second.ensures kept.0 (c.in-Ok-true.ensures.compares kept) in
    let same = same_equal e c.args.self.now.made.items c.args.self.now.made.items c.args.at c.args.place c.requires.there c.requires.there_too refl (subst (λ (b : Bool). AreSameAt e c.args.self.now.made.items c.args.at c.args.place b) c.in-Ok-true.field-0-test told) in
    c.point-in-Ok-true.ensures.kept e (c.in-Ok-true.ensures.kept kept) (subst (λ (cs : List Call). values_at e cs c.root-one.result ≡ values_at e cs c.root-other.result) (sym c.in-Ok-true.ensures.made) (c.root-one.ensures e kept ∙ (same ∙ sym (c.root-other.ensures e kept))))

pub returns-in_err-point-in-Ok-true-2-clause-kept : goal.returns-in_err-point-in-Ok-true-2-clause-kept
returns-in_err-point-in-Ok-true-2-clause-kept c = λ kept.
    let e = setting_of_planning c.args.planning.now in
    let told : AreSameAt e c.args.self.now.made.items c.args.at c.args.place c.in-Ok-true.field-0 = field_places e c.args.self.now.made.items c.args.at c.args.place c.index-second.result.now (Ok c.in-Ok-true.field-0) c.requires.there c.requires.there_too c.index-second.ensures kept.0 (c.in-Ok-true.ensures.compares kept) in
    let same = same_equal e c.args.self.now.made.items c.args.self.now.made.items c.args.at c.args.place c.requires.there c.requires.there_too refl (subst (λ (b : Bool). AreSameAt e c.args.self.now.made.items c.args.at c.args.place b) c.in-Ok-true.field-0-test told) in
    let first = c.point-in-Ok-true.ensures.kept e (c.in-Ok-true.ensures.kept kept) (subst (λ (cs : List Call). values_at e cs c.root-one.result ≡ values_at e cs c.root-other.result) (sym c.in-Ok-true.ensures.made) (c.root-one.ensures e kept ∙ (same ∙ sym (c.root-other.ensures e kept)))) in
    c.point-in-Ok-true-2.ensures.kept e first
    (subst (λ (cs : List Call). values_at e cs c.root-one.result ≡ values_at e cs c.args.place) (sym (c.point-in-Ok-true.ensures.made ∙ c.in-Ok-true.ensures.made)) (c.root-one.ensures e kept ∙ same))

pub returns-in_ok-point-in-Ok-true-2-clause-kept : goal.returns-in_ok-point-in-Ok-true-2-clause-kept
returns-in_ok-point-in-Ok-true-2-clause-kept c = λ kept.
    let e = setting_of_planning c.args.planning.now in
    let told : AreSameAt e c.args.self.now.made.items c.args.at c.args.place c.in-Ok-true.field-0 = field_places e c.args.self.now.made.items c.args.at c.args.place c.index-second.result.now (Ok c.in-Ok-true.field-0) c.requires.there c.requires.there_too c.index-second.ensures kept.0 (c.in-Ok-true.ensures.compares kept) in
    let same = same_equal e c.args.self.now.made.items c.args.self.now.made.items c.args.at c.args.place c.requires.there c.requires.there_too refl (subst (λ (b : Bool). AreSameAt e c.args.self.now.made.items c.args.at c.args.place b) c.in-Ok-true.field-0-test told) in
    let first = c.point-in-Ok-true.ensures.kept e (c.in-Ok-true.ensures.kept kept) (subst (λ (cs : List Call). values_at e cs c.root-one.result ≡ values_at e cs c.root-other.result) (sym c.in-Ok-true.ensures.made) (c.root-one.ensures e kept ∙ (same ∙ sym (c.root-other.ensures e kept)))) in
    c.point-in-Ok-true-2.ensures.kept e first
    (subst (λ (cs : List Call). values_at e cs c.root-one.result ≡ values_at e cs c.args.place) (sym (c.point-in-Ok-true.ensures.made ∙ c.in-Ok-true.ensures.made)) (c.root-one.ensures e kept ∙ same))

pub returns-in_ok-point-in-Ok-true-2-clause-same : goal.returns-in_ok-point-in-Ok-true-2-clause-same
returns-in_ok-point-in-Ok-true-2-clause-same c = λ kept. let e = setting_of_planning c.args.planning.now in
    subst (AreSameAt e c.args.self.now.made.items c.args.at c.args.place) c.in-Ok-true.field-0-test
    (field_places e c.args.self.now.made.items c.args.at c.args.place c.index-second.result.now (Ok c.in-Ok-true.field-0) c.requires.there c.requires.there_too c.index-second.ensures kept.0 (c.in-Ok-true.ensures.compares kept))

pub returns-in-Ok-false-clause-same : goal.returns-in-Ok-false-clause-same
returns-in-Ok-false-clause-same c = λ kept. let e = setting_of_planning c.args.planning.now in
    subst (AreSameAt e c.args.self.now.made.items c.args.at c.args.place) c.in-Ok-false.field-0-test
    (field_places e c.args.self.now.made.items c.args.at c.args.place c.index-second.result.now (Ok c.in-Ok-false.field-0) c.requires.there c.requires.there_too c.index-second.ensures kept.0 (c.in-Ok-false.ensures.compares kept))

pub returns-in-Err-clause-same : goal.returns-in-Err-clause-same
returns-in-Err-clause-same c = λ kept. field_places (setting_of_planning c.args.planning.now) c.args.self.now.made.items c.args.at c.args.place c.index-second.result.now (Err c.in-Err.fault) c.requires.there c.requires.there_too c.index-second.ensures kept.0 (c.in-Err.ensures.compares kept)
