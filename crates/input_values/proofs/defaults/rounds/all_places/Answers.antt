use Rattle.std.proofs.Common.{◌≡◌, ◌<◌, inl, inr, length, subst, sym, arith}
use Rattle.std.specs.List.{Contains}
use Rattle.std.proofs.lemmas.Bool.{cases_lt}
use Rattle.input_values.specs.defaults.Drafts.{draft_fields}
use Rattle.input_values.specs.defaults.Filling.{drafts}
use Rattle.input_values.proofs.FillingSteps.Found.{no_type}
use Rattle.input_values.proofs.defaults.rounds.all_places.Goals as goal

pub types-preserved : goal.types-preserved
types-preserved c = λ of at before within. elim (cases_lt of c.types.of) [
  | inl l ↦ c.in_ok-push_places.ensures.kept of at (c.types.invariant of at l within)
  | inr g ↦
      let e : c.types.of ≡ of = omega (arith, before, g) in
      let n = c.field_count.ensures in
      let m = subst (λ o. at < length (draft_fields (drafts c.args.types.now o))) (sym e) within in
      subst (λ o. Contains c.push_places.new.places.items (o, at)) e (c.in_ok-push_places.ensures.more at (omega (arith, n, m)))
]

pub returns : goal.returns
returns c = λ of at within. elim (cases_lt of (length c.args.types.now)) [
  | inl l ↦ let e = c.types-test.false in c.types.invariant of at (omega (arith, l, e)) within
  | inr g ↦ absurd (no_type c.args.types.now of at g within)
]
