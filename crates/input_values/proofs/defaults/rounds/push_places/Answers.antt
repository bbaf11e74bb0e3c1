use Rattle.std.proofs.Common.{◌≡◌, inl, inr, subst, arith}
use Rattle.std.specs.List.{Contains}
use Rattle.std.proofs.lemmas.Bool.{cases_lt}
use Rattle.input_values.proofs.FillingSteps.Found.{pushed, pushed_last}
use Rattle.input_values.proofs.defaults.rounds.push_places.Goals as goal

pub places-preserved : goal.places-preserved
places-preserved c = (
  λ at before. elim (cases_lt at c.places.at) [
    | inl l ↦ pushed c.places.places.items c.push.new.self.items (c.args.of, c.places.at) (c.args.of, at) c.in_ok-push.ensures.items (c.places.invariant.0 at l)
    | inr g ↦
        let e : c.places.at ≡ at = omega (arith, before, g) in
        subst (λ n. Contains c.push.new.self.items (c.args.of, n)) e (pushed_last c.places.places.items c.push.new.self.items (c.args.of, c.places.at) c.in_ok-push.ensures.items)
  ],
  λ o at there. pushed c.places.places.items c.push.new.self.items (c.args.of, c.places.at) (o, at) c.in_ok-push.ensures.items (c.places.invariant.1 o at there),
)
