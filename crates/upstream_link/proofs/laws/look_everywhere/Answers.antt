-- One place more was looked at.
use Rattle.std.proofs.Common.{inl, inr, ◌∙◌, ap, subst, arith, drop}
use Rattle.std.proofs.lemmas.Bool.{cases_lt}
use Rattle.upstream_link.specs.Service.{IsSeen}
use Rattle.upstream_link.proofs.laws.look_everywhere.Goals as goal

pub places-preserved : goal.places-preserved
places-preserved c = (
  omega (arith, c.places-test.true),
  λ at before. elim (cases_lt at c.places.at) [
    | inl earlier ↦ c.places.invariant.1 at earlier
    | inr here ↦ subst IsSeen (c.after.ensures ∙ ap (λ n. drop n c.args.bytes.now) (omega (arith, before, here))) c.look_here.ensures
  ],
)

pub returns : goal.returns
returns c = λ at inside. c.places.invariant.1 at (omega (arith, inside, c.places-test.false))
