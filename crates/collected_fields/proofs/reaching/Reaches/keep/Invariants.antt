use Rattle.std.proofs.Common.{◌≡◌, ℕ, ◌+◌, ◌-◌, length}
use Rattle.collected_fields.specs.Reached.{found_of}
use Rattle.collected_fields.proofs.reaching.Reaches.keep.Given as goal

abbrev pub invariant-loop-self : goal.invariant-loop-self
invariant-loop-self l = ((place : ℕ) → found_of l.self place ≡ found_of l.initial.self place) × (l.reach ≡ l.initial.reach)

abbrev pub decreases-loop-self : goal.decreases-loop-self
decreases-loop-self l = l.set + 1 - length l.self.sets.items
