use Rattle.std.proofs.Common.{◌≡◌, ℕ, ◌+◌, ◌-◌, length}
use Rattle.collected_fields.specs.Kinds.{stand_in_of}
use Rattle.collected_fields.proofs.kinds.Kinds.keep.Given as goal

abbrev pub invariant-loop-self : goal.invariant-loop-self
invariant-loop-self l = ((place : ℕ) → stand_in_of l.self place ≡ stand_in_of l.initial.self place) × (l.self.conditions ≡ l.initial.self.conditions) × (l.self.begun ≡ l.initial.self.begun)

abbrev pub decreases-loop-self : goal.decreases-loop-self
decreases-loop-self l = l.of.number + 1 - length l.self.stand_ins.items
