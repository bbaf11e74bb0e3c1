use Rattle.std.proofs.Common.{◌≡◌, length}
use Rattle.input_values.specs.defaults.Filling.{drafts, table_of}
use Rattle.input_values.specs.defaults.Rounds.{AreFound, Covers}
use Rattle.input_values.proofs.defaults.rounds.fill.Given as goal

abbrev pub invariant-rounds : goal.invariant-rounds
invariant-rounds l = (l.filled.types.items ≡ l.fn.types.items) × (AreFound (drafts l.fn.types.items) (table_of l.filled.values) × Covers (drafts l.fn.types.items) (table_of l.filled.values) l.missing.items)

abbrev pub decreases-rounds : goal.decreases-rounds
decreases-rounds l = length l.missing.items
