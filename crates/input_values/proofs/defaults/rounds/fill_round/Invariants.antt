use Rattle.std.proofs.Common.{◌≡◌}
use Rattle.input_values.specs.defaults.Filling.{drafts, table_of}
use Rattle.input_values.specs.defaults.Rounds.{RoundLeft}
use Rattle.input_values.proofs.defaults.rounds.fill_round.Given as goal

abbrev pub invariant-missing : goal.invariant-missing
invariant-missing l = (l.filled.types ≡ l.initial.filled.types) × RoundLeft (drafts l.initial.filled.types.items) (table_of l.initial.filled.values) (table_of l.filled.values) l.missing l.still.items l.n
