use Rattle.std.proofs.Common.{ℕ, ◌<◌, length}
use Rattle.std.specs.List.{Contains}
use Rattle.input_values.specs.defaults.Drafts.{draft_fields}
use Rattle.input_values.specs.defaults.Filling.{drafts}
use Rattle.input_values.proofs.defaults.rounds.all_places.Given as goal

abbrev pub invariant-types : goal.invariant-types
invariant-types l = (of at : ℕ) → of < l.of → at < length (draft_fields (drafts l.types of)) → Contains l.places.items (of, at)
