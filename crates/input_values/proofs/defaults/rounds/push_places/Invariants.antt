use Rattle.std.proofs.Common.{ℕ, ◌<◌}
use Rattle.std.specs.List.{Contains}
use Rattle.input_values.proofs.defaults.rounds.push_places.Given as goal

abbrev pub invariant-places : goal.invariant-places
invariant-places l = ((at : ℕ) → at < l.at → Contains l.places.items (l.of, at)) × ((o at : ℕ) → Contains l.initial.places.items (o, at) → Contains l.places.items (o, at))
