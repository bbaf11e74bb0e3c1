use Rattle.std.proofs.Common.{ℕ, ◌≡◌, ◌&&◌, drop, map, nat_eq}
use Rattle.std.specs.List.{list_any}
use Rattle.schema_model.specs.Numbers.{type_number}
use Rattle.collected_fields.specs.Reached.{Misses, is_marked_in}
use Rattle.collected_fields.proofs.reach.Reach.add_those.Given as goal

abbrev pub invariant-loop-of : goal.invariant-loop-of
invariant-loop-of l = (T : ℕ) → Misses l.self T → Misses l.initial.self T × ((is_marked_in l.marks T && list_any (nat_eq T) (map type_number (drop l.of-index l.types))) ≡ (is_marked_in l.marks T && list_any (nat_eq T) (map type_number l.types)))
