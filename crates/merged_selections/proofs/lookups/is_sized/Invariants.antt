use Rattle.std.proofs.Common.{◌≡◌, drop, bytes_eq}
use Rattle.std.specs.List.{list_any}
use Rattle.merged_selections.proofs.lookups.is_sized.Given as goal

abbrev pub invariant-loop-other : goal.invariant-loop-other
invariant-loop-other l = list_any (bytes_eq l.name) (drop l.other-index l.sized) ≡ list_any (bytes_eq l.name) l.sized
