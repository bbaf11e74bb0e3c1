use Rattle.std.proofs.Common.{◌≡◌, ◌+◌, drop}
use Rattle.std.specs.Option.{option_map}
use Rattle.upstream_link.specs.Chunks.{trailer_from}
use Rattle.upstream_link.proofs.chunks.trailer_length.Given as goal

abbrev pub invariant-loop-at : goal.invariant-loop-at
invariant-loop-at l = option_map (λ n. n + l.at) (trailer_from l.state (drop l.at l.bytes)) ≡ trailer_from 0 l.bytes
