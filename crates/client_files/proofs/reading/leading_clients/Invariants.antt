use Rattle.std.proofs.Common.{map}
use Rattle.client_files.specs.Fronts.{NamesSoFar}
use Rattle.client_files.proofs.reading.leading_clients.Given as goal

abbrev pub invariant-loop-line : goal.invariant-loop-line
invariant-loop-line l = NamesSoFar l.version (map (λ line. line.now) l.lines) l.clients.items l.line-index
