use Rattle.std.proofs.Common.{◌≡◌, drop}
use Rattle.http_front.specs.Passed.{is_among}
use Rattle.http_front.proofs.passed.is_among.Given as goal

abbrev pub invariant-names : goal.invariant-names
invariant-names l = is_among (drop l.other-index l.names) l.name ≡ is_among l.names l.name
