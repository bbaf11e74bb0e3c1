-- Fields passed over change nothing.
use Rattle.std.proofs.Common.{◌≡◌, ◌-◌, length}
use Rattle.http_fields.specs.Fields.{values_left}
use Rattle.http_fields.proofs.values.ValuesIterator.next.Given as goal

abbrev pub invariant-loop-self : goal.invariant-loop-self
invariant-loop-self l = values_left l.self ≡ values_left l.fn.self

abbrev pub decreases-loop-self : goal.decreases-loop-self
decreases-loop-self l = length l.self.fields.headers.now - l.self.at
