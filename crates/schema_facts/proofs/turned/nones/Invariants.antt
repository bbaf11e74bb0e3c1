use Rattle.std.proofs.Common.{◌≡◌, ◌++◌, ◌-◌, map}
use Rattle.schema_facts.specs.Facts.{numbers_in}
use Rattle.schema_facts.specs.Turning.{nones}
use Rattle.schema_facts.proofs.turned.nones.Given as goal

abbrev pub invariant-count : goal.invariant-count
invariant-count l = map numbers_in l.lists.items ++ nones (l.count - l.at) ≡ nones l.count
