use Rattle.std.proofs.Common.{◌≡◌, ◌++◌, drop, map}
use Rattle.schema_facts.specs.Things.{thing_data, a_type}
use Rattle.schema_facts.proofs.bodies.numbered.Given as goal

abbrev pub invariant-numbers : goal.invariant-numbers
invariant-numbers l = map thing_data l.things.items ++ map a_type (drop l.number-index l.numbers) ≡ map a_type l.numbers
