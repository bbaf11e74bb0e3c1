use Rattle.std.proofs.Common.{◌≡◌, ◌++◌, drop, map}
use Rattle.schema_facts.specs.Facts.{number_named}
use Rattle.schema_facts.specs.FactsViews.{facts_data}
use Rattle.schema_facts.specs.Things.{thing_data, a_type}
use Rattle.schema_facts.proofs.bodies.named_types.Given as goal

abbrev pub invariant-names : goal.invariant-names
invariant-names l = map thing_data l.things.items ++ map (λ of. a_type (number_named (facts_data l.facts).types of)) (drop l.name-index l.names) ≡ map (λ of. a_type (number_named (facts_data l.facts).types of)) l.names
