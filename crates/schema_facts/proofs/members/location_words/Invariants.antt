use Rattle.std.proofs.Common.{◌≡◌, ◌++◌, drop, map}
use Rattle.schema_facts.specs.Things.{thing_data}
use Rattle.schema_facts.specs.Table.{location_words}
use Rattle.schema_facts.proofs.members.location_words.Given as goal

abbrev pub invariant-names : goal.invariant-names
invariant-names l = map thing_data l.things.items ++ location_words (drop l.name-index l.names) ≡ location_words l.names
