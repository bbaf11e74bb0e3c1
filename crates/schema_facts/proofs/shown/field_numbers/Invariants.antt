use Rattle.std.proofs.Common.{◌≡◌, ◌++◌, drop, map}
use Rattle.schema_reader.specs.Trees.{field_tree}
use Rattle.schema_facts.specs.Facts.{numbers_from}
use Rattle.schema_facts.specs.Shown.{is_shown_field}
use Rattle.schema_facts.proofs.shown.field_numbers.Given as goal

abbrev pub invariant-fields : goal.invariant-fields
invariant-fields l = l.numbers.items ++ numbers_from l.number is_shown_field (map field_tree (drop l.number l.fields)) ≡ numbers_from 0 is_shown_field (map field_tree l.fields)
