use Rattle.std.proofs.Common.{◌≡◌, ◌++◌, drop, map}
use Rattle.schema_reader.specs.Trees.{enum_value_tree}
use Rattle.schema_facts.specs.Facts.{numbers_from}
use Rattle.schema_facts.specs.Shown.{is_shown_value}
use Rattle.schema_facts.proofs.shown.value_numbers.Given as goal

abbrev pub invariant-values : goal.invariant-values
invariant-values l = l.numbers.items ++ numbers_from l.number is_shown_value (map enum_value_tree (drop l.number l.values)) ≡ numbers_from 0 is_shown_value (map enum_value_tree l.values)
