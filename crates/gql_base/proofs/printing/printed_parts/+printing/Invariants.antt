use Rattle.std.proofs.Common.{◌≡◌, drop, map}
use Rattle.gql_base.specs.printing.Printing.{put_all}
use Rattle.gql_base.specs.printing.Printers.{printed_by}
use Rattle.gql_base.specs.printing.PrintedTrees.{values_symbols, fields_symbols}
use Rattle.gql_base.specs.parts.Values.{values_from, fields_from}
use Rattle.gql_base.specs.parts.Trees.{value_tree, named_value}
use Rattle.gql_base.proofs.printing.printed_parts.+printing.Given as goal

abbrev pub invariant-write_values-loop-item : goal.invariant-write_values-loop-item
invariant-write_values-loop-item l = put_all (printed_by l.printer) (values_symbols (values_from (map value_tree (drop l.item-index l.items)))) ≡ put_all (printed_by l.fn.printer) (values_symbols (values_from (map value_tree l.items)))

abbrev pub invariant-write_arguments-loop-argument : goal.invariant-write_arguments-loop-argument
invariant-write_arguments-loop-argument l = put_all (printed_by l.printer) (fields_symbols (fields_from (map named_value (drop l.argument-index l.arguments)))) ≡ put_all (printed_by l.fn.printer) (fields_symbols (fields_from (map named_value l.arguments)))
