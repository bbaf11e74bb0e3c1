-- What a printer has printed.
use Rattle.std.specs.Prelude.{string_bytes}
use Rattle.gql_base.specs.declared.printing.printer.Printer.{Printer}
use Rattle.gql_base.specs.printing.Printing.{Printed}

-- what was printed, and whether a space stands before what comes next
abbrev pub printed_by : Printer → Printed
printed_by printer = (string_bytes printer.text, printer.space)
