use Rattle.std.proofs.Common.{◌≡◌, ◌++◌, drop, map}
use Rattle.document_rules.specs.Parts.{fragment_data, fragments_of}
use Rattle.operation_class.specs.RootFields.{defined_data}
use Rattle.operation_class.proofs.root_fields.defined_in.Given as goal

abbrev pub invariant-definitions : goal.invariant-definitions
invariant-definitions l = map defined_data l.defined.items ++ map fragment_data (fragments_of (drop l.definition-index l.definitions)) ≡ map fragment_data (fragments_of l.definitions)
