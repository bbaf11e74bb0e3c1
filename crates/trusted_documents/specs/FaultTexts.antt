-- The texts of faults.
use Rattle.std.specs.Prelude.{ℕ, List, [], ◌++◌, codes}
use Rattle.std.specs.Fmt.{decimal}
use Rattle.gql_base.specs.printing.OneLine.{shown_in_line}
use Rattle.trusted_documents.specs.declared.fault.TrustedFault.{TrustedFault}
use Rattle.trusted_documents.specs.declared.fault.TrustedFault.TheVariants as list
use Rattle.trusted_documents.specs.declared.fault.ExpandFault.{ExpandFault}
use Rattle.trusted_documents.specs.declared.fault.ExpandFault.TheVariants as expand

-- a fault of a list by its number and name, with its count or its key, within the line; want of memory has no text
abbrev pub trusted_fault_text : TrustedFault → List ℕ
trusted_fault_text list.NotJson = codes "trusted 1 NotJson"
trusted_fault_text list.NotObject = codes "trusted 2 NotObject"
trusted_fault_text (list.TooMany count) = codes "trusted 3 TooMany " ++ decimal count
trusted_fault_text (list.BadHash key) = codes "trusted 4 BadHash " ++ shown_in_line key
trusted_fault_text (list.NotString key) = codes "trusted 5 NotString " ++ shown_in_line key
trusted_fault_text (list.TooLong key) = codes "trusted 6 TooLong " ++ shown_in_line key
trusted_fault_text (list.WrongHash key) = codes "trusted 7 WrongHash " ++ shown_in_line key
trusted_fault_text list.Memory = []

-- a fault of a body by its number and name; want of memory has no text
abbrev pub expand_fault_text : ExpandFault → List ℕ
expand_fault_text expand.BadExtension = codes "expand 1 BadExtension"
expand_fault_text expand.HashMismatch = codes "expand 2 HashMismatch"
expand_fault_text expand.UnknownHash = codes "expand 3 UnknownHash"
expand_fault_text expand.NotTrusted = codes "expand 4 NotTrusted"
expand_fault_text expand.Memory = []
