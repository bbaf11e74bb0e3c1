-- The texts of faults.
use Rattle.std.specs.Prelude.{ℕ, List, [], ◌++◌, codes}
use Rattle.std.specs.Fmt.{decimal}
use Rattle.client_files.specs.declared.fault.ClientsFault.{ClientsFault}
use Rattle.client_files.specs.declared.fault.ClientsFault.TheVariants.{BadLine, Repeated, TooMany, NoClient, Memory}

-- a fault with its number and its line; want of memory has no text
abbrev pub fault_text : ClientsFault → List ℕ
fault_text (BadLine line) = codes "clients 1 BadLine " ++ decimal line
fault_text (Repeated line) = codes "clients 2 Repeated " ++ decimal line
fault_text (TooMany line) = codes "clients 3 TooMany " ++ decimal line
fault_text NoClient = codes "clients 4 NoClient"
fault_text Memory = []
