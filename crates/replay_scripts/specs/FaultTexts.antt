-- The texts of faults.
use Rattle.std.specs.Prelude.{ℕ, List, [], ◌++◌, codes}
use Rattle.std.specs.Fmt.{decimal}
use Rattle.replay_scripts.specs.declared.fault.ScriptFault.{ScriptFault}
use Rattle.replay_scripts.specs.declared.fault.ScriptFault.TheVariants.{BadLine, RepeatedId, UnknownId, Memory}

-- a fault by its number and name, with its line; want of memory has no text
abbrev pub fault_text : ScriptFault → List ℕ
fault_text (BadLine line) = codes "script 1 BadLine " ++ decimal line
fault_text (RepeatedId line) = codes "script 2 RepeatedId " ++ decimal line
fault_text (UnknownId line) = codes "script 3 UnknownId " ++ decimal line
fault_text Memory = []
