-- What reading a script answers.
use Rattle.std.specs.Prelude.{◌≡◌, ◌⊎◌, List, map, Result, Ok, Err}
use Rattle.replay_scripts.specs.declared.step.Script.{Script}
use Rattle.replay_scripts.specs.declared.fault.ScriptFault.{ScriptFault}
use Rattle.replay_scripts.specs.declared.fault.ScriptFault.TheVariants.{Memory}
use Rattle.replay_scripts.specs.Steps.{StepData, step_data}

-- the steps of a script
abbrev pub steps_of : Script → List StepData
steps_of script = map step_data script.steps.items

-- these steps were given, or there was no memory
abbrev pub Gives : List StepData → Result Script ScriptFault → Type 0
Gives steps (Ok script) = steps_of script ≡ steps
Gives steps (Err fault) = fault ≡ Memory

-- this fault was told, or there was no memory
abbrev pub Tells : ScriptFault → Result Script ScriptFault → Type 0
Tells fault (Ok script) = ⊥
Tells fault (Err told) = (told ≡ fault) ⊎ (told ≡ Memory)

-- this holds of a fault that isn't want of memory
abbrev pub UnlessMemory : (ScriptFault → Type 0) → ScriptFault → Type 0
UnlessMemory P Memory = Unit {0}
UnlessMemory P fault = P fault
