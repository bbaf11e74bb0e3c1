-- What reading a body answers.
use Rattle.std.specs.Prelude.{◌≡◌, ◌⊎◌, ℕ, List, Result, Ok, Err}
use Rattle.request_bodies.specs.declared.fault.BodyFault.{BodyFault}
use Rattle.request_bodies.specs.declared.fault.BodyFault.TheVariants.{NotJson, NotObject, NoQuery, BadName, BadVariables, Memory}
use Rattle.request_bodies.specs.declared.request.Request.{Request}
use Rattle.request_bodies.specs.Bodies.{RequestData, request_data}

-- this request was given, or there was no memory
abbrev pub Gives : RequestData → Result Request BodyFault → Type 0
Gives asked (Ok request) = request_data request ≡ asked
Gives asked (Err fault) = fault ≡ Memory

-- this fault was told, or there was no memory
abbrev pub Tells : BodyFault → Result Request BodyFault → Type 0
Tells fault (Ok request) = ⊥
Tells fault (Err told) = (told ≡ fault) ⊎ (told ≡ Memory)

-- this holds of a fault that isn't want of memory
abbrev pub UnlessMemory : (BodyFault → Type 0) → BodyFault → Type 0
UnlessMemory P Memory = Unit {0}
UnlessMemory P fault = P fault
