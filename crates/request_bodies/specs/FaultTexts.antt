-- The texts of faults.
use Rattle.std.specs.Prelude.{ℕ, List, [], codes}
use Rattle.request_bodies.specs.declared.fault.BodyFault.{BodyFault}
use Rattle.request_bodies.specs.declared.fault.BodyFault.TheVariants.{NotJson, NotObject, NoQuery, BadName, BadVariables, Memory}

-- a fault by its number and name; want of memory has no text
abbrev pub fault_text : BodyFault → List ℕ
fault_text NotJson = codes "body 1 NotJson"
fault_text NotObject = codes "body 2 NotObject"
fault_text NoQuery = codes "body 3 NoQuery"
fault_text BadName = codes "body 4 BadName"
fault_text BadVariables = codes "body 5 BadVariables"
fault_text Memory = []
