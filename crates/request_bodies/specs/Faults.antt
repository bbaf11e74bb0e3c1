-- The first fault of a body that is no request.
use Rattle.std.specs.Prelude.{◌≡◌, ℕ, List, Option, Some, None, false, is_some}
use Rattle.serde_json.specs.Data.{Data}
use Rattle.serde_json.specs.Find.{as_object}
use Rattle.request_bodies.specs.declared.fault.BodyFault.{BodyFault}
use Rattle.request_bodies.specs.declared.fault.BodyFault.TheVariants.{NotJson, NotObject, NoQuery, BadName, BadVariables, Memory}
use Rattle.request_bodies.specs.Bodies.{json_of, IsObject, query_in, name_in, variables_in}

-- the body is JSON and no object
abbrev pub IsNoObject : List ℕ → Type 0
IsNoObject body = (json : Data) × (json_of body ≡ Some json) × (is_some (as_object json) ≡ false)

-- the object has a query
abbrev pub HasQuery : Data → Type 0
HasQuery json = (query : List ℕ) × (query_in json ≡ Some query)

-- the object has a name, or leaves it out
abbrev pub HasName : Data → Type 0
HasName json = (name : Option (List ℕ)) × (name_in json ≡ Some name)

-- what is wrong with the object, where what is tested before is well
abbrev pub IsAtFault : Data → BodyFault → Type 0
IsAtFault json NoQuery = query_in json ≡ None
IsAtFault json BadName = HasQuery json × (name_in json ≡ None)
IsAtFault json BadVariables = HasQuery json × HasName json × (variables_in json ≡ None)
IsAtFault json _ = ⊥

-- the body is an object at fault
abbrev pub IsFaultyObject : List ℕ → BodyFault → Type 0
IsFaultyObject body fault = (json : Data) × IsObject body json × IsAtFault json fault

-- The first fault of the body: it is no JSON, it is no object, or the object is at fault.
abbrev pub HasFault : List ℕ → BodyFault → Type 0
HasFault body NotJson = json_of body ≡ None
HasFault body NotObject = IsNoObject body
HasFault body Memory = ⊥
HasFault body fault = IsFaultyObject body fault
