-- The request that a body is.
use Rattle.std.specs.Prelude.{◌≡◌, ℕ, true, List, Option, Some, None, codes, unwrap_or, is_some, if◌then◌else◌}
use Rattle.std.specs.Str.{is_utf8}
use Rattle.serde_json.specs.Data.{Data, null, string, object, no_members}
use Rattle.serde_json.specs.Read.{read}
use Rattle.serde_json.specs.Find.{get, as_str, as_object}
use Rattle.serde_json.specs.View.{view}
use Rattle.request_bodies.specs.declared.request.Request.{Request}

-- a request as data
pub record RequestData : Type 0 where
  pub query : List ℕ
  pub name : Option (List ℕ)
  pub variables : Data

abbrev pub request_data : Request → RequestData
request_data request = record { query = request.query; name = request.name; variables = view request.variables }

-- the JSON value that bytes are: they are UTF-8, and are read as one
abbrev pub json_of : List ℕ → Option Data
json_of bytes = if is_utf8 bytes then read bytes else None

-- the body is this JSON, which is an object
abbrev pub IsObject : List ℕ → Data → Type 0
IsObject body json = (json_of body ≡ Some json) × (is_some (as_object json) ≡ true)

-- what an object has under a key; nothing counts as null
abbrev pub entry : List ℕ → Data → Data
entry key json = unwrap_or (get key json) null

-- the query, which is a string
abbrev pub query_in : Data → Option (List ℕ)
query_in json = as_str (entry (codes "query") json)

-- null, which is no name, or a string
abbrev pub optional_name : Data → Option (Option (List ℕ))
optional_name null = Some None
optional_name (string name) = Some (Some name)
optional_name _ = None

-- the name of the operation, if one is given
abbrev pub name_in : Data → Option (Option (List ℕ))
name_in json = optional_name (entry (codes "operationName") json)

-- null, which is the empty object, or an object
abbrev pub optional_object : Data → Option Data
optional_object null = Some (object no_members)
optional_object (object members) = Some (object members)
optional_object _ = None

-- what is given for the variables
abbrev pub variables_in : Data → Option Data
variables_in json = optional_object (entry (codes "variables") json)

-- The body is this request: a JSON object with its query, its name and its variables. Other members are passed over.
pub record IsRequest (body : List ℕ) (request : RequestData) : Type 0 where
  pub json : Data
  pub is_object : IsObject body json
  pub query_is : query_in json ≡ Some request.query
  pub name_is : name_in json ≡ Some request.name
  pub variables_are : variables_in json ≡ Some request.variables
