-- The body that stands for a client's where a document is put in for the query.
use Rattle.std.specs.Prelude.{◌≡◌, ◌↔◌, ℕ, false, List, Some, None, cond, codes, IsUtf8}
use Rattle.std.specs.Str.{bytes_eq}
use Rattle.serde_json.specs.Data.{Data, string, object, Members, no_members, member, put}
use Rattle.response_model.specs.WrittenJson.{IsCompact}
use Rattle.request_bodies.specs.Bodies.{RequestData, name_in, variables_in, IsRequest}
use Rattle.request_bodies.specs.Faults.{HasName, HasFault}
use Rattle.request_bodies.specs.declared.fault.BodyFault.{BodyFault}
use Rattle.request_bodies.specs.declared.fault.BodyFault.TheVariants.{BadName, BadVariables}

-- the members but for that of this key
abbrev pub without : List ℕ → Members → Members
without key no_members = no_members
without key (member k value rest) = cond (bytes_eq key k) rest (member k value (without key rest))

-- the same object with this query, and without `extensions`
abbrev pub with_query : List ℕ → Data → Data
with_query query (object members) = object (without (codes "extensions") (put (codes "query") (string query) members))
with_query query other = other

-- the request for a document, with the name and the variables of the client's object
pub record IsRequestFor (document : List ℕ) (json : Data) (asked : RequestData) : Type 0 where
  pub query : asked.query ≡ document
  pub name : name_in json ≡ Some asked.name
  pub variables : variables_in json ≡ Some asked.variables

-- what is wrong with the client's object but for its query
abbrev pub IsFaultFor : Data → BodyFault → Type 0
IsFaultFor json BadName = name_in json ≡ None
IsFaultFor json BadVariables = HasName json × (variables_in json ≡ None)
IsFaultFor json other = ⊥

-- The bytes stand for the client's object with this document: they are its compact text, and whoever reads them as a body has
-- just the request for the document, or just the fault that the client's name and variables give.
pub record StandsFor (document : List ℕ) (json : Data) (bytes : List ℕ) : Type 0 where
  pub compact : IsCompact (with_query document json) bytes
  pub request : (asked : RequestData) → IsRequest bytes asked ↔ IsRequestFor document json asked
  pub fault : (fault : BodyFault) → HasFault bytes fault ↔ IsFaultFor json fault
