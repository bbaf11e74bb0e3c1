-- What a body is expanded to.
use Rattle.std.specs.Prelude.{◌≡◌, ◌⊎◌, ℕ, List, Some, None, Ok, Err}
use Rattle.serde_json.specs.Data.{Data}
use Rattle.request_bodies.specs.Bodies.{json_of, IsObject}
use Rattle.request_bodies.specs.Faults.{IsNoObject}
use Rattle.trusted_documents.specs.declared.fault.ExpandFault.{ExpandFault}
use Rattle.trusted_documents.specs.declared.expanding.Expanded.{Expanded}
use Rattle.trusted_documents.specs.declared.expanding.Expanded.TheVariants.{Plain, Body}
use Rattle.trusted_documents.specs.Listings.{Listing, document_for}
use Rattle.trusted_documents.specs.FilledBodies.{StandsFor}

-- the body is an object of which this holds
abbrev pub IsObjectThat : List ℕ → (Data → Type 0) → Type 0
IsObjectThat body P = (json : Data) × IsObject body json × P json

-- the body is no JSON object
abbrev pub IsNoJsonObject : List ℕ → Type 0
IsNoJsonObject body = (json_of body ≡ None) ⊎ IsNoObject body

-- the body stays as it is
abbrev pub IsKept : Listing → List ℕ → Type 0
IsKept l body = IsNoJsonObject body ⊎ IsObjectThat body (λ json. document_for l json ≡ Ok None)

-- the body is an object into which a document is put, and this holds of both
abbrev pub IsFilled : Listing → List ℕ → (List ℕ → Data → Type 0) → Type 0
IsFilled l body P = IsObjectThat body (λ json. (document : List ℕ) × (document_for l json ≡ Ok (Some document)) × P document json)

-- the body is an object that is refused for this
abbrev pub IsRefusedBy : Listing → List ℕ → ExpandFault → Type 0
IsRefusedBy l body fault = IsObjectThat body (λ json. document_for l json ≡ Err fault)

-- The body is expanded to this: itself, or one that stands for it with a listed document.
abbrev pub IsExpanded : Listing → List ℕ → Expanded → Type 0
IsExpanded l body Plain = IsKept l body
IsExpanded l body (Body bytes) = IsFilled l body (λ document json. StandsFor document json bytes.items)
