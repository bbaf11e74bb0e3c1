-- The request that a body is by a list.
use Rattle.std.specs.Prelude.{◌≡◌, ◌≢◌, ◌⊎◌, ℕ, List, Option, None, Some, codes}
use Rattle.serde_json.specs.Data.{Data, object, no_members}
use Rattle.serde_json.specs.Find.{get}
use Rattle.serde_json.specs.Read.{read}
use Rattle.request_bodies.specs.Bodies.{RequestData, IsRequest}
use Rattle.request_bodies.specs.Faults.{HasFault}
use Rattle.request_bodies.specs.declared.fault.BodyFault.{BodyFault}
use Rattle.trusted_documents.specs.declared.fault.ExpandFault.{ExpandFault}
use Rattle.trusted_documents.specs.declared.requests.Unread.{Unread}
use Rattle.trusted_documents.specs.declared.requests.Unread.TheVariants.{Unexpanded, BadBody, Memory}
use Rattle.trusted_documents.specs.Listings.{Listing}
use Rattle.trusted_documents.specs.FilledBodies.{IsRequestFor, IsFaultFor}
use Rattle.trusted_documents.specs.Expansions.{IsKept, IsFilled, IsRefusedBy}

-- The request that a body is, by a list if there is one: its own, or that for the document which is put in for its query.
abbrev pub IsRequestBy : Option Listing → List ℕ → RequestData → Type 0
IsRequestBy None body asked = IsRequest body asked
IsRequestBy (Some l) body asked = (IsKept l body × IsRequest body asked) ⊎ IsFilled l body (λ document json. IsRequestFor document json asked)

-- The fault that a body has as a request.
abbrev pub HasFaultBy : Option Listing → List ℕ → BodyFault → Type 0
HasFaultBy None body fault = HasFault body fault
HasFaultBy (Some l) body fault = (IsKept l body × HasFault body fault) ⊎ IsFilled l body (λ document json. IsFaultFor json fault)

-- The fault for which a body isn't expanded. Without a list there is none.
abbrev pub IsUnexpandedBy : Option Listing → List ℕ → ExpandFault → Type 0
IsUnexpandedBy None body fault = ⊥
IsUnexpandedBy (Some l) body fault = IsRefusedBy l body fault

-- Why a body is no request. For want of memory nothing is said.
abbrev pub IsUnreadBy : Option Listing → List ℕ → Unread → Type 0
IsUnreadBy list body (Unexpanded fault) = IsUnexpandedBy list body fault
IsUnreadBy list body (BadBody fault) = HasFaultBy list body fault
IsUnreadBy list body Memory = Unit {0}

-- the variables are the empty object, or the member `variables` of the JSON that the body is
abbrev pub AreGivenIn : List ℕ → Data → Type 0
AreGivenIn body variables = (variables ≡ object no_members) ⊎ ((json : Data) × (read body ≡ Some json) × (get (codes "variables") json ≡ Some variables))

-- a body is a request by a list, or it is unread for a reason that isn't want of memory
abbrev pub IsRead : Option Listing → List ℕ → Type 0
IsRead list body = ((asked : RequestData) × IsRequestBy list body asked) ⊎ ((unread : Unread) × (unread ≢ Memory) × IsUnreadBy list body unread)
