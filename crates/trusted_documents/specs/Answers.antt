-- What calls answer.
use Rattle.std.specs.Prelude.{◌≡◌, ◌⊎◌, ⊤, ℕ, Bool, List, Option, Some, None, Result, Ok, Err, option_map, unwrap_or}
use Rattle.std.specs.Borrow.{Bor}
use Rattle.serde_json.specs.Data.{Data, null}
use Rattle.serde_json.specs.View.{view}
use Rattle.serde_json.specs.declared.value.Value.{Value}
use Rattle.request_bodies.specs.Bodies.{RequestData, request_data}
use Rattle.request_bodies.specs.declared.request.Request.{Request}
use Rattle.trusted_documents.specs.declared.fault.TrustedFault.{TrustedFault}
use Rattle.trusted_documents.specs.declared.fault.TrustedFault.TheVariants as list
use Rattle.trusted_documents.specs.declared.fault.ExpandFault.{ExpandFault}
use Rattle.trusted_documents.specs.declared.fault.ExpandFault.TheVariants as expand
use Rattle.trusted_documents.specs.declared.listing.Trusted.{Trusted}
use Rattle.trusted_documents.specs.declared.requests.Unread.{Unread}
use Rattle.trusted_documents.specs.declared.requests.Unread.TheVariants as unread
use Rattle.trusted_documents.specs.Expansions.{IsRefusedBy}
use Rattle.trusted_documents.specs.Listings.{Listing}

-- the list that was read is this, or there was no memory
abbrev pub GivesList : Result Data TrustedFault → Bool → Result Trusted TrustedFault → Type 0
GivesList read only (Ok trusted) = (read ≡ Ok (view trusted.documents)) × (trusted.only ≡ only)
GivesList read only (Err fault) = (fault ≡ list.Memory) ⊎ (read ≡ Err fault)

-- this was found wrong, or there was no memory
abbrev pub TellsFault : Option TrustedFault → Result ⊤ TrustedFault → Type 0
TellsFault found (Ok nothing) = found ≡ None
TellsFault found (Err fault) = (fault ≡ list.Memory) ⊎ (found ≡ Some fault)

-- the text that was found is this, or there was no memory
abbrev pub Finds : Result (Option (List ℕ)) ExpandFault → Result (Option (Bor (List ℕ))) ExpandFault → Type 0
Finds answer (Ok found) = answer ≡ Ok (option_map (λ text. text.now) found)
Finds answer (Err expand.Memory) = Unit {0}
Finds answer (Err fault) = answer ≡ Err fault

-- the fault for which a body is refused, or want of memory
abbrev pub TellsExpandFault : Listing → List ℕ → ExpandFault → Type 0
TellsExpandFault l body expand.Memory = Unit {0}
TellsExpandFault l body fault = IsRefusedBy l body fault

-- a member that was looked for, where nothing counts as null
abbrev pub member_found : Option (Bor Value) → Data
member_found found = unwrap_or (option_map (λ value. view value.now) found) null

-- this request was given, or there was no memory
abbrev pub GivesRequest : RequestData → Result Request Unread → Type 0
GivesRequest asked (Ok request) = request_data request ≡ asked
GivesRequest asked (Err told) = told ≡ unread.Memory

-- this reason was told, or there was no memory
abbrev pub TellsReason : Unread → Result Request Unread → Type 0
TellsReason reason (Ok request) = ⊥
TellsReason reason (Err told) = (told ≡ reason) ⊎ (told ≡ unread.Memory)
