-- Each body is a request by a list, or has a reason why it is none.
use Rattle.std.proofs.Common.{◌≡◌, ◌⊎◌, inl, inr, ℕ, List, Bool, true, false, Option, Some, None, Result, Ok, Err, refl, is_some}
use Rattle.serde_json.specs.Data.{Data}
use Rattle.serde_json.specs.Find.{as_object}
use Rattle.request_bodies.specs.Bodies.{RequestData, json_of, IsObject, name_in, variables_in, IsRequest}
use Rattle.request_bodies.specs.Faults.{HasFault}
use Rattle.request_bodies.specs.declared.fault.BodyFault.{BodyFault}
use Rattle.request_bodies.specs.declared.fault.BodyFault.TheVariants as fault
use Rattle.trusted_documents.specs.declared.fault.ExpandFault.{ExpandFault}
use Rattle.trusted_documents.specs.declared.requests.Unread.{Unread}
use Rattle.trusted_documents.specs.declared.requests.Unread.TheVariants.{Unexpanded, BadBody, Memory}
use Rattle.trusted_documents.specs.Listings.{Listing, document_for}
use Rattle.trusted_documents.specs.Expansions.{IsKept}
use Rattle.trusted_documents.specs.Requests.{IsRead}

-- a body is a request or has a fault
abbrev Answered : List ℕ → Type 0
Answered body = ((asked : RequestData) × IsRequest body asked) ⊎ ((f : BodyFault) × HasFault body f)

bad_body : (f : BodyFault) → ◌≡◌ {A = Unread} (BadBody f) Memory → ⊥
bad_body f h = cc

unexpanded : (f : ExpandFault) → ◌≡◌ {A = Unread} (Unexpanded f) Memory → ⊥
unexpanded f h = cc

own : (body : List ℕ) → Answered body → IsRead None body
own body (inl (asked, is)) = inl (asked, is)
own body (inr (f, has)) = inr (BadBody f, bad_body f, has)

module _ (l : Listing) (body : List ℕ) (answered : Answered body) where
  kept : IsKept l body → IsRead (Some l) body
  kept is = by_answer answered
    where
      by_answer : Answered body → IsRead (Some l) body
      by_answer (inl (asked, is_request)) = inl (asked, inl (is, is_request))
      by_answer (inr (f, has)) = inr (BadBody f, bad_body f, inl (is, has))

  module _ (json : Data) (there : IsObject body json) where
    filled : (document : List ℕ) → document_for l json ≡ Ok (Some document) → IsRead (Some l) body
    filled document at = by_name (name_in json) refl
      where
        by_variables : (name : Option (List ℕ)) (variables : Option Data) → name_in json ≡ Some name → variables_in json ≡ variables → IsRead (Some l) body
        by_variables name (Some variables) n v = inl (record { query = document; name = name; variables = variables }, inr (json, there, (document, at, record { query = refl; name = n; variables = v })))
        by_variables name None n v = inr (BadBody fault.BadVariables, bad_body fault.BadVariables, inr (json, there, (document, at, ((name, n), v))))

        by_name : (name : Option (Option (List ℕ))) → name_in json ≡ name → IsRead (Some l) body
        by_name (Some name) n = by_variables name (variables_in json) n refl
        by_name None n = inr (BadBody fault.BadName, bad_body fault.BadName, inr (json, there, (document, at, n)))

    by_listing : (step : Result (Option (List ℕ)) ExpandFault) → document_for l json ≡ step → IsRead (Some l) body
    by_listing (Ok None) at = kept (inr (json, there, at))
    by_listing (Ok (Some document)) at = filled document at
    by_listing (Err f) at = inr (Unexpanded f, unexpanded f, (json, there, at))

  by_json : (found : Option Data) → json_of body ≡ found → IsRead (Some l) body
  by_json None none = kept (inl (inl none))
  by_json (Some json) is = by_object (is_some (as_object json)) refl
    where
      by_object : (test : Bool) → is_some (as_object json) ≡ test → IsRead (Some l) body
      by_object true object_is = by_listing json (is, object_is) (document_for l json) refl
      by_object false no_object = kept (inl (inr (json, is, no_object)))

pub read_by : (list : Option Listing) (body : List ℕ) → Answered body → IsRead list body
read_by None body answered = own body answered
read_by (Some l) body answered = by_json l body answered (json_of body) refl
