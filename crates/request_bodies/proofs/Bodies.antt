-- What bytes are as JSON, where variables come from, and that a body is a request or has a fault.
use Rattle.std.proofs.Common.{◌≡◌, ◌⊎◌, inl, inr, ℕ, List, Option, Some, None, Bool, true, false, cond, refl, sym, ap, ◌∙◌, subst, is_some, codes}
use Rattle.std.specs.Prelude.{IsUtf8, unwrap_or}
use Rattle.std.specs.Str.{is_utf8}
use Rattle.std.proofs.lemmas.Option.{same_Some}
use Rattle.std.proofs.lemmas.Str.{IsUtf8-from_is_utf8, is_utf8-from_IsUtf8}
use Rattle.serde_json.specs.Data.{Data, null, boolean, number, string, array, object, no_members}
use Rattle.serde_json.specs.Read.{read}
use Rattle.serde_json.specs.Find.{get, as_object}
use Rattle.request_bodies.specs.declared.fault.BodyFault.{BodyFault}
use Rattle.request_bodies.specs.declared.fault.BodyFault.TheVariants as fault
use Rattle.request_bodies.specs.Bodies.{RequestData, json_of, IsObject, query_in, name_in, optional_object, variables_in, IsRequest}
use Rattle.request_bodies.specs.Faults.{HasFault}

-- a value that is read of UTF-8 is the bytes' own
pub json_read : (bytes : List ℕ) (json : Data) → IsUtf8 bytes × (read bytes ≡ Some json) → json_of bytes ≡ Some json
json_read bytes json found = ap (λ test. cond test (read bytes) None) (is_utf8-from_IsUtf8 bytes found.0) ∙ found.1

-- and bytes of which none is read are no JSON
pub not_json : (bytes : List ℕ) → (IsUtf8 bytes → read bytes ≡ None) → json_of bytes ≡ None
not_json bytes none = by_test (is_utf8 bytes) refl
  where
    by_test : (test : Bool) → is_utf8 bytes ≡ test → cond test (read bytes) None ≡ None
    by_test true is = none (IsUtf8-from_is_utf8 bytes is)
    by_test false is = refl

-- what bytes are as JSON is read of them
pub read_json : (bytes : List ℕ) (json : Data) → json_of bytes ≡ Some json → read bytes ≡ Some json
read_json bytes json is = by_test (is_utf8 bytes) is
  where
    by_test : (test : Bool) → cond test (read bytes) None ≡ Some json → read bytes ≡ Some json
    by_test true is = is
    by_test false is = cc

-- where variables come from

record AreGiven (given variables : Data) : Type 0 where
  source : (variables ≡ object no_members) ⊎ (given ≡ variables)
  is_object : is_some (as_object variables) ≡ true

given_object : (given variables : Data) → optional_object given ≡ Some variables → AreGiven given variables
given_object null variables e =
    let same : object no_members ≡ variables = same_Some (object no_members) variables e in
    record { source = inl (sym same); is_object = subst (λ v. is_some (as_object v) ≡ true) same refl }
given_object (boolean b) variables e = cc
given_object (number n) variables e = cc
given_object (string text) variables e = cc
given_object (array items) variables e = cc
given_object (object members) variables e =
    let same : object members ≡ variables = same_Some (object members) variables e in
    record { source = inr same; is_object = subst (λ v. is_some (as_object v) ≡ true) same refl }

by_member : (json variables : Data) (found : Option Data) → get (codes "variables") json ≡ found → optional_object (unwrap_or found null) ≡ Some variables → (variables ≡ object no_members) ⊎ (get (codes "variables") json ≡ Some variables)
by_member json variables None is e = inl (sym (same_Some (object no_members) variables e))
by_member json variables (Some given) is e = elim ((given_object given variables e).source) [
  | inl none ↦ inl none
  | inr same ↦ inr (is ∙ ap Some same)
]

module _ (body : List ℕ) (request : RequestData) (is : IsRequest body request) where
  pub variables_object : is_some (as_object request.variables) ≡ true
  variables_object = (given_object _ request.variables is.variables_are).is_object

  pub variables_source : (request.variables ≡ object no_members) ⊎ ((json : Data) × (read body ≡ Some json) × (get (codes "variables") json ≡ Some request.variables))
  variables_source = elim (by_member is.json request.variables (get (codes "variables") is.json) refl is.variables_are) [
    | inl none ↦ inl none
    | inr there ↦ inr (is.json, read_json body is.json is.is_object.0, there)
  ]

-- a body is a request, or has a fault
abbrev Answered : List ℕ → Type 0
Answered body = ((r : RequestData) × IsRequest body r) ⊎ ((f : BodyFault) × HasFault body f)

answered_variables : (body : List ℕ) (json : Data) (query : List ℕ) (name : Option (List ℕ)) (found : Option Data) → IsObject body json → query_in json ≡ Some query → name_in json ≡ Some name → variables_in json ≡ found → Answered body
answered_variables body json query name (Some given) is q n v = inl (record { query = query; name = name; variables = given }, record { json = json; is_object = is; query_is = q; name_is = n; variables_are = v })
answered_variables body json query name None is q n v = inr (fault.BadVariables, (json, is, ((query, q), (name, n), v)))

answered_name : (body : List ℕ) (json : Data) (query : List ℕ) (found : Option (Option (List ℕ))) → IsObject body json → query_in json ≡ Some query → name_in json ≡ found → Answered body
answered_name body json query (Some name) is q n = answered_variables body json query name (variables_in json) is q n refl
answered_name body json query None is q n = inr (fault.BadName, (json, is, ((query, q), n)))

answered_query : (body : List ℕ) (json : Data) (found : Option (List ℕ)) → IsObject body json → query_in json ≡ found → Answered body
answered_query body json (Some query) is q = answered_name body json query (name_in json) is q refl
answered_query body json None is q = inr (fault.NoQuery, (json, is, q))

answered_object : (body : List ℕ) (json : Data) (test : Bool) → json_of body ≡ Some json → is_some (as_object json) ≡ test → Answered body
answered_object body json true is found = answered_query body json (query_in json) (is, found) refl
answered_object body json false is found = inr (fault.NotObject, (json, is, found))

answered_json : (body : List ℕ) (found : Option Data) → json_of body ≡ found → Answered body
answered_json body (Some json) is = answered_object body json (is_some (as_object json)) is refl
answered_json body None is = inr (fault.NotJson, is)

pub answered : (body : List ℕ) → Answered body
answered body = answered_json body (json_of body) refl
