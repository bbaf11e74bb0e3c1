-- The body that is sent: its members, and what a reader of its text gets.
use Rattle.std.proofs.Common.{ℕ, ◌≡◌, Bool, true, false, if◌then◌else◌, List, Option, None, Some, is_some, Ordering, Less, Equal, Greater, nat_cmp, refl, sym, ap, ap₂, ◌∙◌, subst}
use Rattle.std.specs.Prelude.{codes, map, option_map}
use Rattle.std.specs.Str.{is_utf8}
use Rattle.std.specs.Ordering.{match_ordering}
use Rattle.std.specs.Cmp.Lexicographic.{slice_cmp}
use Rattle.std.proofs.lemmas.Option.{same_Some}
use Rattle.serde_json.specs.Data.{Data, null, boolean, number, string, array, object, Members, no_members, member}
use Rattle.serde_json.specs.Find.{get, get_member, as_object}
use Rattle.serde_json.specs.Read.{read}
use Rattle.gql_base.specs.ways.Reading.{Identifier}
use Rattle.document_reader.specs.Documents.{VariableTree}
use Rattle.document_reader.specs.Trees.{maybe_identifier, variable_tree}
use Rattle.document_rules.specs.Parts.{name_text}
use Rattle.request_bodies.specs.Bodies.{RequestData as BodyData, query_in, name_in, variables_in, IsRequest}
use Rattle.request_bodies.proofs.Bodies.{read_json}
use Rattle.typename_rewrite.specs.ForwardedBodies.{members_of, members_where, sent_variables, declares, body_with, body_data}
use Rattle.acceptance.specs.Requests.{RequestData, Prepared}
use Rattle.acceptance.specs.Keys.{HasEachKeyOnce, MembersHaveEachKeyOnce}
use Rattle.acceptance.specs.Forwarding.{sent_text, sent_body}
use Rattle.received_requests.specs.Received.{name_sent, variables_sent}
use Rattle.received_requests.specs.Bodies.{keys_of, body_keys, request_sent}

-- ---- a body's members

query_there : (name : Option Identifier) (document : List ℕ) (variables : Members) → get (codes "query") (body_with name document variables) ≡ Some (string document)
query_there None document variables = refl
query_there (Some name) document variables = refl

variables_there : (name : Option Identifier) (document : List ℕ) (variables : Members) → get (codes "variables") (body_with name document variables) ≡ Some (object variables)
variables_there None document variables = refl
variables_there (Some name) document variables = refl

name_there : (name : Option Identifier) (document : List ℕ) (variables : Members) → get (codes "operationName") (body_with name document variables) ≡ option_map (λ text. string text) (option_map name_text name)
name_there None document variables = refl
name_there (Some name) document variables = refl

keys_there : (name : Option Identifier) (document : List ℕ) (variables : Members) → keys_of (members_of (body_with name document variables)) ≡ body_keys (option_map name_text name)
keys_there None document variables = refl
keys_there (Some name) document variables = refl

once_there : (name : Option Identifier) (document : List ℕ) (variables : Members) → MembersHaveEachKeyOnce variables → HasEachKeyOnce (body_with name document variables)
once_there None document variables once = (refl, tt, (refl, once, tt))
once_there (Some name) document variables once = (refl, tt, (refl, tt, (refl, once, tt)))

-- ---- of what is given, the members that are sent

none_at : (o : Ordering) (d : Data) (all some : Option Data) → match_ordering o all (Some d) all ≡ None → (all ≡ None → some ≡ None) → (match_ordering o some (Some d) some ≡ None) × (some ≡ None)
none_at Less d all some none each = (each none, each none)
none_at Equal d all some none each = absurd (cc)
none_at Greater d all some none each = (each none, each none)

module _ (keeps : List ℕ → Bool) where
  not_kept : (test : Bool) (key other : List ℕ) (d : Data) (rest : Members) → get_member key (member other d rest) ≡ None → get_member key rest ≡ None → get_member key (if test then member other d rest else rest) ≡ None
  not_kept true key other d rest whole later = whole
  not_kept false key other d rest whole later = later

  none_where : (key : List ℕ) (ms : Members) → get_member key ms ≡ None → get_member key (members_where keeps ms) ≡ None
  none_where key no_members none = refl
  none_where key (member other d ms) none =
      let both = none_at (slice_cmp nat_cmp key other) d (get_member key ms) (get_member key (members_where keeps ms)) none (none_where key ms) in
      not_kept (keeps other) key other d (members_where keeps ms) both.0 both.1

  once_kept : (test : Bool) (key : List ℕ) (d : Data) (rest : Members) → MembersHaveEachKeyOnce (member key d rest) → MembersHaveEachKeyOnce (if test then member key d rest else rest)
  once_kept true key d rest once = once
  once_kept false key d rest once = once.2

  once_where : (ms : Members) → MembersHaveEachKeyOnce ms → MembersHaveEachKeyOnce (members_where keeps ms)
  once_where no_members once = tt
  once_where (member key d ms) once = once_kept (keeps key) key d (members_where keeps ms) (none_where key ms once.0, once.1, once_where ms once.2)

module _ (vs : List VariableTree) where
  once_sent : (given : Data) → HasEachKeyOnce given → MembersHaveEachKeyOnce (sent_variables vs given)
  once_sent null once = tt
  once_sent (boolean b) once = tt
  once_sent (number n) once = tt
  once_sent (string s) once = tt
  once_sent (array ds) once = tt
  once_sent (object ms) once = once_where (declares vs) ms once

-- ---- the body that is sent

module _ (r : RequestData) (p : Prepared r) (alias : List ℕ) where
  pub body_query : get (codes "query") (sent_body r p alias) ≡ Some (string (sent_text r p alias))
  unfolding body_data
  body_query = query_there (maybe_identifier p.operation.name) _ _

  pub body_variables : get (codes "variables") (sent_body r p alias) ≡ Some (variables_sent r p)
  unfolding body_data
  body_variables = variables_there (maybe_identifier p.operation.name) _ _

  pub body_name : get (codes "operationName") (sent_body r p alias) ≡ option_map (λ text. string text) (name_sent r p)
  unfolding body_data
  body_name = name_there (maybe_identifier p.operation.name) _ _

  pub body_has_keys : keys_of (members_of (sent_body r p alias)) ≡ body_keys (name_sent r p)
  unfolding body_data
  body_has_keys = keys_there (maybe_identifier p.operation.name) _ _

  pub body_once : HasEachKeyOnce r.given → HasEachKeyOnce (sent_body r p alias)
  unfolding body_data
  body_once once = once_there (maybe_identifier p.operation.name) (sent_text r p alias) _ (once_sent (map variable_tree p.operation.variables.items) r.given once)

-- ---- the request that its reader sees

abbrev made : List ℕ → Option (List ℕ) → Data → BodyData
made query name variables = record { query = query; name = name; variables = variables }

-- a JSON object asks for this
pub record Asks (json : Data) (asked : BodyData) : Type 0 where
  pub an_object : is_some (as_object json) ≡ true
  pub query_is : query_in json ≡ Some asked.query
  pub name_is : name_in json ≡ Some asked.name
  pub variables_are : variables_in json ≡ Some asked.variables

asks_by : (name : Option Identifier) (document : List ℕ) (variables : Members) → Asks (body_with name document variables) (record { query = document; name = option_map name_text name; variables = object variables })
asks_by None document variables = record { an_object = refl; query_is = refl; name_is = refl; variables_are = refl }
asks_by (Some name) document variables = record { an_object = refl; query_is = refl; name_is = refl; variables_are = refl }

asks_one : (json : Data) (asked other : BodyData) → Asks json asked → Asks json other → asked ≡ other
asks_one json asked other first second =
    let query : asked.query ≡ other.query = same_Some asked.query other.query (sym first.query_is ∙ second.query_is) in
    let name : asked.name ≡ other.name = same_Some asked.name other.name (sym first.name_is ∙ second.name_is) in
    let variables : asked.variables ≡ other.variables = same_Some asked.variables other.variables (sym first.variables_are ∙ second.variables_are) in
    ap₂ (λ (q : List ℕ) (rest : Option (List ℕ) × Data). made q rest.0 rest.1) query (ap₂ (λ (n : Option (List ℕ)) (v : Data). (n, v)) name variables)

module _ (r : RequestData) (p : Prepared r) (alias : List ℕ) where
  asks_sent : Asks (sent_body r p alias) (request_sent r p alias)
  unfolding body_data
  asks_sent = asks_by (maybe_identifier p.operation.name) (sent_text r p alias) _

  pub body_request : (text : List ℕ) → read text ≡ Some (sent_body r p alias) → is_utf8 text ≡ true → IsRequest text (request_sent r p alias)
  body_request text reads valid = record {
    json = sent_body r p alias;
    is_object = (ap (λ (test : Bool). if test then read text else None) valid ∙ reads, asks_sent.an_object);
    query_is = asks_sent.query_is;
    name_is = asks_sent.name_is;
    variables_are = asks_sent.variables_are;
  }

  pub body_only : (text : List ℕ) → read text ≡ Some (sent_body r p alias) → (asked : BodyData) → IsRequest text asked → asked ≡ request_sent r p alias
  body_only text reads asked is =
      let same : is.json ≡ sent_body r p alias = same_Some is.json (sent_body r p alias) (sym (read_json text is.json is.is_object.0) ∙ reads) in
      let found : Asks is.json asked = record { an_object = is.is_object.1; query_is = is.query_is; name_is = is.name_is; variables_are = is.variables_are } in
      asks_one (sent_body r p alias) asked (request_sent r p alias) (subst (λ (json : Data). Asks json asked) same found) asks_sent
