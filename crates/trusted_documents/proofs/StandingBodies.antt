-- Compact text of the filled object: whoever reads it as a body has the request for the document, or the client's own fault.
use Rattle.std.proofs.Common.{◌≡◌, ℕ, ◌≤◌, List, true, false, Option, Some, None, sym, ap, ◌∙◌, subst, true≢false, codes, is_some, unwrap_or}
use Rattle.std.proofs.lemmas.Option.{same_Some}
use Rattle.std.specs.Prelude.{IfOk, IsUtf8, Vec, Result, Ok, Err}
use Rattle.std.specs.Global.{Global}
use Rattle.json.specs.Lex.{tokens}
use Rattle.json.specs.Print.{print}
use Rattle.serde_json.specs.Data.{Data, null, depth}
use Rattle.serde_json.specs.Find.{as_object, as_str}
use Rattle.serde_json.specs.Read.{read, max_depth}
use Rattle.serde_json.specs.View.{view}
use Rattle.serde_json.specs.Written.{has_float, compact_text, IsInOrder}
use Rattle.serde_json.specs.declared.value.Value.{Value}
use Rattle.request_bodies.specs.Bodies.{RequestData, json_of, IsObject, query_in, name_in, variables_in, optional_name, optional_object, IsRequest}
use Rattle.request_bodies.specs.Faults.{HasFault}
use Rattle.request_bodies.specs.declared.fault.BodyFault.{BodyFault}
use Rattle.request_bodies.specs.declared.fault.BodyFault.TheVariants as fault
use Rattle.request_bodies.proofs.Bodies.{json_read}
use Rattle.response_model.specs.WrittenJson.{IsCompact}
use Rattle.trusted_documents.specs.FilledBodies.{with_query, IsRequestFor, IsFaultFor, StandsFor}
use Rattle.trusted_documents.proofs.FilledObjects.{filled_depth, still_object, kept_under, query_put}

-- ---- the text

pub compact_of : {E : Type 0} (json : Value) (query : List ℕ) (old : Data) → view json ≡ with_query query old → (r : Result (Vec ℕ Global) E) → depth old ≤ max_depth
    → IfOk r (λ b. has_float (view json) ≡ false → b.items ≡ compact_text (view json))
    → IfOk r (λ b. b.items ≡ print (tokens b.items)) → IfOk r (λ b. IsUtf8 b.items) → IfOk r (λ b. IsInOrder b.items (view json))
    → IfOk r (λ b. depth (view json) ≤ max_depth → read b.items ≡ Some (view json))
    → IfOk r (λ b. IsCompact (with_query query old) b.items)
compact_of json query old is (Ok b) shallow text no_space utf8 order reads =
    subst (λ d. IsCompact d b.items) is (record {
      utf8 = utf8;
      no_space = no_space;
      in_order = order;
      text = text;
      is_read = reads (subst (λ d. depth d ≤ max_depth) (sym is) (filled_depth query old max_depth shallow));
    })
compact_of json query old is (Err e) shallow text no_space utf8 order reads = tt

-- ---- whoever reads it

module _ (document : List ℕ) (json : Data) (object_is : is_some (as_object json) ≡ true) (bytes : List ℕ) (compact : IsCompact (with_query document json) bytes) where
  abbrev filled : Data
  filled = with_query document json

  is_filled : json_of bytes ≡ Some filled
  is_filled = json_read bytes filled (compact.utf8, compact.is_read)

  filled_object : IsObject bytes filled
  filled_object = (is_filled, still_object document json object_is)

  read_as : (other : Data) → json_of bytes ≡ Some other → other ≡ filled
  read_as other is = same_Some other filled (sym is ∙ is_filled)

  name_kept : name_in filled ≡ name_in json
  name_kept = ap (λ (found : Option Data). optional_name (unwrap_or found null)) (kept_under document (codes "operationName") json (λ h. cc) (λ h. cc))

  variables_kept : variables_in filled ≡ variables_in json
  variables_kept = ap (λ (found : Option Data). optional_object (unwrap_or found null)) (kept_under document (codes "variables") json (λ h. cc) (λ h. cc))

  query_is_put : query_in filled ≡ Some document
  query_is_put = ap (λ (found : Option Data). as_str (unwrap_or found null)) (query_put document json object_is)

  request_read : (asked : RequestData) → IsRequest bytes asked → IsRequestFor document json asked
  request_read asked is =
      let same = read_as is.json is.is_object.0 in
      record {
        query = same_Some asked.query document (sym is.query_is ∙ ap query_in same ∙ query_is_put);
        name = sym name_kept ∙ ap name_in (sym same) ∙ is.name_is;
        variables = sym variables_kept ∙ ap variables_in (sym same) ∙ is.variables_are;
      }

  request_there : (asked : RequestData) → IsRequestFor document json asked → IsRequest bytes asked
  request_there asked is = record {
    json = filled;
    is_object = filled_object;
    query_is = query_is_put ∙ ap Some (sym is.query);
    name_is = name_kept ∙ is.name;
    variables_are = variables_kept ∙ is.variables;
  }

  fault_read : (f : BodyFault) → HasFault bytes f → IsFaultFor json f
  fault_read fault.NotJson is = absurd (no_json (sym is_filled ∙ is))
    where
      no_json : Some filled ≡ None → ⊥
      no_json h = cc
  fault_read fault.NotObject (other, is, no_object) =
      absurd (true≢false (sym filled_object.1 ∙ ap (λ d. is_some (as_object d)) (sym (read_as other is)) ∙ no_object))
  fault_read fault.NoQuery (other, is, none) = absurd (no_query (sym query_is_put ∙ ap query_in (sym (read_as other is.0)) ∙ none))
    where
      no_query : Some document ≡ None → ⊥
      no_query h = cc
  fault_read fault.BadName (other, is, (query, none)) = sym name_kept ∙ ap name_in (sym (read_as other is.0)) ∙ none
  fault_read fault.BadVariables (other, is, (query, name, none)) =
      ((name.0, sym name_kept ∙ ap name_in (sym (read_as other is.0)) ∙ name.1), sym variables_kept ∙ ap variables_in (sym (read_as other is.0)) ∙ none)
  fault_read fault.Memory is = absurd is

  fault_there : (f : BodyFault) → IsFaultFor json f → HasFault bytes f
  fault_there fault.BadName none = (filled, filled_object, ((document, query_is_put), name_kept ∙ none))
  fault_there fault.BadVariables (name, none) = (filled, filled_object, ((document, query_is_put), (name.0, name_kept ∙ name.1), variables_kept ∙ none))
  fault_there fault.NotJson is = absurd is
  fault_there fault.NotObject is = absurd is
  fault_there fault.NoQuery is = absurd is
  fault_there fault.Memory is = absurd is

  pub standing : StandsFor document json bytes
  standing = record {
    compact = compact;
    request = λ asked. (request_read asked, request_there asked);
    fault = λ f. (fault_read f, fault_there f);
  }

pub standing_result : {E : Type 0} (document : List ℕ) (json : Data) → is_some (as_object json) ≡ true → (r : Result (Vec ℕ Global) E) → IfOk r (λ b. IsCompact (with_query document json) b.items) → IfOk r (λ b. StandsFor document json b.items)
standing_result document json object_is (Ok b) compact = standing document json object_is b.items compact
standing_result document json object_is (Err e) compact = tt
