-- A whole reply.
use Rattle.std.proofs.Common.{◌≡◌, ⊎_elim, ◌≤◌, ◌<◌, ℕ, List, [], ◌∷◌, ◌++◌, append-nil, Bool, true, false, true≢false, cond, is_some, codes, IsUtf8, Option, Some, None, Result, Ok, Err, refl, sym, ap, ◌∙◌, subst, arith, append_assoc, zero-le}
use Rattle.std.proofs.lemmas.Bool.{cases_lt}
use Rattle.std.proofs.lemmas.Str.{IsUtf8-from_is_utf8, is_utf8-from_IsUtf8}
use Rattle.std.specs.Str.{is_utf8}
use Rattle.cost_num.specs.Capped.{capped}
use Rattle.cost_num.specs.declared.Cost.{Cost}
use Rattle.cost_num.specs.declared.TheConstants.{CAP}
use Rattle.serde_json.specs.Data.{Data, null as json_null, boolean, number, string, array, object as json_object, Members}
use Rattle.serde_json.specs.Read.{read}
use Rattle.serde_json.specs.Find.{get, as_object}
use Rattle.response_model.specs.Plan.{Plan}
use Rattle.response_model.specs.Response.{Tree}
use Rattle.response_model.specs.Cost.{Part, types, fields, cost}
use Rattle.response_model.specs.Bound.{IsBound}
use Rattle.plan_table.specs.declared.table.Plan.{Plan as Table}
use Rattle.plan_table.specs.TableBounds.{holds_in, HoldsSound, IsWithinCap}
use Rattle.response_meter.specs.declared.metered.Metered.{Metered}
use Rattle.response_meter.specs.declared.readings.Reading.{Reading}
use Rattle.response_model.specs.Errors.{ResponseError, errors_of, has_errors}
use Rattle.response_meter.specs.Reply.{json_of, errors_entry, data_entry, IsResponseOrNone, reply_cost, entries_fault}
use Rattle.response_meter.specs.Faults.{at_step, given}
use Rattle.response_meter.specs.declared.fault.Why.TheVariants.{NotJson, NotObject, BadErrors}
use Rattle.response_model.specs.ResponseText.{errors_part}
use Rattle.response_model.specs.WrittenJson.{Appends}
use Rattle.response_model.specs.AnswerTexts.{IsTreeText, IsDataPart, IsAnswerText}
use Rattle.response_meter.specs.Walks.{content_fault, content_tree, MeasuresData, MeasuresContent, Found}
use Rattle.response_meter.specs.Metered.{name_in, first_fault_in, IsMetered}
use Rattle.response_meter.specs.declared.fault.MeterFault.{MeterFault}
use Rattle.response_meter.specs.Trees.{data_tree}
use Rattle.response_meter.proofs.Passing.{content_reads}
use Rattle.response_meter.proofs.Places.{behind_appended}

pub json_read : (bytes : List ℕ) (d : Data) → IsUtf8 bytes → read bytes ≡ Some d → json_of bytes ≡ Some d
json_read bytes d u r = ap (λ b. cond b (read bytes) None) (is_utf8-from_IsUtf8 bytes u) ∙ r

pub not_json : (bytes : List ℕ) → (IsUtf8 bytes → read bytes ≡ None) → json_of bytes ≡ None
not_json bytes h = by_test (is_utf8 bytes) refl
  where
    by_test : (b : Bool) → is_utf8 bytes ≡ b → cond b (read bytes) None ≡ None
    by_test true e = h (IsUtf8-from_is_utf8 bytes e)
    by_test false e = refl

-- ---- the data, after the errors

-- what stands before the data
abbrev pub data_front : Bool → List ℕ
data_front true = codes ",\"data\":"
data_front false = codes "\"data\":"

pub no_content : (by : Reading) (before : List ℕ) (plan : Plan) (c : Cost) (some : Bool) (errors : List ResponseError) → c.types ≡ 0 → c.fields ≡ 0 → some ≡ true → some ≡ has_errors errors → MeasuresContent by before before (Ok c) plan errors None
no_content by before plan c some [] no_types no_fields is has = absurd (true≢false (sym is ∙ has))
no_content by before plan c some (e ∷ es) no_types no_fields is has = (refl, no_types, no_fields, ([], refl, sym (append-nil before)))

pub content_measured : (by : Reading) (before mid after front : List ℕ) (r : Result Cost MeterFault) (plan : Plan) (errors : List ResponseError) (json : Data) → mid ≡ before ++ front → front ≡ data_front (has_errors errors)
    → MeasuresData by mid after r plan json → MeasuresContent by before after r plan errors (Some json)
content_measured by before mid after front (Ok c) plan [] json w f m =
    (m.0, m.1, m.2, behind_appended before mid after (data_front false) (IsTreeText (data_tree (name_in by.of.now) by.alias.now plan json)) (w ∙ ap (λ x. before ++ x) f) m.3)
content_measured by before mid after front (Ok c) plan (e ∷ es) json w f m =
    (m.0, m.1, m.2, behind_appended before mid after (data_front true) (IsTreeText (data_tree (name_in by.of.now) by.alias.now plan json)) (w ∙ ap (λ x. before ++ x) f) m.3)
content_measured by before mid after front (Err x) plan [] json w f m = m
content_measured by before mid after front (Err x) plan (e ∷ es) json w f m = m

-- the parts of an answer's text
answer_put : (errors : List ResponseError) (tree : Option Tree) (start first second whole text : List ℕ) → start ≡ codes "{" → first ≡ start ++ errors_part errors → Appends (IsDataPart errors tree) first second
    → whole ≡ second ++ codes "}" → text ≡ whole → IsAnswerText tree errors text
answer_put errors tree start first second whole text s e part t is =
    let front : first ≡ codes "{" ++ errors_part errors = e ∙ ap (λ x. x ++ errors_part errors) s in
    let longer : whole ≡ (codes "{" ++ errors_part errors) ++ (part.0 ++ codes "}") =
    t ∙ ap (λ x. x ++ codes "}") (part.2 ∙ ap (λ x. x ++ part.0) front) ∙ append_assoc (codes "{" ++ errors_part errors) part.0 (codes "}") in
    (part.0 ++ codes "}", is ∙ longer, (part.0, codes "}", refl, part.1, refl))

-- the parts of a reply, put together
object_found : (by : Reading) (bytes start first second whole : List ℕ) (plan : Plan) (m : Metered) (some : Bool) (ms : Members) (o p : Option Data)
    → json_of bytes ≡ Some (json_object ms) → start ≡ codes "{" → o ≡ errors_entry ms → (es : List ResponseError) × (errors_of o ≡ Some es) × (some ≡ has_errors es) × (first ≡ start ++ errors_part es)
    → p ≡ data_entry ms → ((es : List ResponseError) → some ≡ has_errors es → MeasuresContent by first second (Ok m.cost) plan es p) → whole ≡ second ++ codes "}" → m.text ≡ whole → Found by plan bytes m
object_found by bytes start first second whole plan m some ms o p j s eo w ep measured t text =
    let c = subst (λ (x : Option Data). MeasuresContent by first second (Ok m.cost) plan w.0 x) ep (measured w.0 w.2) in
    record {
      members = ms;
      errors = w.0;
      is_json = j;
      errors_read = ap errors_of (sym eo) ∙ w.1;
      no_fault = c.0;
      types_cost = c.1;
      fields_cost = c.2;
      text = answer_put w.0 (content_tree by plan (data_entry ms)) start first second whole m.text s w.3 c.3 t text;
    }

pub reply_found : (by : Reading) (bytes start first second whole : List ℕ) (plan : Plan) (m : Metered) (some : Bool) (json : Data) (o p : Option Data)
    → json_of bytes ≡ Some json → true ≡ is_some (as_object json) → start ≡ codes "{" → o ≡ get (codes "errors") json
    → (es : List ResponseError) × (errors_of o ≡ Some es) × (some ≡ has_errors es) × (first ≡ start ++ errors_part es)
    → p ≡ get (codes "data") json → ((es : List ResponseError) → some ≡ has_errors es → MeasuresContent by first second (Ok m.cost) plan es p) → whole ≡ second ++ codes "}" → m.text ≡ whole → Found by plan bytes m
reply_found by bytes start first second whole plan m some json_null o p j h s eo w ep measured t text = absurd (true≢false h)
reply_found by bytes start first second whole plan m some (boolean b) o p j h s eo w ep measured t text = absurd (true≢false h)
reply_found by bytes start first second whole plan m some (number n) o p j h s eo w ep measured t text = absurd (true≢false h)
reply_found by bytes start first second whole plan m some (string x) o p j h s eo w ep measured t text = absurd (true≢false h)
reply_found by bytes start first second whole plan m some (array ds) o p j h s eo w ep measured t text = absurd (true≢false h)
reply_found by bytes start first second whole plan m some (json_object ms) o p j h s eo w ep measured t text = object_found by bytes start first second whole plan m some ms o p j s eo w ep measured t text

-- what a response of a plan that is counted costs
counted : (p : Table) (part : Part) (plan : Plan) (t : Option Tree) → IsWithinCap p part → HoldsSound p plan → IsResponseOrNone (holds_in p) plan t → reply_cost part plan t ≤ CAP
counted p part plan None within sound is = zero-le
counted p part plan (Some t) within sound is = ⊎_elim
    (λ (more : CAP < cost part plan t). absurd (within plan sound (t, is, more)))
    (λ (most : cost part plan t ≤ CAP). most)
    (cases_lt CAP (cost part plan t))

bounded : (p : Table) (part : Part) (plan : Plan) (t : Option Tree) (b : ℕ) → IsBound (holds_in p) part plan b → IsResponseOrNone (holds_in p) plan t → reply_cost part plan t ≤ b
bounded p part plan None b is h = zero-le
bounded p part plan (Some t) b is h = is.upper t h

exact : (c x b : ℕ) → c ≡ capped x → x ≤ b → b ≤ CAP → c ≡ x
exact c x b e l m = omega arith

capped_within : (c x b : ℕ) → c ≡ capped x → x ≤ b → c ≤ b
capped_within c x b e l = omega arith

pub found_metered : (by : Reading) (plan : Plan) (bytes : List ℕ) (m : Metered) → Found by plan bytes m → ((part : Part) → IsWithinCap by.of.now part) → HoldsSound by.of.now plan → IsMetered by.of.now by.alias.now plan bytes m
found_metered by plan bytes m f within sound =
    let tree = content_tree by plan (data_entry f.members) in
    let r = content_reads (holds_in by.of.now) (name_in by.of.now) by.alias.now plan f.errors (data_entry f.members) f.no_fault in
    record {
      content = tree;
      errors = f.errors;
      reads = record { members = f.members; is_json = f.is_json; errors_read = f.errors_read; data_read = r.0 };
      is_response = r.1;
      types_cost = exact m.cost.types (reply_cost types plan tree) CAP f.types_cost (counted by.of.now types plan tree (within types) sound r.1) (omega arith);
      fields_cost = exact m.cost.fields (reply_cost fields plan tree) CAP f.fields_cost (counted by.of.now fields plan tree (within fields) sound r.1) (omega arith);
      text = f.text;
    }

pub found_within : (by : Reading) (plan : Plan) (bytes : List ℕ) (m : Metered) (a b : ℕ) → Found by plan bytes m → IsBound (holds_in by.of.now) types plan a → IsBound (holds_in by.of.now) fields plan b → (m.cost.types ≤ a) × (m.cost.fields ≤ b)
found_within by plan bytes m a b f ta tb =
    let tree = content_tree by plan (data_entry f.members) in
    let r = content_reads (holds_in by.of.now) (name_in by.of.now) by.alias.now plan f.errors (data_entry f.members) f.no_fault in (
      capped_within m.cost.types (reply_cost types plan tree) a f.types_cost (bounded by.of.now types plan tree a ta r.1),
      capped_within m.cost.fields (reply_cost fields plan tree) b f.fields_cost (bounded by.of.now fields plan tree b tb r.1),
    )

-- what was found passes every test
pub found_passes : (by : Reading) (plan : Plan) (bytes : List ℕ) (m : Metered) → Found by plan bytes m → first_fault_in by.of.now by.alias.now plan bytes ≡ None
found_passes by plan bytes m f =
    ap (λ (o : Option Data). at_step (codes "data") (given o NotJson (λ json. given (as_object json) NotObject (λ ms. entries_fault (holds_in by.of.now) (name_in by.of.now) by.alias.now plan ms)))) f.is_json
    ∙ ap (λ (o : Option (List ResponseError)). at_step (codes "data") (given o BadErrors (λ errors. content_fault by plan errors (data_entry f.members)))) f.errors_read
    ∙ ap (at_step (codes "data")) f.no_fault
