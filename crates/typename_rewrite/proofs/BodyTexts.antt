-- What is written of an object's members, where they may hold numbers that aren't whole: JSON by which the object is written.
use Rattle.std.proofs.Common.{ℕ, ◌≡◌, ◌≤◌, Bool, true, false, List, ◌++◌, Option, None, Some, option_map, option_and_then, Result, Ok, Err, is_ok, OnOk, if◌then◌else◌, codes, refl, sym, ap, ap₂, ◌∙◌, subst, arith, append_assoc}
use Rattle.json.specs.Json as json
use Rattle.json.specs.Tree as tree
use Rattle.json.specs.Print.{print, print_from}
use Rattle.serde_json.specs.Data.{Data, string, object, Members, no_members, member, put, depth, members_depth}
use Rattle.serde_json.specs.Read.{of_members, max_depth}
use Rattle.serde_json.specs.Written.{members_outline, blank_members, compact_text, comma_if}
use Rattle.serde_json.proofs.Texts.{print-outline}
use Rattle.gql_base.specs.ways.Reading.{Identifier}
use Rattle.response_model.specs.ResponseText.{key_text}
use Rattle.response_model.specs.WrittenJson.{IsWritten, IsValueText, Appends}
use Rattle.response_model.proofs.WrittenTexts.{between, object_start, object_end, key_then}
use Rattle.typename_rewrite.specs.ReadJson.{IsAsRead, MembersAreAsRead}
use Rattle.typename_rewrite.specs.ForwardedBodies.{AppendsObject, members_where, body_with, name_text, IsMemberText, IsWrittenBody}
use Rattle.typename_rewrite.proofs.KeysInOrder.{joined, AllBefore, joined_none, joined_again, all_before_more, put_behind}
use Rattle.typename_rewrite.proofs.BodySteps.{MembersLeft, members_ended, pieces_with, body_pieces}

-- ---- members that are written

-- JSON by which members are written
abbrev pub AreWritten : Members → json.Members → Type 0
AreWritten no_members js = js ≡ json.no_members
AreWritten (member key d ms) js = (j : json.Json) × (others : json.Members) × (js ≡ json.member key j others) × IsWritten d j × AreWritten ms others

members_numbers : (ms : Members) (js : json.Members) → AreWritten ms js → tree.MembersHaveNumbers js
members_numbers no_members js w = subst tree.MembersHaveNumbers (sym w) tt
members_numbers (member key d ms) js w = subst tree.MembersHaveNumbers (sym w.2) (w.3.numbers, members_numbers ms w.1 w.4)

members_order : (ms : Members) (js : json.Members) → AreWritten ms js → blank_members js ≡ members_outline ms
members_order no_members js w = ap blank_members w
members_order (member key d ms) js w = ap blank_members w.2 ∙ ap₂ (λ x y. json.member key x y) w.3.in_order (members_order ms w.1 w.4)

members_read : (ms found : Members) (js : json.Members) → AreWritten ms js → MembersAreAsRead ms → AllBefore found ms → of_members js found ≡ Some (joined found ms)
members_read no_members found js w are before = ap (λ x. of_members x found) w ∙ ap Some (sym (joined_none found))
members_read (member key d ms) found js w are before =
    ap (λ x. of_members x found) w.2
    ∙ ap (option_and_then (λ (x : Data). of_members w.1 (put key x found))) w.3.is_read
    ∙ ap (of_members w.1) (put_behind found key d ms before)
    ∙ members_read ms (joined found (member key d no_members)) w.1 w.4 are.2 (all_before_more found key d ms before are.0)
    ∙ ap Some (joined_again found key d ms)

object_written : (ms : Members) (js : json.Members) → AreWritten ms js → MembersAreAsRead ms → IsWritten (object ms) (json.object js)
object_written ms js w are = record {
  numbers = members_numbers ms js w;
  is_read = ap (option_map object) (members_read ms no_members js w are tt);
  in_order = ap json.object (members_order ms js w);
}

-- ---- one member after another

-- What was written, and what is written for the members that are left, are a text of the whole.
abbrev pub MembersGoOn : (whole left : Members) (start now : List ℕ) (later : Bool) → Type 0
MembersGoOn whole left start now later = MembersAreAsRead whole → depth (object whole) ≤ max_depth
    → (members_depth left ≤ members_depth whole) × ((js : json.Members) → AreWritten left js → Appends (IsValueText (object whole)) start (now ++ print_from later (tree.members_tokens js)))

pub goes_on_begun : (whole : Members) (start now : List ℕ) → now ≡ start ++ codes "{" → MembersGoOn whole whole start now false
goes_on_begun whole start now e = λ are shallow. (
  omega arith,
  λ js w. (
    codes "{" ++ print_from false (tree.members_tokens js),
    (json.object js, object_written whole js w are, object_start js),
    ap (λ x. x ++ print_from false (tree.members_tokens js)) e ∙ append_assoc start (codes "{") (print_from false (tree.members_tokens js)),
  ),
)

pub goes_on_left_out : (keeps : List ℕ → Bool) (whole : Members) (key : List ℕ) (d : Data) (left : Members) (start now : List ℕ) (later : Bool) → keeps key ≡ false
    → MembersGoOn whole (members_where keeps (member key d left)) start now later → MembersGoOn whole (members_where keeps left) start now later
goes_on_left_out keeps whole key d left start now later out m = subst (λ ms. MembersGoOn whole ms start now later) same m
  where
    same : members_where keeps (member key d left) ≡ members_where keeps left
    same = rw (out) refl

comma_between : (b : Bool) → comma_if b ≡ between b
comma_between true = refl
comma_between false = refl

pieces : (now comma key value rest : List ℕ) → (now ++ (comma ++ (key ++ value))) ++ rest ≡ now ++ ((comma ++ key) ++ (value ++ rest))
pieces now comma key value rest =
    append_assoc now (comma ++ (key ++ value)) rest
    ∙ ap (λ x. now ++ x) (append_assoc comma (key ++ value) rest ∙ ap (λ x. comma ++ x) (append_assoc key value rest) ∙ sym (append_assoc comma key (value ++ rest)))

member_put : (later : Bool) (key : List ℕ) (j : json.Json) (js : json.Members) (now new text value : List ℕ) → new ≡ now ++ text → text ≡ comma_if later ++ (key_text key ++ value) → value ≡ print (tree.json_tokens j)
    → now ++ print_from later (tree.members_tokens (json.member key j js)) ≡ new ++ print_from true (tree.members_tokens js)
member_put later key j js now new text value e t v =
    let rest = print_from true (tree.members_tokens js) in
    ap (λ x. now ++ x) (key_then later key j js)
    ∙ sym (ap (λ x. x ++ rest) (e ∙ ap (λ x. now ++ x) (t ∙ ap₂ (λ x y. x ++ (key_text key ++ y)) (comma_between later) v)) ∙ pieces now (between later) (key_text key) (print (tree.json_tokens j)) rest)

pub goes_on_written : (keeps : List ℕ → Bool) (whole : Members) (key : List ℕ) (d : Data) (left : Members) (start now new : List ℕ) (later : Bool) → keeps key ≡ true
    → (depth d ≤ max_depth → Appends (IsMemberText later key d) now new)
    → MembersGoOn whole (members_where keeps (member key d left)) start now later → MembersGoOn whole (members_where keeps left) start new true
goes_on_written keeps whole key d left start now new later stays grown m = λ are shallow.
    let rest = members_where keeps left in
    let same : members_where keeps (member key d left) ≡ member key d rest = rw (stays) refl in
    let before = subst (λ ms. MembersGoOn whole ms start now later) same m are shallow in
    let added = grown (omega (arith, before.0, shallow)) in
    let own = added.1 in
    let value = own.1 in (
      omega (arith, before.0),
      λ js w.
          subst (Appends (IsValueText (object whole)) start) (member_put later key value.0 js now new added.0 own.0 added.2 own.2 value.2)
          (before.1 (json.member key value.0 js) (value.0, js, refl, value.1, w)),
    )

pub goes_on_ended : (whole : Members) (start now new : List ℕ) (later : Bool) → new ≡ now ++ codes "}" → MembersGoOn whole no_members start now later
    → MembersAreAsRead whole → depth (object whole) ≤ max_depth → Appends (IsValueText (object whole)) start new
goes_on_ended whole start now new later e m are shallow =
    subst (Appends (IsValueText (object whole)) start) (ap (λ x. now ++ x) (sym (object_end later)) ∙ sym e) ((m are shallow).1 json.no_members refl)

-- Where the last brace could be put, the object was added.
pub object_appended : {A E : Type 0} (r : Result A E) (whole : Members) (start now new : List ℕ) (later : Bool) → new ≡ (if is_ok r then now ++ codes "}" else now)
    → MembersLeft whole no_members start now later → MembersGoOn whole no_members start now later → OnOk r (AppendsObject start new whole)
object_appended (Ok x) whole start now new later e left on = record {
  written = λ are shallow. goes_on_ended whole start now new later e on are shallow;
  text = λ none. members_ended whole start now new later e left none;
}
object_appended (Err e) whole start now new later same left on = tt

pub empty_appended : (start new : List ℕ) → new ≡ start ++ codes "{}" → AppendsObject start new no_members
empty_appended start new e = record {
  written = λ are shallow. subst (Appends (IsValueText (object no_members)) start) (empty_put e) (goes_on_ended no_members start (start ++ codes "{") ((start ++ codes "{") ++ codes "}") false refl (goes_on_begun no_members start (start ++ codes "{") refl) are shallow);
  text = λ none. e;
}
  where
    empty_put : new ≡ start ++ codes "{}" → (start ++ codes "{") ++ codes "}" ≡ new
    empty_put e = append_assoc start (codes "{") (codes "}") ∙ sym e

-- the same of an object without members
pub braces_appended : {A E : Type 0} (r : Result A E) (whole : Members) (start new : List ℕ) → whole ≡ no_members → new ≡ (if is_ok r then start ++ codes "{}" else start) → OnOk r (AppendsObject start new whole)
braces_appended (Ok x) whole start new none e = subst (AppendsObject start new) (sym none) (empty_appended start new e)
braces_appended (Err e) whole start new none same = tt

-- one member, and a comma before it
pub member_appended : (later : Bool) (key : List ℕ) (d : Data) (start comma named new : List ℕ) → comma ≡ start ++ comma_if later → named ≡ comma ++ key_text key
    → (depth d ≤ max_depth → Appends (IsValueText d) named new) → depth d ≤ max_depth → Appends (IsMemberText later key d) start new
member_appended later key d start comma named new c n value shallow =
    let part = value shallow in
    let whole : new ≡ start ++ (comma_if later ++ (key_text key ++ part.0)) =
    part.2 ∙ ap (λ x. x ++ part.0) (n ∙ ap (λ x. x ++ key_text key) c)
    ∙ append_assoc (start ++ comma_if later) (key_text key) part.0 ∙ append_assoc start (comma_if later) (key_text key ++ part.0) in
    (comma_if later ++ (key_text key ++ part.0), (part.0, part.1, refl), whole)

-- ---- the body

string_written : (s : List ℕ) → IsWritten (string s) (json.string s)
string_written s = record { numbers = tt; is_read = refl; in_order = refl }

abbrev two_members : List ℕ → json.Json → json.Members
two_members document variables = json.member (codes "query") (json.string document) (json.member (codes "variables") variables json.no_members)

abbrev body_json : Option Identifier → List ℕ → json.Json → json.Json
body_json None document variables = json.object (two_members document variables)
body_json (Some name) document variables = json.object (json.member (codes "operationName") (json.string name.0) (two_members document variables))

two_written : (document : List ℕ) (variables : Members) (j : json.Json) → IsWritten (object variables) j → AreWritten (member (codes "query") (string document) (member (codes "variables") (object variables) no_members)) (two_members document j)
two_written document variables j w = (json.string document, json.member (codes "variables") j json.no_members, refl, string_written document, (j, json.no_members, refl, w, refl))

body_written : (name : Option Identifier) (document : List ℕ) (variables : Members) (j : json.Json) → IsWritten (object variables) j → IsAsRead (body_with name document variables) → IsWritten (body_with name document variables) (body_json name document j)
body_written None document variables j w are = object_written (member (codes "query") (string document) (member (codes "variables") (object variables) no_members)) (two_members document j) (two_written document variables j w) are
body_written (Some name) document variables j w are =
    object_written (member (codes "operationName") (string name.0) (member (codes "query") (string document) (member (codes "variables") (object variables) no_members))) (json.member (codes "operationName") (json.string name.0) (two_members document j))
    (json.string name.0, two_members document j, refl, string_written name.0, two_written document variables j w) are

variables_read : (name : Option Identifier) (document : List ℕ) (variables : Members) → IsAsRead (body_with name document variables) → IsAsRead (object variables)
variables_read None document variables are = let others = are.2 in others.1
variables_read (Some name) document variables are = let others = are.2 in let last = others.2 in last.1

variables_shallow : (name : Option Identifier) (document : List ℕ) (variables : Members) → depth (body_with name document variables) ≤ max_depth → depth (object variables) ≤ max_depth
variables_shallow None document variables shallow = omega (arith, shallow)
variables_shallow (Some name) document variables shallow = omega (arith, shallow)

tail_printed : (j : json.Json) → codes "," ++ (key_text (codes "variables") ++ (print (tree.json_tokens j) ++ codes "}")) ≡ print_from true (tree.members_tokens (json.member (codes "variables") j json.no_members))
tail_printed j =
    sym (append_assoc (codes ",") (key_text (codes "variables")) (print (tree.json_tokens j) ++ codes "}"))
    ∙ ap (λ x. (codes "," ++ key_text (codes "variables")) ++ (print (tree.json_tokens j) ++ x)) (object_end true)
    ∙ sym (key_then true (codes "variables") j json.no_members)

two_printed : (b : Bool) (document : List ℕ) (j : json.Json)
    → (between b ++ key_text (codes "query")) ++ (compact_text (string document) ++ (codes "," ++ (key_text (codes "variables") ++ (print (tree.json_tokens j) ++ codes "}")))) ≡ print_from b (tree.members_tokens (two_members document j))
two_printed b document j =
    ap₂ (λ x y. (between b ++ key_text (codes "query")) ++ (x ++ y)) (sym (print-outline (string document))) (tail_printed j)
    ∙ sym (key_then b (codes "query") (json.string document) (json.member (codes "variables") j json.no_members))

body_printed : (name : Option Identifier) (document : List ℕ) (j : json.Json) → pieces_with name document (print (tree.json_tokens j)) ≡ print (tree.json_tokens (body_json name document j))
body_printed None document j = ap (λ x. codes "{" ++ x) (two_printed false document j) ∙ object_start (two_members document j)
body_printed (Some name) document j =
    let operation = key_text (codes "operationName") in
    let text = compact_text (string name.0) in
    let query = key_text (codes "query") in
    let rest = compact_text (string document) ++ (codes "," ++ (key_text (codes "variables") ++ (print (tree.json_tokens j) ++ codes "}"))) in
    let others : codes "," ++ (query ++ rest) ≡ print_from true (tree.members_tokens (two_members document j)) = sym (append_assoc (codes ",") query rest) ∙ two_printed true document j in
    let named : ((operation ++ text) ++ codes ",") ++ (query ++ rest) ≡ print_from false (tree.members_tokens (json.member (codes "operationName") (json.string name.0) (two_members document j))) =
    append_assoc (operation ++ text) (codes ",") (query ++ rest) ∙ append_assoc operation text (codes "," ++ (query ++ rest))
    ∙ ap₂ (λ x y. operation ++ (x ++ y)) (sym (print-outline (string name.0))) others
    ∙ sym (key_then false (codes "operationName") (json.string name.0) (two_members document j)) in
    ap (λ x. codes "{" ++ x) named ∙ object_start (json.member (codes "operationName") (json.string name.0) (two_members document j))

pub body_is_written : (name : Option Identifier) (document : List ℕ) (variables : Members) (a b c d e f g h : List ℕ) → a ≡ codes "{" → b ≡ a ++ name_text name → c ≡ b ++ key_text (codes "query") → d ≡ c ++ compact_text (string document)
    → e ≡ d ++ codes "," → f ≡ e ++ key_text (codes "variables") → AppendsObject f g variables → h ≡ g ++ codes "}" → IsWrittenBody (body_with name document variables) h
body_is_written name document variables a b c d e f g h one two three four five six added eight = λ are shallow.
    let part = added.written (variables_read name document variables are) (variables_shallow name document variables shallow) in
    let value = part.1 in
    let whole : h ≡ pieces_with name document (print (tree.json_tokens value.0)) = body_pieces name document (print (tree.json_tokens value.0)) a b c d e f g h one two three four five six (part.2 ∙ ap (λ x. f ++ x) value.2) eight in
    (body_json name document value.0, body_written name document variables value.0 value.1 are, whole ∙ body_printed name document value.0)
