-- JSON that is looked at, item by item and member by member.
use Rattle.std.proofs.Common.{◌≡◌, ◌+◌, ◌<◌, ◌≤◌, ℕ, zero, suc, true, false, not, ◌||◌, cond, List, [], ◌∷◌, ◌++◌, length, drop, get_or, Option, Some, None, option_map, Result, Ok, Err, Ordering, Less, Equal, Greater, nat_cmp, is_eq, bytes_eq, refl, sym, ap, ◌∙◌, subst, arith}
use Rattle.std.specs.Ordering.{match_ordering}
use Rattle.std.specs.Cmp.Lexicographic.{slice_cmp}
use Rattle.std.proofs.lemmas.List.{drop_all}
use Rattle.std.proofs.lemmas.Option.{none-some}
use Rattle.std.proofs.lemmas.Cmp.{nat_list_eq_equiv}
use Rattle.std.proofs.lemmas.Map.Text.{is_eq-slice_cmp}
use Rattle.serde_json.specs.Data.{Data, unsigned, negative, float, null, boolean, number, string, array, object, Members, no_members, member}
use Rattle.serde_json.specs.Find.{get_member, to_float}
use Rattle.input_values.specs.values.Floats.{finite_bits}
use Rattle.serde_json.specs.View.{view, items_view}
use Rattle.serde_json.specs.declared.value.Value.{Value}
use Rattle.input_values.specs.values.Coerced.{CoercedTree, CoercedTrees, no_coerced}
use Rattle.input_values.specs.inputs.Shapes.{ShapeTree}
use Rattle.input_values.specs.declared.values.coerced.Coerced.{Coerced}
use Rattle.input_values.specs.declared.coercion.faults.CoercionFault.{CoercionFault}
use Rattle.input_values.specs.declared.coercion.faults.CoercionFault.TheVariants.{BadValue, Memory}
use Rattle.input_values.specs.coercion.Answers.{Answer, item_step, at_step, mapped}
use Rattle.input_values.specs.coercion.Given.{bits_given, given_then, given_object, given_names, present}
use Rattle.input_values.specs.coercion.Forms.{InputForm, custom_form, lax_form, object_form, FieldForm, is_field, fields_of}
use Rattle.input_values.specs.coercion.Customs.{any_value}
use Rattle.input_values.specs.coercion.Objects.{Finder, wrong_name, field_answer, fields_at, object_of, object_by, object_at}
use Rattle.input_values.specs.coercion.Coercion.{coerced, items_coerced, find_coerced}
use Rattle.input_values.specs.coercion.Calls.{Coerces, CoercesField, tree_in}
use Rattle.input_values.specs.coercion.Left.{ItemsLeft, one_item}
use Rattle.gql_base.proofs.Lists.{at_front}
use Rattle.input_values.proofs.CoercionSteps.Pieces.{item_left, stepped_coerces}
use Rattle.variable_coercion.specs.Json.{json_given, json_items, json_members}
use Rattle.variable_coercion.specs.Sizes.{json_size, items_size, members_size}

pub json_front : (vs : List Value) (at : ℕ) (v : Value) → at < length vs → v ≡ get_or vs at v → json_items (items_view (drop at vs)) ≡ given_then (json_given (view v)) (json_items (items_view (drop (at + 1) vs)))
json_front vs at v within is = ap (λ l. json_items (items_view l)) (at_front vs at v within is)

-- ## Items

pub json_item_left : (limit : ℕ) (form : ℕ → InputForm) (s : ShapeTree) (vs : List Value) (at : ℕ) (v : Value) (built more : List CoercedTree) (before now mid : ℕ) (r : Option Coerced) (whole : Answer CoercedTrees) → at < length vs → v ≡ get_or vs at v
    → ItemsLeft limit built before now (items_coerced form at (json_items (items_view (drop at vs))) s) whole → Coerces limit now mid (Ok r) (coerced form (json_given (view v)) s) → more ≡ built ++ one_item (tree_in r)
    → ItemsLeft limit more before mid (items_coerced form (at + 1) (json_items (items_view (drop (at + 1) vs))) s) whole
json_item_left limit form s vs at v built more before now mid r whole within is left c e =
    let next : suc at ≡ at + 1 = omega arith in
    let rest = json_items (items_view (drop (at + 1) vs)) in
    let here = coerced form (json_given (view v)) s in
    subst (λ n. ItemsLeft limit more before mid (items_coerced form n rest s) whole) next
    (item_left limit built more before now mid r (at_step (item_step at) here) (items_coerced form (suc at) rest s) whole
    (subst (λ gs. ItemsLeft limit built before now (items_coerced form at gs s) whole) (json_front vs at v within is) left) (stepped_coerces limit now mid r (item_step at) here c) e)

pub no_json_left : (limit : ℕ) (form : ℕ → InputForm) (s : ShapeTree) (vs : List Value) (at : ℕ) (built : List CoercedTree) (before now : ℕ) (whole : Answer CoercedTrees) → length vs ≤ at
    → ItemsLeft limit built before now (items_coerced form at (json_items (items_view (drop at vs))) s) whole → ItemsLeft limit built before now (Ok no_coerced) whole
no_json_left limit form s vs at built before now whole end left = subst (λ l. ItemsLeft limit built before now (items_coerced form at (json_items (items_view l)) s) whole) (drop_all at vs end) left

-- ## Names

-- the names that were seen don't matter where names are distinct
pub unseen : (fields : List FieldForm) (seen : List (List ℕ)) (names : List (List ℕ)) → wrong_name true fields seen names ≡ wrong_name true fields [] names
unseen fields seen [] = refl
unseen fields seen (name ∷ names) = ap (λ rest. cond (not (is_field fields name) || false) (Some name) rest) (unseen fields (name ∷ seen) names ∙ sym (unseen fields (name ∷ []) names))

-- the first name is a field's
pub known_here : (fields : List FieldForm) (name : List ℕ) (names : List (List ℕ)) (whole : Option (List ℕ)) → is_field fields name ≡ true → wrong_name true fields [] (name ∷ names) ≡ whole → wrong_name true fields [] names ≡ whole
known_here fields name names whole known same =
    sym (unseen fields (name ∷ []) names) ∙ (sym (ap (λ b. cond (not b || false) (Some name) (wrong_name true fields (name ∷ []) names)) known) ∙ same)

-- ## The member of a name

present_bits : {A : Type 0} (bits : Option ℕ) (x : A) → present (bits_given bits) x ≡ Some x
present_bits None x = refl
present_bits (Some bits) x = refl

present_json : {A : Type 0} (d : Data) (x : A) → present (json_given d) x ≡ Some x
present_json null x = refl
present_json (boolean b) x = refl
present_json (number (unsigned n)) x = refl
present_json (number (negative n)) x = refl
present_json (number (float n)) x = present_bits (finite_bits (to_float (float n))) x
present_json (string s) x = refl
present_json (array ds) x = refl
present_json (object ms) x = refl

found_or : {F : Type 0} (o : Ordering) (x rest : Option F) (f : Data → F) (e : Data) (d : Option Data) → x ≡ Some (f e) → rest ≡ option_map f d → cond (is_eq o) x rest ≡ option_map f (match_ordering o d (Some e) d)
found_or Less x rest f e d here later = later
found_or Equal x rest f e d here later = here
found_or Greater x rest f e d here later = later

bytes_alike : (a b : List ℕ) → bytes_eq b a ≡ is_eq (slice_cmp nat_cmp a b)
bytes_alike a b = nat_list_eq_equiv.symm b a ∙ sym (is_eq-slice_cmp a b)

abbrev coerces_json : (ℕ → InputForm) → Data → ShapeTree → Answer CoercedTree
coerces_json form d = λ s. coerced form (json_given d) s

find_json : (form : ℕ → InputForm) (name : List ℕ) (ms : Members) → find_coerced form name (json_members ms) ≡ option_map (coerces_json form) (get_member name ms)
find_json form name no_members = refl
find_json form name (member other e ms) =
    ap (λ b. cond b (present (json_given e) (coerces_json form e)) (find_coerced form name (json_members ms))) (bytes_alike name other)
    ∙ found_or (slice_cmp nat_cmp name other) (present (json_given e) (coerces_json form e)) (find_coerced form name (json_members ms)) (coerces_json form) e (get_member name ms) (present_json e (coerces_json form e)) (find_json form name ms)

some_answer : (limit before after : ℕ) (r : Result (Option Coerced) CoercionFault) (a : Answer CoercedTree) → Coerces limit before after r a → CoercesField limit before after r (mapped Some a)
some_answer limit before after (Ok r) a c = (Some c.0, ap (mapped Some) c.1, c.2)
some_answer limit before after (Err (BadValue path)) a h = ap (mapped Some) h
some_answer limit before after (Err Memory) a h = tt

pub field_given : (limit : ℕ) (form : ℕ → InputForm) (i : FieldForm) (ms : Members) (d : Data) (before after : ℕ) (r : Result (Option Coerced) CoercionFault) → Some d ≡ get_member i.name ms → Coerces limit before after r (coerced form (json_given d) i.shape)
    → CoercesField limit before after r (field_answer i (find_coerced form i.name (json_members ms)))
field_given limit form i ms d before after r is c =
    subst (λ x. CoercesField limit before after r (field_answer i x)) (sym (find_json form i.name ms ∙ ap (option_map (coerces_json form)) (sym is))) (some_answer limit before after r (coerced form (json_given d) i.shape) c)

pub field_absent : (limit : ℕ) (form : ℕ → InputForm) (i : FieldForm) (ms : Members) (before after : ℕ) (r : Result (Option Coerced) CoercionFault) → None ≡ get_member i.name ms → CoercesField limit before after r (field_answer i None)
    → CoercesField limit before after r (field_answer i (find_coerced form i.name (json_members ms)))
field_absent limit form i ms before after r is c = subst (λ x. CoercesField limit before after r (field_answer i x)) (sym (find_json form i.name ms ∙ ap (option_map (coerces_json form)) (sym is))) c

-- ## Objects at types

pub json_object : (form : InputForm) (find : Finder) (ms : Members) → form ≡ object_form (fields_of form) → object_of (wrong_name true (fields_of form) [] (given_names (json_members ms))) (fields_at (fields_of form) find) ≡ object_at form true (json_members ms) find
json_object form find ms is = ap (λ f. object_by f (λ inputs. object_of (wrong_name true inputs [] (given_names (json_members ms))) (fields_at inputs find)) (λ lax. any_value lax (given_object true (json_members ms)))) (sym is)

pub json_custom : (form : InputForm) (find : Finder) (ms : Members) → form ≡ custom_form → any_value false (given_object true (json_members ms)) ≡ object_at form true (json_members ms) find
json_custom form find ms is = ap (λ f. object_by f (λ inputs. object_of (wrong_name true inputs [] (given_names (json_members ms))) (fields_at inputs find)) (λ lax. any_value lax (given_object true (json_members ms)))) (sym is)

pub json_lax : (form : InputForm) (find : Finder) (ms : Members) → form ≡ lax_form → any_value true (given_object true (json_members ms)) ≡ object_at form true (json_members ms) find
json_lax form find ms is = ap (λ f. object_by f (λ inputs. object_of (wrong_name true inputs [] (given_names (json_members ms))) (fields_at inputs find)) (λ lax. any_value lax (given_object true (json_members ms)))) (sym is)

-- ## What is inside is smaller

pub json_item_smaller : (vs : List Value) (at : ℕ) (v : Value) → at < length vs → v ≡ get_or vs at v → json_size (view v) < items_size (items_view vs)
json_item_smaller [] at v within is = absurd (omega (arith, within))
json_item_smaller (w ∷ vs) zero v within is = let e = ap (λ x. json_size (view x)) is in omega (arith, e)
json_item_smaller (w ∷ vs) (suc at) v within is = let h = json_item_smaller vs at v (omega (arith, within)) is in omega (arith, h)

smaller_or : (o : Ordering) (d e : Data) (x : Option Data) (n : ℕ) → Some d ≡ match_ordering o x (Some e) x → (Some d ≡ x → json_size d < n) → json_size d < suc (json_size e + n)
smaller_or Less d e x n is rest = let l = rest is in omega (arith, l)
smaller_or Equal d e x n is rest = let l = ap size_or is in omega (arith, l)
  where
    size_or : Option Data → ℕ
    size_or None = 0
    size_or (Some d) = json_size d
smaller_or Greater d e x n is rest = let l = rest is in omega (arith, l)

pub member_smaller : (name : List ℕ) (ms : Members) (d : Data) → Some d ≡ get_member name ms → json_size d < members_size ms
member_smaller name no_members d is = absurd (none-some d (sym is))
member_smaller name (member other e ms) d is = smaller_or (slice_cmp nat_cmp name other) d e (get_member name ms) (members_size ms) is (member_smaller name ms d)
