-- Fields of input objects, as they are written.
use Rattle.std.proofs.Common.{◌≡◌, ◌+◌, ◌<◌, ℕ, suc, Bool, true, false, cond, bytes_eq, List, [], ◌∷◌, ◌++◌, length, drop, get_or, inl, inr, Option, Some, None, Result, Ok, refl, sym, ap, ◌∙◌, subst, arith}
use Rattle.std.specs.Prelude.{slice_get}
use Rattle.std.proofs.lemmas.Bool.{cases_lt}
use Rattle.std.proofs.lemmas.List.{drop_all}
use Rattle.std.proofs.lemmas.Option.{none-some, slice_get_within, get_or_from_slice_get, slice_get-get_or}
use Rattle.gql_base.specs.names.Names.{first_of_name}
use Rattle.gql_base.specs.declared.parts.trees.Argument.{Argument}
use Rattle.gql_base.specs.parts.Trees.{value_tree}
use Rattle.input_values.specs.values.Coerced.{CoercedTree, CoercedFields, NamedTree}
use Rattle.input_values.specs.inputs.Shapes.{ShapeTree}
use Rattle.input_values.specs.declared.values.coerced.Coerced.{Coerced}
use Rattle.input_values.specs.declared.coercion.faults.CoercionFault.{CoercionFault}
use Rattle.input_values.specs.coercion.Answers.{Answer, key_step, at_step, both}
use Rattle.input_values.specs.coercion.Given.{Given, is_nothing, present}
use Rattle.input_values.specs.coercion.Forms.{InputForm, FieldForm}
use Rattle.input_values.specs.coercion.Objects.{Finder, field_answer, with_field, fields_at, absent_at}
use Rattle.input_values.specs.coercion.Coercion.{coerced, find_coerced}
use Rattle.input_values.specs.coercion.Literals.{Environment, literal_given, literal_fields}
use Rattle.input_values.specs.coercion.Sizes.{fields_written, tree_size, fields_size}
use Rattle.input_values.specs.coercion.Calls.{Tells, TellsAfter, CoercesField, tree_in}
use Rattle.input_values.specs.coercion.Left.{FieldsLeft, one_field}
use Rattle.gql_base.proofs.Lists.{at_front}
use Rattle.input_values.proofs.CoercionSteps.Pieces.{field_left, field_put, field_refused, stepped_coerces_field, stepped_tells}
use Rattle.gql_base.proofs.PrintingLaws.PrintSteps.{open_argument}

-- ## The value under a name

abbrev pub found_answer : (ℕ → InputForm) → Environment → Option Argument → Option (ShapeTree → Answer CoercedTree)
found_answer form env None = None
found_answer form env (Some f) = present (literal_given env (value_tree f.value)) (λ s. coerced form (literal_given env (value_tree f.value)) s)

found_or : (form : ℕ → InputForm) (env : Environment) (here : Bool) (f : Argument) (x : Option (ShapeTree → Answer CoercedTree)) (later : Option Argument) → x ≡ found_answer form env later → cond here (found_answer form env (Some f)) x ≡ found_answer form env (cond here (Some f) later)
found_or form env true f x later same = refl
found_or form env false f x later same = same

pub find_written : (form : ℕ → InputForm) (env : Environment) (name : List ℕ) (fs : List Argument) → find_coerced form name (literal_fields env (fields_written fs)) ≡ found_answer form env (first_of_name (λ f. f.name.text) fs name)
find_written form env name [] = refl
find_written form env name (f ∷ fs) =
    ap (λ p. cond (bytes_eq p.0.0 name) (present (literal_given env p.1) (λ s. coerced form (literal_given env p.1) s)) (find_coerced form name (literal_fields env (fields_written fs)))) (open_argument f)
    ∙ found_or form env (bytes_eq f.name.text name) f (find_coerced form name (literal_fields env (fields_written fs))) (first_of_name (λ g. g.name.text) fs name) (find_written form env name fs)

pub field_written : (limit : ℕ) (form : ℕ → InputForm) (env : Environment) (i : FieldForm) (name : List ℕ) (fs : List Argument) (found : Option Argument) (before after : ℕ) (r : Result (Option Coerced) CoercionFault) → name ≡ i.name → found ≡ first_of_name (λ f. f.name.text) fs name
    → CoercesField limit before after r (field_answer i (found_answer form env found)) → CoercesField limit before after r (field_answer i (find_coerced form i.name (literal_fields env (fields_written fs))))
field_written limit form env i name fs found before after r named is h =
    subst (λ x. CoercesField limit before after r (field_answer i x)) (sym (ap (λ n. find_coerced form n (literal_fields env (fields_written fs))) (sym named) ∙ (find_written form env name fs ∙ ap (found_answer form env) (sym is)))) h

pub written_nothing : (limit : ℕ) (g : Given) (i : FieldForm) (coerce : ShapeTree → Answer CoercedTree) (before after : ℕ) (r : Result (Option Coerced) CoercionFault) → is_nothing g ≡ true → CoercesField limit before after r (absent_at i.absence) → CoercesField limit before after r (field_answer i (present g coerce))
written_nothing limit g i coerce before after r e h = subst (λ b. CoercesField limit before after r (field_answer i (cond b None (Some coerce)))) (sym e) h

-- ## What is inside is smaller

inner_smaller : (here : Bool) (f a : Argument) (later : Option Argument) (n : ℕ) → Some a ≡ cond here (Some f) later → (Some a ≡ later → tree_size (value_tree a.value) < n) → tree_size (value_tree a.value) < suc (tree_size (value_tree f.value) + n)
inner_smaller true f a later n is rest = let e = ap size_or is in omega (arith, e)
  where
    size_or : Option Argument → ℕ
    size_or None = 0
    size_or (Some b) = tree_size (value_tree b.value)
inner_smaller false f a later n is rest = let l = rest is in omega (arith, l)

pub found_smaller : (name : List ℕ) (fs : List Argument) (a : Argument) → Some a ≡ first_of_name (λ f. f.name.text) fs name → tree_size (value_tree a.value) < fields_size (fields_written fs)
found_smaller name [] a is = absurd (none-some a (sym is))
found_smaller name (f ∷ fs) a is =
    let o = ap (λ p. tree_size p.1) (open_argument f) in
    let h = inner_smaller (bytes_eq f.name.text name) f a (first_of_name (λ g. g.name.text) fs name) (fields_size (fields_written fs)) is (found_smaller name fs a) in
    omega (arith, o, h)

-- ## One field more

abbrev rest_at : List FieldForm → Finder → ℕ → Answer CoercedFields
rest_at fields find at = fields_at (drop at fields) find

none_there : {A : Type 0} (xs : List A) (at : ℕ) → None ≡ slice_get xs at → drop at xs ≡ drop (at + 1) xs
none_there [] at e = drop_all at [] (omega arith) ∙ sym (drop_all (at + 1) [] (omega arith))
none_there (y ∷ xs) at e = elim (cases_lt at (length (y ∷ xs))) [
  | inl within ↦ absurd (none-some (get_or (y ∷ xs) at y) (e ∙ slice_get-get_or (y ∷ xs) at y within))
  | inr past ↦ drop_all at (y ∷ xs) past ∙ sym (drop_all (at + 1) (y ∷ xs) (omega (arith, past)))
]

some_there : (xs : List FieldForm) (at : ℕ) (x : FieldForm) → Some x ≡ slice_get xs at → drop at xs ≡ x ∷ drop (at + 1) xs
some_there xs at x e = at_front xs at x (slice_get_within xs at x (sym e)) (sym (get_or_from_slice_get xs at x x (sym e)))

-- what is left before a field
abbrev one_left : List FieldForm → Finder → ℕ → FieldForm → Answer CoercedFields
one_left fields find at i = both (with_field i.name) (at_step (key_step i.name) (field_answer i (find i.name))) (rest_at fields find (at + 1))

pub one_field_more : (limit : ℕ) (fields : List FieldForm) (find : Finder) (at : ℕ) (i : FieldForm) (told : List ℕ) (built more : List NamedTree) (before now : ℕ) (r : Option Coerced) → Some i ≡ slice_get fields at → told ≡ i.name → CoercesField limit before now (Ok r) (field_answer i (find i.name)) → more ≡ built ++ one_field told (tree_in r)
    → (start : ℕ) (whole : Answer CoercedFields) → FieldsLeft limit built start before (rest_at fields find at) whole → FieldsLeft limit more start now (rest_at fields find (at + 1)) whole
one_field_more limit fields find at i told built more before now r is name c e = λ start whole left.
    field_left limit built more i.name start before now r (with_field i.name) (at_step (key_step i.name) (field_answer i (find i.name))) (rest_at fields find (at + 1)) whole (field_put i.name)
    (subst (λ fs. FieldsLeft limit built start before (fields_at fs find) whole) (some_there fields at i is) left) (stepped_coerces_field limit before now r (key_step i.name) (field_answer i (find i.name)) c) (e ∙ ap (λ n. built ++ one_field n (tree_in r)) name)

pub no_field_more : (limit : ℕ) (fields : List FieldForm) (find : Finder) (at : ℕ) (built : List NamedTree) (before : ℕ) → None ≡ slice_get fields at
    → (start : ℕ) (whole : Answer CoercedFields) → FieldsLeft limit built start before (rest_at fields find at) whole → FieldsLeft limit built start before (rest_at fields find (at + 1)) whole
no_field_more limit fields find at built before is = λ start whole left. subst (λ fs. FieldsLeft limit built start before (fields_at fs find) whole) (none_there fields at is) left

pub one_field_refused : (limit : ℕ) (fields : List FieldForm) (find : Finder) (at : ℕ) (i : FieldForm) (told : List ℕ) (built : List NamedTree) (before : ℕ) (f g : CoercionFault) → Some i ≡ slice_get fields at → told ≡ i.name → Tells f (field_answer i (find i.name)) → TellsAfter (key_step told) f g
    → (start : ℕ) (whole : Answer CoercedFields) → FieldsLeft limit built start before (rest_at fields find at) whole → Tells g whole
one_field_refused limit fields find at i told built before f g is name tells after = λ start whole left.
    field_refused limit built start before g (with_field i.name) (at_step (key_step i.name) (field_answer i (find i.name))) (rest_at fields find (at + 1)) whole
    (subst (λ fs. FieldsLeft limit built start before (fields_at fs find) whole) (some_there fields at i is) left)
    (stepped_tells (key_step i.name) (field_answer i (find i.name)) f g (subst (λ n. TellsAfter (key_step n) f g) name after) tells)
