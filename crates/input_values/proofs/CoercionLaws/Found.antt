-- What a given value comes to is what the relation says, and nothing else.
use Rattle.std.proofs.Common.{◌≡◌, ◌+◌, ℕ, suc, List, [], ◌∷◌, ◌++◌, Bool, true, false, true≢false, not, ◌&&◌, ◌||◌, cond, bytes_eq, Option, Some, None, Result, Ok, Err, refl, sym, ap, ◌∙◌}
use Rattle.std.specs.List.{list_any, list_all}
use Rattle.std.proofs.lemmas.Option.{none-some, same_Some}
use Rattle.gql_base.specs.names.Names.{are_distinct, repeated_from, first_repeated}
use Rattle.gql_base.proofs.NameLaws.RepeatedLaws.{distinct_none, none_distinct}
use Rattle.input_values.specs.values.Coerced.{CoercedTree, coerced_null, coerced_list, coerced_object, CoercedTrees, no_coerced, coerced_then, CoercedFields, no_coerced_field, is_coerced_null}
use Rattle.input_values.specs.inputs.Shapes.{ShapeTree, named_shape, list_shape, is_nullable}
use Rattle.input_values.specs.coercion.Answers.{Path, Answer, refused, at_step, mapped, both, key_step, item_step}
use Rattle.input_values.specs.coercion.Given.{Given, given_null, given_integer, given_float, given_huge, given_string, given_text, given_name, given_boolean, given_list, given_object, given_variable, given_nothing, GivenItems, no_given, given_then, GivenFields, no_given_field, given_field_then, given_names, is_nothing}
use Rattle.input_values.specs.coercion.Forms.{Absence, takes_default, stays_absent, is_required, FieldForm, is_field, InputForm, integer_form, string_form, boolean_form, id_form, float_form, custom_form, lax_form, enum_form, object_form, no_form}
use Rattle.input_values.specs.coercion.Leaves.{integer_at, float_at, string_at, text_at, name_at, boolean_at, custom_at}
use Rattle.input_values.specs.coercion.Customs.{any_value}
use Rattle.input_values.specs.coercion.Places.{null_at, list_of_one, single_at, list_at}
use Rattle.input_values.specs.coercion.Objects.{wrong_name, Finder, absent_at, field_answer, with_field, fields_at, object_of, object_by, object_at}
use Rattle.input_values.specs.coercion.Coercion.{coerced, items_coerced, find_coerced}
use Rattle.input_values.specs.coercion.Relation.{IsSingle, IsList, IsAbsent, IsThere, Either, AreFields, NamesAreRight, IsObject, IsCoerced, AreCoerced, IsField}

abbrev pub Iff : Type 0 → Type 0 → Type 0
Iff A B = (A → B) × (B → A)

self_iff : {A : Type 0} → Iff A A
self_iff = (λ a. a, λ a. a)

abbrev pub okay : {A : Type 0} → A → Answer A
okay x = Ok x

abbrev okay_in : {A : Type 0} (E : Type 0) → A → Result A E
okay_in E x = Ok x

abbrev value_or : {A E : Type 0} → A → Result A E → A
value_or d (Ok x) = x
value_or d (Err why) = d

pub ok_same : {A E : Type 0} (x y : A) → okay_in E x ≡ okay_in E y → x ≡ y
ok_same x y e = ap (value_or x) e

differ_ok : {A : Type 0} (path : Path) (x : A) → Err path ≡ okay x → ⊥
differ_ok path x e = cc

pub no_ok : {A B : Type 0} (path : Path) (x : A) → Err path ≡ okay x → B
no_ok path x e = absurd (differ_ok path x e)

same_iff : {A : Type 0} (x t : A) → Iff (okay x ≡ okay t) (t ≡ x)
same_iff x t = (λ e. sym (ok_same x t e), λ e. ap Ok (sym e))

no_iff : {A : Type 0} (path : Path) (t : A) → Iff (Err path ≡ okay t) ⊥
no_iff path t = (λ e. no_ok path t e, λ e. absurd e)

pub mapped_ok : {A B : Type 0} (f : A → B) (a : Answer A) (t : B) → mapped f a ≡ Ok t → (x : A) × (a ≡ Ok x) × (t ≡ f x)
mapped_ok f (Ok x) t e = (x, refl, sym (ok_same (f x) t e))
mapped_ok f (Err path) t e = no_ok path t e

step_ok : {A : Type 0} (step : Path) (a : Answer A) (x : A) → at_step step a ≡ Ok x → a ≡ Ok x
step_ok step (Ok y) x e = e
step_ok step (Err path) x e = no_ok (step ++ path) x e

both_ok : {A B C : Type 0} (f : A → B → C) (a : Answer A) (b : Answer B) (t : C) → both f a b ≡ Ok t → (x : A) × (y : B) × (a ≡ Ok x) × (b ≡ Ok y) × (t ≡ f x y)
both_ok f (Ok x) (Ok y) t e = (x, y, refl, refl, sym (ok_same (f x y) t e))
both_ok f (Ok x) (Err path) t e = no_ok path t e
both_ok f (Err path) b t e = no_ok path t e

null_iff : {A : Type 0} (x : A) (nullable : Bool) (t : A) → Iff (null_at x nullable ≡ Ok t) ((nullable ≡ true) × (t ≡ x))
null_iff x true t = (λ e. (refl, sym (ok_same x t e)), λ e. ap Ok (sym e.1))
null_iff x false t = (λ e. no_ok [] t e, λ e. absurd (true≢false (sym e.0)))

variable_iff : (v : CoercedTree) (bad : Bool) (t : CoercedTree) → Iff (cond bad refused (Ok v) ≡ Ok t) ((t ≡ v) × (bad ≡ false))
variable_iff v true t = (λ e. no_ok [] t e, λ e. absurd (true≢false e.1))
variable_iff v false t = (λ e. (sym (ok_same v t e), refl), λ e. ap Ok (sym e.0))

single_iff : (named : ℕ → Answer CoercedTree) (Is : ℕ → CoercedTree → Type 0) → ((of : ℕ) (t : CoercedTree) → Iff (named of ≡ Ok t) (Is of t)) → (s : ShapeTree) (t : CoercedTree) → Iff (single_at named s ≡ Ok t) (IsSingle Is s t)
single_iff named Is each (named_shape of nullable) t = each of t
single_iff named Is each (list_shape item nullable) t = (
  λ e. let m = mapped_ok list_of_one (single_at named item) t e in (m.0, m.2, (single_iff named Is each item m.0).0 m.1),
  λ e. ap (mapped list_of_one) ((single_iff named Is each item e.0).1 e.2) ∙ ap Ok (sym e.1),
)

list_iff : (items : ShapeTree → Answer CoercedTrees) (Are : ShapeTree → CoercedTrees → Type 0) (named : ℕ → Answer CoercedTree) (Is : ℕ → CoercedTree → Type 0) → ((s : ShapeTree) (ts : CoercedTrees) → Iff (items s ≡ Ok ts) (Are s ts)) → ((of : ℕ) (t : CoercedTree) → Iff (named of ≡ Ok t) (Is of t))
    → (s : ShapeTree) (t : CoercedTree) → Iff (list_at items named s ≡ Ok t) (IsList Are Is s t)
list_iff items Are named Is all each (named_shape of nullable) t = each of t
list_iff items Are named Is all each (list_shape item nullable) t = (
  λ e. let m = mapped_ok coerced_list (items item) t e in (m.0, m.2, (all item m.0).0 m.1),
  λ e. ap (mapped coerced_list) ((all item e.0).1 e.2) ∙ ap Ok (sym e.1),
)

absent_iff : (a : Absence) (t : Option CoercedTree) → Iff (absent_at a ≡ Ok t) (IsAbsent a t)
absent_iff (takes_default d) t = same_iff (Some d) t
absent_iff stays_absent t = same_iff None t
absent_iff is_required t = no_iff [] t

there_iff : (a : Answer CoercedTree) (Is : CoercedTree → Type 0) → ((t : CoercedTree) → Iff (a ≡ Ok t) (Is t)) → (o : Option CoercedTree) → Iff (mapped Some a ≡ Ok o) (IsThere Is o)
there_iff a Is each None = (λ e. let m = mapped_ok Some a None e in absurd (none-some m.0 m.2), λ e. absurd e)
there_iff a Is each (Some t) = (λ e. let m = mapped_ok Some a (Some t) e in (each t).0 (m.1 ∙ ap Ok (same_Some m.0 t (sym m.2))), λ e. ap (mapped Some) ((each t).1 e))

found_iff : (here nothing : Bool) (f : FieldForm) (coerce : ShapeTree → Answer CoercedTree) (Is : CoercedTree → Type 0) (later : Option (ShapeTree → Answer CoercedTree)) (Later : Type 0) (t : Option CoercedTree) → ((u : CoercedTree) → Iff (coerce f.shape ≡ Ok u) (Is u)) → Iff (field_answer f later ≡ Ok t) Later
    → Iff (field_answer f (cond here (cond nothing None (Some coerce)) later) ≡ Ok t) (Either here (Either nothing (IsAbsent f.absence t) (IsThere Is t)) Later)
found_iff false nothing f coerce Is later Later t each rest = rest
found_iff true true f coerce Is later Later t each rest = absent_iff f.absence t
found_iff true false f coerce Is later Later t each rest = there_iff (coerce f.shape) Is each t

fields_iff : (fs : List FieldForm) (find : Finder) (Is : FieldForm → Option CoercedTree → Type 0) → ((f : FieldForm) (t : Option CoercedTree) → Iff (field_answer f (find f.name) ≡ Ok t) (Is f t)) → (cs : CoercedFields) → Iff (fields_at fs find ≡ Ok cs) (AreFields fs Is cs)
fields_iff [] find Is each cs = same_iff no_coerced_field cs
fields_iff (f ∷ fs) find Is each cs = (
  λ e. let m = both_ok (with_field f.name) (at_step (key_step f.name) (field_answer f (find f.name))) (fields_at fs find) cs e in
      (m.0, m.1, m.4, (each f m.0).0 (step_ok (key_step f.name) (field_answer f (find f.name)) m.0 m.2), (fields_iff fs find Is each m.1).0 m.3),
  λ e. ap (λ a. both (with_field f.name) (at_step (key_step f.name) a) (fields_at fs find)) ((each f e.0).1 e.3)
      ∙ (ap (λ b. both (with_field f.name) (Ok e.0) b) ((fields_iff fs find Is each e.1).1 e.4) ∙ ap Ok (sym e.2)),
)

-- ## Names

abbrev Unless : Bool → Type 0 → Type 0
Unless true A = Unit {0}
Unless false A = A

right_step : (distinct is again : Bool) (name : List ℕ) (n : ℕ) (wrong : Option (List ℕ)) (more : Bool) (later : Option ℕ) → Iff (wrong ≡ None) ((more ≡ true) × Unless distinct (later ≡ None))
    → Iff (cond (not is || (not distinct && again)) (Some name) wrong ≡ None) (((is && more) ≡ true) × Unless distinct (cond again (Some n) later ≡ None))
right_step distinct false again name n wrong more later rest = (λ e. absurd (none-some name (sym e)), λ e. absurd (true≢false (sym e.0)))
right_step true true true name n wrong more later rest = rest
right_step true true false name n wrong more later rest = rest
right_step false true true name n wrong more later rest = (λ e. absurd (none-some name (sym e)), λ e. absurd (none-some n (sym e.1)))
right_step false true false name n wrong more later rest = rest

right_iff : (distinct : Bool) (fs : List FieldForm) (seen : List (List ℕ)) (n : ℕ) (names : List (List ℕ)) → Iff (wrong_name distinct fs seen names ≡ None) ((list_all (is_field fs) names ≡ true) × Unless distinct (repeated_from seen n names ≡ None))
right_iff true fs seen n [] = (λ e. (refl, tt), λ e. refl)
right_iff false fs seen n [] = (λ e. (refl, refl), λ e. refl)
right_iff distinct fs seen n (name ∷ names) =
    right_step distinct (is_field fs name) (list_any (bytes_eq name) seen) name n (wrong_name distinct fs (name ∷ seen) names) (list_all (is_field fs) names) (repeated_from (name ∷ seen) (n + 1) names) (right_iff distinct fs (name ∷ seen) (n + 1) names)

distinct_iff : (distinct : Bool) (names : List (List ℕ)) → Iff (Unless distinct (first_repeated names ≡ None)) ((distinct || are_distinct names) ≡ true)
distinct_iff true names = (λ e. refl, λ e. tt)
distinct_iff false names = (λ e. none_distinct names e, λ e. distinct_none names e)

names_iff : (distinct : Bool) (fs : List FieldForm) (names : List (List ℕ)) → Iff (wrong_name distinct fs [] names ≡ None) (NamesAreRight distinct fs names)
names_iff distinct fs names =
    let right = right_iff distinct fs [] 0 names in
    let once = distinct_iff distinct names in
    (λ e. let r = right.0 e in (r.0, once.0 r.1), λ e. right.1 (e.0, once.1 e.1))

-- ## Objects

object_of_iff : (wrong : Option (List ℕ)) (Right : Type 0) (a : Answer CoercedFields) (Are : CoercedFields → Type 0) (t : CoercedTree) → Iff (wrong ≡ None) Right → ((cs : CoercedFields) → Iff (a ≡ Ok cs) (Are cs)) → Iff (object_of wrong a ≡ Ok t) (Right × (cs : CoercedFields) × (t ≡ coerced_object cs) × Are cs)
object_of_iff None Right a Are t right each = (λ e. let m = mapped_ok coerced_object a t e in (right.0 refl, m.0, m.2, (each m.0).0 m.1), λ e. ap (mapped coerced_object) ((each e.1).1 e.3) ∙ ap Ok (sym e.2))
object_of_iff (Some name) Right a Are t right each = (λ e. no_ok (key_step name) t e, λ e. absurd (none-some name (sym (right.1 e.0))))

object_iff : (form : InputForm) (fields : List FieldForm → Answer CoercedTree) (Is : List FieldForm → CoercedTree → Type 0) (any : Bool → Answer CoercedTree) (t : CoercedTree) → ((fs : List FieldForm) → Iff (fields fs ≡ Ok t) (Is fs t)) → Iff (object_by form fields any ≡ Ok t) (IsObject form Is any t)
object_iff integer_form fields Is any t each = no_iff [] t
object_iff string_form fields Is any t each = no_iff [] t
object_iff boolean_form fields Is any t each = no_iff [] t
object_iff id_form fields Is any t each = no_iff [] t
object_iff float_form fields Is any t each = no_iff [] t
object_iff custom_form fields Is any t each = self_iff
object_iff lax_form fields Is any t each = self_iff
object_iff (enum_form names) fields Is any t each = no_iff [] t
object_iff (object_form fs) fields Is any t each = each fs
object_iff no_form fields Is any t each = no_iff [] t

module _ (form : ℕ → InputForm) where
  mutual
    unfolding IsCoerced

    pub coerced_iff : (g : Given) (s : ShapeTree) (t : CoercedTree) → Iff (coerced form g s ≡ Ok t) (IsCoerced form g s t)
    coerced_iff given_null s t = null_iff coerced_null (is_nullable s) t
    coerced_iff (given_integer z) s t = single_iff (λ of. integer_at (form of) z) (λ of u. integer_at (form of) z ≡ Ok u) (λ of u. self_iff) s t
    coerced_iff (given_float bits) s t = single_iff (λ of. float_at (form of) bits) (λ of u. float_at (form of) bits ≡ Ok u) (λ of u. self_iff) s t
    coerced_iff given_huge s t = no_iff [] t
    coerced_iff (given_string b) s t = single_iff (λ of. string_at (form of) b) (λ of u. string_at (form of) b ≡ Ok u) (λ of u. self_iff) s t
    coerced_iff (given_text b) s t = single_iff (λ of. text_at (form of) b) (λ of u. text_at (form of) b ≡ Ok u) (λ of u. self_iff) s t
    coerced_iff (given_name b) s t = single_iff (λ of. name_at (form of) b) (λ of u. name_at (form of) b ≡ Ok u) (λ of u. self_iff) s t
    coerced_iff (given_boolean b) s t = single_iff (λ of. boolean_at (form of) b) (λ of u. boolean_at (form of) b ≡ Ok u) (λ of u. self_iff) s t
    coerced_iff (given_list gs) s t =
        list_iff (λ item. items_coerced form 0 gs item) (λ item ts. AreCoerced form gs item ts) (λ of. custom_at (form of) (λ lax. any_value lax (given_list gs))) (λ of u. custom_at (form of) (λ lax. any_value lax (given_list gs)) ≡ Ok u)
        (λ item ts. items_iff 0 gs item ts) (λ of u. self_iff) s t
    coerced_iff (given_object distinct fs) s t =
        single_iff (λ of. object_at (form of) distinct fs (λ name. find_coerced form name fs))
        (λ of u. IsObject (form of) (λ inputs v. NamesAreRight distinct inputs (given_names fs) × (cs : CoercedFields) × (v ≡ coerced_object cs) × AreFields inputs (λ f o. IsField form f.name fs f o) cs) (λ lax. any_value lax (given_object distinct fs)) u)
        (λ of u. object_iff (form of) (λ inputs. object_of (wrong_name distinct inputs [] (given_names fs)) (fields_at inputs (λ name. find_coerced form name fs)))
        (λ inputs v. NamesAreRight distinct inputs (given_names fs) × (cs : CoercedFields) × (v ≡ coerced_object cs) × AreFields inputs (λ f o. IsField form f.name fs f o) cs) (λ lax. any_value lax (given_object distinct fs)) u
        (λ inputs. object_of_iff (wrong_name distinct inputs [] (given_names fs)) (NamesAreRight distinct inputs (given_names fs)) (fields_at inputs (λ name. find_coerced form name fs)) (λ cs. AreFields inputs (λ f o. IsField form f.name fs f o) cs) u (names_iff distinct inputs (given_names fs))
        (λ cs. fields_iff inputs (λ name. find_coerced form name fs) (λ f o. IsField form f.name fs f o) (λ f o. field_iff f.name fs f o) cs))) s t
    coerced_iff (given_variable v) s t = variable_iff v (is_coerced_null v && not (is_nullable s)) t
    coerced_iff given_nothing s t = null_iff coerced_null (is_nullable s) t

    items_iff : (n : ℕ) (gs : GivenItems) (s : ShapeTree) (ts : CoercedTrees) → Iff (items_coerced form n gs s ≡ Ok ts) (AreCoerced form gs s ts)
    items_iff n no_given s ts = same_iff no_coerced ts
    items_iff n (given_then g gs) s ts = (
      λ e. let m = both_ok coerced_then (at_step (item_step n) (coerced form g s)) (items_coerced form (suc n) gs s) ts e in
          (m.0, m.1, m.4, (coerced_iff g s m.0).0 (step_ok (item_step n) (coerced form g s) m.0 m.2), (items_iff (suc n) gs s m.1).0 m.3),
      λ e. ap (λ a. both coerced_then (at_step (item_step n) a) (items_coerced form (suc n) gs s)) ((coerced_iff g s e.0).1 e.3)
          ∙ (ap (λ b. both coerced_then (Ok e.0) b) ((items_iff (suc n) gs s e.1).1 e.4) ∙ ap Ok (sym e.2)),
    )

    field_iff : (name : List ℕ) (fs : GivenFields) (f : FieldForm) (t : Option CoercedTree) → Iff (field_answer f (find_coerced form name fs) ≡ Ok t) (IsField form name fs f t)
    field_iff name no_given_field f t = absent_iff f.absence t
    field_iff name (given_field_then other g others) f t =
        found_iff (bytes_eq other name) (is_nothing g) f (λ s. coerced form g s) (λ u. IsCoerced form g f.shape u) (find_coerced form name others) (IsField form name others f t) t (λ u. coerced_iff g f.shape u) (field_iff name others f t)
