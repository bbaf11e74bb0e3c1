-- What has a value keeps it where fields that had to be given take defaults. A value is larger than the defaults that it is
-- filled with, so only smaller defaults need to stay.
use Rattle.std.proofs.Common.{◌≡◌, ◌<◌, ◌≤◌, ◌+◌, ℕ, suc, List, [], ◌∷◌, Bool, true, false, ◌&&◌, ◌||◌, bytes_eq, Option, Some, None, Ok, Err, refl, sym, ap, ap₂, ◌∙◌, subst, arith}
use Rattle.std.specs.List.{list_all}
use Rattle.input_values.specs.values.Coerced.{CoercedTree, CoercedTrees, coerced_object, CoercedFields, nodes, item_nodes, field_nodes}
use Rattle.input_values.specs.inputs.Shapes.{ShapeTree, named_shape, list_shape}
use Rattle.input_values.specs.coercion.Answers.{Answer}
use Rattle.input_values.specs.coercion.Given.{Given, given_null, given_integer, given_float, given_huge, given_string, given_text, given_name, given_boolean, given_list, given_object, given_variable, given_nothing, GivenItems, no_given, given_then, GivenFields, no_given_field, given_field_then, given_names, is_nothing}
use Rattle.input_values.specs.coercion.Forms.{Absence, takes_default, stays_absent, is_required, FieldForm, is_field, InputForm, integer_form, string_form, boolean_form, id_form, float_form, custom_form, lax_form, enum_form, object_form, no_form}
use Rattle.input_values.specs.coercion.Leaves.{integer_at, float_at, string_at, text_at, name_at, boolean_at, custom_at}
use Rattle.input_values.specs.coercion.Customs.{any_value}
use Rattle.input_values.specs.coercion.Calls.{nodes_in}
use Rattle.input_values.specs.coercion.Objects.{with_field}
use Rattle.input_values.specs.coercion.Coercion.{coerced}
use Rattle.input_values.specs.coercion.Relation.{IsSingle, IsList, IsAbsent, IsThere, Either, AreFields, NamesAreRight, IsObject, IsCoerced, AreCoerced, IsField}
use Rattle.input_values.proofs.CoercionLaws.Found.{no_ok, coerced_iff}

-- defaults of fewer nodes than this stay
abbrev pub AbsenceGrows : ℕ → Absence → Absence → Type 0
AbsenceGrows n (takes_default t) more = nodes t < n → more ≡ takes_default t
AbsenceGrows n stays_absent more = more ≡ stays_absent
AbsenceGrows n is_required more = Unit {0}

pub record FieldGrows (n : ℕ) (less more : FieldForm) : Type 0 where
  pub name : more.name ≡ less.name
  pub shape : more.shape ≡ less.shape
  pub absence : AbsenceGrows n less.absence more.absence

abbrev pub FieldsGrow : ℕ → List FieldForm → List FieldForm → Type 0
FieldsGrow n [] [] = Unit {0}
FieldsGrow n [] (g ∷ more) = ⊥
FieldsGrow n (f ∷ less) [] = ⊥
FieldsGrow n (f ∷ less) (g ∷ more) = FieldGrows n f g × FieldsGrow n less more

abbrev pub FormGrows : ℕ → InputForm → InputForm → Type 0
FormGrows n (object_form less) form = (more : List FieldForm) × (form ≡ object_form more) × FieldsGrow n less more
FormGrows n integer_form form = form ≡ integer_form
FormGrows n string_form form = form ≡ string_form
FormGrows n boolean_form form = form ≡ boolean_form
FormGrows n id_form form = form ≡ id_form
FormGrows n float_form form = form ≡ float_form
FormGrows n custom_form form = form ≡ custom_form
FormGrows n lax_form form = form ≡ lax_form
FormGrows n (enum_form names) form = form ≡ enum_form names
FormGrows n no_form form = form ≡ no_form

-- a leaf is refused at an input object
leaf_grows : (n : ℕ) (leaf : InputForm → Answer CoercedTree) (less more : InputForm) (t : CoercedTree) → ((fs : List FieldForm) → leaf (object_form fs) ≡ Err []) → FormGrows n less more → leaf less ≡ Ok t → leaf more ≡ Ok t
leaf_grows n leaf integer_form more t never grows is = ap leaf grows ∙ is
leaf_grows n leaf string_form more t never grows is = ap leaf grows ∙ is
leaf_grows n leaf boolean_form more t never grows is = ap leaf grows ∙ is
leaf_grows n leaf id_form more t never grows is = ap leaf grows ∙ is
leaf_grows n leaf float_form more t never grows is = ap leaf grows ∙ is
leaf_grows n leaf custom_form more t never grows is = ap leaf grows ∙ is
leaf_grows n leaf lax_form more t never grows is = ap leaf grows ∙ is
leaf_grows n leaf (enum_form names) more t never grows is = ap leaf grows ∙ is
leaf_grows n leaf no_form more t never grows is = ap leaf grows ∙ is
leaf_grows n leaf (object_form fs) more t never grows is = no_ok [] t (sym (never fs) ∙ is)

single_grows : (n : ℕ) (P Q : ℕ → CoercedTree → Type 0) → ((of : ℕ) (t : CoercedTree) → nodes t ≤ n → P of t → Q of t) → (s : ShapeTree) (t : CoercedTree) → nodes t ≤ n → IsSingle P s t → IsSingle Q s t
single_grows n P Q each (named_shape of nullable) t small is = each of t small is
single_grows n P Q each (list_shape item nullable) t small is =
    let e : nodes t ≡ suc (nodes is.0 + 0) = ap nodes is.1 in
    (is.0, is.1, single_grows n P Q each item is.0 (omega (arith, e, small)) is.2)

list_grows : (n : ℕ) (Are Are2 : ShapeTree → CoercedTrees → Type 0) (P Q : ℕ → CoercedTree → Type 0) → ((s : ShapeTree) (ts : CoercedTrees) → item_nodes ts ≤ n → Are s ts → Are2 s ts) → ((of : ℕ) (t : CoercedTree) → P of t → Q of t) → (s : ShapeTree) (t : CoercedTree) → nodes t ≤ n → IsList Are P s t → IsList Are2 Q s t
list_grows n Are Are2 P Q all each (named_shape of nullable) t small is = each of t is
list_grows n Are Are2 P Q all each (list_shape item nullable) t small is =
    let e : nodes t ≡ suc (item_nodes is.0) = ap nodes is.1 in
    (is.0, is.1, all item is.0 (omega (arith, e, small)) is.2)

absent_grows : (n : ℕ) (less more : Absence) (o : Option CoercedTree) → AbsenceGrows n less more → nodes_in o < n → IsAbsent less o → IsAbsent more o
absent_grows n (takes_default d) more o grows small is =
    let e : nodes_in o ≡ nodes d = ap nodes_in is in
    subst (λ a. IsAbsent a o) (sym (grows (omega (arith, e, small)))) is
absent_grows n stays_absent more o grows small is = subst (λ a. IsAbsent a o) (sym grows) is
absent_grows n is_required more o grows small is = absurd is

there_grows : (n : ℕ) (P Q : CoercedTree → Type 0) (o : Option CoercedTree) → ((u : CoercedTree) → nodes u ≤ n → P u → Q u) → nodes_in o < n → IsThere P o → IsThere Q o
there_grows n P Q None each small is = is
there_grows n P Q (Some u) each small is = each u (omega (arith, small)) is

either_grows : (b : Bool) (A B C D : Type 0) → (A → C) → (B → D) → Either b A B → Either b C D
either_grows true A B C D first second is = first is
either_grows false A B C D first second is = second is

same_fields : (n : ℕ) (less more : List FieldForm) (name : List ℕ) → FieldsGrow n less more → is_field more name ≡ is_field less name
same_fields n [] [] name grow = refl
same_fields n [] (g ∷ more) name grow = absurd grow
same_fields n (f ∷ less) [] name grow = absurd grow
same_fields n (f ∷ less) (g ∷ more) name grow = ap₂ (λ m rest. bytes_eq m name || rest) (grow.0).name (same_fields n less more name grow.1)

all_fields : (n : ℕ) (less more : List FieldForm) (names : List (List ℕ)) → FieldsGrow n less more → list_all (is_field more) names ≡ list_all (is_field less) names
all_fields n less more [] grow = refl
all_fields n less more (name ∷ names) grow = ap₂ (λ b rest. b && rest) (same_fields n less more name grow) (all_fields n less more names grow)

with_nodes : (name : List ℕ) (o : Option CoercedTree) (rest : CoercedFields) → field_nodes (with_field name o rest) ≡ nodes_in o + field_nodes rest
with_nodes name None rest = omega arith
with_nodes name (Some t) rest = refl

fields_grow : (n : ℕ) (less more : List FieldForm) (P Q : FieldForm → Option CoercedTree → Type 0) (cs : CoercedFields) → ((f g : FieldForm) (o : Option CoercedTree) → nodes_in o < n → FieldGrows n f g → P f o → Q g o) → FieldsGrow n less more → field_nodes cs < n → AreFields less P cs → AreFields more Q cs
fields_grow n [] [] P Q cs each grow small are = are
fields_grow n [] (g ∷ more) P Q cs each grow small are = absurd grow
fields_grow n (f ∷ less) [] P Q cs each grow small are = absurd grow
fields_grow n (f ∷ less) (g ∷ more) P Q cs each grow small are =
    let e : field_nodes cs ≡ nodes_in are.0 + field_nodes are.1 = ap field_nodes are.2 ∙ with_nodes f.name are.0 are.1 in
    (are.0, are.1, are.2 ∙ ap (λ m. with_field m are.0 are.1) (sym (grow.0).name), each f g are.0 (omega (arith, e, small)) grow.0 are.3, fields_grow n less more P Q are.1 each grow.1 (omega (arith, e, small)) are.4)

object_grows : (n : ℕ) (less more : InputForm) (P Q : List FieldForm → CoercedTree → Type 0) (any : Bool → Answer CoercedTree) (t : CoercedTree) → ((fs gs : List FieldForm) → FieldsGrow n fs gs → P fs t → Q gs t) → FormGrows n less more → IsObject less P any t → IsObject more Q any t
object_grows n integer_form more P Q any t each grows is = absurd is
object_grows n string_form more P Q any t each grows is = absurd is
object_grows n boolean_form more P Q any t each grows is = absurd is
object_grows n id_form more P Q any t each grows is = absurd is
object_grows n float_form more P Q any t each grows is = absurd is
object_grows n (enum_form names) more P Q any t each grows is = absurd is
object_grows n no_form more P Q any t each grows is = absurd is
object_grows n custom_form more P Q any t each grows is = subst (λ f. IsObject f Q any t) (sym grows) is
object_grows n lax_form more P Q any t each grows is = subst (λ f. IsObject f Q any t) (sym grows) is
object_grows n (object_form fs) more P Q any t each grows is = subst (λ f. IsObject f Q any t) (sym grows.1) (each fs grows.0 grows.2 is)

module _ (n : ℕ) (less more : ℕ → InputForm) (grows : (of : ℕ) → FormGrows n (less of) (more of)) where
  abbrev leaf : (at : InputForm → Answer CoercedTree) → ((fs : List FieldForm) → at (object_form fs) ≡ Err []) → (s : ShapeTree) (t : CoercedTree) → nodes t ≤ n → IsSingle (λ of u. at (less of) ≡ Ok u) s t → IsSingle (λ of u. at (more of) ≡ Ok u) s t
  leaf at never s t small is = single_grows n (λ of u. at (less of) ≡ Ok u) (λ of u. at (more of) ≡ Ok u) (λ of u fits e. leaf_grows n at (less of) (more of) u never (grows of) e) s t small is

  mutual
    unfolding IsCoerced

    is_grown : (g : Given) (s : ShapeTree) (t : CoercedTree) → nodes t ≤ n → IsCoerced less g s t → IsCoerced more g s t
    is_grown given_null s t small is = is
    is_grown (given_integer z) s t small is = leaf (λ f. integer_at f z) (λ fs. refl) s t small is
    is_grown (given_float bits) s t small is = leaf (λ f. float_at f bits) (λ fs. refl) s t small is
    is_grown given_huge s t small is = is
    is_grown (given_string b) s t small is = leaf (λ f. string_at f b) (λ fs. refl) s t small is
    is_grown (given_text b) s t small is = leaf (λ f. text_at f b) (λ fs. refl) s t small is
    is_grown (given_name b) s t small is = leaf (λ f. name_at f b) (λ fs. refl) s t small is
    is_grown (given_boolean b) s t small is = leaf (λ f. boolean_at f b) (λ fs. refl) s t small is
    is_grown (given_list gs) s t small is =
        list_grows n (λ item ts. AreCoerced less gs item ts) (λ item ts. AreCoerced more gs item ts) (λ of u. custom_at (less of) (λ lax. any_value lax (given_list gs)) ≡ Ok u) (λ of u. custom_at (more of) (λ lax. any_value lax (given_list gs)) ≡ Ok u)
        (λ item ts few are. are_grown gs item ts few are) (λ of u e. leaf_grows n (λ f. custom_at f (λ lax. any_value lax (given_list gs))) (less of) (more of) u (λ fs. refl) (grows of) e) s t small is
    is_grown (given_object distinct fs) s t small is =
        single_grows n
        (λ of u. IsObject (less of) (λ inputs v. NamesAreRight distinct inputs (given_names fs) × (cs : CoercedFields) × (v ≡ coerced_object cs) × AreFields inputs (λ f o. IsField less f.name fs f o) cs) (λ lax. any_value lax (given_object distinct fs)) u)
        (λ of u. IsObject (more of) (λ inputs v. NamesAreRight distinct inputs (given_names fs) × (cs : CoercedFields) × (v ≡ coerced_object cs) × AreFields inputs (λ f o. IsField more f.name fs f o) cs) (λ lax. any_value lax (given_object distinct fs)) u)
        (λ of u fits e. object_grows n (less of) (more of) (λ inputs v. NamesAreRight distinct inputs (given_names fs) × (cs : CoercedFields) × (v ≡ coerced_object cs) × AreFields inputs (λ f o. IsField less f.name fs f o) cs)
        (λ inputs v. NamesAreRight distinct inputs (given_names fs) × (cs : CoercedFields) × (v ≡ coerced_object cs) × AreFields inputs (λ f o. IsField more f.name fs f o) cs) (λ lax. any_value lax (given_object distinct fs)) u
        (λ inputs wider grow p. let k : nodes u ≡ suc (field_nodes p.1) = ap nodes p.2 in
        ((all_fields n inputs wider (given_names fs) grow ∙ (p.0).0, (p.0).1), p.1, p.2, fields_grow n inputs wider (λ f o. IsField less f.name fs f o) (λ f o. IsField more f.name fs f o) p.1 (λ f g o few fg h. subst (λ m. IsField more m fs g o) (sym fg.name) (field_grown f.name fs f g o few fg h)) grow (omega (arith, k, fits)) p.3)) (grows of) e) s t small is
    is_grown (given_variable v) s t small is = is
    is_grown given_nothing s t small is = is

    are_grown : (gs : GivenItems) (s : ShapeTree) (ts : CoercedTrees) → item_nodes ts ≤ n → AreCoerced less gs s ts → AreCoerced more gs s ts
    are_grown no_given s ts small are = are
    are_grown (given_then g gs) s ts small are =
        let k : item_nodes ts ≡ nodes are.0 + item_nodes are.1 = ap item_nodes are.2 in
        (are.0, are.1, are.2, is_grown g s are.0 (omega (arith, k, small)) are.3, are_grown gs s are.1 (omega (arith, k, small)) are.4)

    field_grown : (name : List ℕ) (fs : GivenFields) (f g : FieldForm) (o : Option CoercedTree) → nodes_in o < n → FieldGrows n f g → IsField less name fs f o → IsField more name fs g o
    field_grown name no_given_field f g o small fg is = absent_grows n f.absence g.absence o fg.absence small is
    field_grown name (given_field_then other v others) f g o small fg is =
        either_grows (bytes_eq other name) (Either (is_nothing v) (IsAbsent f.absence o) (IsThere (λ u. IsCoerced less v f.shape u) o)) (IsField less name others f o) (Either (is_nothing v) (IsAbsent g.absence o) (IsThere (λ u. IsCoerced more v g.shape u) o)) (IsField more name others g o)
        (λ e. either_grows (is_nothing v) (IsAbsent f.absence o) (IsThere (λ u. IsCoerced less v f.shape u) o) (IsAbsent g.absence o) (IsThere (λ u. IsCoerced more v g.shape u) o) (λ a. absent_grows n f.absence g.absence o fg.absence small a)
        (λ h. there_grows n (λ u. IsCoerced less v f.shape u) (λ u. IsCoerced more v g.shape u) o (λ u fits k. subst (λ s. IsCoerced more v s u) (sym fg.shape) (is_grown v f.shape u fits k)) small h) e)
        (λ e. field_grown name others f g o small fg e) is

  pub grown : (g : Given) (s : ShapeTree) (t : CoercedTree) → nodes t ≤ n → coerced less g s ≡ Ok t → coerced more g s ≡ Ok t
  grown g s t small is = (coerced_iff more g s t).1 (is_grown g s t small ((coerced_iff less g s t).0 is))
