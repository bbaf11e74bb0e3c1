-- What is given by values that are written alike.
use Rattle.std.proofs.Common.{◌≡◌, ℕ, ◌+◌, ◌<◌, ◌≤◌, ℤ, Bool, false, IsTrue, List, [], ◌∷◌, ◌++◌, map, take, take_all, length, get_or, true, bytes_eq, nat_eq, Vec, Global, refl, sym, ap, ◌∙◌, subst, arith}
use Rattle.std.proofs.lemmas.Bool.Decides.{Decides-int_eq}
use Rattle.std.proofs.lemmas.List.{take_more, map-append}
use Rattle.std.proofs.lemmas.Slice.Eq.{bytes_eq-Decides}
use Rattle.gql_base.specs.declared.parts.trees.Name.{Name}
use Rattle.gql_base.specs.declared.parts.trees.Value.{Value}
use Rattle.gql_base.specs.declared.parts.trees.Value.TheViews.{List as ListValue, Object as ObjectValue}
use Rattle.gql_base.specs.declared.parts.trees.Value.TheBlock.{Var as VarValue, Int as IntValue, Float as FloatValue, Str as StrValue, Bool as BoolValue, Null as NullValue, EnumName as EnumValue}
use Rattle.gql_base.specs.declared.parts.trees.Argument.{Argument}
use Rattle.gql_base.specs.parts.Values.{ValueTree, variable_value, integer_value, float_value, string_value, boolean_value, null_value, enum_value, list_value, object_value, NamedValue, values_from, fields_from}
use Rattle.gql_base.specs.parts.Trees.{value_tree, named_value}
use Rattle.std.proofs.lemmas.Bool.{eqb-true}
use Rattle.plan_model.proofs.SameValues.{truth_equal}
use Rattle.gql_base.proofs.PrintingLaws.PrintSteps.{open_argument}
use Rattle.gql_base.proofs.PartLaws.ValueSteps.{variable_tree, integer_tree, float_tree, string_tree, boolean_tree, null_tree, enum_tree, list_tree, object_tree}
use Rattle.input_values.specs.coercion.Given.{Given, GivenItems, no_given, given_then, GivenFields, no_given_field, given_field_then, given_list, given_object, given_name, given_string, given_integer, given_boolean}
use Rattle.input_values.specs.coercion.Literals.{Environment, literal_given, literal_items, literal_fields, variable_given}
use Rattle.plan_model.specs.SameArguments.{same_truth}
use Rattle.distinct_selections.specs.Alike.{is_the_integer}
use Rattle.plan_model.specs.GivenAlike.{GivesAlike, GiveAlike, given_argument, IsGivenAlike, AreGivenSame, AreGivenAlike}

abbrev items_from : List Given → GivenItems
items_from [] = no_given
items_from (g ∷ gs) = given_then g (items_from gs)

abbrev given_fields_from : List (List ℕ × Given) → GivenFields
given_fields_from [] = no_given_field
given_fields_from (g ∷ gs) = given_field_then g.0 g.1 (given_fields_from gs)

items_of : (values : Environment) (vs : List ValueTree) → literal_items values (values_from vs) ≡ items_from (map (literal_given values) vs)
items_of values [] = refl
items_of values (v ∷ vs) = ap (λ gs. given_then (literal_given values v) gs) (items_of values vs)

fields_of : (values : Environment) (fs : List NamedValue) → literal_fields values (fields_from fs) ≡ given_fields_from (map (given_argument values) fs)
fields_of values [] = refl
fields_of values (f ∷ fs) = ap (λ gs. given_field_then f.0.0 (literal_given values f.1) gs) (fields_of values fs)

pub lists_given : (values : Environment) (vs ws : List ValueTree) → map (literal_given values) vs ≡ map (literal_given values) ws → literal_given values (list_value (values_from vs)) ≡ literal_given values (list_value (values_from ws))
lists_given values vs ws same = ap given_list (items_of values vs ∙ (ap items_from same ∙ sym (items_of values ws)))

pub objects_given : (values : Environment) (fs gs : List NamedValue) → AreGivenSame values fs gs → literal_given values (object_value (fields_from fs)) ≡ literal_given values (object_value (fields_from gs))
objects_given values fs gs same = ap (given_object false) (fields_of values fs ∙ (ap given_fields_from same ∙ sym (fields_of values gs)))

pub lists_alike : (vs ws : List ValueTree) → GiveAlike vs ws → GivesAlike (list_value (values_from vs)) (list_value (values_from ws))
lists_alike vs ws alike values = lists_given values vs ws (alike values)

pub objects_alike : (fs gs : List NamedValue) → AreGivenAlike fs gs → GivesAlike (object_value (fields_from fs)) (object_value (fields_from gs))
objects_alike fs gs alike values = objects_given values fs gs (alike values)

pub same_tree : (v t w : ValueTree) → t ≡ w → GivesAlike v w → GivesAlike v t
same_tree v t w is alike values = alike values ∙ ap (literal_given values) (sym is)

pub equal_texts : (r : Bool) (a b : List ℕ) → r ≡ bytes_eq a b → IsTrue r → a ≡ b
equal_texts r a b is h = (bytes_eq-Decides a b).0 (sym is ∙ h)

pub variables_alike : (a b : List ℕ) (at other : ℕ) → a ≡ b → GivesAlike (variable_value a at) (variable_value b other)
variables_alike a b at other is values = ap (λ name. variable_given (values name)) is

pub enums_alike : (a b : List ℕ) (at other : ℕ) → a ≡ b → GivesAlike (enum_value a at) (enum_value b other)
enums_alike a b at other is values = ap given_name is

-- the same, where the first value is opened
pub opened : (value : Value) (v w : ValueTree) → value_tree value ≡ v → GivesAlike v w → GivesAlike (value_tree value) w
opened value v w is alike values = ap (literal_given values) is ∙ alike values

-- ---- a value that is opened, beside one that is written alike

abbrev leaf_alike : (value : Value) (v w : ValueTree) → value_tree value ≡ w → GivesAlike v w → GivesAlike v (value_tree value)
leaf_alike value v w is alike = same_tree v (value_tree value) w is alike

pub is_variable : (r : Bool) (n m : Name) (value : Value) → value ≡ VarValue m → r ≡ bytes_eq n.text m.text → IsTrue r → GivesAlike (variable_value n.text n.at) (value_tree value)
is_variable r n m value is same h = leaf_alike value (variable_value n.text n.at) (variable_value m.text m.at) (ap value_tree is ∙ variable_tree m) (variables_alike n.text m.text n.at m.at (equal_texts r n.text m.text same h))

pub is_enum : (r : Bool) (n m : Name) (value : Value) → value ≡ EnumValue m → r ≡ bytes_eq n.text m.text → IsTrue r → GivesAlike (enum_value n.text n.at) (value_tree value)
is_enum r n m value is same h = leaf_alike value (enum_value n.text n.at) (enum_value m.text m.at) (ap value_tree is ∙ enum_tree m) (enums_alike n.text m.text n.at m.at (equal_texts r n.text m.text same h))

pub is_string : (r : Bool) (a b : List ℕ) (value : Value) → value ≡ StrValue b → r ≡ bytes_eq a b → IsTrue r → GivesAlike (string_value a) (value_tree value)
is_string r a b value is same h = leaf_alike value (string_value a) (string_value b) (ap value_tree is ∙ string_tree b) (λ values. ap given_string (equal_texts r a b same h))

pub is_float : (r : Bool) (a b : List ℕ) (value : Value) → value ≡ FloatValue b → r ≡ bytes_eq a b → IsTrue r → GivesAlike (float_value a) (value_tree value)
is_float r a b value is same h = leaf_alike value (float_value a) (float_value b) (ap value_tree is ∙ float_tree b) (λ values. ap (λ digits. literal_given values (float_value digits)) (equal_texts r a b same h))

pub is_integer : (a : ℤ) (t : ValueTree) → is_the_integer a t ≡ true → GivesAlike (integer_value a) t
is_integer a (integer_value b) h = λ values. ap given_integer ((Decides-int_eq a b).0 h)
is_integer a (float_value b) h = absurd (cc)
is_integer a (variable_value name at) h = absurd (cc)
is_integer a (string_value s) h = absurd (cc)
is_integer a (boolean_value b) h = absurd (cc)
is_integer a null_value h = absurd (cc)
is_integer a (enum_value name at) h = absurd (cc)
is_integer a (list_value vs) h = absurd (cc)
is_integer a (object_value fs) h = absurd (cc)

pub integer_alike : (r : Bool) (a : ℤ) (v value : Value) → value ≡ IntValue a → r ≡ is_the_integer a (value_tree v) → IsTrue r → GivesAlike (value_tree value) (value_tree v)
integer_alike r a v value is same h = opened value (integer_value a) (value_tree v) (ap value_tree is ∙ integer_tree a) (is_integer a (value_tree v) (sym same ∙ h))

pub is_truth : (r a b : Bool) (value : Value) → value ≡ BoolValue b → r ≡ same_truth a b → IsTrue r → GivesAlike (boolean_value a) (value_tree value)
is_truth r a b value is same h = leaf_alike value (boolean_value a) (boolean_value b) (ap value_tree is ∙ boolean_tree b) (λ values. ap given_boolean (truth_equal a b (sym same ∙ h)))

pub is_null : (value : Value) → value ≡ NullValue → GivesAlike null_value (value_tree value)
is_null value is = leaf_alike value null_value null_value (ap value_tree is ∙ null_tree) (λ values. refl)

pub is_list : (vs : List ValueTree) (ws : List Value) (us : Vec Value Global) (value : Value) → value ≡ ListValue us → ws ≡ us.items → GiveAlike vs (map value_tree ws) → GivesAlike (list_value (values_from vs)) (value_tree value)
is_list vs ws us value is same alike = leaf_alike value (list_value (values_from vs)) (list_value (values_from (map value_tree us.items))) (ap value_tree is ∙ list_tree us)
    (subst (λ (l : List Value). GivesAlike (list_value (values_from vs)) (list_value (values_from (map value_tree l)))) same (lists_alike vs (map value_tree ws) alike))

pub is_object : (fs : List NamedValue) (gs : List Argument) (hs : Vec Argument Global) (value : Value) → value ≡ ObjectValue hs → gs ≡ hs.items → AreGivenAlike fs (map named_value gs) → GivesAlike (object_value (fields_from fs)) (value_tree value)
is_object fs gs hs value is same alike = leaf_alike value (object_value (fields_from fs)) (object_value (fields_from (map named_value hs.items))) (ap value_tree is ∙ object_tree hs)
    (subst (λ (l : List Argument). GivesAlike (object_value (fields_from fs)) (object_value (fields_from (map named_value l)))) same (objects_alike fs (map named_value gs) alike))

-- ---- one after another

module _ {A B C : Type 0} (g : A → B) (f : B → C) where
  grown : (xs : List A) (at : ℕ) (x : A) → at < length xs → x ≡ get_or xs at x → map f (map g (take (at + 1) xs)) ≡ map f (map g (take at xs)) ++ (f (g x) ∷ [])
  grown xs at x within is =
      ap (λ l. map f (map g l)) (take_more xs at x within ∙ ap (λ y. take at xs ++ (y ∷ [])) (sym is))
      ∙ (ap (map f) (map-append g (take at xs) (x ∷ [])) ∙ map-append f (map g (take at xs)) (g x ∷ []))

  pub both_grown : (xs ys : List A) (at : ℕ) (x y : A) → at < length xs → at < length ys → x ≡ get_or xs at x → y ≡ get_or ys at y → map f (map g (take at xs)) ≡ map f (map g (take at ys)) → f (g x) ≡ f (g y)
      → map f (map g (take (at + 1) xs)) ≡ map f (map g (take (at + 1) ys))
  both_grown xs ys at x y in_xs in_ys is_x is_y before here =
      grown xs at x in_xs is_x ∙ (ap (λ l. l ++ (f (g x) ∷ [])) before ∙ (ap (λ z. map f (map g (take at ys)) ++ (z ∷ [])) here ∙ sym (grown ys at y in_ys is_y)))

  pub both_whole : (xs ys : List A) (at : ℕ) → length xs ≤ at → length ys ≤ at → map f (map g (take at xs)) ≡ map f (map g (take at ys)) → map f (map g xs) ≡ map f (map g ys)
  both_whole xs ys at all_xs all_ys before = ap (λ l. map f (map g l)) (sym (take_all at xs all_xs)) ∙ (before ∙ ap (λ l. map f (map g l)) (take_all at ys all_ys))

  -- one more that is copied
  pub copied_more : (xs : List A) (at : ℕ) (x : A) (ys zs : List A) (y : A) → at < length xs → x ≡ get_or xs at x → zs ≡ ys ++ (y ∷ []) → map f (map g (take at xs)) ≡ map f (map g ys) → f (g x) ≡ f (g y) → map f (map g (take (at + 1) xs)) ≡ map f (map g zs)
  copied_more xs at x ys zs y within is pushed before here =
      grown xs at x within is ∙ (ap (λ l. l ++ (f (g x) ∷ [])) before ∙ (ap (λ z. map f (map g ys) ++ (z ∷ [])) here ∙ (sym (map-append f (map g ys) (g y ∷ [])) ∙ ap (map f) (sym (ap (map g) pushed ∙ map-append g ys (y ∷ []))))))

  pub copied_whole : (xs ys : List A) (at : ℕ) → length xs ≤ at → map f (map g (take at xs)) ≡ map f (map g ys) → map f (map g xs) ≡ map f (map g ys)
  copied_whole xs ys at past before = ap (λ l. map f (map g l)) (sym (take_all at xs past)) ∙ before

-- of two lists of one length both are passed where one is
pub all_passed : (n m at : ℕ) → nat_eq n m ≡ true → n ≤ at → m ≤ at
all_passed n m at same h = omega (arith, eqb-true n m same)

pub all_passed_by : (n m at : ℕ) → nat_eq n m ≡ true → m ≤ at → n ≤ at
all_passed_by n m at same h = omega (arith, eqb-true n m same)

-- ---- copies

pub variable_copied : (values : Environment) (value copy : Value) (n m : Name) → value ≡ VarValue n → copy ≡ VarValue m → values m.text ≡ values n.text → literal_given values (value_tree value) ≡ literal_given values (value_tree copy)
variable_copied values value copy n m is made same =
    ap (literal_given values) (ap value_tree is ∙ variable_tree n) ∙ (ap variable_given (sym same) ∙ sym (ap (literal_given values) (ap value_tree made ∙ variable_tree m)))

pub list_copied : (values : Environment) (value copy : Value) (vs us : Vec Value Global) (given : List Value) → value ≡ ListValue vs → copy ≡ ListValue us → given ≡ vs.items → map (literal_given values) (map value_tree given) ≡ map (literal_given values) (map value_tree us.items)
    → literal_given values (value_tree value) ≡ literal_given values (value_tree copy)
list_copied values value copy vs us given is made same copied =
    ap (literal_given values) (ap value_tree is ∙ list_tree vs)
    ∙ (lists_given values (map value_tree vs.items) (map value_tree us.items) (ap (λ l. map (literal_given values) (map value_tree l)) (sym same) ∙ copied) ∙ sym (ap (literal_given values) (ap value_tree made ∙ list_tree us)))

pub object_copied : (values : Environment) (value copy : Value) (hs gs : Vec Argument Global) (given : List Argument) → value ≡ ObjectValue hs → copy ≡ ObjectValue gs → given ≡ hs.items → AreGivenSame values (map named_value given) (map named_value gs.items)
    → literal_given values (value_tree value) ≡ literal_given values (value_tree copy)
object_copied values value copy hs gs given is made same copied =
    ap (literal_given values) (ap value_tree is ∙ object_tree hs)
    ∙ (objects_given values (map named_value hs.items) (map named_value gs.items) (ap (λ l. map (given_argument values) (map named_value l)) (sym same) ∙ copied) ∙ sym (ap (literal_given values) (ap value_tree made ∙ object_tree gs)))

pub argument_copied : (values : Environment) (a b : Argument) → b.name ≡ a.name → literal_given values (value_tree a.value) ≡ literal_given values (value_tree b.value) → given_argument values (named_value a) ≡ given_argument values (named_value b)
argument_copied values a b name same =
    ap (given_argument values) (open_argument a) ∙ (ap (λ (n : Name). (n.text, literal_given values (value_tree a.value))) (sym name)
    ∙ (ap (λ g. (b.name.text, g)) same ∙ sym (ap (given_argument values) (open_argument b))))

pub argument_alike : (a b : Argument) → bytes_eq a.name.text b.name.text ≡ true → GivesAlike (value_tree a.value) (value_tree b.value) → IsGivenAlike (named_value a) (named_value b)
argument_alike a b names alike values =
    ap (given_argument values) (open_argument a) ∙ (ap (λ name. (name, literal_given values (value_tree a.value))) ((bytes_eq-Decides a.name.text b.name.text).0 names)
    ∙ (ap (λ g. (b.name.text, g)) (alike values) ∙ ap (given_argument values) (sym (open_argument b))))
