-- What the tests of the parts of a schema tell: things that pass as the same are the same.
use Rattle.std.proofs.Common.{◌≡◌, ℕ, Bool, true, false, ◌&&◌, ◌||◌, inl, inr, List, [], ◌∷◌, Option, None, Some, refl, sym, ap, ap₂, subst, ◌∙◌}
use Rattle.std.specs.Prelude.{nat_eq, is_none}
use Rattle.std.specs.List.{list_any, list_all, AllByRecursion}
use Rattle.std.specs.Str.{bytes_eq}
use Rattle.std.proofs.lemmas.Bool.{cases_Bool, eqb-true}
use Rattle.std.proofs.lemmas.Slice.Eq.{bytes_eq-Decides}
use Rattle.response_model.specs.Plan.{Form, single, listed, LeafType, type_name, numbered}
use Rattle.input_values.specs.values.Coerced.{CoercedTree, coerced_null, coerced_integer, coerced_float, coerced_string, coerced_boolean, coerced_enum, coerced_list, coerced_object}
use Rattle.input_values.specs.inputs.Shapes.{ShapeTree, named_shape, list_shape}
use Rattle.input_values.specs.inputs.Definitions.{InputData}
use Rattle.schema_rules.specs.declared.kind.Kind.{Kind}
use Rattle.schema_rules.specs.declared.kind.Kind.TheVariants.{Scalar, Object, Interface, Union, Enum, Input}
use Rattle.schema_rules.specs.Kinds.{is_scalar}
use Rattle.schema_model.specs.Implementing.{agree, is_same}
use Rattle.cost_directives.proofs.FirstsFound.{both}
use Rattle.meta_schema.specs.MetaTests.{same_form, same_names, same_default, same_input, same_inputs, is_numbered, is_only, is_enum}

pub same_text : (a b : List ℕ) → bytes_eq a b ≡ true → a ≡ b
same_text a b same = (bytes_eq-Decides a b).0 same

flags : (a b : Bool) → agree a b ≡ true → a ≡ b
flags true true same = refl
flags true false same = absurd (cc)
flags false true same = absurd (cc)
flags false false same = refl

pub forms : (a b : Form) → same_form a b ≡ true → a ≡ b
forms (single a) (single b) same = ap single (flags a b same)
forms (listed a x) (listed b y) same = let parts = both (agree a b) (agree x y) same in ap₂ listed (flags a b parts.0) (flags x y parts.1)
forms (single a) (listed b y) same = absurd (cc)
forms (listed a x) (single b) same = absurd (cc)

pub names : (xs ys : List (List ℕ)) → same_names xs ys ≡ true → xs ≡ ys
names [] [] same = refl
names [] (b ∷ ys) same = absurd (cc)
names (a ∷ xs) [] same = absurd (cc)
names (a ∷ xs) (b ∷ ys) same = let parts = both (bytes_eq a b) (same_names xs ys) same in ap₂ (λ (n : List ℕ) (ns : List (List ℕ)). n ∷ ns) (same_text a b parts.0) (names xs ys parts.1)

shapes : (a b : ShapeTree) → is_same a b ≡ true → a ≡ b
unfolding is_same
shapes (named_shape of a) (named_shape other b) same = let parts = both (nat_eq of other) (agree a b) same in ap₂ named_shape (eqb-true of other parts.0) (flags a b parts.1)
shapes (list_shape item a) (list_shape other b) same = let parts = both (agree a b) (is_same item other) same in ap₂ list_shape (shapes item other parts.1) (flags a b parts.0)
shapes (named_shape of a) (list_shape item b) same = absurd (cc)
shapes (list_shape item a) (named_shape of b) same = absurd (cc)

defaults : (a b : Option CoercedTree) → same_default a b ≡ true → a ≡ b
defaults None None same = refl
defaults (Some (coerced_boolean a)) (Some (coerced_boolean b)) same = ap (λ (x : Bool). Some (coerced_boolean x)) (flags a b same)
defaults None (Some b) same = absurd (cc)
defaults (Some (coerced_boolean a)) None same = absurd (cc)
defaults (Some (coerced_boolean a)) (Some coerced_null) same = absurd (cc)
defaults (Some (coerced_boolean a)) (Some (coerced_integer z)) same = absurd (cc)
defaults (Some (coerced_boolean a)) (Some (coerced_float z)) same = absurd (cc)
defaults (Some (coerced_boolean a)) (Some (coerced_string s)) same = absurd (cc)
defaults (Some (coerced_boolean a)) (Some (coerced_enum name)) same = absurd (cc)
defaults (Some (coerced_boolean a)) (Some (coerced_list items)) same = absurd (cc)
defaults (Some (coerced_boolean a)) (Some (coerced_object fields)) same = absurd (cc)
defaults (Some coerced_null) b same = absurd (cc)
defaults (Some (coerced_integer z)) b same = absurd (cc)
defaults (Some (coerced_float z)) b same = absurd (cc)
defaults (Some (coerced_string s)) b same = absurd (cc)
defaults (Some (coerced_enum name)) b same = absurd (cc)
defaults (Some (coerced_list items)) b same = absurd (cc)
defaults (Some (coerced_object fields)) b same = absurd (cc)

no_cost : (a b : Option (List ℕ)) → is_none a && is_none b ≡ true → a ≡ b
no_cost None None same = refl
no_cost None (Some b) same = absurd (cc)
no_cost (Some a) b same = absurd (cc)

with_parts : (a b : InputData) → a.name ≡ b.name → a.shape ≡ b.shape → a.default ≡ b.default → a.cost ≡ b.cost → a ≡ b
with_parts a b name shape default cost = λ i. record { name = name i; shape = shape i; default = default i; cost = cost i }

input : (a b : InputData) → same_input a b ≡ true → a ≡ b
input a b same =
    let named = both (bytes_eq a.name b.name) _ same in
    let shaped = both (is_same a.shape b.shape) _ named.1 in
    let filled = both (same_default a.default b.default) _ shaped.1 in
    with_parts a b (same_text a.name b.name named.0) (shapes a.shape b.shape shaped.0) (defaults a.default b.default filled.0) (no_cost a.cost b.cost filled.1)

pub inputs : (xs ys : List InputData) → same_inputs xs ys ≡ true → xs ≡ ys
inputs [] [] same = refl
inputs [] (b ∷ ys) same = absurd (cc)
inputs (a ∷ xs) [] same = absurd (cc)
inputs (a ∷ xs) (b ∷ ys) same = let parts = both (same_input a b) (same_inputs xs ys) same in ap₂ (λ (x : InputData) (others : List InputData). x ∷ others) (input a b parts.0) (inputs xs ys parts.1)

pub leaf_numbered : (of : ℕ) (leaf : LeafType) → is_numbered of leaf ≡ true → leaf ≡ numbered of
leaf_numbered of type_name same = absurd (cc)
leaf_numbered of (numbered number) same = ap numbered (sym (eqb-true of number same))

pub only : (n : ℕ) (ns : List ℕ) → is_only n ns ≡ true → ns ≡ n ∷ []
only n [] same = absurd (cc)
only n (m ∷ []) same = ap (λ (k : ℕ). k ∷ []) (eqb-true m n same)
only n (m ∷ (k ∷ ks)) same = absurd (cc)

pub an_enum : (kind : Kind) → is_enum kind ≡ true → kind ≡ Enum
an_enum Enum is = refl
an_enum Scalar is = absurd (cc)
an_enum Object is = absurd (cc)
an_enum Interface is = absurd (cc)
an_enum Union is = absurd (cc)
an_enum Input is = absurd (cc)

pub a_scalar : (kind : Kind) → is_scalar kind ≡ true → kind ≡ Scalar
a_scalar Scalar is = refl
a_scalar Enum is = absurd (cc)
a_scalar Object is = absurd (cc)
a_scalar Interface is = absurd (cc)
a_scalar Union is = absurd (cc)
a_scalar Input is = absurd (cc)

-- what holds of all of some numbers holds of each
pub one_of : (P : ℕ → Type 0) (ns : List ℕ) (n : ℕ) → AllByRecursion P ns → list_any (nat_eq n) ns ≡ true → P n
one_of P [] n all among = absurd (cc)
one_of P (m ∷ ns) n all among = elim (cases_Bool (nat_eq n m)) [
  | inl same ↦ subst P (sym (eqb-true n m same)) all.0
  | inr other ↦ one_of P ns n all.1 (sym (ap (λ (b : Bool). b || list_any (nat_eq n) ns) other) ∙ among)
]

all_pass : (p : ℕ → Bool) (ns : List ℕ) → list_all p ns ≡ true → AllByRecursion (λ n. p n ≡ true) ns
all_pass p [] all = tt
all_pass p (n ∷ ns) all = let parts = both (p n) (list_all p ns) all in (parts.0, all_pass p ns parts.1)

-- what all of some numbers pass each of them passes
pub of_all : (p : ℕ → Bool) (ns : List ℕ) (n : ℕ) → list_any (nat_eq n) ns ≡ true → list_all p ns ≡ true → p n ≡ true
of_all p ns n among all = one_of (λ m. p m ≡ true) ns n (all_pass p ns all) among
