-- What stands in the weights of a schema at each number.
use Rattle.std.proofs.Common.{◌≡◌, ◌+◌, ◌<◌, ◌≤◌, ℕ, ℤ, Bool, true, false, List, length, map, get_or, Option, None, Some, Result, Ok, inl, inr, refl, sym, ap, ◌∙◌, arith}
use Rattle.std.specs.List.{range_with_len}
use Rattle.std.proofs.lemmas.Bool.{cases_lt, eqb-true}
use Rattle.std.proofs.lemmas.List.{get_or_past}
use Rattle.std.proofs.lemmas.List.FromFn.{get_or-map-range_with_len, length-map-range_with_len}
use Rattle.input_values.specs.inputs.Definitions.{InputData}
use Rattle.schema_model.specs.SchemaData.{SizeData, SchemaData, field_at, type_at}
use Rattle.schema_model.specs.Arguments.{ArgData}
use Rattle.cost_directives.specs.declared.sizes.Size.{Size}
use Rattle.cost_directives.specs.declared.sizes.Size.TheVariants.{Any, At}
use Rattle.cost_directives.specs.declared.sizes.SizeFault.{SizeFault}
use Rattle.cost_directives.specs.DeclaredSizes.{SizeRuleData, slicing_args, slicing_fault, listed_size, handed_or, refused_or, sliced_or, assumed_or, free_or, greatest_of, slices_of, declared_size}
use Rattle.cost_directives.specs.Weighing.{is_list_shape, is_leaf, weight_of_type, type_inside, returned, is_free_list, inherited, own_size}
use Rattle.cost_directives.specs.Weights.{weights_of, type_weight_at, field_weight_at, no_type_weight, no_field_weight, type_in, field_in, rule_of, declared_size_in}
use Rattle.cost_directives.specs.FreeLists.{HoldsFreeLeaves}
use Rattle.cost_directives.proofs.FirstsFound.{both}

from_zero : (n : ℕ) → 0 + n ≡ n
from_zero n = omega arith

at_number : {A : Type 0} (f : ℕ → A) (count n : ℕ) (d : A) → n < count → get_or (map f (range_with_len 0 count)) n d ≡ f n
at_number f count n d within = get_or-map-range_with_len f 0 count n n d within (from_zero n)

past_number : {A : Type 0} (f : ℕ → A) (count n : ℕ) (d : A) → count ≤ n → get_or (map f (range_with_len 0 count)) n d ≡ d
past_number f count n d past = let e = length-map-range_with_len f 0 count in get_or_past (map f (range_with_len 0 count)) n d (omega (arith, e))

pub type_looked_up : (s : SchemaData) (undeclared n : ℕ) → n < s.defined → type_in (weights_of s undeclared) n ≡ type_weight_at s n
type_looked_up s undeclared n within = at_number (type_weight_at s) s.defined n no_type_weight within

pub other_type : (s : SchemaData) (undeclared n : ℕ) → s.defined ≤ n → type_in (weights_of s undeclared) n ≡ no_type_weight
other_type s undeclared n past = past_number (type_weight_at s) s.defined n no_type_weight past

pub field_looked_up : (s : SchemaData) (undeclared n : ℕ) → n < length s.fields → field_in (weights_of s undeclared) n ≡ field_weight_at s n
field_looked_up s undeclared n within = at_number (field_weight_at s) (length s.fields) n no_field_weight within

other_field : (s : SchemaData) (undeclared n : ℕ) → length s.fields ≤ n → field_in (weights_of s undeclared) n ≡ no_field_weight
other_field s undeclared n past = past_number (field_weight_at s) (length s.fields) n no_field_weight past

-- ---- lists of any length

ends_free : (is_free : Bool) (n : ℕ) (sliced : Option ℕ) (assumed : Option ℤ) → sliced_or sliced (assumed_or assumed (free_or is_free (At n))) ≡ Any → is_free ≡ true
ends_free is_free n (Some k) assumed any = absurd (cc)
ends_free is_free n None (Some z) any = absurd (cc)
ends_free true n None None any = refl
ends_free false n None None any = absurd (cc)

not_refused : (fault : Option SizeFault) (size : Size) → refused_or fault size ≡ Ok Any → size ≡ Any
not_refused None size any = cc
not_refused (Some fault) size any = absurd (cc)

not_handed : (handed : Option ℕ) (other : Result Size SizeFault) → handed_or handed other ≡ Ok Any → other ≡ Ok Any
not_handed None other any = any
not_handed (Some n) other any = absurd (cc)

any_is_free : (rule : SizeRuleData) (undeclared : ℕ) (args : List ArgData) (handed : Option ℕ) → declared_size rule undeclared args handed ≡ Ok Any → rule.is_free ≡ true
any_is_free rule undeclared args handed any =
    let slicing = slicing_args rule.slicing args in
    let listed = listed_size rule undeclared slicing in
    ends_free rule.is_free undeclared (greatest_of (slices_of slicing)) rule.assumed (not_refused (slicing_fault rule slicing) listed (not_handed handed (refused_or (slicing_fault rule slicing) listed) any))

rule_is_free : (arguments : List InputData) (is_free : Bool) (size : Option SizeData) → (rule_of arguments is_free size).is_free ≡ is_free
rule_is_free arguments is_free None = refl
rule_is_free arguments is_free (Some size) = refl

weighs_nothing : (s : SchemaData) (undeclared n : ℕ) → weight_of_type (type_at s n) ≡ 0 → (type_in (weights_of s undeclared) n).weight ≡ 0
weighs_nothing s undeclared n none = elim (cases_lt n s.defined) [
  | inl within ↦ ap (λ t. t.weight) (type_looked_up s undeclared n within) ∙ none
  | inr past ↦ ap (λ t. t.weight) (other_type s undeclared n past)
]

pub holds_free_leaves : (s : SchemaData) (undeclared n : ℕ) (args : List ArgData) (handed : Option ℕ) → declared_size_in (weights_of s undeclared) n args handed ≡ Ok Any → HoldsFreeLeaves s (weights_of s undeclared) (field_at s n)
holds_free_leaves s undeclared n args handed any =
    let rule_free : (field_in (weights_of s undeclared) n).size.is_free ≡ true = any_is_free (field_in (weights_of s undeclared) n).size undeclared args handed any in
    elim (cases_lt n (length s.fields)) [
      | inl within ↦
          let f = field_at s n in
          let field_free : is_free_list s f ≡ true = sym (ap (λ w. w.size.is_free) (field_looked_up s undeclared n within) ∙ rule_is_free f.arguments (is_free_list s f) (inherited s own_size f)) ∙ rule_free in
          let parts = both (is_list_shape f.shape) _ field_free in
          let rest = both (is_leaf (returned s f).kind) _ parts.1 in
          record { is_list = parts.0; of_leaves = rest.0; free = weighs_nothing s undeclared (type_inside f.shape) (eqb-true (weight_of_type (returned s f)) 0 rest.1) }
      | inr past ↦ let none : false ≡ true = sym (ap (λ w. w.size.is_free) (other_field s undeclared n past)) ∙ rule_free in absurd (cc)
    ]
