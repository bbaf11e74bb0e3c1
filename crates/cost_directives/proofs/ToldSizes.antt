-- The source of a size tells the declared size.
use Rattle.std.proofs.Common.{◌≡◌, ⊎_elim, ℕ, ℤ, max, nat_abs, nat_le, Bool, true, false, cond, List, [], ◌∷◌, map, Option, None, Some, Result, Ok, Err, refl, sym, ap, ◌∙◌, arith, leb-true, leb-false}
use Rattle.std.specs.List.{cons_option}
use Rattle.std.proofs.lemmas.Bool.{cases_Bool}
use Rattle.schema_model.specs.Arguments.{ArgData}
use Rattle.cost_directives.specs.declared.sizes.Size.{Size}
use Rattle.cost_directives.specs.declared.sizes.Size.TheVariants.{Any, At}
use Rattle.cost_directives.specs.declared.sizes.SizeFault.{SizeFault}
use Rattle.cost_directives.specs.declared.sources.SizeSource.{SizeSource}
use Rattle.cost_directives.specs.declared.sources.SizeSource.TheVariants.{Undeclared}
use Rattle.cost_directives.specs.DeclaredSizes.{SizeRuleData, arg_at, slice_of, slices_of, slicing_args, slicing_fault, greatest_with, greatest_of, refused_or, sliced_or, assumed_or, free_or, listed_size, declared_size}
use Rattle.cost_directives.specs.SizeSources.{size_told, Slice, greater_slice, slice_before, greatest_slice, sliced_else, assumed_else, free_else, listed_source, size_source}

-- how long the list is by a slice
abbrev length_by : Option Slice → Option ℕ
length_by None = None
length_by (Some slice) = Some (nat_abs slice.1)

greater_long : (place : ℕ) (z : ℤ) (other : Option Slice) → length_by (Some (greater_slice place z other)) ≡ greatest_with (nat_abs z) (length_by other)
greater_long place z None = refl
greater_long place z (Some other) = ⊎_elim
    (λ (e : nat_le (nat_abs other.1) (nat_abs z) ≡ true).
    let less = leb-true (nat_abs other.1) (nat_abs z) e in
    let most : nat_abs z ≡ max (nat_abs z) (nat_abs other.1) = omega arith in
    ap (λ (b : Bool). length_by (Some (cond b (place, z) other))) e ∙ ap (λ (n : ℕ). Some n) most)
    (λ (e : nat_le (nat_abs other.1) (nat_abs z) ≡ false).
    let more = leb-false (nat_abs other.1) (nat_abs z) e in
    let most : nat_abs other.1 ≡ max (nat_abs z) (nat_abs other.1) = omega arith in
    ap (λ (b : Bool). length_by (Some (cond b (place, z) other))) e ∙ ap (λ (n : ℕ). Some n) most)
    (cases_Bool (nat_le (nat_abs other.1) (nat_abs z)))

before_long : (place : ℕ) (slice : Option ℤ) (other : Option Slice) (zs : List ℤ) → length_by other ≡ greatest_of zs → length_by (slice_before place slice other) ≡ greatest_of (cons_option slice zs)
before_long place None other zs is = is
before_long place (Some z) other zs is = greater_long place z other ∙ ap (greatest_with (nat_abs z)) is

-- The first of the greatest slices is as long as the greatest.
slices_long : (places : List ℕ) (args : List ArgData) → length_by (greatest_slice places args) ≡ greatest_of (slices_of (slicing_args places args))
slices_long [] args = refl
slices_long (place ∷ places) args = before_long place (slice_of (arg_at args place)) (greatest_slice places args) (slices_of (slicing_args places args)) (slices_long places args)

sliced_told : (slice : Option Slice) (n : Option ℕ) (source : SizeSource) (size : Size) → length_by slice ≡ n → size_told source ≡ size → size_told (sliced_else slice source) ≡ sliced_or n size
sliced_told None n source size is same = same ∙ ap (λ (k : Option ℕ). sliced_or k size) is
sliced_told (Some slice) n source size is same = ap (λ (k : Option ℕ). sliced_or k size) is

assumed_told : (assumed : Option ℤ) (source : SizeSource) (size : Size) → size_told source ≡ size → size_told (assumed_else assumed source) ≡ assumed_or assumed size
assumed_told None source size same = same
assumed_told (Some z) source size same = refl

free_told : (free : Bool) (source : SizeSource) (size : Size) → size_told source ≡ size → size_told (free_else free source) ≡ free_or free size
free_told true source size same = refl
free_told false source size same = same

listed_told : (rule : SizeRuleData) (undeclared : ℕ) (args : List ArgData) → size_told (listed_source rule undeclared args) ≡ listed_size rule undeclared (slicing_args rule.slicing args)
listed_told rule undeclared args =
    sliced_told (greatest_slice rule.slicing args) _ _ _ (slices_long rule.slicing args)
    (assumed_told rule.assumed _ _ (free_told rule.is_free (Undeclared undeclared) (At undeclared) refl))

size_or : Result Size SizeFault → Size
size_or (Ok size) = size
size_or (Err fault) = Any

unrefused : (fault : Option SizeFault) (size other : Size) → refused_or fault size ≡ Ok other → size ≡ other
unfolding size_or
unrefused None size other is = ap size_or is
unrefused (Some fault) size other is = absurd (let no : Err fault ≡ Ok other = is in cc)

pub told : (rule : SizeRuleData) (undeclared : ℕ) (args : List ArgData) (handed : Option ℕ) (size : Size) → declared_size rule undeclared args handed ≡ Ok size → size_told (size_source rule undeclared args handed) ≡ size
told rule undeclared args (Some n) size is = unrefused None (At n) size is
told rule undeclared args None size is =
    listed_told rule undeclared args ∙ unrefused (slicing_fault rule (slicing_args rule.slicing args)) (listed_size rule undeclared (slicing_args rule.slicing args)) size is
