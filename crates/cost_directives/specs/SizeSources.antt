-- Where the declared size of a list field comes from (IBM GraphQL Cost Directives Specification, `@listSize`).
use Rattle.std.specs.Prelude.{ℕ, ℤ, nat_abs, nat_le, Bool, true, false, List, [], ◌∷◌, Option, None, Some, if◌then◌else◌}
use Rattle.schema_model.specs.Arguments.{ArgData}
use Rattle.cost_directives.specs.declared.sizes.Size.{Size}
use Rattle.cost_directives.specs.declared.sizes.Size.TheVariants.{Any, At}
use Rattle.cost_directives.specs.declared.sources.SizeSource.{SizeSource}
use Rattle.cost_directives.specs.declared.sources.SizeSource.TheVariants.{Handed, Sliced, Assumed, Free, Undeclared}
use Rattle.cost_directives.specs.DeclaredSizes.{SizeRuleData, arg_at, slice_of}
use Rattle.cost_directives.specs.Weights.{WeightsData, field_in}

-- the size that a source tells
abbrev pub size_told : SizeSource → Size
size_told (Handed n) = At n
size_told (Sliced place z) = At (nat_abs z)
size_told (Assumed z) = At (nat_abs z)
size_told Free = Any
size_told (Undeclared n) = At n

-- a slicing argument, by its place among the field's arguments and its value
abbrev pub Slice : Type 0
Slice = ℕ × ℤ

-- of this one and the greatest behind it the greater, and of equals the first
abbrev pub greater_slice : ℕ → ℤ → Option Slice → Slice
greater_slice place z None = (place, z)
greater_slice place z (Some other) = if nat_le (nat_abs other.1) (nat_abs z) then (place, z) else other

abbrev pub slice_before : ℕ → Option ℤ → Option Slice → Option Slice
slice_before place None other = other
slice_before place (Some z) other = Some (greater_slice place z other)

-- the first of the slicing arguments that have the greatest value
abbrev pub greatest_slice : List ℕ → List ArgData → Option Slice
greatest_slice [] args = None
greatest_slice (place ∷ places) args = slice_before place (slice_of (arg_at args place)) (greatest_slice places args)

-- ---- the table: the first line that applies

abbrev pub sliced_else : Option Slice → SizeSource → SizeSource
sliced_else (Some slice) other = Sliced slice.0 slice.1
sliced_else None other = other

abbrev pub assumed_else : Option ℤ → SizeSource → SizeSource
assumed_else (Some z) other = Assumed z
assumed_else None other = other

abbrev pub free_else : Bool → SizeSource → SizeSource
free_else true other = Free
free_else false other = other

abbrev pub listed_source : SizeRuleData → ℕ → List ArgData → SizeSource
listed_source rule undeclared args = sliced_else (greatest_slice rule.slicing args) (assumed_else rule.assumed (free_else rule.is_free (Undeclared undeclared)))

-- where the declared size comes from, where the slicing arguments have no fault
abbrev pub size_source : SizeRuleData → ℕ → List ArgData → Option ℕ → SizeSource
size_source rule undeclared args (Some n) = Handed n
size_source rule undeclared args None = listed_source rule undeclared args

-- the same of a field
abbrev pub size_source_in : WeightsData → ℕ → List ArgData → Option ℕ → SizeSource
size_source_in w number args handed = size_source (field_in w number).size w.undeclared args handed
