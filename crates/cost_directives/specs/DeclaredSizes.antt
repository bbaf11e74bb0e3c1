-- The declared size of a list field (IBM GraphQL Cost Directives Specification, `@listSize`).
use Rattle.std.specs.Prelude.{ℕ, max, ℤ, nat_abs, pos, int_lt, nat_eq, Bool, true, false, not, ◌&&◌, List, [], ◌∷◌, map, length, get_or, Option, None, Some, Result, Ok, Err, if◌then◌else◌}
use Rattle.std.specs.List.{list_any, filter, filter_map}
use Rattle.input_values.specs.values.Coerced.{CoercedTree, coerced_null, coerced_integer, coerced_float, coerced_string, coerced_boolean, coerced_enum, coerced_list, coerced_object, is_coerced_null}
use Rattle.schema_rules.specs.First.{or_else, fault_where, first_of}
use Rattle.schema_model.specs.Schemas.{as_int}
use Rattle.schema_model.specs.Arguments.{ArgData}
use Rattle.cost_directives.specs.declared.sizes.Size.{Size}
use Rattle.cost_directives.specs.declared.sizes.Size.TheVariants.{Any, At}
use Rattle.cost_directives.specs.declared.sizes.SizeFault.{SizeFault}
use Rattle.cost_directives.specs.declared.sizes.SizeFault.TheVariants.{SlicingCount, NegativeSlice}

-- what the size of a field is found by
pub record SizeRuleData : Type 0 where
  -- `assumedSize`
  pub assumed : Option ℤ
  -- the places of the slicing arguments among the field's arguments, in the order of `slicingArguments`, each once
  pub slicing : List ℕ
  -- `requireOneSlicingArgument`
  pub require_one : Bool
  -- `sizedFields`: the fields below to which the size is handed down
  pub sized : List (List ℕ)
  -- whether the field is a list of leaves that weigh nothing, so that any length is kept
  pub is_free : Bool

-- ---- slicing arguments

abbrev pub no_arg : ArgData
no_arg = record { value = None; supplied = false }

abbrev pub arg_at : List ArgData → ℕ → ArgData
arg_at args place = get_or args place no_arg

-- the slicing arguments in their order
abbrev pub slicing_args : List ℕ → List ArgData → List ArgData
slicing_args places args = map (arg_at args) places

abbrev pub is_supplied : ArgData → Bool
is_supplied arg = arg.supplied

abbrev pub is_value : Option CoercedTree → Bool
is_value None = false
is_value (Some value) = not (is_coerced_null value)

-- whether it has a value other than null, supplied or by default
abbrev pub has_value : ArgData → Bool
has_value arg = is_value arg.value

abbrev pub is_given : ArgData → Bool
is_given arg = arg.supplied && has_value arg

-- How many slice. Where one is supplied, those that are supplied with a value other than null; else the defaults.
abbrev pub slicing_count : List ArgData → ℕ
slicing_count args = if list_any is_supplied args then length (filter is_given args) else length (filter has_value args)

abbrev pub int_in : CoercedTree → Option ℤ
int_in (coerced_integer z) = as_int z
int_in (coerced_float bits) = None
int_in coerced_null = None
int_in (coerced_string s) = None
int_in (coerced_boolean b) = None
int_in (coerced_enum name) = None
int_in (coerced_list items) = None
int_in (coerced_object fields) = None

abbrev pub maybe_int_in : Option CoercedTree → Option ℤ
maybe_int_in None = None
maybe_int_in (Some value) = int_in value

abbrev pub slice_of : ArgData → Option ℤ
slice_of arg = maybe_int_in arg.value

-- the values by which it is sliced
abbrev pub slices_of : List ArgData → List ℤ
slices_of args = filter_map slice_of args

-- ---- faults

abbrev pub is_one : ℕ → Bool
is_one count = nat_eq count 1

abbrev pub is_empty : {A : Type 0} → List A → Bool
is_empty [] = true
is_empty (x ∷ xs) = false

-- where one is required, just one slices
abbrev pub wrong_count : SizeRuleData → List ArgData → Option SizeFault
wrong_count rule args = fault_where (rule.require_one && (not (is_empty rule.slicing) && not (is_one (slicing_count args)))) (SlicingCount (slicing_count args))

abbrev pub if_negative : ℤ → Option SizeFault
if_negative z = fault_where (int_lt z (pos 0)) (NegativeSlice z)

-- the first that is negative
abbrev pub negative_slice : List ArgData → Option SizeFault
negative_slice args = first_of if_negative (slices_of args)

abbrev pub slicing_fault : SizeRuleData → List ArgData → Option SizeFault
slicing_fault rule args = or_else (wrong_count rule args) (negative_slice args)

-- ---- the table: the first line that applies

abbrev pub greatest_with : ℕ → Option ℕ → Option ℕ
greatest_with n None = Some n
greatest_with n (Some m) = Some (max n m)

-- the greatest of some numbers
abbrev pub greatest_of : List ℤ → Option ℕ
greatest_of [] = None
greatest_of (z ∷ zs) = greatest_with (nat_abs z) (greatest_of zs)

-- the size that the field above hands down
abbrev pub handed_or : Option ℕ → Result Size SizeFault → Result Size SizeFault
handed_or (Some n) other = Ok (At n)
handed_or None other = other

-- the faults of the slicing arguments
abbrev pub refused_or : Option SizeFault → Size → Result Size SizeFault
refused_or (Some fault) size = Err fault
refused_or None size = Ok size

-- the greatest slicing value
abbrev pub sliced_or : Option ℕ → Size → Size
sliced_or (Some n) other = At n
sliced_or None other = other

-- `assumedSize`
abbrev pub assumed_or : Option ℤ → Size → Size
assumed_or (Some z) other = At (nat_abs z)
assumed_or None other = other

-- any length, where the items are leaves that weigh nothing
abbrev pub free_or : Bool → Size → Size
free_or true other = Any
free_or false other = other

-- without a fault, and without a size that is handed down: the size by what is left of the table, which ends with the size
-- of lists that declare none
abbrev pub listed_size : SizeRuleData → ℕ → List ArgData → Size
listed_size rule undeclared args = sliced_or (greatest_of (slices_of args)) (assumed_or rule.assumed (free_or rule.is_free (At undeclared)))

-- the declared size, where these are the slicing arguments
abbrev pub size_with : SizeRuleData → ℕ → List ArgData → Result Size SizeFault
size_with rule undeclared args = refused_or (slicing_fault rule args) (listed_size rule undeclared args)

abbrev pub declared_size : SizeRuleData → ℕ → List ArgData → Option ℕ → Result Size SizeFault
declared_size rule undeclared args handed = handed_or handed (size_with rule undeclared (slicing_args rule.slicing args))
