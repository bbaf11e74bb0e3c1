-- Whether a `@listSize` fits the field that has it, be it the field's own or that of an interface.
use Rattle.std.specs.Prelude.{◌≡◌, ℕ, false, List, None, Some}
use Rattle.schema_model.specs.SchemaData.{FieldData, SizeData, SchemaData, field_at, field_named}
use Rattle.cost_directives.specs.Weighing.{own_size, inherited}
use Rattle.cost_directives.specs.NotAList.{is_no_list}
use Rattle.cost_directives.specs.Dotted.{is_dotted}
use Rattle.cost_directives.specs.SlicingUnknown.{unknown_slicing}
use Rattle.cost_directives.specs.SlicingNotInt.{other_slicing}
use Rattle.cost_directives.specs.SizedOnList.{is_sized_list}
use Rattle.cost_directives.specs.SizedUnknown.{unknown_sized}
use Rattle.cost_directives.specs.NegativeSize.{is_negative}

-- a field as if this size were written at it
abbrev pub with_size : SizeData → FieldData → FieldData
with_size size f = record f { size = Some size }

-- Written at the field itself, the size would pass every test of sizes.
pub record Fits (s : SchemaData) (size : SizeData) (f : FieldData) : Type 0 where
  pub of_a_list : is_no_list (with_size size f) ≡ false
  pub without_paths : is_dotted (with_size size f) ≡ false
  pub slices_by_arguments : unknown_slicing (with_size size f) ≡ None
  pub slices_by_ints : other_slicing s (with_size size f) ≡ None
  pub from_no_list : is_sized_list (with_size size f) ≡ false
  pub to_lists : unknown_sized s (with_size size f) ≡ None
  pub not_negative : is_negative (with_size size f) ≡ false

-- The sizes of all fields, which are named by their types and names, fit them.
abbrev pub SizesFit : SchemaData → Type 0
SizesFit s = (of number : ℕ) (name : List ℕ) (size : SizeData) → field_named s of name ≡ Some number → inherited s own_size (field_at s number) ≡ Some size → Fits s size (field_at s number)
