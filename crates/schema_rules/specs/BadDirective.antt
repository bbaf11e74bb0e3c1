-- `@cost`, `@listSize` and `@floats` stand at their locations alone, each once at a place, and with the arguments that they have.
use Rattle.std.specs.Prelude.{ℕ, Bool, true, false, not, ◌&&◌, ◌||◌, List, Option}
use Rattle.schema_rules.specs.declared.kind.Kind.{Kind}
use Rattle.schema_rules.specs.declared.kind.Kind.TheVariants.{Scalar, Object, Interface, Union, Enum, Input}
use Rattle.schema_rules.specs.Kinds.{is_scalar}
use Rattle.schema_rules.specs.TypeNames.{is_built_in}
use Rattle.schema_rules.specs.FloatScalar.{is_float_name}
use Rattle.schema_rules.specs.Places.{PlaceTree}
use Rattle.schema_rules.specs.Items.{ItemTree, schema_item, root_item, type_item, interface_item, member_item, field_item, argument_item, field_type_item, enum_value_item, input_field_item, directive_item, directive_argument_item, place_of, input_directives}
use Rattle.schema_rules.specs.DirectiveUses.{are_right}
use Rattle.schema_rules.specs.First.{fault_where, first_of}

-- whether types of a kind may have a weight
abbrev pub may_weigh : Kind → Bool
may_weigh Scalar = true
may_weigh Object = true
may_weigh Interface = false
may_weigh Union = false
may_weigh Enum = true
may_weigh Input = false

-- whether a type of this name and kind may hold numbers that aren't whole: Int, String, Boolean and ID hold none
abbrev pub may_be_lax : List ℕ → Kind → Bool
may_be_lax name kind = is_scalar kind && (is_float_name name || not (is_built_in name))

abbrev pub is_bad_use : ItemTree → Bool
is_bad_use (schema_item directives) = not (are_right false false false directives)
is_bad_use (type_item name kind is_empty directives) = not (are_right (may_weigh kind) false (may_be_lax name kind) directives)
is_bad_use (argument_item of field input) = not (are_right true false false (input_directives input))
is_bad_use (field_type_item of name type directives) = not (are_right true true false directives)
is_bad_use (enum_value_item of name directives) = not (are_right false false false directives)
is_bad_use (input_field_item of input) = not (are_right true false false (input_directives input))
is_bad_use (directive_argument_item directive input) = not (are_right true false false (input_directives input))
is_bad_use (root_item kind name) = false
is_bad_use (interface_item of name) = false
is_bad_use (member_item of name) = false
is_bad_use (field_item of name) = false
is_bad_use (directive_item name) = false

abbrev pub bad_use_at : ItemTree → Option PlaceTree
bad_use_at i = fault_where (is_bad_use i) (place_of i)

-- the place of the first directive that is wrong
abbrev pub bad_directive : List ItemTree → Option PlaceTree
bad_directive items = first_of bad_use_at items
