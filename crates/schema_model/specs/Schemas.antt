-- The schema that a text says.
use Rattle.std.specs.Prelude.{ℕ, zero, suc, ◌+◌, ℤ, Bool, true, false, List, [], ◌∷◌, ◌++◌, map, length, Option, None, Some, option_map, codes, if◌then◌else◌}
use Rattle.std.specs.Str.{bytes_eq}
use Rattle.gql_base.specs.declared.parts.trees.OperationKind.TheVariants.{Query, Mutation, Subscription}
use Rattle.gql_base.specs.parts.Values.{ValueTree, ValueTrees, no_value, value_then, variable_value, integer_value, float_value, string_value, boolean_value, null_value, enum_value, list_value, object_value, NamedValue}
use Rattle.input_values.specs.inputs.Shapes.{named_shape}
use Rattle.input_values.specs.inputs.Definitions.{InputData}
use Rattle.input_values.specs.coercion.Forms.{InputForm}
use Rattle.schema_rules.specs.declared.kind.Kind.TheVariants.{Union}
use Rattle.schema_rules.specs.Items.{ItemTree, schema_item, root_item, type_item, interface_item, member_item, field_item, argument_item, field_type_item, enum_value_item, input_field_item, directive_item, directive_argument_item}
use Rattle.schema_rules.specs.TypeNames.{NamedKind}
use Rattle.schema_rules.specs.Roots.{root_name}
use Rattle.schema_rules.specs.TooMany.{type_count}
use Rattle.gql_base.specs.parts.Ints.{is_int}
use Rattle.schema_rules.specs.DirectiveUses.{argument_name}
use Rattle.schema_model.specs.Drafts.{InputDraft, FieldDraft, TypeDraft, number_named}
use Rattle.schema_model.specs.Defaults.{default_of}
use Rattle.schema_model.specs.SchemaData.{SizeData, FieldData, TypeData, SchemaData}

-- ---- `@listSize`

-- what an argument of `@listSize` has, if it stands there
abbrev pub value_named : List ℕ → List NamedValue → ValueTree
value_named name [] = null_value
value_named name (a ∷ others) = if bytes_eq (argument_name a) name then a.1 else value_named name others

-- a whole number, where it is an Int
abbrev pub as_int : ℤ → Option ℤ
as_int n = if is_int n then Some n else None

abbrev pub integer_in : ValueTree → Option ℤ
integer_in (integer_value n) = as_int n
integer_in (float_value digits) = None
integer_in (variable_value name at) = None
integer_in (string_value s) = None
integer_in (boolean_value b) = None
integer_in null_value = None
integer_in (enum_value name at) = None
integer_in (list_value values) = None
integer_in (object_value fields) = None

abbrev pub before_texts : ValueTree → List (List ℕ) → List (List ℕ)
before_texts (string_value s) others = s ∷ others
before_texts (variable_value name at) others = others
before_texts (integer_value n) others = others
before_texts (float_value digits) others = others
before_texts (boolean_value b) others = others
before_texts null_value others = others
before_texts (enum_value name at) others = others
before_texts (list_value values) others = others
before_texts (object_value fields) others = others

unfoldable pub texts_of : ValueTrees → List (List ℕ)
texts_of no_value = []
texts_of (value_then v others) = before_texts v (texts_of others)

-- the strings of a list; a single string is a list of one
abbrev pub texts_in : ValueTree → List (List ℕ)
texts_in (list_value values) = texts_of values
texts_in (string_value s) = s ∷ []
texts_in (variable_value name at) = []
texts_in (integer_value n) = []
texts_in (float_value digits) = []
texts_in (boolean_value b) = []
texts_in null_value = []
texts_in (enum_value name at) = []
texts_in (object_value fields) = []

-- a boolean; true where it is absent
abbrev pub boolean_in : ValueTree → Bool
boolean_in (boolean_value b) = b
boolean_in (list_value values) = true
boolean_in (string_value s) = true
boolean_in (variable_value name at) = true
boolean_in (integer_value n) = true
boolean_in (float_value digits) = true
boolean_in null_value = true
boolean_in (enum_value name at) = true
boolean_in (object_value fields) = true

abbrev pub size_of : List NamedValue → SizeData
size_of arguments = record {
  assumed = integer_in (value_named (codes "assumedSize") arguments);
  slicing = texts_in (value_named (codes "slicingArguments") arguments);
  sized = texts_in (value_named (codes "sizedFields") arguments);
  require_one = boolean_in (value_named (codes "requireOneSlicingArgument") arguments);
}

-- ---- types and fields

-- In all of these `form` says what each type asks of the values that are given for it.
abbrev pub input_of : (ℕ → InputForm) → InputDraft → InputData
input_of form d = record { name = d.name; shape = d.shape; default = default_of form d.shape d.default; cost = d.cost }

abbrev pub field_of : (ℕ → InputForm) → ℕ → FieldDraft → FieldData
field_of form owner f = record { name = f.name; owner = owner; shape = f.shape; arguments = map (input_of form) f.arguments; cost = f.cost; size = option_map size_of f.size }

abbrev pub field_name : FieldDraft → List ℕ
field_name f = f.name

-- so many numbers from one on
abbrev pub numbers : ℕ → ℕ → List ℕ
numbers first zero = []
numbers first (suc count) = first ∷ numbers (first + 1) count

-- a type whose fields have these numbers
abbrev pub type_with : (ℕ → InputForm) → List ℕ → TypeDraft → TypeData
type_with form fields d = record { name = d.name; kind = d.kind; names = map field_name d.fields; fields = fields; interfaces = d.interfaces; members = d.members; values = d.values; inputs = map (input_of form) d.inputs; cost = d.cost; lax = d.lax }

-- a type whose first field has this number
abbrev pub type_of : (ℕ → InputForm) → ℕ → TypeDraft → TypeData
type_of form first d = type_with form (numbers first (length d.fields)) d

-- the types, where the first field has this number
abbrev pub types_from : (ℕ → InputForm) → ℕ → List TypeDraft → List TypeData
types_from form first [] = []
types_from form first (d ∷ ds) = type_of form first d ∷ types_from form (first + length d.fields) ds

-- the fields of the types, where the first type has this number
abbrev pub fields_from : (ℕ → InputForm) → ℕ → List TypeDraft → List FieldData
fields_from form owner [] = []
fields_from form owner (d ∷ ds) = map (field_of form owner) d.fields ++ fields_from form (owner + 1) ds

-- ---- the schema

abbrev pub before_directive : ItemTree → List (List ℕ) → List (List ℕ)
before_directive (directive_item name) others = name ∷ others
before_directive (schema_item directives) others = others
before_directive (root_item kind name) others = others
before_directive (type_item name kind is_empty directives) others = others
before_directive (interface_item of name) others = others
before_directive (member_item of name) others = others
before_directive (field_item of name) others = others
before_directive (argument_item of field input) others = others
before_directive (field_type_item of name type directives) others = others
before_directive (enum_value_item of name directives) others = others
before_directive (input_field_item of input) others = others
before_directive (directive_argument_item directive input) others = others

-- the names of the directives that are defined
abbrev pub directives_of : List ItemTree → List (List ℕ)
directives_of [] = []
directives_of (i ∷ items) = before_directive i (directives_of items)

-- a union without members
abbrev pub no_type : TypeData
no_type = record { name = []; kind = Union; names = []; fields = []; interfaces = []; members = []; values = []; inputs = []; cost = None; lax = false }

abbrev pub no_field : FieldData
no_field = record { name = []; owner = 0; shape = named_shape 0 true; arguments = []; cost = None; size = None }

abbrev pub or_zero : Option ℕ → ℕ
or_zero None = 0
or_zero (Some n) = n

-- the schema of these things, whose types have these names and drafts
abbrev pub schema_with : (ℕ → InputForm) → List ItemTree → List NamedKind → List TypeDraft → SchemaData
schema_with form items names drafts = record {
  types = types_from form 0 drafts;
  fields = fields_from form 0 drafts;
  other_type = no_type;
  other_field = no_field;
  directives = directives_of items;
  defined = type_count items;
  query = or_zero (option_map (number_named names) (root_name items names Query));
  mutation = option_map (number_named names) (root_name items names Mutation);
  subscription = option_map (number_named names) (root_name items names Subscription);
}
