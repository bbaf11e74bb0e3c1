-- The test of a schema that was built: whether it says what the schema of schemas says.
use Rattle.std.specs.Prelude.{ℕ, List, [], ◌∷◌, ◌++◌, Bool, true, false, not, ◌&&◌, nat_eq, is_none, Option, Some, None, codes}
use Rattle.std.specs.List.{list_all}
use Rattle.std.specs.Str.{bytes_eq}
use Rattle.cost_num.specs.declared.TheConstants.{UNIT}
use Rattle.response_model.specs.Plan.{Form, single, listed, LeafType, type_name, numbered}
use Rattle.input_values.specs.values.Coerced.{CoercedTree, coerced_boolean}
use Rattle.input_values.specs.inputs.Definitions.{InputData}
use Rattle.schema_rules.specs.declared.kind.Kind.{Kind}
use Rattle.schema_rules.specs.declared.kind.Kind.TheVariants.{Enum}
use Rattle.schema_rules.specs.Kinds.{is_scalar}
use Rattle.schema_model.specs.Implementing.{agree, is_same}
use Rattle.schema_model.specs.SchemaData.{FieldData, TypeData, SchemaData, type_at, field_at, possible}
use Rattle.cost_directives.specs.Weights.{WeightsData, type_in, field_in, field_numbers}
use Rattle.document_rules.specs.Sites.{is_composite, type_of_field}
use Rattle.plan_model.specs.SelectedFields.{form_of_shape}
use Rattle.asked_fields.specs.declared.asked.Argument.{Argument}
use Rattle.schema_facts.specs.declared.table.What.{What}
use Rattle.schema_facts.specs.Table.{executable_locations, type_system_locations}
use Rattle.meta_schema.specs.MetaTypes.{weight_of}
use Rattle.meta_schema.specs.MetaForms.{form_of, below_of, leaf_type_of, is_of, meta_name, kind_names}
use Rattle.meta_schema.specs.MetaFields.{object_types, arguments_of}
use Rattle.meta_schema.specs.Fields.{what_asked}
use Rattle.meta_schema.specs.declared.tables.FieldForm.{FieldForm}
use Rattle.meta_schema.specs.declared.tables.FieldForm.TheVariants.{Single, Listed}

-- ---- whether two things are the same, where that is told

abbrev pub same_form : Form → Form → Bool
same_form (single a) (single b) = agree a b
same_form (listed a x) (listed b y) = agree a b && agree x y
same_form (single a) (listed b y) = false
same_form (listed a x) (single b) = false

abbrev pub same_names : List (List ℕ) → List (List ℕ) → Bool
same_names [] [] = true
same_names [] (b ∷ ys) = false
same_names (a ∷ xs) [] = false
same_names (a ∷ xs) (b ∷ ys) = bytes_eq a b && same_names xs ys

-- of true, false and no default alone
abbrev pub same_default : Option CoercedTree → Option CoercedTree → Bool
same_default None None = true
same_default (Some (coerced_boolean a)) (Some (coerced_boolean b)) = agree a b
same_default default other = false

-- of those without a weight alone
abbrev pub same_input : InputData → InputData → Bool
same_input a b = bytes_eq a.name b.name && (is_same a.shape b.shape && (same_default a.default b.default && (is_none a.cost && is_none b.cost)))

abbrev pub same_inputs : List InputData → List InputData → Bool
same_inputs [] [] = true
same_inputs [] (b ∷ ys) = false
same_inputs (a ∷ xs) [] = false
same_inputs (a ∷ xs) (b ∷ ys) = same_input a b && same_inputs xs ys

-- ---- what the program has of the tables

abbrev pub form_seen : FieldForm → Form
form_seen (Single nullable) = single nullable
form_seen (Listed nullable) = listed nullable false

abbrev pub leaf_seen : Option ℕ → LeafType
leaf_seen None = type_name
leaf_seen (Some number) = numbered number

-- ---- a field

abbrev pub is_numbered : ℕ → LeafType → Bool
is_numbered of type_name = false
is_numbered of (numbered number) = nat_eq of number

abbrev pub is_only : ℕ → List ℕ → Bool
is_only n [] = false
is_only n (m ∷ []) = nat_eq m n
is_only n (m ∷ (k ∷ ks)) = false

-- whether values of a type of the schema may stand where these are due: leaves of a type that weighs nothing, or objects
-- of one type
abbrev pub may_stand : SchemaData → WeightsData → ℕ → LeafType → Option ℕ → Bool
may_stand s w of leaf None = not (is_composite s of) && (is_numbered of leaf && nat_eq (type_in w of).weight 0)
may_stand s w of leaf (Some U) = is_composite s of && is_only U (possible s of)

-- whether it is the field that is asked for, with its arguments
abbrev pub is_asked_field : SchemaData → WeightsData → ℕ → FieldData → What → Bool
is_asked_field s w number f what =
    is_of f.owner what && (same_form (form_of_shape f.shape) (form_of f.owner what) && (same_inputs (arguments_of what) f.arguments
    && (nat_eq (field_in w number).weight (weight_of what) && may_stand s w (type_of_field s number) (leaf_type_of what) (below_of what))))

abbrev pub no_argument : Argument
no_argument = record { is_true = false; place = None }

-- whether the field of a number is what its name asks
abbrev pub is_field : SchemaData → WeightsData → ℕ → Bool
is_field s w number = is_asked_field s w number (field_at s number) (what_asked (field_at s number).name no_argument)

-- ---- types

-- whether the type of a number has its name, and weighs one
abbrev pub is_object_type : List ℕ → SchemaData → WeightsData → ℕ → Bool
is_object_type query s w T = bytes_eq (type_at s T).name (meta_name query T) && nat_eq (type_in w T).weight UNIT

abbrev pub is_enum : Kind → Bool
is_enum Enum = true
is_enum kind = false

abbrev pub is_enum_of : List (List ℕ) → TypeData → Bool
is_enum_of values t = is_enum t.kind && same_names t.values values

abbrev pub is_scalar_named : List ℕ → TypeData → Bool
is_scalar_named name t = is_scalar t.kind && bytes_eq t.name name

abbrev pub location_names : List (List ℕ)
location_names = executable_locations ++ type_system_locations

-- whether leaves hold what they are to hold
abbrev pub are_leaf_types : SchemaData → Bool
are_leaf_types s =
    is_enum_of kind_names (type_at s 3) && (is_enum_of location_names (type_at s 8)
    && (is_scalar_named (codes "String") (type_at s 11) && is_scalar_named (codes "Boolean") (type_at s 12)))

-- ---- the schema

abbrev pub is_meta : List ℕ → SchemaData → WeightsData → Bool
is_meta query s w = nat_eq s.query 0 && (list_all (is_object_type query s w) object_types && (are_leaf_types s && list_all (is_field s w) (field_numbers s)))
