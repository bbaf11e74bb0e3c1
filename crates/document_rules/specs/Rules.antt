-- The rules of documents (GraphQL October 2021, 5), but for those on the merging of fields and on where fragments can
-- apply. Each says where a part breaks it: the offset of the first place of that part.
use Rattle.std.specs.Prelude.{ℕ, Bool, true, false, not, ◌&&◌, ◌||◌, is_some, nat_eq, nat_lt, List, [], ◌∷◌, ◌++◌, map, length, codes, Option, None, Some, if◌then◌else◌}
use Rattle.std.specs.List.{list_any}
use Rattle.std.specs.Str.{bytes_eq}
use Rattle.gql_base.specs.declared.parts.trees.OperationKind.{OperationKind}
use Rattle.gql_base.specs.declared.parts.trees.OperationKind.TheVariants.{Query, Mutation, Subscription}
use Rattle.gql_base.specs.names.Names.{has_name, first_of_name, place_of_name}
use Rattle.gql_base.specs.ways.Reading.{Identifier}
use Rattle.gql_base.specs.parts.Values.{ValueTree, variable_value, integer_value, float_value, string_value, boolean_value, null_value, enum_value, list_value, object_value, NamedValue, fields_from}
use Rattle.gql_base.specs.parts.TypeReferences.{TypeTree, named_type, list_type, non_null_type}
use Rattle.gql_base.specs.parts.Arguments.{DirectiveTree}
use Rattle.gql_base.specs.parts.Trees.{identifier_of}
use Rattle.document_reader.specs.declared.trees.Definition.{Definition}
use Rattle.document_reader.specs.declared.trees.Operation.{Operation}
use Rattle.document_reader.specs.declared.trees.Fragment.{Fragment}
use Rattle.document_reader.specs.Documents.{VariableTree}
use Rattle.document_reader.specs.Trees.{maybe_identifier}
use Rattle.schema_rules.specs.First.{or_else, fault_where, first_of}
use Rattle.schema_rules.specs.Reserved.{begins_reserved}
use Rattle.schema_rules.specs.Kinds.{is_output_only}
use Rattle.schema_model.specs.SchemaData.{SchemaData, type_at, type_named, argument_named, same_text, takes_float}
use Rattle.document_rules.specs.Parts.{FragmentData, fragment_name, operations_of, fragments_of, repeated_at}
use Rattle.document_rules.specs.Met.{Met, inside_at}
use Rattle.document_rules.specs.Sites.{Meaning, no_position, no_such_field, name_of_type, known_field, Site, variable_site, operation_site, fragment_site, field_site, spread_site, inline_site, typename, is_composite, composite_named, type_of_field, directives_at, arguments_at}
use Rattle.document_rules.specs.VariablePlaces.{variables_in_fields, Use, uses_in_fields, fits_condition, has_value, is_usable}

-- ---- 1, 2: the whole document

abbrev pub before_names : Option Identifier → List Identifier → List Identifier
before_names None others = others
before_names (Some name) others = name ∷ others

abbrev pub operation_names : List Operation → List Identifier
operation_names [] = []
operation_names (o ∷ operations) = before_names (maybe_identifier o.name) (operation_names operations)

abbrev pub name_of_fragment : Fragment → Identifier
name_of_fragment f = identifier_of f.name

abbrev pub sooner : ℕ → ℕ → ℕ
sooner a b = if nat_lt b a then b else a

abbrev pub earlier : Option ℕ → Option ℕ → Option ℕ
earlier None other = other
earlier (Some at) None = Some at
earlier (Some at) (Some other) = Some (sooner at other)

-- two operations or two fragments share a name (5.2.1.1, 5.5.1.1)
abbrev pub repeated_name : List Definition → Option ℕ
repeated_name ds = earlier (repeated_at (operation_names (operations_of ds))) (repeated_at (map name_of_fragment (fragments_of ds)))

abbrev pub anonymous_at : Operation → Option ℕ
anonymous_at o = fault_where (not (is_some o.name)) o.at

-- an operation without a name stands beside another one (5.2.2.1)
abbrev pub lone_anonymous : List Definition → Option ℕ
lone_anonymous ds = if nat_lt 1 (length (operations_of ds)) then first_of anonymous_at (operations_of ds) else None

-- ---- 3, 4: the operation

abbrev pub is_subscription : OperationKind → Bool
is_subscription Query = false
is_subscription Mutation = false
is_subscription Subscription = true

-- the operation is a subscription (5.2.3; none of them is answered here)
abbrev pub subscription : Operation → Option ℕ
subscription o = fault_where (is_subscription o.kind) o.at

abbrev pub is_mutation : OperationKind → Bool
is_mutation Query = false
is_mutation Mutation = true
is_mutation Subscription = false

-- it is a mutation, and the schema has no type of mutations (3.3.1)
abbrev pub no_root : SchemaData → Operation → Option ℕ
no_root s o = fault_where (is_mutation o.kind && not (is_some s.mutation)) o.at

-- ---- 5, 6, 7: fragments

-- a spread names no fragment (5.5.2.1)
abbrev pub unknown_fragment : List FragmentData → Site → Option ℕ
unknown_fragment fragments (spread_site within name directives) = fault_where (not (has_name fragment_name fragments name.0)) name.1
unknown_fragment fragments site = None

abbrev pub is_inside : List ℕ → Option ℕ → Bool
is_inside inside None = false
is_inside inside (Some number) = list_any (nat_eq number) inside

-- a spread names a fragment that the walk is inside of (5.5.2.2)
abbrev pub fragment_cycle : List FragmentData → List Met → Site → Option ℕ
fragment_cycle fragments met (spread_site within name directives) = fault_where (is_inside (inside_at met within) (place_of_name fragment_name fragments name.0)) name.1
fragment_cycle fragments met site = None

abbrev pub no_composite : SchemaData → Identifier → Option ℕ
no_composite s name = fault_where (not (is_some (composite_named s name.0))) name.1

abbrev pub no_composite_if_there : SchemaData → Option Identifier → Option ℕ
no_composite_if_there s None = None
no_composite_if_there s (Some name) = no_composite s name

-- a type condition names no object, interface or union type (5.5.1.2, 5.5.1.3)
abbrev pub fragment_on : SchemaData → Site → Option ℕ
fragment_on s (fragment_site on directives) = no_composite s on
fragment_on s (inline_site on directives) = no_composite_if_there s on
fragment_on s site = None

-- ---- 8, 9, 10: directives

-- the names of the two directives that are answered here
abbrev pub is_condition : List ℕ → Bool
is_condition name = bytes_eq name (codes "skip") || bytes_eq name (codes "include")

abbrev pub is_defined : SchemaData → List ℕ → Bool
is_defined s name = has_name same_text s.directives name

abbrev pub unknown_at : SchemaData → DirectiveTree → Option ℕ
unknown_at s d = fault_where (not (is_condition d.0.0 || is_defined s d.0.0)) d.0.1

-- a directive is none of the two, and the schema doesn't define it (5.7.1)
abbrev pub unknown_directive : SchemaData → Site → Option ℕ
unknown_directive s site = first_of (unknown_at s) (directives_at site)

abbrev pub custom_at : SchemaData → DirectiveTree → Option ℕ
custom_at s d = fault_where (not (is_condition d.0.0) && is_defined s d.0.0) d.0.1

-- a directive is none of the two, and the schema defines it
abbrev pub custom_directive : SchemaData → Site → Option ℕ
custom_directive s site = first_of (custom_at s) (directives_at site)

abbrev pub condition_at : DirectiveTree → Option ℕ
condition_at d = fault_where (is_condition d.0.0) d.0.1

abbrev pub is_boolean_or_variable : ValueTree → Bool
is_boolean_or_variable (variable_value name at) = true
is_boolean_or_variable (boolean_value b) = true
is_boolean_or_variable (integer_value n) = false
is_boolean_or_variable (float_value n) = false
is_boolean_or_variable (string_value s) = false
is_boolean_or_variable null_value = false
is_boolean_or_variable (enum_value name at) = false
is_boolean_or_variable (list_value values) = false
is_boolean_or_variable (object_value fields) = false

-- exactly one argument, which is `if` and is a boolean or a variable
abbrev pub is_if : List NamedValue → Bool
is_if [] = false
is_if (a ∷ []) = bytes_eq a.0.0 (codes "if") && is_boolean_or_variable a.1
is_if (a ∷ (b ∷ others)) = false

abbrev pub directive_name : DirectiveTree → List ℕ
directive_name d = d.0.0

-- whether one of the two is used wrongly behind these directives
abbrev pub is_misused : List DirectiveTree → DirectiveTree → Bool
is_misused before d = is_condition d.0.0 && (has_name directive_name before d.0.0 || not (is_if d.1))

-- the first that is used wrongly, behind these directives
unfoldable pub first_misused : List DirectiveTree → List DirectiveTree → Option ℕ
first_misused before [] = None
first_misused before (d ∷ others) = if is_misused before d then Some d.0.1 else first_misused (before ++ (d ∷ [])) others

-- One of the two stands at an operation, a fragment definition or a variable definition, twice at one selection, or without
-- exactly one argument `if` that is a boolean or a variable (5.7.2, 5.7.3, 5.4.2.1).
abbrev pub directive_use : Site → Option ℕ
directive_use (variable_site v) = first_of condition_at (directives_at (variable_site v))
directive_use (operation_site variables directives) = first_of condition_at directives
directive_use (fragment_site on directives) = first_of condition_at directives
directive_use (field_site meaning name arguments directives below) = first_misused [] directives
directive_use (spread_site within name directives) = first_misused [] directives
directive_use (inline_site on directives) = first_misused [] directives

-- ---- 11 to 14: fields

-- whether a schema is that of schemas themselves (4.2), whose own fields have such names; no other schema may have a type of this name
abbrev pub is_meta_schema : SchemaData → Bool
is_meta_schema s = is_some (type_named s (codes "__Schema"))

-- A field other than `__typename` has a name that begins with two underscores. Such fields are asked of the schema of schemas alone (4).
abbrev pub introspection : SchemaData → Site → Option ℕ
introspection s (field_site meaning name arguments directives below) = fault_where (begins_reserved name.0 && not (bytes_eq name.0 typename) && not (is_meta_schema s)) name.1
introspection s site = None

abbrev pub is_no_such_field : Meaning → Bool
is_no_such_field no_position = false
is_no_such_field no_such_field = true
is_no_such_field name_of_type = false
is_no_such_field (known_field field) = false

-- the type has no such field (5.3.1)
abbrev pub unknown_field : Site → Option ℕ
unknown_field (field_site meaning name arguments directives below) = fault_where (is_no_such_field meaning) name.1
unknown_field site = None

abbrev pub is_leaf : SchemaData → Meaning → Bool
is_leaf s no_position = false
is_leaf s no_such_field = false
is_leaf s name_of_type = true
is_leaf s (known_field field) = not (is_composite s (type_of_field s field))

-- a field of a scalar or enum type, or `__typename`, has selections (5.3.3)
abbrev pub leaf_with_selection : SchemaData → Site → Option ℕ
leaf_with_selection s (field_site meaning name arguments directives below) = fault_where (below && is_leaf s meaning) name.1
leaf_with_selection s site = None

abbrev pub is_of_composite : SchemaData → Meaning → Bool
is_of_composite s no_position = false
is_of_composite s no_such_field = false
is_of_composite s name_of_type = false
is_of_composite s (known_field field) = is_composite s (type_of_field s field)

-- a field of a composite type has no selections (5.3.3)
abbrev pub composite_without : SchemaData → Site → Option ℕ
composite_without s (field_site meaning name arguments directives below) = fault_where (not below && is_of_composite s meaning) name.1
composite_without s site = None

-- ---- 15, 16, 17: variables

abbrev pub variable_identifier : VariableTree → Identifier
variable_identifier v = v.0

abbrev pub variable_name : VariableTree → List ℕ
variable_name v = v.0.0

-- two variables share a name (5.8.1)
abbrev pub repeated_variable : Site → Option ℕ
repeated_variable (operation_site variables directives) = repeated_at (map variable_identifier variables)
repeated_variable site = None

-- the name inside of a type
unfoldable pub named_in : TypeTree → Identifier
named_in (named_type name at) = (name, at)
named_in (list_type t) = named_in t
named_in (non_null_type t) = named_in t

abbrev pub is_input : SchemaData → Option ℕ → Bool
is_input s None = false
is_input s (Some number) = not (is_output_only (type_at s number).kind)

abbrev pub no_input : SchemaData → Identifier → Option ℕ
no_input s name = fault_where ((bytes_eq name.0 (codes "Float") && not (takes_float s)) || not (is_input s (type_named s name.0))) name.1

-- a variable's type names no scalar, enum or input object type, or names Float where it may not be used (5.8.2)
abbrev pub variable_type : SchemaData → Site → Option ℕ
variable_type s (variable_site v) = no_input s (named_in v.1)
variable_type s site = None

abbrev pub undeclared : List VariableTree → Identifier → Option ℕ
undeclared variables name = fault_where (not (has_name variable_name variables name.0)) name.1

abbrev pub undefined_in : List VariableTree → List NamedValue → Option ℕ
undefined_in variables arguments = first_of (undeclared variables) (variables_in_fields (fields_from arguments))

abbrev pub undefined_in_directive : List VariableTree → DirectiveTree → Option ℕ
undefined_in_directive variables d = undefined_in variables d.1

-- a variable is used that the operation doesn't declare (5.8.3)
abbrev pub undefined_variable : List VariableTree → Site → Option ℕ
undefined_variable variables site = or_else (undefined_in variables (arguments_at site)) (first_of (undefined_in_directive variables) (directives_at site))

-- ---- 18, 19: arguments

abbrev pub argument_identifier : NamedValue → Identifier
argument_identifier a = a.0

abbrev pub is_unknown_argument : SchemaData → Meaning → List ℕ → Bool
is_unknown_argument s no_position name = false
is_unknown_argument s no_such_field name = false
is_unknown_argument s name_of_type name = true
is_unknown_argument s (known_field field) name = not (is_some (argument_named s field name))

abbrev pub unknown_argument_at : SchemaData → Meaning → NamedValue → Option ℕ
unknown_argument_at s meaning a = fault_where (is_unknown_argument s meaning a.0.0) a.0.1

-- the field has no such argument (5.4.1)
abbrev pub unknown_argument : SchemaData → Site → Option ℕ
unknown_argument s (field_site meaning name arguments directives below) = first_of (unknown_argument_at s meaning) arguments
unknown_argument s site = None

-- an argument of a field is written twice (5.4.2)
abbrev pub repeated_argument : Site → Option ℕ
repeated_argument (field_site meaning name arguments directives below) = repeated_at (map argument_identifier arguments)
repeated_argument site = None

-- ---- 20: places of variables

abbrev pub misplaced_variable : SchemaData → Use → Option VariableTree → Option ℕ
misplaced_variable s u None = None
misplaced_variable s u (Some v) = fault_where (not (is_usable s v u)) u.variable.1

abbrev pub misplaced : SchemaData → List VariableTree → Use → Option ℕ
misplaced s variables u = misplaced_variable s u (first_of_name variable_name variables u.variable.0)

-- the first of the variables that are used in a schema
abbrev pub misplaced_among : SchemaData → List VariableTree → (SchemaData → List Use) → Option ℕ
misplaced_among s variables uses = first_of (misplaced s variables) (uses s)

-- the variables of a field's arguments, which stand like the fields of an object
abbrev pub uses_in_arguments : SchemaData → Meaning → List NamedValue → List Use
uses_in_arguments s no_position arguments = []
uses_in_arguments s no_such_field arguments = []
uses_in_arguments s name_of_type arguments = []
uses_in_arguments s (known_field field) arguments = uses_in_fields s (argument_named s field) (fields_from arguments)

abbrev pub misplaced_in_arguments : SchemaData → List VariableTree → Site → Option ℕ
misplaced_in_arguments s variables (field_site meaning name arguments directives below) = first_of (misplaced s variables) (uses_in_arguments s meaning arguments)
misplaced_in_arguments s variables site = None

-- whether a variable of this type and default fits `Boolean!`
abbrev pub fits_boolean : VariableTree → Bool
fits_boolean v = fits_condition (has_value v.2) v.1

abbrev pub no_condition : ℕ → Option VariableTree → Option ℕ
no_condition at None = None
no_condition at (Some v) = fault_where (not (fits_boolean v)) at

-- An argument of `@skip` and `@include` stands at `Boolean!`.
abbrev pub misplaced_condition : List VariableTree → ValueTree → Option ℕ
misplaced_condition variables (variable_value name at) = no_condition at (first_of_name variable_name variables name)
misplaced_condition variables (integer_value n) = None
misplaced_condition variables (float_value n) = None
misplaced_condition variables (string_value s) = None
misplaced_condition variables (boolean_value b) = None
misplaced_condition variables null_value = None
misplaced_condition variables (enum_value name at) = None
misplaced_condition variables (list_value values) = None
misplaced_condition variables (object_value fields) = None

abbrev pub misplaced_in_condition : List VariableTree → NamedValue → Option ℕ
misplaced_in_condition variables a = misplaced_condition variables a.1

abbrev pub misplaced_in_directive : List VariableTree → DirectiveTree → Option ℕ
misplaced_in_directive variables d = first_of (misplaced_in_condition variables) d.1

-- a variable's type isn't usable where it stands (5.8.5)
abbrev pub variable_place : SchemaData → List VariableTree → Site → Option ℕ
variable_place s variables site = or_else (misplaced_in_arguments s variables site) (first_of (misplaced_in_directive variables) (directives_at site))
