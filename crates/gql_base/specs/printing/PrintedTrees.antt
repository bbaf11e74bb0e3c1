-- The symbols in which values and types are printed, and trees without the offsets of their names.
use Rattle.std.specs.Prelude.{ℕ, Bool, true, false, List, [], ◌∷◌, ◌++◌, codes}
use Rattle.std.specs.List.{flat_map}
use Rattle.gql_base.specs.declared.lexical.token.TokenKind.TheVariants.{Bang, Dollar, Colon, OpenParen, CloseParen, OpenBracket, CloseBracket, OpenBrace, CloseBrace}
use Rattle.gql_base.specs.ways.Symbols.{Symbol, punctuator, identifier, integer, decimal, string, Symbols}
use Rattle.gql_base.specs.parts.Values.{ValueTree, variable_value, integer_value, float_value, string_value, boolean_value, null_value, enum_value, list_value, object_value, ValueTrees, no_value, value_then, FieldTrees, no_field, field_then}
use Rattle.gql_base.specs.parts.TypeReferences.{TypeTree, named_type, list_type, non_null_type}

-- a name that is printed has no offset
abbrev pub printed_name : List ℕ → Symbol
printed_name bytes = identifier bytes 0

-- things in parentheses, if there are any
abbrev pub in_parentheses : {A : Type 0} → (A → Symbols) → List A → Symbols
in_parentheses symbols [] = []
in_parentheses symbols (a ∷ others) = punctuator OpenParen ∷ (flat_map symbols (a ∷ others) ++ (punctuator CloseParen ∷ []))

abbrev pub boolean_name : Bool → List ℕ
boolean_name true = codes "true"
boolean_name false = codes "false"

unfoldable mutual
  pub value_symbols : ValueTree → Symbols
  value_symbols (variable_value name at) = punctuator Dollar ∷ printed_name name ∷ []
  value_symbols (integer_value v) = integer v ∷ []
  value_symbols (float_value bytes) = decimal bytes ∷ []
  value_symbols (string_value v) = string v ∷ []
  value_symbols (boolean_value b) = printed_name (boolean_name b) ∷ []
  value_symbols null_value = printed_name (codes "null") ∷ []
  value_symbols (enum_value name at) = printed_name name ∷ []
  value_symbols (list_value values) = punctuator OpenBracket ∷ (values_symbols values ++ (punctuator CloseBracket ∷ []))
  value_symbols (object_value fields) = punctuator OpenBrace ∷ (fields_symbols fields ++ (punctuator CloseBrace ∷ []))

  pub values_symbols : ValueTrees → Symbols
  values_symbols no_value = []
  values_symbols (value_then v others) = value_symbols v ++ values_symbols others

  pub fields_symbols : FieldTrees → Symbols
  fields_symbols no_field = []
  fields_symbols (field_then name at v others) = (printed_name name ∷ punctuator Colon ∷ value_symbols v) ++ fields_symbols others

unfoldable pub type_symbols : TypeTree → Symbols
type_symbols (named_type name at) = printed_name name ∷ []
type_symbols (list_type t) = punctuator OpenBracket ∷ (type_symbols t ++ (punctuator CloseBracket ∷ []))
type_symbols (non_null_type t) = type_symbols t ++ (punctuator Bang ∷ [])

-- a value without the offsets of its names
unfoldable mutual
  pub placeless : ValueTree → ValueTree
  placeless (variable_value name at) = variable_value name 0
  placeless (integer_value v) = integer_value v
  placeless (float_value bytes) = float_value bytes
  placeless (string_value v) = string_value v
  placeless (boolean_value b) = boolean_value b
  placeless null_value = null_value
  placeless (enum_value name at) = enum_value name 0
  placeless (list_value values) = list_value (all_placeless values)
  placeless (object_value fields) = object_value (fields_placeless fields)

  pub all_placeless : ValueTrees → ValueTrees
  all_placeless no_value = no_value
  all_placeless (value_then v others) = value_then (placeless v) (all_placeless others)

  pub fields_placeless : FieldTrees → FieldTrees
  fields_placeless no_field = no_field
  fields_placeless (field_then name at v others) = field_then name 0 (placeless v) (fields_placeless others)

-- a type without the offset of its name
unfoldable pub type_placeless : TypeTree → TypeTree
type_placeless (named_type name at) = named_type name 0
type_placeless (list_type t) = list_type (type_placeless t)
type_placeless (non_null_type t) = non_null_type (type_placeless t)
