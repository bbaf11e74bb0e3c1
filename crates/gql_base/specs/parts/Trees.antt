-- What the parts of trees in the program stand for.
use Rattle.std.specs.Prelude.{map, Option, None, Some}
use Rattle.gql_base.specs.declared.parts.trees.Name.{Name}
use Rattle.gql_base.specs.declared.parts.trees.Directive.{Directive}
use Rattle.gql_base.specs.declared.parts.trees.Value.{Value}
use Rattle.gql_base.specs.declared.parts.trees.Argument.{Argument}
use Rattle.gql_base.specs.declared.parts.trees.Value.TheOpen.{Value-F, Argument-F}
use Rattle.gql_base.specs.declared.parts.trees.Value.TheFolds.{fold-Value, fold-Argument}
use Rattle.gql_base.specs.declared.parts.trees.TypeRef.{TypeRef}
use Rattle.gql_base.specs.declared.parts.trees.TypeRef.TheOpen.{TypeRef-F}
use Rattle.gql_base.specs.declared.parts.trees.TypeRef.TheFolds.{fold-TypeRef}
use Rattle.gql_base.specs.ways.Reading.{Identifier}
use Rattle.gql_base.specs.parts.Values.{ValueTree, variable_value, integer_value, float_value, string_value, boolean_value, null_value, enum_value, list_value, object_value, values_from, fields_from, NamedValue}
use Rattle.gql_base.specs.parts.Arguments.{DirectiveTree}
use Rattle.gql_base.specs.parts.TypeReferences.{TypeTree, named_type, list_type, non_null_type}

abbrev pub identifier_of : Name → Identifier
identifier_of n = (n.text, n.at)

abbrev pub value_step : Value-F ValueTree NamedValue → ValueTree
value_step (Value-F.Var n) = variable_value n.text n.at
value_step (Value-F.Int v) = integer_value v
value_step (Value-F.Float bytes) = float_value bytes
value_step (Value-F.Str v) = string_value v
value_step (Value-F.Bool b) = boolean_value b
value_step Value-F.Null = null_value
value_step (Value-F.EnumName n) = enum_value n.text n.at
value_step (Value-F.List v) = list_value (values_from v.items)
value_step (Value-F.Object v) = object_value (fields_from v.items)

abbrev pub argument_step : Argument-F ValueTree NamedValue → NamedValue
argument_step a = ((a.name.text, a.name.at), a.value)

-- the tree of a value
unfoldable pub value_tree : Value → ValueTree
value_tree = fold-Value ValueTree NamedValue value_step argument_step

-- the name and the tree of the value of an argument
unfoldable pub named_value : Argument → NamedValue
named_value = fold-Argument ValueTree NamedValue value_step argument_step

abbrev pub type_step : TypeRef-F TypeTree → TypeTree
type_step (TypeRef-F.Named n) = named_type n.text n.at
type_step (TypeRef-F.ListOf t) = list_type t.value
type_step (TypeRef-F.NonNull t) = non_null_type t.value

-- the tree of a type
unfoldable pub type_tree : TypeRef → TypeTree
type_tree = fold-TypeRef TypeTree type_step

-- the tree of a directive
abbrev pub directive_tree : Directive → DirectiveTree
directive_tree d = (identifier_of d.name, map named_value d.arguments.items)

-- the tree of a value that may be left out
abbrev pub maybe_value : Option Value → Option ValueTree
maybe_value None = None
maybe_value (Some v) = Some (value_tree v)
