-- Documents without the offsets of their names.
use Rattle.std.specs.Prelude.{List, map, Option, None, Some}
use Rattle.gql_base.specs.ways.Reading.{Identifier}
use Rattle.gql_base.specs.parts.Values.{ValueTree, NamedValue}
use Rattle.gql_base.specs.printing.PlacelessSymbols.{name_placeless}
use Rattle.gql_base.specs.printing.PrintedTrees.{placeless, type_placeless}
use Rattle.gql_base.specs.parts.Arguments.{DirectiveTree}
use Rattle.document_reader.specs.Documents.{FieldNames, SelectionTree, field_selection, fragment_spread, inline_fragment, SelectionTrees, no_selection, selection_then, VariableTree, DefinitionTree, operation_tree, fragment_tree}

abbrev pub maybe_name_placeless : Option Identifier → Option Identifier
maybe_name_placeless None = None
maybe_name_placeless (Some name) = Some (name_placeless name)

abbrev pub names_placeless : FieldNames → FieldNames
names_placeless names = (name_placeless names.0, maybe_name_placeless names.1)

abbrev pub argument_placeless : NamedValue → NamedValue
argument_placeless a = (name_placeless a.0, placeless a.1)

abbrev pub directive_placeless : DirectiveTree → DirectiveTree
directive_placeless d = (name_placeless d.0, map argument_placeless d.1)

unfoldable mutual
  pub selection_placeless : SelectionTree → SelectionTree
  selection_placeless (field_selection names arguments directives below) = field_selection (names_placeless names) (map argument_placeless arguments) (map directive_placeless directives) (selections_placeless below)
  selection_placeless (fragment_spread name directives) = fragment_spread (name_placeless name) (map directive_placeless directives)
  selection_placeless (inline_fragment on directives below) = inline_fragment (maybe_name_placeless on) (map directive_placeless directives) (selections_placeless below)

  pub selections_placeless : SelectionTrees → SelectionTrees
  selections_placeless no_selection = no_selection
  selections_placeless (selection_then s others) = selection_then (selection_placeless s) (selections_placeless others)

abbrev pub default_placeless : Option ValueTree → Option ValueTree
default_placeless None = None
default_placeless (Some value) = Some (placeless value)

abbrev pub variable_placeless : VariableTree → VariableTree
variable_placeless v = (name_placeless v.0, type_placeless v.1, default_placeless v.2, map directive_placeless v.3)

abbrev pub definition_placeless : DefinitionTree → DefinitionTree
definition_placeless (operation_tree kind name variables directives below) = operation_tree kind (maybe_name_placeless name) (map variable_placeless variables) (map directive_placeless directives) (selections_placeless below)
definition_placeless (fragment_tree name on directives below) = fragment_tree (name_placeless name) (name_placeless on) (map directive_placeless directives) (selections_placeless below)

-- a document without the offsets of its names
abbrev pub document_placeless : List DefinitionTree → List DefinitionTree
document_placeless = map definition_placeless
