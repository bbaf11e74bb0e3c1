-- What documents of the program and their parts stand for.
use Rattle.std.specs.Prelude.{List, map, Option, None, Some}
use Rattle.gql_base.specs.declared.parts.trees.Name.{Name}
use Rattle.gql_base.specs.ways.Reading.{Identifier}
use Rattle.gql_base.specs.parts.Trees.{identifier_of, named_value, type_tree, directive_tree, maybe_value}
use Rattle.document_reader.specs.declared.trees.Selection.{Selection}
use Rattle.document_reader.specs.declared.trees.Selection.TheOpen.{Selection-F, Field-F}
use Rattle.document_reader.specs.declared.trees.Selection.TheFolds.{fold-Selection, fold-Field}
use Rattle.document_reader.specs.declared.trees.Field.{Field}
use Rattle.document_reader.specs.declared.trees.VariableDef.{VariableDef}
use Rattle.document_reader.specs.declared.trees.Operation.{Operation}
use Rattle.document_reader.specs.declared.trees.Fragment.{Fragment}
use Rattle.document_reader.specs.declared.trees.Definition.{Definition}
use Rattle.document_reader.specs.declared.trees.Definition.TheVariants.{Op, Frag}
use Rattle.document_reader.specs.Documents.{FieldNames, SelectionTree, field_selection, fragment_spread, inline_fragment, SelectionTrees, VariableTree, DefinitionTree, operation_tree, fragment_tree}
use Rattle.document_reader.specs.DocumentReading.{selections_from}

abbrev pub maybe_identifier : Option Name → Option Identifier
maybe_identifier None = None
maybe_identifier (Some n) = Some (identifier_of n)

-- the first name of a field and the second: an alias stands before the name
abbrev pub names_of : Option Name → Name → FieldNames
names_of None name = (identifier_of name, None)
names_of (Some alias) name = (identifier_of alias, Some (identifier_of name))

abbrev pub selection_step : Selection-F SelectionTree SelectionTree → SelectionTree
selection_step (Selection-F.Field f) = f
selection_step (Selection-F.Spread name directives) = fragment_spread (identifier_of name) (map directive_tree directives.items)
selection_step (Selection-F.Inline on directives selections) = inline_fragment (maybe_identifier on) (map directive_tree directives.items) (selections_from selections.items)

abbrev pub field_step : Field-F SelectionTree SelectionTree → SelectionTree
field_step f = field_selection (names_of f.alias f.name) (map named_value f.arguments.items) (map directive_tree f.directives.items) (selections_from f.selections.items)

unfoldable pub selection_tree : Selection → SelectionTree
selection_tree = fold-Selection SelectionTree SelectionTree selection_step field_step

unfoldable pub field_tree : Field → SelectionTree
field_tree = fold-Field SelectionTree SelectionTree selection_step field_step

-- the trees of selections
abbrev pub set_tree : List Selection → SelectionTrees
set_tree selections = selections_from (map selection_tree selections)

abbrev pub variable_tree : VariableDef → VariableTree
variable_tree v = (identifier_of v.name, type_tree v.of, maybe_value v.default, map directive_tree v.directives.items)

abbrev pub tree_of_operation : Operation → DefinitionTree
tree_of_operation o = operation_tree o.kind (maybe_identifier o.name) (map variable_tree o.variables.items) (map directive_tree o.directives.items) (set_tree o.selections.items)

abbrev pub tree_of_fragment : Fragment → DefinitionTree
tree_of_fragment f = fragment_tree (identifier_of f.name) (identifier_of f.on) (map directive_tree f.directives.items) (set_tree f.selections.items)

-- the tree of a definition; it doesn't tell where an operation begins
abbrev pub definition_tree : Definition → DefinitionTree
definition_tree (Op o) = tree_of_operation o
definition_tree (Frag f) = tree_of_fragment f
