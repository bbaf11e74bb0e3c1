-- The symbols in which documents are printed: those of their trees, in the order of the grammar (GraphQL October 2021,
-- 2.2 to 2.12). Where a list is empty, nothing of it is printed.
use Rattle.std.specs.Prelude.{ℕ, List, [], ◌∷◌, ◌++◌, Option, None, Some, codes}
use Rattle.std.specs.List.{flat_map}
use Rattle.gql_base.specs.declared.lexical.token.TokenKind.TheVariants.{Dollar, Colon, Equals, At, Spread, OpenBrace, CloseBrace}
use Rattle.gql_base.specs.declared.parts.trees.OperationKind.{OperationKind}
use Rattle.gql_base.specs.declared.parts.trees.OperationKind.TheVariants.{Query, Mutation, Subscription}
use Rattle.gql_base.specs.ways.Symbols.{punctuator, Symbols}
use Rattle.gql_base.specs.ways.Reading.{Identifier}
use Rattle.gql_base.specs.parts.Values.{ValueTree, NamedValue}
use Rattle.gql_base.specs.printing.PrintedTrees.{printed_name, value_symbols, type_symbols, in_parentheses}
use Rattle.gql_base.specs.parts.Arguments.{DirectiveTree}
use Rattle.document_reader.specs.Documents.{FieldNames, SelectionTree, field_selection, fragment_spread, inline_fragment, SelectionTrees, no_selection, selection_then, VariableTree, DefinitionTree, operation_tree, fragment_tree}

abbrev pub argument_symbols : NamedValue → Symbols
argument_symbols a = printed_name a.0.0 ∷ punctuator Colon ∷ value_symbols a.1

abbrev pub arguments_symbols : List NamedValue → Symbols
arguments_symbols = in_parentheses argument_symbols

abbrev pub directive_symbols : DirectiveTree → Symbols
directive_symbols d = punctuator At ∷ printed_name d.0.0 ∷ arguments_symbols d.1

abbrev pub directives_symbols : List DirectiveTree → Symbols
directives_symbols = flat_map directive_symbols

-- an alias stands before the name, with a colon between them
abbrev pub names_symbols : FieldNames → Symbols
names_symbols (name, None) = printed_name name.0 ∷ []
names_symbols (alias, Some name) = printed_name alias.0 ∷ punctuator Colon ∷ printed_name name.0 ∷ []

abbrev pub condition_symbols : Option Identifier → Symbols
condition_symbols None = []
condition_symbols (Some on) = printed_name (codes "on") ∷ printed_name on.0 ∷ []

unfoldable mutual
  pub selection_symbols : SelectionTree → Symbols
  selection_symbols (field_selection names arguments directives below) = names_symbols names ++ (arguments_symbols arguments ++ (directives_symbols directives ++ set_symbols below))
  selection_symbols (fragment_spread name directives) = punctuator Spread ∷ printed_name name.0 ∷ directives_symbols directives
  selection_symbols (inline_fragment on directives below) = punctuator Spread ∷ (condition_symbols on ++ (directives_symbols directives ++ set_symbols below))

  -- selections in braces, if there are any
  pub set_symbols : SelectionTrees → Symbols
  set_symbols no_selection = []
  set_symbols (selection_then s others) = punctuator OpenBrace ∷ ((selection_symbols s ++ selections_symbols others) ++ (punctuator CloseBrace ∷ []))

  pub selections_symbols : SelectionTrees → Symbols
  selections_symbols no_selection = []
  selections_symbols (selection_then s others) = selection_symbols s ++ selections_symbols others

abbrev pub default_symbols : Option ValueTree → Symbols
default_symbols None = []
default_symbols (Some value) = punctuator Equals ∷ value_symbols value

abbrev pub variable_symbols : VariableTree → Symbols
variable_symbols v = punctuator Dollar ∷ printed_name v.0.0 ∷ punctuator Colon ∷ (type_symbols v.1 ++ (default_symbols v.2 ++ directives_symbols v.3))

abbrev pub variables_symbols : List VariableTree → Symbols
variables_symbols = in_parentheses variable_symbols

abbrev pub kind_name : OperationKind → List ℕ
kind_name Query = codes "query"
kind_name Mutation = codes "mutation"
kind_name Subscription = codes "subscription"

abbrev pub maybe_name_symbols : Option Identifier → Symbols
maybe_name_symbols None = []
maybe_name_symbols (Some name) = printed_name name.0 ∷ []

-- An operation begins with its kind, also where it was written as a selection set alone.
abbrev pub definition_symbols : DefinitionTree → Symbols
definition_symbols (operation_tree kind name variables directives below) = printed_name (kind_name kind) ∷ (maybe_name_symbols name ++ (variables_symbols variables ++ (directives_symbols directives ++ set_symbols below)))
definition_symbols (fragment_tree name on directives below) = printed_name (codes "fragment") ∷ printed_name name.0 ∷ printed_name (codes "on") ∷ printed_name on.0 ∷ (directives_symbols directives ++ set_symbols below)

-- The definitions of a document in their order.
abbrev pub document_symbols : List DefinitionTree → Symbols
document_symbols = flat_map definition_symbols
