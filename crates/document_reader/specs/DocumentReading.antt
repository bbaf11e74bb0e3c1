-- How documents are read, where so many levels may still be opened. These words serve the proof of the readers: what
-- a document is stands in `Documents`.
use Rattle.std.specs.Prelude.{ℕ, zero, suc, ◌-◌, true, false, List, [], ◌∷◌, Option, None, Some}
use Rattle.gql_base.specs.declared.lexical.token.TokenKind.TheVariants.{Dollar, Colon, Spread, OpenParen, CloseParen, OpenBrace, CloseBrace}
use Rattle.gql_base.specs.ways.Reading.{Reader, takes, single, pair, image, choice, optional, one_or_more, second, opener, level, exact, Identifier, any_name, up_to, inside, some_second, is_there}
use Rattle.gql_base.specs.parts.Values.{NamedValue}
use Rattle.gql_base.specs.parts.TypeReferences.{type_at}
use Rattle.gql_base.specs.parts.Arguments.{DirectiveTree, maybe_arguments_at, directives_at, maybe_default_at}
use Rattle.gql_base.specs.parts.OperationKinds.{kind_word}
use Rattle.document_reader.specs.Documents.{FieldNames, SelectionTree, field_selection, fragment_spread, inline_fragment, SelectionTrees, no_selection, selection_then, VariableTree, DefinitionTree, on_word, fragment_word, fragment_name, variable_of, OperationHead, bare_operation, operation_of, FragmentHead, head_of_fragment, fragment_of}

abbrev pub second_name_at : Reader (Option Identifier)
second_name_at = image some_second (pair (single (exact Colon)) (single any_name))

abbrev pub field_names_at : Reader FieldNames
field_names_at = pair (single any_name) (optional (takes (exact Colon)) None second_name_at)

abbrev pub field_head_at : ℕ → Reader (FieldNames × (List NamedValue × List DirectiveTree))
field_head_at left = pair field_names_at (pair (maybe_arguments_at false left) (directives_at false left))

abbrev pub type_condition_at : Reader (Option Identifier)
type_condition_at = image some_second (pair (single on_word) (single any_name))

abbrev pub maybe_condition_at : Reader (Option Identifier)
maybe_condition_at = optional (takes on_word) None type_condition_at

abbrev pub selections_from : List SelectionTree → SelectionTrees
selections_from [] = no_selection
selections_from (s ∷ ss) = selection_then s (selections_from ss)

abbrev pub set_of : List SelectionTree × Unit {0} → SelectionTrees
set_of p = selections_from p.0

abbrev pub field_of : (FieldNames × (List NamedValue × List DirectiveTree)) × SelectionTrees → SelectionTree
field_of p = field_selection p.0.0 p.0.1.0 p.0.1.1 p.1

abbrev pub spread_of : Identifier × List DirectiveTree → SelectionTree
spread_of p = fragment_spread p.0 p.1

abbrev pub inline_of : (Option Identifier × List DirectiveTree) × SelectionTrees → SelectionTree
inline_of p = inline_fragment p.0.0 p.0.1 p.1

abbrev pub maybe_set_with : Reader SelectionTrees → Reader SelectionTrees
maybe_set_with set = optional (takes (exact OpenBrace)) no_selection set

abbrev pub field_with : ℕ → Reader SelectionTrees → Reader SelectionTree
field_with left set = image field_of (pair (field_head_at left) (maybe_set_with set))

abbrev pub spread_at : ℕ → Reader SelectionTree
spread_at left = image spread_of (pair (single fragment_name) (directives_at false left))

abbrev pub inline_head_at : ℕ → Reader (Option Identifier × List DirectiveTree)
inline_head_at left = pair maybe_condition_at (directives_at false left)

abbrev pub inline_with : ℕ → Reader SelectionTrees → Reader SelectionTree
inline_with left set = image inline_of (pair (inline_head_at left) set)

abbrev pub after_dots_with : ℕ → Reader SelectionTrees → Reader SelectionTree
after_dots_with left set = choice (takes fragment_name) (spread_at left) (inline_with left set)

abbrev pub dots_with : ℕ → Reader SelectionTrees → Reader SelectionTree
dots_with left set = image second (pair (single (exact Spread)) (after_dots_with left set))

abbrev pub selection_with : ℕ → Reader SelectionTrees → Reader SelectionTree
selection_with left set = choice (takes (exact Spread)) (dots_with left set) (field_with left set)

abbrev pub in_set : Reader SelectionTree → Reader SelectionTrees
in_set selection = image set_of (pair (one_or_more (up_to CloseBrace) selection) (single (exact CloseBrace)))

-- a selection set
unfoldable pub set_at : ℕ → Reader SelectionTrees
set_at zero = level (exact OpenBrace) None
set_at (suc left) = level (exact OpenBrace) (Some (in_set (selection_with left (set_at left))))

-- the same by its brace and what stands in it
unfoldable pub opened_set_at : ℕ → Reader SelectionTrees
opened_set_at left = image second (pair (opener (exact OpenBrace) left) (in_set (selection_with (left - 1) (set_at (left - 1)))))

abbrev pub variable_at : ℕ → Reader VariableTree
variable_at left = image variable_of (pair (single (exact Dollar)) (pair (single any_name) (pair (single (exact Colon)) (pair (type_at left) (pair (maybe_default_at left) (directives_at true left))))))

abbrev pub variables_at : ℕ → Reader (List VariableTree)
variables_at left = image inside (pair (single (exact OpenParen)) (pair (one_or_more (up_to CloseParen) (variable_at left)) (single (exact CloseParen))))

abbrev pub maybe_variables_at : ℕ → Reader (List VariableTree)
maybe_variables_at left = optional (takes (exact OpenParen)) [] (variables_at left)

abbrev pub maybe_name_at : Reader (Option Identifier)
maybe_name_at = optional (takes any_name) None (image Some (single any_name))

abbrev pub operation_head_at : ℕ → Reader OperationHead
operation_head_at left = pair maybe_name_at (pair (maybe_variables_at left) (directives_at false left))

abbrev pub bare_at : ℕ → Reader DefinitionTree
bare_at left = image bare_operation (set_at left)

abbrev pub operation_at : ℕ → Reader DefinitionTree
operation_at left = image operation_of (pair (single kind_word) (pair (operation_head_at left) (set_at left)))

abbrev pub fragment_head_at : ℕ → Reader FragmentHead
fragment_head_at left = image head_of_fragment (pair (single fragment_word) (pair (single fragment_name) (pair (single on_word) (pair (single any_name) (directives_at false left)))))

abbrev pub fragment_at : ℕ → Reader DefinitionTree
fragment_at left = image fragment_of (pair (fragment_head_at left) (set_at left))

unfoldable pub definition_at : ℕ → Reader DefinitionTree
definition_at left = choice (takes (exact OpenBrace)) (bare_at left) (choice (takes fragment_word) (fragment_at left) (operation_at left))

unfoldable pub document_at : ℕ → Reader (List DefinitionTree)
document_at left = one_or_more is_there (definition_at left)
