-- The names of selections and definitions.
use Rattle.std.proofs.Common.{ℕ, ◌≡◌, List, [], ◌∷◌, ◌++◌, map, Option, None, Some, refl, sym, ap, ◌∙◌, append_assoc, append-nil}
use Rattle.std.specs.List.{flat_map}
use Rattle.gql_base.specs.declared.lexical.token.TokenKind.TheVariants.{CloseBrace}
use Rattle.gql_base.specs.ways.Symbols.{punctuator}
use Rattle.gql_base.specs.ways.Reading.{Identifier}
use Rattle.gql_base.specs.parts.Values.{NamedValue}
use Rattle.gql_base.specs.parts.Arguments.{DirectiveTree}
use Rattle.document_reader.specs.declared.trees.Selection.{Selection}
use Rattle.document_reader.specs.Documents.{FieldNames, field_selection, fragment_spread, inline_fragment, SelectionTrees, no_selection, selection_then}
use Rattle.document_reader.specs.Trees.{selection_tree, set_tree}
use Rattle.document_reader.specs.PrintedDocuments.{arguments_symbols, directives_symbols, names_symbols, condition_symbols, selection_symbols, set_symbols, selections_symbols}
use Rattle.document_reader.proofs.PrintingSteps.{tree_of_spread, open_field}
use Rattle.document_reader.proofs.ReadingSteps.{tree_of_field, tree_of_inline}
use Rattle.typename_rewrite.specs.AddedNames.{names_in}
use Rattle.typename_rewrite.proofs.WordSteps.{names_append, no_names, names_of_name, names_of_mark, names_of_arguments}

-- ---- selections

pub names_of_field : (names : FieldNames) (arguments : List NamedValue) (directives : List DirectiveTree) (below : SelectionTrees)
    → names_in (selection_symbols (field_selection names arguments directives below)) ≡ names_in (names_symbols names) ++ (names_in (arguments_symbols arguments) ++ (names_in (directives_symbols directives) ++ names_in (set_symbols below)))
unfolding selection_symbols
names_of_field names arguments directives below = names_append (names_symbols names) (arguments_symbols arguments ++ (directives_symbols directives ++ set_symbols below))
    ∙ ap (λ l. names_in (names_symbols names) ++ l) (names_append (arguments_symbols arguments) (directives_symbols directives ++ set_symbols below)
    ∙ ap (λ l. names_in (arguments_symbols arguments) ++ l) (names_append (directives_symbols directives) (set_symbols below)))

pub names_of_spread : (name : Identifier) (directives : List DirectiveTree) → names_in (selection_symbols (fragment_spread name directives)) ≡ name.0 ∷ names_in (directives_symbols directives)
unfolding names_in selection_symbols
names_of_spread name directives = refl

pub names_of_inline : (on : Option Identifier) (directives : List DirectiveTree) (below : SelectionTrees)
    → names_in (selection_symbols (inline_fragment on directives below)) ≡ names_in (condition_symbols on) ++ (names_in (directives_symbols directives) ++ names_in (set_symbols below))
unfolding names_in selection_symbols
names_of_inline on directives below = names_append (condition_symbols on) (directives_symbols directives ++ set_symbols below)
    ∙ ap (λ l. names_in (condition_symbols on) ++ l) (names_append (directives_symbols directives) (set_symbols below))

pub names_of_selections : (xs : SelectionTrees) → names_in (set_symbols xs) ≡ names_in (selections_symbols xs)
unfolding names_in selection_symbols
names_of_selections no_selection = refl
names_of_selections (selection_then x xs) = names_append (selection_symbols x ++ selections_symbols xs) (punctuator CloseBrace ∷ []) ∙ append-nil _

one_after_another : (xs : List Selection) → names_in (selections_symbols (set_tree xs)) ≡ flat_map (λ x. names_in (selection_symbols (selection_tree x))) xs
unfolding names_in selection_symbols
one_after_another [] = refl
one_after_another (x ∷ xs) = names_append (selection_symbols (selection_tree x)) (selections_symbols (set_tree xs)) ∙ ap (λ l. names_in (selection_symbols (selection_tree x)) ++ l) (one_after_another xs)

pub names_of_set : (xs : List Selection) → names_in (set_symbols (set_tree xs)) ≡ flat_map (λ x. names_in (selection_symbols (selection_tree x))) xs
names_of_set xs = names_of_selections (set_tree xs) ∙ one_after_another xs

pub ruleset selection_steps = (tree_of_field, tree_of_spread, tree_of_inline, open_field, names_of_field, names_of_spread, names_of_inline, names_of_arguments, append_assoc, append-nil)

-- ---- definitions, symbol by symbol

pub ruleset name_steps = (no_names, names_of_name, names_of_mark, names_append, append_assoc, append-nil)
