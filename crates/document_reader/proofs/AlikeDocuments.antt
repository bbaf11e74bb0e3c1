-- The same symbols at other offsets are the same definitions and documents, but for the offsets of their names.
use Rattle.std.proofs.Common.{ℕ, true, false, [], None, Some, refl}
use Rattle.std.specs.Prelude.{codes, map}
use Rattle.gql_base.specs.declared.lexical.token.TokenKind.TheVariants.{Dollar, Colon, Equals}
use Rattle.gql_base.specs.ways.Symbols.{punctuator, identifier, integer, decimal, string}
use Rattle.gql_base.specs.ways.Grammar.{Single, Pair, Image, Optional}
use Rattle.gql_base.specs.parts.OperationKinds.{kind_word}
use Rattle.gql_base.specs.ways.Reading.{some_second}
use Rattle.gql_base.specs.parts.Arguments.{IsDefault}
use Rattle.document_reader.specs.Documents.{IsSelectionSet, variable_of, IsVariable, AreVariables, IsOperationHead, bare_operation, operation_of, head_of_fragment, IsFragmentHead, fragment_of, IsDefinition, IsDocument}
use Rattle.gql_base.specs.printing.PlacelessSymbols.{name_placeless}
use Rattle.document_reader.specs.PlacelessDocuments.{maybe_name_placeless, directive_placeless, default_placeless, variable_placeless, definition_placeless, document_placeless}
use Rattle.gql_base.proofs.WayLaws.AlikeLaws.{Alike, whole, both, TakesPlaceless, whole_option, single_alike, mark_alike, name_alike, pair_alike, image_alike, choice_alike, optional_alike, one_or_more_alike}
use Rattle.gql_base.proofs.PartLaws.AlikeTrees.{value_alike, type_alike}
use Rattle.document_reader.proofs.AlikeSelections.{word_alike, fragment_name_alike, parens_alike, directives_alike, set_alike}

-- variables

default_alike : (d : ℕ) → Alike (IsDefault d) default_placeless
default_alike d = image_alike some_second (pair_alike (mark_alike Equals) (value_alike true d)) (λ p. refl)

pub variable_alike : (d : ℕ) → Alike (IsVariable d) variable_placeless
variable_alike d = image_alike variable_of (pair_alike (mark_alike Dollar) (pair_alike name_alike (pair_alike (mark_alike Colon) (pair_alike (type_alike d) (pair_alike (optional_alike None (default_alike d)) (directives_alike true d)))))) (λ p. refl)

maybe_variables_alike : (d : ℕ) → Alike (Optional [] (AreVariables d)) (map variable_placeless)
maybe_variables_alike d = optional_alike [] (parens_alike (variable_alike d))

-- definitions

kind_alike : {d : ℕ} → Alike (Single kind_word d) whole
kind_alike = single_alike kind_word whole same
  where
    same : TakesPlaceless kind_word whole
    same (identifier bytes at) = whole_option _
    same (punctuator kind) = refl
    same (integer value) = refl
    same (decimal bytes) = refl
    same (string value) = refl

operation_head_alike : (d : ℕ) → Alike (IsOperationHead d) (both maybe_name_placeless (both (map variable_placeless) (map directive_placeless)))
operation_head_alike d = pair_alike (optional_alike None (image_alike {g = maybe_name_placeless} Some name_alike (λ n. refl))) (pair_alike (maybe_variables_alike d) (directives_alike false d))

operation_alike : (d : ℕ) → Alike (Image operation_of (Pair (Single kind_word d) (Pair (IsOperationHead d) (IsSelectionSet d)))) definition_placeless
operation_alike d = image_alike operation_of (pair_alike kind_alike (pair_alike (operation_head_alike d) (set_alike d))) (λ p. refl)

fragment_head_alike : (d : ℕ) → Alike (IsFragmentHead d) (both name_placeless (both name_placeless (map directive_placeless)))
fragment_head_alike d = image_alike head_of_fragment (pair_alike (word_alike (codes "fragment")) (pair_alike fragment_name_alike (pair_alike (word_alike (codes "on")) (pair_alike name_alike (directives_alike false d))))) (λ p. refl)

fragment_alike : (d : ℕ) → Alike (Image fragment_of (Pair (IsFragmentHead d) (IsSelectionSet d))) definition_placeless
fragment_alike d = image_alike fragment_of (pair_alike (fragment_head_alike d) (set_alike d)) (λ p. refl)

pub definition_alike : (d : ℕ) → Alike (IsDefinition d) definition_placeless
unfolding IsDefinition
definition_alike d = choice_alike (image_alike bare_operation (set_alike d) (λ s. refl)) (choice_alike (fragment_alike d) (operation_alike d))

-- documents

pub document_alike : Alike IsDocument document_placeless
unfolding IsDocument
document_alike = one_or_more_alike (definition_alike 0)
