-- The nestings of the symbols of a document are those that counting brackets gives.
use Rattle.std.proofs.Common.{ℕ, suc, ◌≡◌, inl, inr, true, false, [], ◌++◌, None, Some, refl, sym, subst}
use Rattle.std.specs.Prelude.{codes}
use Rattle.gql_base.specs.declared.lexical.token.TokenKind.TheVariants.{Dollar, Colon, Spread, OpenBrace, CloseBrace}
use Rattle.gql_base.specs.ways.Symbols.{punctuator, identifier, integer, decimal, string}
use Rattle.gql_base.specs.ways.Reading.{exact, some_second}
use Rattle.gql_base.specs.ways.Grammar.{Nested, Single, Pair}
use Rattle.gql_base.proofs.WayLaws.CountedLevels.{Counts, Counted, TakesFlat, joined_counts, single_counted, mark_counted, name_counted, pair_counted, image_counted, choice_counted, optional_counted, one_or_more_counted, bracketed_counts, type_counted}
use Rattle.gql_base.proofs.PartLaws.CountedParts.{word_counted, kind_counted, parens_counted, maybe_arguments_counted, directives_counted, default_counted}
use Rattle.document_reader.specs.Documents.{SelectionTree, field_selection, fragment_spread, inline_fragment, SelectionTrees, no_selection, selection_then, fragment_name, AreFieldNames, IsFieldHead, IsTypeCondition, IsSpreadEnd, IsInlineHead, IsSelection, IsSelectionSet, AreSelections, variable_of, IsVariable, IsOperationHead, bare_operation, operation_of, head_of_fragment, IsFragmentHead, fragment_of, IsDefinition, IsDocument}

-- words

fragment_name_counted : {d : ℕ} → Counted (Single fragment_name d) d
fragment_name_counted = single_counted fragment_name flat
  where
    flat : TakesFlat fragment_name
    flat (identifier bytes at) a e = λ d. (refl, refl)
    flat (punctuator kind) a e = cc
    flat (integer value) a e = cc
    flat (decimal bytes) a e = cc
    flat (string value) a e = cc

-- what selections have beside their selection sets

names_counted : (d : ℕ) → Counted (AreFieldNames d) d
names_counted d = pair_counted name_counted (optional_counted None (image_counted some_second (pair_counted (mark_counted Colon tt (λ d. (refl, refl))) name_counted)))

field_head_counted : (d : ℕ) → Counted (IsFieldHead d) d
field_head_counted d = pair_counted (names_counted d) (pair_counted (maybe_arguments_counted false d) (directives_counted false d))

condition_counted : (d : ℕ) → Counted (IsTypeCondition d) d
condition_counted d = image_counted some_second (pair_counted (word_counted (codes "on")) name_counted)

spread_end_counted : (d : ℕ) → Counted (IsSpreadEnd d) d
spread_end_counted d = pair_counted fragment_name_counted (directives_counted false d)

inline_head_counted : (d : ℕ) → Counted (IsInlineHead d) d
inline_head_counted d = pair_counted (optional_counted None (condition_counted d)) (directives_counted false d)

dots_counted : (d : ℕ) → Counted (Single (exact Spread) d) d
dots_counted d = mark_counted Spread tt (λ d. (refl, refl))

-- selections

none_counts : (d : ℕ) (ws : Nested) → ws ≡ [] → Counts d ws
none_counts d ws e = subst (Counts d) (sym e) (λ rest. refl)

mutual
  unfolding IsSelection

  selection_counts : (d : ℕ) (s : SelectionTree) (ws : Nested) → IsSelection d s ws → Counts d ws
  selection_counts d (field_selection names arguments directives below) ws is = joined_counts d is.0 is.1 ws ((field_head_counted d).counts (names, (arguments, directives)) is.0 is.3) (elim is.4 [
    | inl set ↦ set_counts d below is.1 set
    | inr left_out ↦ none_counts d is.1 left_out.1
  ]) is.2
  selection_counts d (fragment_spread name directives) ws is = joined_counts d is.0 is.1 ws ((dots_counted d).counts tt is.0 is.3) ((spread_end_counted d).counts (name, directives) is.1 is.4) is.2
  selection_counts d (inline_fragment on directives below) ws is =
      let rest : Counts d (is.1 ++ is.2) = joined_counts d is.1 is.2 (is.1 ++ is.2) ((inline_head_counted d).counts (on, directives) is.1 is.5) (set_counts d below is.2 is.6) refl in
      joined_counts d is.0 (is.1 ++ is.2) ws ((dots_counted d).counts tt is.0 is.4) rest is.3

  set_counts : (d : ℕ) (ss : SelectionTrees) (ws : Nested) → IsSelectionSet d ss ws → Counts d ws
  set_counts d no_selection ws is = absurd is
  set_counts d (selection_then s others) ws is = bracketed_counts OpenBrace CloseBrace d (Pair (IsSelection (suc d)) (AreSelections (suc d)) (s, others)) ws (λ d. (refl, refl)) (λ d. (refl, refl)) is
      (λ inner are. joined_counts (suc d) are.0 are.1 inner (selection_counts (suc d) s are.0 are.3) (selections_count (suc d) others are.1 are.4) are.2)

  selections_count : (d : ℕ) (ss : SelectionTrees) (ws : Nested) → AreSelections d ss ws → Counts d ws
  selections_count d no_selection ws are = none_counts d ws are
  selections_count d (selection_then s others) ws are = joined_counts d are.0 are.1 ws (selection_counts d s are.0 are.3) (selections_count d others are.1 are.4) are.2

set_counted : (d : ℕ) → Counted (IsSelectionSet d) d
set_counted d = record { counts = set_counts d }

-- variables

variable_counted : (d : ℕ) → Counted (IsVariable d) d
variable_counted d = image_counted variable_of (pair_counted (mark_counted Dollar tt (λ d. (refl, refl))) (pair_counted name_counted (pair_counted (mark_counted Colon tt (λ d. (refl, refl))) (pair_counted (type_counted d) (pair_counted (optional_counted None (default_counted d)) (directives_counted true d))))))

-- definitions

operation_head_counted : (d : ℕ) → Counted (IsOperationHead d) d
operation_head_counted d = pair_counted (optional_counted None (image_counted Some name_counted)) (pair_counted (optional_counted [] (parens_counted (variable_counted d))) (directives_counted false d))

fragment_head_counted : (d : ℕ) → Counted (IsFragmentHead d) d
fragment_head_counted d = image_counted head_of_fragment (pair_counted (word_counted (codes "fragment")) (pair_counted fragment_name_counted (pair_counted (word_counted (codes "on")) (pair_counted name_counted (directives_counted false d)))))

definition_counted : (d : ℕ) → Counted (IsDefinition d) d
unfolding IsDefinition
definition_counted d = choice_counted (image_counted bare_operation (set_counted d)) (choice_counted (image_counted fragment_of (pair_counted (fragment_head_counted d) (set_counted d))) (image_counted operation_of (pair_counted kind_counted (pair_counted (operation_head_counted d) (set_counted d)))))

pub document_counted : Counted IsDocument 0
unfolding IsDocument
document_counted = one_or_more_counted (definition_counted 0)
