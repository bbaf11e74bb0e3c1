-- What is printed of a document is written as the same document, offsets aside, and nested no deeper.
use Rattle.std.proofs.Common.{ℕ, suc, ◌≡◌, ◌≤◌, inl, inr, Bool, true, false, List, [], ◌∷◌, ◌++◌, map, Option, None, Some, refl, ap, ◌∙◌, subst, append_assoc, arith}
use Rattle.std.specs.Prelude.{codes}
use Rattle.std.specs.Str.{bytes_eq}
use Rattle.gql_base.specs.declared.lexical.token.TokenKind.TheVariants.{Dollar, Colon, Equals, At, Spread, OpenBrace, CloseBrace}
use Rattle.gql_base.specs.declared.parts.trees.OperationKind.{OperationKind}
use Rattle.gql_base.specs.declared.parts.trees.OperationKind.TheVariants.{Query, Mutation, Subscription}
use Rattle.gql_base.specs.ways.Symbols.{Symbol, punctuator, identifier, integer, decimal, string, Symbols}
use Rattle.gql_base.specs.ways.Reading.{Identifier, exact, any_name, second, some_second}
use Rattle.gql_base.specs.ways.Grammar.{Nested, Within, Single, Pair, Image, Optional}
use Rattle.gql_base.specs.parts.Values.{NamedValue, named_value_of}
use Rattle.gql_base.specs.printing.PrintedTrees.{printed_name}
use Rattle.gql_base.proofs.WayLaws.ReadingLaws.{within_front, within_back}
use Rattle.gql_base.proofs.PrintingLaws.PrintedLaws.{Rewritten, bracketed_rewritten, value_rewritten, type_rewritten}
use Rattle.gql_base.specs.parts.Arguments.{DirectiveTree, IsArgument, AreArguments, IsDirective, AreDirectives, IsDefault}
use Rattle.gql_base.specs.parts.OperationKinds.{kind_word}
use Rattle.gql_base.proofs.PrintingLaws.Rewriting.{Rewrites, joined_rewritten, same_symbols, three_parts, optional_rewritten, rewrites_single, rewrites_mark, rewrites_pair, rewrites_image, rewrites_optional, rewrites_repeated, rewrites_one_or_more, rewrites_parentheses}
use Rattle.document_reader.specs.Documents.{FieldNames, SelectionTree, field_selection, fragment_spread, inline_fragment, SelectionTrees, no_selection, selection_then, DefinitionTree, on_word, fragment_word, unless, fragment_name, AreFieldNames, IsFieldHead, IsTypeCondition, IsSpreadEnd, IsInlineHead, IsSelection, IsSelectionSet, AreSelections, variable_of, IsVariable, IsOperationHead, bare_operation, operation_of, head_of_fragment, IsFragmentHead, fragment_of, IsDefinition, IsDocument}
use Rattle.document_reader.specs.PrintedDocuments.{argument_symbols, arguments_symbols, directive_symbols, directives_symbols, names_symbols, condition_symbols, selection_symbols, set_symbols, selections_symbols, default_symbols, variable_symbols, variables_symbols, kind_name, maybe_name_symbols, definition_symbols, document_symbols}
use Rattle.gql_base.specs.printing.PlacelessSymbols.{name_placeless}
use Rattle.document_reader.specs.PlacelessDocuments.{maybe_name_placeless, names_placeless, argument_placeless, directive_placeless, selection_placeless, selections_placeless, default_placeless, variable_placeless, definition_placeless, document_placeless}
use Rattle.document_reader.proofs.AlikeSelections.{head_placeless}

-- names, arguments and directives

name_rewrites : {n d : ℕ} → Rewrites n (Single any_name d) name_placeless (λ name. printed_name name.0 ∷ [])
name_rewrites = rewrites_single any_name (λ name. printed_name name.0) (λ w a e. refl)

argument_rewrites : {n d : ℕ} (c : Bool) → Rewrites n (IsArgument c d) argument_placeless argument_symbols
argument_rewrites {n = n} {d = d} c = rewrites_image named_value_of (rewrites_pair name_rewrites (rewrites_pair (rewrites_mark Colon) (record { says = value_rewritten n c d }))) (λ p. refl) (λ p ws is. refl)

maybe_arguments_rewrites : {n d : ℕ} (c : Bool) → Rewrites n (Optional [] (AreArguments c d)) (map argument_placeless) arguments_symbols
maybe_arguments_rewrites c = rewrites_optional [] (rewrites_parentheses (argument_rewrites c)) refl refl

directives_rewrite : {n d : ℕ} (c : Bool) → Rewrites n (AreDirectives c d) (map directive_placeless) directives_symbols
directives_rewrite {n = n} {d = d} c = rewrites_repeated one
  where
    one : Rewrites n (IsDirective c d) directive_placeless directive_symbols
    one = rewrites_image second (rewrites_pair (rewrites_mark At) (rewrites_pair name_rewrites (maybe_arguments_rewrites c))) (λ p. refl) (λ p ws is. refl)

-- selections

field_names_rewrite : {n d : ℕ} → Rewrites n (AreFieldNames d) names_placeless names_symbols
field_names_rewrite {n = n} {d = d} = record { says = λ p ws is b. same_symbols ((rewrites_pair name_rewrites (rewrites_optional None second_name refl refl)).says p ws is b) (by_second p.0 p.1) }
  where
    second_symbols : Option Identifier → Symbols
    second_symbols None = []
    second_symbols (Some name) = punctuator Colon ∷ printed_name name.0 ∷ []

    by_second : (first : Identifier) (second : Option Identifier) → printed_name first.0 ∷ second_symbols second ≡ names_symbols (first, second)
    by_second first None = refl
    by_second first (Some name) = refl

    second_name : Rewrites n (Image some_second (Pair (Single (exact Colon) d) (Single any_name d))) maybe_name_placeless second_symbols
    second_name = rewrites_image some_second (rewrites_pair (rewrites_mark Colon) name_rewrites) (λ p. refl) (λ p ws is. refl)

abbrev head_symbols : FieldNames × (List NamedValue × List DirectiveTree) → Symbols
head_symbols p = names_symbols p.0 ++ (arguments_symbols p.1.0 ++ directives_symbols p.1.1)

field_head_rewrites : {n d : ℕ} → Rewrites n (IsFieldHead d) head_placeless head_symbols
field_head_rewrites = rewrites_pair field_names_rewrite (rewrites_pair (maybe_arguments_rewrites false) (directives_rewrite false))

abbrev SameName : Option Identifier → Option Identifier → Type 0
SameName a b = a ≡ b

unless_again : (bytes : List ℕ) (at : ℕ) (b : Bool) (a : Identifier) → SameName (unless b (bytes, at)) (Some a) → (bytes ≡ a.0) × SameName (unless b (bytes, 0)) (Some (bytes, 0))
unless_again bytes at true a e = cc
unless_again bytes at false a e = let same : (bytes, at) ≡ a = cc in (ap (λ (x : Identifier). x.0) same, refl)

-- a name that is a fragment's is one at every place
fragment_again : (w : Symbol) (a : Identifier) → fragment_name w ≡ Some a → fragment_name (printed_name a.0) ≡ Some (name_placeless a)
fragment_again (punctuator kind) a e = cc
fragment_again (integer v) a e = cc
fragment_again (decimal bytes) a e = cc
fragment_again (string v) a e = cc
fragment_again (identifier bytes at) a e = let p = unless_again bytes at (bytes_eq bytes (codes "on")) a e in
    subst (λ (l : List ℕ). SameName (fragment_name (printed_name l)) (Some (l, 0))) p.0 p.1

fragment_name_rewrites : {n d : ℕ} → Rewrites n (Single fragment_name d) name_placeless (λ name. printed_name name.0 ∷ [])
fragment_name_rewrites = rewrites_single fragment_name (λ name. printed_name name.0) fragment_again

spread_end_rewrites : {n d : ℕ} → Rewrites n (IsSpreadEnd d) (λ p. (name_placeless p.0, map directive_placeless p.1)) (λ p. printed_name p.0.0 ∷ directives_symbols p.1)
spread_end_rewrites = rewrites_pair fragment_name_rewrites (directives_rewrite false)

on_word_rewrites : {n d : ℕ} → Rewrites n (Single on_word d) (λ a. a) (λ a. printed_name (codes "on") ∷ [])
on_word_rewrites = rewrites_single on_word (λ a. printed_name (codes "on")) (λ w a e. refl)

inline_head_rewrites : {n d : ℕ} → Rewrites n (IsInlineHead d) (λ p. (maybe_name_placeless p.0, map directive_placeless p.1)) (λ p. condition_symbols p.0 ++ directives_symbols p.1)
inline_head_rewrites {n = n} {d = d} = rewrites_pair (rewrites_optional None condition refl refl) (directives_rewrite false)
  where
    condition : Rewrites n (IsTypeCondition d) maybe_name_placeless condition_symbols
    condition = rewrites_image some_second (rewrites_pair on_word_rewrites name_rewrites) (λ p. refl) (λ p ws is. refl)

pub regrouped : (first second third rest : Symbols) → (first ++ (second ++ third)) ++ rest ≡ first ++ (second ++ (third ++ rest))
regrouped first second third rest = append_assoc first (second ++ third) rest ∙ ap (λ l. first ++ l) (append_assoc second third rest)

mutual
  unfolding IsSelection selection_symbols selection_placeless

  selection_rewritten : (n d : ℕ) (s : SelectionTree) (ws : Nested) → IsSelection d s ws → Within n ws → Rewritten n (IsSelection d (selection_placeless s)) (selection_symbols s)
  selection_rewritten n d (field_selection names arguments directives below) ws is b =
      let h : Within n (is.0 ++ is.1) = subst (Within n) is.2 b in
      same_symbols (joined_rewritten (field_head_rewrites.says (names, (arguments, directives)) is.0 is.3 (within_front n is.0 is.1 h)) (optional_rewritten (IsSelectionSet d) selections_placeless set_symbols no_selection refl refl below is.1 (λ set. set_rewritten n d below is.1 set (within_back n is.0 is.1 h)) is.4))
      (regrouped (names_symbols names) (arguments_symbols arguments) (directives_symbols directives) (set_symbols below))
  selection_rewritten n d (fragment_spread name directives) ws is b =
      let h : Within n (is.0 ++ is.1) = subst (Within n) is.2 b in
      joined_rewritten ((rewrites_mark Spread).says tt is.0 is.3 (within_front n is.0 is.1 h)) (spread_end_rewrites.says (name, directives) is.1 is.4 (within_back n is.0 is.1 h))
  selection_rewritten n d (inline_fragment on directives below) ws is b =
      let h : Within n (is.0 ++ (is.1 ++ is.2)) = subst (Within n) is.3 b in
      let k : Within n (is.1 ++ is.2) = within_back n is.0 (is.1 ++ is.2) h in
      let r = joined_rewritten ((rewrites_mark Spread).says tt is.0 is.4 (within_front n is.0 (is.1 ++ is.2) h))
      (joined_rewritten (inline_head_rewrites.says (on, directives) is.1 is.5 (within_front n is.1 is.2 k)) (set_rewritten n d below is.2 is.6 (within_back n is.1 is.2 k))) in
      record {
        front = r.front;
        same = r.same ∙ ap (λ (l : Symbols). punctuator Spread ∷ l) (append_assoc (condition_symbols on) (directives_symbols directives) (set_symbols below));
        within = r.within;
        written = three_parts r.front r.written;
      }

  set_rewritten : (n d : ℕ) (ss : SelectionTrees) (ws : Nested) → IsSelectionSet d ss ws → Within n ws → Rewritten n (IsSelectionSet d (selections_placeless ss)) (set_symbols ss)
  set_rewritten n d no_selection ws is b = absurd is
  set_rewritten n d (selection_then s others) ws is b = bracketed_rewritten n d OpenBrace CloseBrace _ _ ws (selection_symbols s ++ selections_symbols others) is b
      (λ inner are w. let h : Within n (are.0 ++ are.1) = subst (Within n) are.2 w in
      joined_rewritten (selection_rewritten n (suc d) s are.0 are.3 (within_front n are.0 are.1 h)) (selections_rewritten n (suc d) others are.1 are.4 (within_back n are.0 are.1 h)))

  selections_rewritten : (n d : ℕ) (ss : SelectionTrees) (ws : Nested) → AreSelections d ss ws → Within n ws → Rewritten n (AreSelections d (selections_placeless ss)) (selections_symbols ss)
  selections_rewritten n d no_selection ws are b = record { front = []; same = refl; within = tt; written = refl }
  selections_rewritten n d (selection_then s others) ws are b = let h : Within n (are.0 ++ are.1) = subst (Within n) are.2 b in
      joined_rewritten (selection_rewritten n d s are.0 are.3 (within_front n are.0 are.1 h)) (selections_rewritten n d others are.1 are.4 (within_back n are.0 are.1 h))

set_rewrites : {n : ℕ} (d : ℕ) → Rewrites n (IsSelectionSet d) selections_placeless set_symbols
set_rewrites {n = n} d = record { says = set_rewritten n d }

-- variables

variable_rewrites : {n d : ℕ} → Rewrites n (IsVariable d) variable_placeless variable_symbols
variable_rewrites {n = n} {d = d} = rewrites_image variable_of (rewrites_pair (rewrites_mark Dollar) (rewrites_pair name_rewrites (rewrites_pair (rewrites_mark Colon)
    (rewrites_pair (record { says = type_rewritten n d }) (rewrites_pair (rewrites_optional None default refl refl) (directives_rewrite true)))))) (λ p. refl) (λ p ws is. refl)
  where
    default : Rewrites n (IsDefault d) default_placeless default_symbols
    default = rewrites_image some_second (rewrites_pair (rewrites_mark Equals) (record { says = value_rewritten n true d })) (λ p. refl) (λ p ws is. refl)

-- definitions

kind_again : (w : Symbol) (k : OperationKind) → kind_word w ≡ Some k → kind_word (printed_name (kind_name k)) ≡ Some k
kind_again w Query e = refl
kind_again w Mutation e = refl
kind_again w Subscription e = refl

kind_rewrites : {n d : ℕ} → Rewrites n (Single kind_word d) (λ k. k) (λ k. printed_name (kind_name k) ∷ [])
kind_rewrites = rewrites_single kind_word (λ k. printed_name (kind_name k)) kind_again

operation_head_rewrites : {n d : ℕ} → Rewrites n (IsOperationHead d) (λ p. (maybe_name_placeless p.0, (map variable_placeless p.1.0, map directive_placeless p.1.1))) (λ p. maybe_name_symbols p.0 ++ (variables_symbols p.1.0 ++ directives_symbols p.1.1))
operation_head_rewrites {n = n} {d = d} = rewrites_pair (rewrites_optional None name refl refl) (rewrites_pair (rewrites_optional [] (rewrites_parentheses variable_rewrites) refl refl) (directives_rewrite false))
  where
    name : Rewrites n (Image Some (Single any_name d)) maybe_name_placeless maybe_name_symbols
    name = rewrites_image Some name_rewrites (λ p. refl) (λ p ws is. refl)

abbrev WrittenOperation : ℕ → DefinitionTree → Nested → Type 0
WrittenOperation d = Image operation_of (Pair (Single kind_word d) (Pair (IsOperationHead d) (IsSelectionSet d)))

operation_rewrites : {n d : ℕ} → Rewrites n (WrittenOperation d) definition_placeless definition_symbols
operation_rewrites {d = d} = rewrites_image operation_of (rewrites_pair kind_rewrites (rewrites_pair operation_head_rewrites (set_rewrites d))) (λ p. refl)
    (λ p ws is. ap (λ l. printed_name (kind_name p.0) ∷ l) (regrouped (maybe_name_symbols p.1.0.0) (variables_symbols p.1.0.1.0) (directives_symbols p.1.0.1.1) (set_symbols p.1.1)))

abbrev WrittenFragment : ℕ → DefinitionTree → Nested → Type 0
WrittenFragment d = Image fragment_of (Pair (IsFragmentHead d) (IsSelectionSet d))

fragment_rewrites : {n d : ℕ} → Rewrites n (WrittenFragment d) definition_placeless definition_symbols
fragment_rewrites {n = n} {d = d} = rewrites_image fragment_of (rewrites_pair head (set_rewrites d)) (λ p. refl) (λ p ws is. refl)
  where
    head : Rewrites n (IsFragmentHead d) (λ p. (name_placeless p.0, (name_placeless p.1.0, map directive_placeless p.1.1))) (λ p. printed_name (codes "fragment") ∷ printed_name p.0.0 ∷ printed_name (codes "on") ∷ printed_name p.1.0.0 ∷ directives_symbols p.1.1)
    head = rewrites_image head_of_fragment (rewrites_pair (rewrites_single fragment_word (λ a. printed_name (codes "fragment")) (λ w a e. refl)) (rewrites_pair fragment_name_rewrites (rewrites_pair on_word_rewrites (rewrites_pair name_rewrites (directives_rewrite false))))) (λ p. refl) (λ p ws is. refl)

-- a selection set alone, after the word `query`
with_kind : (d : ℕ) (t : DefinitionTree) (ws : Nested) → Image bare_operation (IsSelectionSet d) t ws → WrittenOperation d t ((printed_name (codes "query"), d) ∷ ws)
with_kind d t ws is = ((Query, ((None, ([], [])), is.0)), is.1, ((printed_name (codes "query"), d) ∷ [], ws, refl, (printed_name (codes "query"), refl, refl), ([], ws, refl, ([], [], refl, inr (refl, refl), ([], [], refl, inr (refl, refl), refl)), is.2)))

open_within : (n d : ℕ) (ss : SelectionTrees) (ws : Nested) → IsSelectionSet d ss ws → Within n ws → d ≤ n
unfolding IsSelection
open_within n d no_selection ws is b = absurd is
open_within n d (selection_then s others) ws is b = let h : Within n ((punctuator OpenBrace, suc d) ∷ (is.0 ++ ((punctuator CloseBrace, suc d) ∷ []))) = subst (Within n) is.1 b in omega (arith, h.0)

definition_rewritten : (n d : ℕ) (t : DefinitionTree) (ws : Nested) → IsDefinition d t ws → Within n ws → Rewritten n (IsDefinition d (definition_placeless t)) (definition_symbols t)
unfolding IsDefinition
definition_rewritten n d t ws (inl is) b = let r = operation_rewrites.says t _ (with_kind d t ws is) (open_within n d is.0 ws is.2 b, b) in record { front = r.front; same = r.same; within = r.within; written = inr (inr r.written) }
definition_rewritten n d t ws (inr (inl is)) b = let r = fragment_rewrites.says t ws is b in record { front = r.front; same = r.same; within = r.within; written = inr (inl r.written) }
definition_rewritten n d t ws (inr (inr is)) b = let r = operation_rewrites.says t ws is b in record { front = r.front; same = r.same; within = r.within; written = inr (inr r.written) }

definition_rewrites : {n : ℕ} → Rewrites n (IsDefinition 0) definition_placeless definition_symbols
definition_rewrites {n = n} = record { says = definition_rewritten n 0 }

pub document_rewritten : (n : ℕ) (trees : List DefinitionTree) (ws : Nested) → IsDocument trees ws → Within n ws → Rewritten n (IsDocument (document_placeless trees)) (document_symbols trees)
unfolding IsDocument
document_rewritten n trees ws is b = (rewrites_one_or_more definition_rewrites).says trees ws is b
