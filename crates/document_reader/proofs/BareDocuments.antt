-- A document is printed in the symbols that it is written with, without the offsets of names, and the word `query`
-- before each selection set that stands alone. So they can be printed where those can that it is written with.
use Rattle.std.proofs.Common.{ℕ, suc, ◌≡◌, inl, inr, Bool, true, false, List, [], ◌∷◌, ◌++◌, length, All, Option, None, Some, refl, sym, ap, ◌∙◌, subst, append_assoc}
use Rattle.std.specs.Prelude.{codes, if◌then◌else◌}
use Rattle.std.specs.List.{flat_map}
use Rattle.std.specs.Str.{bytes_eq}
use Rattle.std.proofs.lemmas.List.{take_at, drop_at}
use Rattle.std.proofs.lemmas.List.Elements.{All-nil, All-cons, All-head, All-tail, All-append, All-take, All-drop}
use Rattle.std.proofs.lemmas.List.Sums.{AllPass-from_list_all}
use Rattle.std.proofs.lemmas.Slice.Eq.{bytes_eq-Decides}
use Rattle.gql_base.specs.declared.lexical.token.TokenKind.TheVariants.{Dollar, Colon, Equals, At, Spread, OpenBrace, CloseBrace}
use Rattle.gql_base.specs.declared.parts.trees.OperationKind.{OperationKind}
use Rattle.gql_base.specs.declared.parts.trees.OperationKind.TheVariants.{Query, Mutation, Subscription}
use Rattle.gql_base.specs.lexical.Characters.{is_name_continue}
use Rattle.gql_base.specs.ways.Symbols.{Symbol, punctuator, identifier, integer, decimal, string, Symbols}
use Rattle.gql_base.specs.ways.Reading.{Identifier, exact, any_name, second, some_second}
use Rattle.gql_base.specs.ways.Grammar.{Nested, plain, Single, Pair, Image, Optional, Repeated}
use Rattle.gql_base.specs.parts.Values.{named_value_of}
use Rattle.gql_base.specs.printing.PrintedTrees.{printed_name}
use Rattle.gql_base.specs.printing.PlacelessSymbols.{placeless_symbol}
use Rattle.gql_base.specs.printing.PrintableSymbols.{IsTextual}
use Rattle.gql_base.proofs.WayLaws.ReadingLaws.{plain_append}
use Rattle.gql_base.proofs.PrintingLaws.PrintedSymbols.{bare, bare_bracketed, value_is_bare, type_is_bare}
use Rattle.gql_base.specs.parts.OperationKinds.{kind_word}
use Rattle.gql_base.specs.parts.Arguments.{IsArgument, AreArguments, IsDirective, AreDirectives, IsDefault}
use Rattle.gql_base.proofs.PrintingLaws.BareWays.{Bare, joined_bare, bare_single, bare_mark, bare_name, bare_word, bare_pair, bare_image, optional_bare, bare_optional, bare_repeated, bare_parentheses}
use Rattle.document_reader.specs.Documents.{unless, fragment_name, SelectionTree, field_selection, fragment_spread, inline_fragment, SelectionTrees, no_selection, selection_then, DefinitionTree, AreFieldNames, IsFieldHead, IsTypeCondition, IsSpreadEnd, IsInlineHead, IsSelection, IsSelectionSet, AreSelections, variable_of, IsVariable, IsOperationHead, operation_of, head_of_fragment, IsFragmentHead, fragment_of, IsDefinition, IsDocument}
use Rattle.document_reader.specs.PrintedDocuments.{argument_symbols, arguments_symbols, directive_symbols, directives_symbols, names_symbols, condition_symbols, selection_symbols, set_symbols, selections_symbols, default_symbols, variable_symbols, variables_symbols, kind_name, maybe_name_symbols, definition_symbols, document_symbols}
use Rattle.document_reader.proofs.PrintedDocumentLaws.{regrouped}

-- names of fragments

bare_fragment_name : {d : ℕ} → Bare (Single fragment_name d) (λ name. printed_name name.0 ∷ [])
bare_fragment_name = bare_single fragment_name (λ name. printed_name name.0) same
  where
    unless_same : (b : Bool) (x a : Identifier) → unless b x ≡ Some a → printed_name a.0 ≡ printed_name x.0
    unless_same true x a e = cc
    unless_same false x a e = let same : x ≡ a = cc in sym (ap (λ (y : Identifier). printed_name y.0) same)

    same : (w : Symbol) (a : Identifier) → fragment_name w ≡ Some a → printed_name a.0 ≡ placeless_symbol w
    same (punctuator kind) a e = cc
    same (identifier bytes at) a e = unless_same _ (bytes, at) a e
    same (integer value) a e = cc
    same (decimal bytes) a e = cc
    same (string value) a e = cc

-- arguments and directives

argument_bare : {d : ℕ} (c : Bool) → Bare (IsArgument c d) argument_symbols
argument_bare {d = d} c = bare_image named_value_of (bare_pair bare_name (bare_pair (bare_mark Colon tt) (record { says = value_is_bare c d }))) (λ p ws is. refl)

maybe_arguments_bare : {d : ℕ} (c : Bool) → Bare (Optional [] (AreArguments c d)) arguments_symbols
maybe_arguments_bare c = bare_optional [] (bare_parentheses (argument_bare c)) refl

directives_bare : {d : ℕ} (c : Bool) → Bare (AreDirectives c d) directives_symbols
directives_bare {d = d} c = bare_repeated one
  where
    one : Bare (IsDirective c d) directive_symbols
    one = bare_image second (bare_pair (bare_mark At tt) (bare_pair bare_name (maybe_arguments_bare c))) (λ p ws is. refl)

-- selections

field_names_bare : {d : ℕ} → Bare (AreFieldNames d) names_symbols
field_names_bare {d = d} = record { says = λ p ws is. by_second p.0 p.1 ∙ (bare_pair bare_name (bare_optional None second_name refl)).says p ws is }
  where
    second_symbols : Option Identifier → Symbols
    second_symbols None = []
    second_symbols (Some name) = punctuator Colon ∷ printed_name name.0 ∷ []

    by_second : (first : Identifier) (second : Option Identifier) → names_symbols (first, second) ≡ printed_name first.0 ∷ second_symbols second
    by_second first None = refl
    by_second first (Some name) = refl

    second_name : Bare (Image some_second (Pair (Single (exact Colon) d) (Single any_name d))) second_symbols
    second_name = bare_image some_second (bare_pair (bare_mark Colon tt) bare_name) (λ p ws is. refl)

field_head_bare : {d : ℕ} → Bare (IsFieldHead d) (λ p. names_symbols p.0 ++ (arguments_symbols p.1.0 ++ directives_symbols p.1.1))
field_head_bare = bare_pair field_names_bare (bare_pair (maybe_arguments_bare false) (directives_bare false))

spread_end_bare : {d : ℕ} → Bare (IsSpreadEnd d) (λ p. printed_name p.0.0 ∷ directives_symbols p.1)
spread_end_bare = bare_pair bare_fragment_name (directives_bare false)

inline_head_bare : {d : ℕ} → Bare (IsInlineHead d) (λ p. condition_symbols p.0 ++ directives_symbols p.1)
inline_head_bare {d = d} = bare_pair (bare_optional None condition refl) (directives_bare false)
  where
    condition : Bare (IsTypeCondition d) condition_symbols
    condition = bare_image some_second (bare_pair (bare_word (codes "on")) bare_name) (λ p ws is. refl)

mutual
  unfolding IsSelection selection_symbols

  selection_is_bare : (d : ℕ) (s : SelectionTree) (ws : Nested) → IsSelection d s ws → selection_symbols s ≡ bare ws
  selection_is_bare d (field_selection names arguments directives below) ws is =
      sym (regrouped (names_symbols names) (arguments_symbols arguments) (directives_symbols directives) (set_symbols below))
      ∙ joined_bare is.0 is.1 ws (field_head_bare.says (names, (arguments, directives)) is.0 is.3) (optional_bare (IsSelectionSet d) set_symbols no_selection refl below is.1 (λ set. set_is_bare d below is.1 set) is.4) is.2
  selection_is_bare d (fragment_spread name directives) ws is = joined_bare is.0 is.1 ws ((bare_mark Spread tt).says tt is.0 is.3) (spread_end_bare.says (name, directives) is.1 is.4) is.2
  selection_is_bare d (inline_fragment on directives below) ws is =
      ap (λ (l : Symbols). punctuator Spread ∷ l) (sym (append_assoc (condition_symbols on) (directives_symbols directives) (set_symbols below)))
      ∙ joined_bare is.0 (is.1 ++ is.2) ws ((bare_mark Spread tt).says tt is.0 is.4) (joined_bare is.1 is.2 (is.1 ++ is.2) (inline_head_bare.says (on, directives) is.1 is.5) (set_is_bare d below is.2 is.6) refl) is.3

  set_is_bare : (d : ℕ) (ss : SelectionTrees) (ws : Nested) → IsSelectionSet d ss ws → set_symbols ss ≡ bare ws
  set_is_bare d no_selection ws is = absurd is
  set_is_bare d (selection_then s others) ws is = bare_bracketed OpenBrace CloseBrace d _ ws (selection_symbols s ++ selections_symbols others) is
      (λ inner are. joined_bare are.0 are.1 inner (selection_is_bare (suc d) s are.0 are.3) (selections_are_bare (suc d) others are.1 are.4) are.2)

  selections_are_bare : (d : ℕ) (ss : SelectionTrees) (ws : Nested) → AreSelections d ss ws → selections_symbols ss ≡ bare ws
  selections_are_bare d no_selection ws are = ap bare (sym are)
  selections_are_bare d (selection_then s others) ws are = joined_bare are.0 are.1 ws (selection_is_bare d s are.0 are.3) (selections_are_bare d others are.1 are.4) are.2

set_bare : (d : ℕ) → Bare (IsSelectionSet d) set_symbols
set_bare d = record { says = set_is_bare d }

-- variables

variable_bare : {d : ℕ} → Bare (IsVariable d) variable_symbols
variable_bare {d = d} = bare_image variable_of (bare_pair (bare_mark Dollar tt) (bare_pair bare_name (bare_pair (bare_mark Colon tt)
    (bare_pair (record { says = type_is_bare d }) (bare_pair (bare_optional None default refl) (directives_bare true)))))) (λ p ws is. refl)
  where
    default : Bare (IsDefault d) default_symbols
    default = bare_image some_second (bare_pair (bare_mark Equals tt) (record { says = value_is_bare true d })) (λ p ws is. refl)

-- definitions

kind_bare : {d : ℕ} → Bare (Single kind_word d) (λ k. printed_name (kind_name k) ∷ [])
kind_bare = bare_single kind_word (λ k. printed_name (kind_name k)) same
  where
    same_kind : (a k : OperationKind) → Some a ≡ Some k → printed_name (kind_name k) ≡ printed_name (kind_name a)
    same_kind a k e = let is : a ≡ k = cc in ap (λ (x : OperationKind). printed_name (kind_name x)) (sym is)

    by_tests : (bytes : List ℕ) (k : OperationKind) (a b c : Bool) → (a ≡ true → bytes ≡ codes "query") → (b ≡ true → bytes ≡ codes "mutation") → (c ≡ true → bytes ≡ codes "subscription")
        → (if a then Some Query else if b then Some Mutation else if c then Some Subscription else None) ≡ Some k → printed_name (kind_name k) ≡ printed_name bytes
    by_tests bytes k true b c is_query is_mutation is_subscription e = same_kind Query k e ∙ ap printed_name (sym (is_query refl))
    by_tests bytes k false true c is_query is_mutation is_subscription e = same_kind Mutation k e ∙ ap printed_name (sym (is_mutation refl))
    by_tests bytes k false false true is_query is_mutation is_subscription e = same_kind Subscription k e ∙ ap printed_name (sym (is_subscription refl))
    by_tests bytes k false false false is_query is_mutation is_subscription e = cc

    same : (w : Symbol) (k : OperationKind) → kind_word w ≡ Some k → printed_name (kind_name k) ≡ placeless_symbol w
    same (punctuator kind) k e = cc
    same (identifier bytes at) k e = by_tests bytes k (bytes_eq bytes (codes "query")) (bytes_eq bytes (codes "mutation")) (bytes_eq bytes (codes "subscription"))
        (bytes_eq-Decides bytes (codes "query")).0 (bytes_eq-Decides bytes (codes "mutation")).0 (bytes_eq-Decides bytes (codes "subscription")).0 e
    same (integer value) k e = cc
    same (decimal bytes) k e = cc
    same (string value) k e = cc

operation_head_bare : {d : ℕ} → Bare (IsOperationHead d) (λ p. maybe_name_symbols p.0 ++ (variables_symbols p.1.0 ++ directives_symbols p.1.1))
operation_head_bare {d = d} = bare_pair (bare_optional None name refl) (bare_pair (bare_optional [] (bare_parentheses variable_bare) refl) (directives_bare false))
  where
    name : Bare (Image Some (Single any_name d)) maybe_name_symbols
    name = bare_image Some bare_name (λ p ws is. refl)

operation_bare : {d : ℕ} → Bare (Image operation_of (Pair (Single kind_word d) (Pair (IsOperationHead d) (IsSelectionSet d)))) definition_symbols
operation_bare {d = d} = bare_image operation_of (bare_pair kind_bare (bare_pair operation_head_bare (set_bare d)))
    (λ p ws is. ap (λ (l : Symbols). printed_name (kind_name p.0) ∷ l) (sym (regrouped (maybe_name_symbols p.1.0.0) (variables_symbols p.1.0.1.0) (directives_symbols p.1.0.1.1) (set_symbols p.1.1))))

fragment_bare : {d : ℕ} → Bare (Image fragment_of (Pair (IsFragmentHead d) (IsSelectionSet d))) definition_symbols
fragment_bare {d = d} = bare_image fragment_of (bare_pair head (set_bare d)) (λ p ws is. refl)
  where
    head : Bare (IsFragmentHead d) (λ p. printed_name (codes "fragment") ∷ printed_name p.0.0 ∷ printed_name (codes "on") ∷ printed_name p.1.0.0 ∷ directives_symbols p.1.1)
    head = bare_image head_of_fragment (bare_pair (bare_word (codes "fragment")) (bare_pair bare_fragment_name (bare_pair (bare_word (codes "on")) (bare_pair bare_name (directives_bare false))))) (λ p ws is. refl)

-- what can be printed

symbol_textual : (floats : Bool) (w : Symbol) → IsTextual floats w → IsTextual floats (placeless_symbol w)
symbol_textual floats (punctuator kind) is = is
symbol_textual floats (identifier bytes at) is = is
symbol_textual floats (integer value) is = is
symbol_textual floats (decimal bytes) is = is
symbol_textual floats (string value) is = is

bare_textual : (floats : Bool) (ws : Nested) → All (IsTextual floats) (plain ws) → All (IsTextual floats) (bare ws)
bare_textual floats [] all = All-nil (IsTextual floats)
bare_textual floats (w ∷ ws) all = All-cons (IsTextual floats) (placeless_symbol w.0) (bare ws) (symbol_textual floats w.0 (All-head (IsTextual floats) w.0 (plain ws) all)) (bare_textual floats ws (All-tail (IsTextual floats) w.0 (plain ws) all))

query_textual : (floats : Bool) → IsTextual floats (printed_name (codes "query"))
query_textual floats = (refl, AllPass-from_list_all is_name_continue (codes "uery") refl)

definition_textual : (floats : Bool) (t : DefinitionTree) (ws : Nested) → IsDefinition 0 t ws → All (IsTextual floats) (plain ws) → All (IsTextual floats) (definition_symbols t)
unfolding IsDefinition
definition_textual floats t ws (inl is) all =
    subst (All (IsTextual floats)) (sym (ap definition_symbols is.1 ∙ ap (λ (l : Symbols). printed_name (codes "query") ∷ l) (set_is_bare 0 is.0 ws is.2)))
    (All-cons (IsTextual floats) (printed_name (codes "query")) (bare ws) (query_textual floats) (bare_textual floats ws all))
definition_textual floats t ws (inr (inl is)) all = subst (All (IsTextual floats)) (sym (fragment_bare.says t ws is)) (bare_textual floats ws all)
definition_textual floats t ws (inr (inr is)) all = subst (All (IsTextual floats)) (sym (operation_bare.says t ws is)) (bare_textual floats ws all)

definitions_textual : (floats : Bool) (ts : List DefinitionTree) (ws : Nested) → Repeated (IsDefinition 0) ts ws → All (IsTextual floats) (plain ws) → All (IsTextual floats) (flat_map definition_symbols ts)
definitions_textual floats [] ws are all = All-nil (IsTextual floats)
definitions_textual floats (t ∷ ts) ws are all =
    let both : All (IsTextual floats) (plain are.0 ++ plain are.1) = subst (All (IsTextual floats)) (ap plain are.2 ∙ plain_append are.0 are.1) all in
    All-append (IsTextual floats) (definition_symbols t) (flat_map definition_symbols ts)
    (definition_textual floats t are.0 are.3 (subst (All (IsTextual floats)) (take_at (plain are.0) (plain are.1) (length (plain are.0)) refl) (All-take (IsTextual floats) (length (plain are.0)) (plain are.0 ++ plain are.1) both)))
    (definitions_textual floats ts are.1 are.4 (subst (All (IsTextual floats)) (drop_at (plain are.0) (plain are.1) (length (plain are.0)) refl) (All-drop (IsTextual floats) (length (plain are.0)) (plain are.0 ++ plain are.1) both)))

pub document_textual : (floats : Bool) (ts : List DefinitionTree) (ws : Nested) → IsDocument ts ws → All (IsTextual floats) (plain ws) → All (IsTextual floats) (document_symbols ts)
unfolding IsDocument
document_textual floats ts ws is all = subst (λ l. All (IsTextual floats) (document_symbols l)) (sym is.1) (definitions_textual floats (is.0.0 ∷ is.0.1) ws is.2 all)
