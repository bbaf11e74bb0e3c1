-- The same symbols at other offsets are the same arguments, directives and selections, but for the offsets of their
-- names.
use Rattle.std.proofs.Common.{ℕ, suc, ◌≡◌, inl, inr, Bool, true, false, List, [], ◌++◌, Option, None, refl, sym, ap, ◌∙◌, subst}
use Rattle.std.specs.Prelude.{codes, map}
use Rattle.std.specs.Str.{bytes_eq}
use Rattle.std.specs.Option.{option_map}
use Rattle.gql_base.specs.declared.lexical.token.TokenKind.TheVariants.{Colon, At, Spread, OpenParen, CloseParen, OpenBrace, CloseBrace}
use Rattle.gql_base.specs.ways.Symbols.{punctuator, identifier, integer, decimal, string}
use Rattle.gql_base.specs.ways.Reading.{exact, Identifier, second, keyword, inside, some_second}
use Rattle.gql_base.specs.ways.Grammar.{Nested, Single, Pair, Image, Optional, OneOrMore}
use Rattle.gql_base.specs.parts.Values.{NamedValue, named_value_of}
use Rattle.gql_base.specs.printing.Alike.{AreAlike}
use Rattle.gql_base.specs.parts.Arguments.{DirectiveTree, IsArgument, AreArguments, IsDirective, AreDirectives}
use Rattle.document_reader.specs.Documents.{FieldNames, SelectionTree, field_selection, fragment_spread, inline_fragment, SelectionTrees, no_selection, selection_then, unless, fragment_name, AreFieldNames, IsFieldHead, IsTypeCondition, IsSpreadEnd, IsInlineHead, IsSelection, IsSelectionSet, AreSelections}
use Rattle.gql_base.specs.printing.PlacelessSymbols.{name_placeless}
use Rattle.document_reader.specs.PlacelessDocuments.{maybe_name_placeless, names_placeless, argument_placeless, directive_placeless, selection_placeless, selections_placeless}
use Rattle.gql_base.proofs.WayLaws.AlikeSymbols.{none_alike, split_alike}
use Rattle.gql_base.proofs.WayLaws.AlikeLaws.{Alike, whole, both, TakesPlaceless, whole_option, single_alike, mark_alike, name_alike, pair_alike, image_alike, optional_alike, repeated_alike, one_or_more_alike, bracketed_alike}
use Rattle.gql_base.proofs.PartLaws.AlikeTrees.{value_alike}

-- words

pub word_alike : {d : ℕ} (word : List ℕ) → Alike (Single (keyword word) d) whole
word_alike word = single_alike (keyword word) whole same
  where
    same : TakesPlaceless (keyword word) whole
    same (identifier bytes at) = whole_option _
    same (punctuator kind) = refl
    same (integer value) = refl
    same (decimal bytes) = refl
    same (string value) = refl

unless_placeless : (b : Bool) (bytes : List ℕ) (at : ℕ) → option_map name_placeless (unless b (bytes, at)) ≡ unless b (bytes, 0)
unless_placeless true bytes at = refl
unless_placeless false bytes at = refl

pub fragment_name_alike : {d : ℕ} → Alike (Single fragment_name d) name_placeless
fragment_name_alike = single_alike fragment_name name_placeless same
  where
    same : TakesPlaceless fragment_name name_placeless
    same (identifier bytes at) = unless_placeless (bytes_eq bytes (codes "on")) bytes at
    same (punctuator kind) = refl
    same (integer value) = refl
    same (decimal bytes) = refl
    same (string value) = refl

-- things in parentheses
pub parens_alike : {A : Type 0} {S : A → Nested → Type 0} {d : ℕ} {f : A → A} → Alike S f → Alike (Image inside (Pair (Single (exact OpenParen) d) (Pair (OneOrMore S) (Single (exact CloseParen) d)))) (map f)
parens_alike s = image_alike inside (pair_alike (mark_alike OpenParen) (pair_alike (one_or_more_alike s) (mark_alike CloseParen))) (λ p. refl)

-- arguments and directives

pub argument_alike : (c : Bool) (d : ℕ) → Alike (IsArgument c d) argument_placeless
argument_alike c d = image_alike named_value_of (pair_alike name_alike (pair_alike (mark_alike Colon) (value_alike c d))) (λ p. refl)

maybe_arguments_alike : (c : Bool) (d : ℕ) → Alike (Optional [] (AreArguments c d)) (map argument_placeless)
maybe_arguments_alike c d = optional_alike [] (parens_alike (argument_alike c d))

pub directive_alike : (c : Bool) (d : ℕ) → Alike (IsDirective c d) directive_placeless
directive_alike c d = image_alike second (pair_alike (mark_alike At) (pair_alike name_alike (maybe_arguments_alike c d))) (λ p. refl)

pub directives_alike : (c : Bool) (d : ℕ) → Alike (AreDirectives c d) (map directive_placeless)
directives_alike c d = repeated_alike (directive_alike c d)

-- what selections have beside their selection sets

names_alike : (d : ℕ) → Alike (AreFieldNames d) names_placeless
names_alike d = pair_alike name_alike (optional_alike None (image_alike {g = maybe_name_placeless} some_second (pair_alike (mark_alike Colon) name_alike) (λ p. refl)))

abbrev pub head_placeless : FieldNames × (List NamedValue × List DirectiveTree) → FieldNames × (List NamedValue × List DirectiveTree)
head_placeless = both names_placeless (both (map argument_placeless) (map directive_placeless))

field_head_alike : (d : ℕ) → Alike (IsFieldHead d) head_placeless
field_head_alike d = pair_alike (names_alike d) (pair_alike (maybe_arguments_alike false d) (directives_alike false d))

condition_alike : (d : ℕ) → Alike (IsTypeCondition d) maybe_name_placeless
condition_alike d = image_alike some_second (pair_alike (word_alike (codes "on")) name_alike) (λ p. refl)

spread_end_alike : (d : ℕ) → Alike (IsSpreadEnd d) (both name_placeless (map directive_placeless))
spread_end_alike d = pair_alike fragment_name_alike (directives_alike false d)

inline_head_alike : (d : ℕ) → Alike (IsInlineHead d) (both maybe_name_placeless (map directive_placeless))
inline_head_alike d = pair_alike (optional_alike None (condition_alike d)) (directives_alike false d)

dots_again : (d : ℕ) (ws vs : Nested) → Single (exact Spread) d tt ws → AreAlike ws vs → Single (exact Spread) d tt vs
dots_again d ws vs is alike = let r = (mark_alike Spread).again tt ws vs is alike in subst (λ (u : Unit {0}). Single (exact Spread) d u vs) r.2 r.1

-- selections

field_same : (p q : FieldNames × (List NamedValue × List DirectiveTree)) (s t : SelectionTrees) → p ≡ q → s ≡ t → field_selection p.0 p.1.0 p.1.1 s ≡ field_selection q.0 q.1.0 q.1.1 t
field_same p q s t e h = ap (λ (p : FieldNames × (List NamedValue × List DirectiveTree)). field_selection p.0 p.1.0 p.1.1 s) e ∙ ap (field_selection q.0 q.1.0 q.1.1) h

inline_same : (p q : Option Identifier × List DirectiveTree) (s t : SelectionTrees) → p ≡ q → s ≡ t → inline_fragment p.0 p.1 s ≡ inline_fragment q.0 q.1 t
inline_same p q s t e h = ap (λ (p : Option Identifier × List DirectiveTree). inline_fragment p.0 p.1 s) e ∙ ap (inline_fragment q.0 q.1) h

mutual
  unfolding IsSelection selection_placeless

  pub selection_again : (d : ℕ) (s : SelectionTree) (ws vs : Nested) → IsSelection d s ws → AreAlike ws vs → (t : SelectionTree) × IsSelection d t vs × (selection_placeless t ≡ selection_placeless s)
  selection_again d (field_selection names arguments directives below) ws vs is alike =
      let cut = split_alike is.0 is.1 vs (subst (λ (l : Nested). AreAlike l vs) is.2 alike) in
      let h = (field_head_alike d).again (names, (arguments, directives)) is.0 cut.0 is.3 cut.3 in
      elim is.4 [
        | inl set ↦ let b = set_again d below is.1 cut.1 set cut.4 in
            (field_selection h.0.0 h.0.1.0 h.0.1.1 b.0, (cut.0, cut.1, cut.2, h.1, inl b.1), field_same (head_placeless h.0) (head_placeless (names, (arguments, directives))) (selections_placeless b.0) (selections_placeless below) h.2 b.2)
        | inr left_out ↦ (
          field_selection h.0.0 h.0.1.0 h.0.1.1 no_selection,
          (cut.0, cut.1, cut.2, h.1, inr (refl, none_alike cut.1 (subst (λ (l : Nested). AreAlike l cut.1) left_out.1 cut.4))),
          field_same (head_placeless h.0) (head_placeless (names, (arguments, directives))) no_selection (selections_placeless below) h.2 (sym (ap selections_placeless left_out.0)),
        )
      ]
  selection_again d (fragment_spread name directives) ws vs is alike =
      let cut = split_alike is.0 is.1 vs (subst (λ (l : Nested). AreAlike l vs) is.2 alike) in
      let e = (spread_end_alike d).again (name, directives) is.1 cut.1 is.4 cut.4 in
      (fragment_spread e.0.0 e.0.1, (cut.0, cut.1, cut.2, dots_again d is.0 cut.0 is.3 cut.3, e.1), ap (λ (p : Identifier × List DirectiveTree). fragment_spread p.0 p.1) e.2)
  selection_again d (inline_fragment on directives below) ws vs is alike =
      let cut = split_alike is.0 (is.1 ++ is.2) vs (subst (λ (l : Nested). AreAlike l vs) is.3 alike) in
      let rest = split_alike is.1 is.2 cut.1 cut.4 in
      let h = (inline_head_alike d).again (on, directives) is.1 rest.0 is.5 rest.3 in
      let b = set_again d below is.2 rest.1 is.6 rest.4 in (
        inline_fragment h.0.0 h.0.1 b.0,
        (cut.0, rest.0, rest.1, cut.2 ∙ ap (λ (l : Nested). cut.0 ++ l) rest.2, dots_again d is.0 cut.0 is.4 cut.3, h.1, b.1),
        inline_same (both maybe_name_placeless (map directive_placeless) h.0) (both maybe_name_placeless (map directive_placeless) (on, directives)) (selections_placeless b.0) (selections_placeless below) h.2 b.2,
      )

  pub set_again : (d : ℕ) (ss : SelectionTrees) (ws vs : Nested) → IsSelectionSet d ss ws → AreAlike ws vs → (ts : SelectionTrees) × IsSelectionSet d ts vs × (selections_placeless ts ≡ selections_placeless ss)
  set_again d no_selection ws vs is alike = absurd is
  set_again d (selection_then s others) ws vs is alike =
      let r = bracketed_alike {f = both selection_placeless selections_placeless} OpenBrace CloseBrace d (Pair (IsSelection (suc d)) (AreSelections (suc d))) (s, others) ws vs is alike
      (λ inner alikes are l.
      let cut = split_alike are.0 are.1 alikes (subst (λ (k : Nested). AreAlike k alikes) are.2 l) in
      let t = selection_again (suc d) s are.0 cut.0 are.3 cut.3 in
      let ts = selections_again (suc d) others are.1 cut.1 are.4 cut.4 in
      ((t.0, ts.0), (cut.0, cut.1, cut.2, t.1, ts.1), cc (t.2, ts.2))) in
      (selection_then r.0.0 r.0.1, r.1, ap (λ (p : SelectionTree × SelectionTrees). selection_then p.0 p.1) r.2)

  selections_again : (d : ℕ) (ss : SelectionTrees) (ws vs : Nested) → AreSelections d ss ws → AreAlike ws vs → (ts : SelectionTrees) × AreSelections d ts vs × (selections_placeless ts ≡ selections_placeless ss)
  selections_again d no_selection ws vs are alike = (no_selection, none_alike vs (subst (λ (l : Nested). AreAlike l vs) are alike), refl)
  selections_again d (selection_then s others) ws vs are alike =
      let cut = split_alike are.0 are.1 vs (subst (λ (l : Nested). AreAlike l vs) are.2 alike) in
      let t = selection_again d s are.0 cut.0 are.3 cut.3 in
      let ts = selections_again d others are.1 cut.1 are.4 cut.4 in
      (selection_then t.0 ts.0, (cut.0, cut.1, cut.2, t.1, ts.1), cc (t.2, ts.2))

pub selection_alike : (d : ℕ) → Alike (IsSelection d) selection_placeless
selection_alike d = record { again = selection_again d }

pub set_alike : (d : ℕ) → Alike (IsSelectionSet d) selections_placeless
set_alike d = record { again = set_again d }
