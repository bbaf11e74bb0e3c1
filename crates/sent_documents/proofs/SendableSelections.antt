-- Selections with the names of types that are added can be sent where the client's own can.
use Rattle.std.proofs.Common.{ℕ, suc, ◌≡◌, ◌≤◌, ◌⊎◌, inl, inr, Bool, true, false, List, [], ◌∷◌, ◌++◌, Option, refl, sym, ap, ◌∙◌, subst, append_assoc, append-nil, arith}
use Rattle.std.specs.Prelude.{codes, replicate}
use Rattle.std.proofs.lemmas.List.Elements.{All-append, All-replicate}
use Rattle.std.proofs.lemmas.List.Sums.{AllPass-from_list_all}
use Rattle.gql_base.specs.declared.lexical.token.TokenKind.TheVariants.{Colon, OpenBrace, CloseBrace}
use Rattle.gql_base.specs.lexical.Characters.{is_name_continue}
use Rattle.gql_base.specs.ways.Symbols.{punctuator, identifier}
use Rattle.gql_base.specs.ways.Grammar.{Nested}
use Rattle.gql_base.specs.ways.FirstFaults.{level_limit}
use Rattle.gql_base.specs.printing.PrintableSymbols.{IsTextual}
use Rattle.document_reader.specs.Documents.{SelectionTree, field_selection, fragment_spread, inline_fragment, SelectionTrees, no_selection, selection_then, IsSelection, IsSelectionSet, AreSelections}
use Rattle.document_rules.specs.Sites.{typename, below_inline}
use Rattle.schema_model.specs.SchemaData.{SchemaData}
use Rattle.plan_model.specs.SelectedFields.{written_below, is_asked}
use Rattle.typename_rewrite.specs.Rewriting.{typename_under, and_then, ended, call_of, rewritten_selection, rewritten_selections}
use Rattle.typename_rewrite.specs.AddedNames.{alias_with}
use Rattle.sent_documents.proofs.SendableParts.{AreSendable, Sendable, sendable_append, sendable_front, sendable_back, joined_sendable, bracketed_sendable}

-- ---- the name that is added

-- the alias is a name
pub alias_textual : (floats : Bool) (underscores : ℕ) → IsTextual floats (identifier (alias_with underscores) 0)
alias_textual floats underscores = (refl, All-append (λ c. is_name_continue c ≡ true) (codes "ateway_typename") (replicate underscores 95) (AllPass-from_list_all is_name_continue (codes "ateway_typename") refl) (All-replicate (λ c. is_name_continue c ≡ true) underscores 95 refl))

typename_textual : (floats : Bool) → IsTextual floats (identifier typename 0)
typename_textual floats = (refl, AllPass-from_list_all is_name_continue (codes "_typename") refl)

colon_textual : (floats : Bool) → IsTextual floats (punctuator Colon)
colon_textual floats = omega arith

-- the symbols of `alias: __typename`
abbrev added_symbols : List ℕ → ℕ → Nested
added_symbols alias d = (identifier alias 0, d) ∷ (punctuator Colon, d) ∷ (identifier typename 0, d) ∷ []

added_written : (alias : List ℕ) (d : ℕ) → IsSelection d (typename_under alias) (added_symbols alias d)
unfolding IsSelection
added_written alias d = (
  added_symbols alias d,
  [],
  refl,
  (
    added_symbols alias d,
    [],
    refl,
    (
      (identifier alias 0, d) ∷ [],
      (punctuator Colon, d) ∷ (identifier typename 0, d) ∷ [],
      refl,
      (identifier alias 0, refl, refl),
      inl ((tt, (typename, 0)), refl, ((punctuator Colon, d) ∷ [], (identifier typename 0, d) ∷ [], refl, (punctuator Colon, refl, refl), (identifier typename 0, refl, refl))),
    ),
    ([], [], refl, inr (refl, refl), refl),
  ),
  inr (refl, refl),
)

added_sendable : (floats : Bool) (alias : List ℕ) (d : ℕ) → IsTextual floats (identifier alias 0) → d ≤ level_limit → AreSendable floats (added_symbols alias d)
added_sendable floats alias d is within = ((within, is), ((within, colon_textual floats), ((within, typename_textual floats), tt)))

-- ---- one selection more

and_then_written : (d : ℕ) (ss : SelectionTrees) (last : SelectionTree) (f e : Nested) → AreSelections d ss f → IsSelection d last e → AreSelections d (and_then ss last) (f ++ e)
unfolding IsSelection and_then
and_then_written d no_selection last f e are is = (e, [], ap (λ (l : Nested). l ++ e) are ∙ sym (append-nil e), is, refl)
and_then_written d (selection_then x others) last f e are is =
    (are.0, are.1 ++ e, ap (λ (l : Nested). l ++ e) are.2 ∙ append_assoc are.0 are.1 e, are.3, and_then_written d others last are.1 e are.4 is)

ended_sendable : (floats : Bool) (alias : List ℕ) (asked : Bool) (d : ℕ) (ss : SelectionTrees) (ws : Nested) → IsTextual floats (identifier alias 0) → IsSelectionSet d ss ws → AreSendable floats ws → Sendable floats (IsSelectionSet d (ended alias asked ss))
unfolding IsSelection and_then
ended_sendable floats alias asked d no_selection ws name is all = absurd is
ended_sendable floats alias false d (selection_then x others) ws name is all = record { front = ws; sendable = all; written = is }
ended_sendable floats alias true d (selection_then x others) ws name is all = bracketed_sendable floats OpenBrace CloseBrace d _ _ ws is all
    (λ inner are sendable within. record {
      front = inner ++ added_symbols alias (suc d);
      sendable = sendable_append floats inner (added_symbols alias (suc d)) sendable (added_sendable floats alias (suc d) name within);
      written = (
        are.0,
        are.1 ++ added_symbols alias (suc d),
        ap (λ (l : Nested). l ++ added_symbols alias (suc d)) are.2 ∙ append_assoc are.0 are.1 (added_symbols alias (suc d)),
        are.3,
        and_then_written (suc d) others (typename_under alias) are.1 (added_symbols alias (suc d)) are.4 (added_written alias (suc d)),
      );
    })

-- ---- rewritten selections

abbrev IsSetOrNone : ℕ → SelectionTrees → Nested → Type 0
IsSetOrNone d below ws = IsSelectionSet d below ws ⊎ ((below ≡ no_selection) × (ws ≡ []))

-- the set below a field, or none
below_sendable : (floats : Bool) (alias : List ℕ) (asked : Bool) (d : ℕ) (f : SelectionTrees → SelectionTrees) (below : SelectionTrees) (ws : Nested) → IsTextual floats (identifier alias 0) → f no_selection ≡ no_selection
    → (IsSelectionSet d below ws → Sendable floats (IsSelectionSet d (f below))) → IsSetOrNone d below ws → Sendable floats (IsSetOrNone d (ended alias asked (f below)))
below_sendable floats alias asked d f below ws name none r (inl is) =
    let q = r is in
    let e = ended_sendable floats alias asked d (f below) q.front name q.written q.sendable in
    record { front = e.front; sendable = e.sendable; written = inl e.written }
below_sendable floats alias asked d f below ws name none r (inr is) = record { front = []; sendable = tt; written = inr (ap (ended alias asked) (ap f is.0 ∙ none), refl) }

none_rewritten : (s : SchemaData) (alias : List ℕ) (parent : Option ℕ) → rewritten_selections s alias parent no_selection ≡ no_selection
unfolding rewritten_selection
none_rewritten s alias parent = refl

module _ (floats : Bool) (s : SchemaData) (alias : List ℕ) (name : IsTextual floats (identifier alias 0)) where
  mutual
    unfolding IsSelection rewritten_selection

    selection_sendable : (d : ℕ) (parent : Option ℕ) (x : SelectionTree) (ws : Nested) → IsSelection d x ws → AreSendable floats ws → Sendable floats (IsSelection d (rewritten_selection s alias parent x))
    selection_sendable d parent (field_selection names arguments directives below) ws is all =
        let h : AreSendable floats (is.0 ++ is.1) = subst (AreSendable floats) is.2 all in
        let on : Option ℕ = written_below s parent (call_of names arguments) in
        joined_sendable floats (record { front = is.0; sendable = sendable_front floats is.0 is.1 h; written = is.3 })
        (below_sendable floats alias (is_asked s parent (call_of names arguments)) d (rewritten_selections s alias on) below is.1 name (none_rewritten s alias on)
        (λ set. set_sendable d on below is.1 set (sendable_back floats is.0 is.1 h)) is.4)
    selection_sendable d parent (fragment_spread spread directives) ws is all = record { front = ws; sendable = all; written = is }
    selection_sendable d parent (inline_fragment on directives below) ws is all =
        let h : AreSendable floats (is.0 ++ (is.1 ++ is.2)) = subst (AreSendable floats) is.3 all in
        let k = sendable_back floats is.0 (is.1 ++ is.2) h in
        let r = set_sendable d (below_inline s parent on) below is.2 is.6 (sendable_back floats is.1 is.2 k) in
        record {
          front = is.0 ++ (is.1 ++ r.front);
          sendable = sendable_append floats is.0 (is.1 ++ r.front) (sendable_front floats is.0 (is.1 ++ is.2) h) (sendable_append floats is.1 r.front (sendable_front floats is.1 is.2 k) r.sendable);
          written = (is.0, is.1, r.front, refl, is.4, is.5, r.written);
        }

    pub set_sendable : (d : ℕ) (parent : Option ℕ) (ss : SelectionTrees) (ws : Nested) → IsSelectionSet d ss ws → AreSendable floats ws → Sendable floats (IsSelectionSet d (rewritten_selections s alias parent ss))
    set_sendable d parent no_selection ws is all = absurd is
    set_sendable d parent (selection_then x others) ws is all = bracketed_sendable floats OpenBrace CloseBrace d _ _ ws is all
        (λ inner are sendable within. let h : AreSendable floats (are.0 ++ are.1) = subst (AreSendable floats) are.2 sendable in
        joined_sendable floats (selection_sendable (suc d) parent x are.0 are.3 (sendable_front floats are.0 are.1 h)) (selections_sendable (suc d) parent others are.1 are.4 (sendable_back floats are.0 are.1 h)))

    selections_sendable : (d : ℕ) (parent : Option ℕ) (ss : SelectionTrees) (ws : Nested) → AreSelections d ss ws → AreSendable floats ws → Sendable floats (AreSelections d (rewritten_selections s alias parent ss))
    selections_sendable d parent no_selection ws are all = record { front = ws; sendable = all; written = are }
    selections_sendable d parent (selection_then x others) ws are all = let h : AreSendable floats (are.0 ++ are.1) = subst (AreSendable floats) are.2 all in
        joined_sendable floats (selection_sendable d parent x are.0 are.3 (sendable_front floats are.0 are.1 h)) (selections_sendable d parent others are.1 are.4 (sendable_back floats are.0 are.1 h))
