-- The document that is sent can be sent: its definitions are the client's own, with the names of types that are added.
use Rattle.std.proofs.Common.{ℕ, zero, suc, ◌≡◌, inl, inr, List, [], ◌∷◌, ◌++◌, map, Option, None, Some, refl, sym, ap, subst, Bool}
use Rattle.std.specs.Prelude.{slice_get}
use Rattle.std.proofs.lemmas.Option.{same_Some}
use Rattle.gql_base.specs.ways.Symbols.{identifier}
use Rattle.gql_base.specs.ways.Grammar.{Nested, Repeated}
use Rattle.gql_base.specs.printing.PrintableSymbols.{IsTextual}
use Rattle.document_reader.specs.declared.trees.Operation.{Operation}
use Rattle.document_reader.specs.declared.trees.Fragment.{Fragment}
use Rattle.document_reader.specs.declared.trees.Definition.{Definition}
use Rattle.document_reader.specs.declared.trees.Definition.TheVariants.{Op, Frag}
use Rattle.document_reader.specs.Documents.{DefinitionTree, operation_tree, fragment_tree, IsDefinition, IsDocument}
use Rattle.document_reader.specs.Trees.{definition_tree, tree_of_operation, tree_of_fragment}
use Rattle.document_rules.specs.Parts.{fragment_data, before_fragments, fragments_of, operation_in, operation_at}
use Rattle.document_rules.specs.Met.{Met, before_reached, fragments_met}
use Rattle.document_rules.specs.Sites.{composite_named}
use Rattle.schema_model.specs.SchemaData.{SchemaData}
use Rattle.typename_rewrite.specs.Rewriting.{rewritten_selections, rewritten_definition, rewritten_document}
use Rattle.sent_documents.proofs.SendableParts.{AreSendable, Sendable, sendable_front, sendable_back, joined_sendable}
use Rattle.sent_documents.proofs.SendableSelections.{set_sendable}

-- ---- the client's definitions

-- Each of the definitions can be sent.
abbrev pub EachSendable : (floats : Bool) → List DefinitionTree → Type 0
EachSendable floats [] = Unit {0}
EachSendable floats (t ∷ ts) = Sendable floats (IsDefinition 0 t) × EachSendable floats ts

abbrev FragmentsSendable : (floats : Bool) → List Fragment → Type 0
FragmentsSendable floats [] = Unit {0}
FragmentsSendable floats (f ∷ fs) = Sendable floats (IsDefinition 0 (tree_of_fragment f)) × FragmentsSendable floats fs

abbrev MaybeSendable : (floats : Bool) → Option Fragment → Type 0
MaybeSendable floats None = Unit {0}
MaybeSendable floats (Some f) = Sendable floats (IsDefinition 0 (tree_of_fragment f))

repeated_sendable : (floats : Bool) (ts : List DefinitionTree) (ws : Nested) → Repeated (IsDefinition 0) ts ws → AreSendable floats ws → EachSendable floats ts
repeated_sendable floats [] ws are all = tt
repeated_sendable floats (t ∷ ts) ws are all = let h : AreSendable floats (are.0 ++ are.1) = subst (AreSendable floats) are.2 all in
    (record { front = are.0; sendable = sendable_front floats are.0 are.1 h; written = are.3 }, repeated_sendable floats ts are.1 are.4 (sendable_back floats are.0 are.1 h))

pub document_sendable : (floats : Bool) (ts : List DefinitionTree) (ws : Nested) → IsDocument ts ws → AreSendable floats ws → EachSendable floats ts
unfolding IsDocument
document_sendable floats ts ws is all = subst (EachSendable floats) (sym is.1) (repeated_sendable floats (is.0.0 ∷ is.0.1) ws is.2 all)

operation_sendable : (floats : Bool) (d : Definition) (o : Operation) → Sendable floats (IsDefinition 0 (definition_tree d)) → operation_in (Some d) ≡ Some o → Sendable floats (IsDefinition 0 (tree_of_operation o))
operation_sendable floats (Op x) o is there = subst (λ (y : Operation). Sendable floats (IsDefinition 0 (tree_of_operation y))) (same_Some x o there) is
operation_sendable floats (Frag f) o is there = cc

pub operation_there : (floats : Bool) (ds : List Definition) (place : ℕ) (o : Operation) → EachSendable floats (map definition_tree ds) → operation_at ds place ≡ Some o → Sendable floats (IsDefinition 0 (tree_of_operation o))
operation_there floats [] place o each there = cc
operation_there floats (d ∷ ds) zero o each there = operation_sendable floats d o each.0 there
operation_there floats (d ∷ ds) (suc place) o each there = operation_there floats ds place o each.1 there

one_before : (floats : Bool) (d : Definition) (fs : List Fragment) → Sendable floats (IsDefinition 0 (definition_tree d)) → FragmentsSendable floats fs → FragmentsSendable floats (before_fragments d fs)
one_before floats (Op o) fs is each = each
one_before floats (Frag f) fs is each = (is, each)

fragments_there : (floats : Bool) (ds : List Definition) → EachSendable floats (map definition_tree ds) → FragmentsSendable floats (fragments_of ds)
fragments_there floats [] each = tt
fragments_there floats (d ∷ ds) each = one_before floats d (fragments_of ds) each.0 (fragments_there floats ds each.1)

fragment_there : (floats : Bool) (fs : List Fragment) (number : ℕ) → FragmentsSendable floats fs → MaybeSendable floats (slice_get fs number)
fragment_there floats [] number each = tt
fragment_there floats (f ∷ fs) zero each = each.0
fragment_there floats (f ∷ fs) (suc number) each = fragment_there floats fs number each.1

one_reached : (floats : Bool) (f : Option Fragment) (fs : List Fragment) → MaybeSendable floats f → FragmentsSendable floats fs → FragmentsSendable floats (before_reached f fs)
one_reached floats None fs is each = each
one_reached floats (Some f) fs is each = (is, each)

met_sendable : (floats : Bool) (fs : List Fragment) (met : List Met) → FragmentsSendable floats fs → FragmentsSendable floats (fragments_met fs met)
met_sendable floats fs [] each = tt
met_sendable floats fs (m ∷ met) each = one_reached floats (slice_get fs m.fragment) (fragments_met fs met) (fragment_there floats fs m.fragment each) (met_sendable floats fs met each)

-- ---- the definitions that are sent

module _ (floats : Bool) (s : SchemaData) (alias : List ℕ) (name : IsTextual floats (identifier alias 0)) where
  -- a definition whose selections are rewritten
  abbrev rewritten_below : Option ℕ → DefinitionTree → DefinitionTree
  rewritten_below parent (operation_tree kind called variables directives below) = operation_tree kind called variables directives (rewritten_selections s alias parent below)
  rewritten_below parent (fragment_tree called on directives below) = fragment_tree called on directives (rewritten_selections s alias parent below)

  definition_sendable : (parent : Option ℕ) (t : DefinitionTree) (ws : Nested) → IsDefinition 0 t ws → AreSendable floats ws → Sendable floats (IsDefinition 0 (rewritten_below parent t))
  unfolding IsDefinition
  definition_sendable parent t ws (inl is) all =
      let r = set_sendable floats s alias name 0 parent is.0 ws is.2 all in
      record { front = r.front; sendable = r.sendable; written = inl (rewritten_selections s alias parent is.0, ap (rewritten_below parent) is.1, r.written) }
  definition_sendable parent t ws (inr (inl is)) all =
      let h : AreSendable floats (is.2.0 ++ is.2.1) = subst (AreSendable floats) is.2.2 all in
      let r = joined_sendable floats (record { front = is.2.0; sendable = sendable_front floats is.2.0 is.2.1 h; written = is.2.3 }) (set_sendable floats s alias name 0 parent is.0.1 is.2.1 is.2.4 (sendable_back floats is.2.0 is.2.1 h)) in
      record { front = r.front; sendable = r.sendable; written = inr (inl ((is.0.0, rewritten_selections s alias parent is.0.1), ap (rewritten_below parent) is.1, r.written)) }
  definition_sendable parent t ws (inr (inr is)) all =
      let h : AreSendable floats (is.2.0 ++ is.2.1) = subst (AreSendable floats) is.2.2 all in
      let k : AreSendable floats (is.2.4.0 ++ is.2.4.1) = subst (AreSendable floats) is.2.4.2 (sendable_back floats is.2.0 is.2.1 h) in
      let r = joined_sendable floats (record { front = is.2.0; sendable = sendable_front floats is.2.0 is.2.1 h; written = is.2.3 })
      (joined_sendable floats (record { front = is.2.4.0; sendable = sendable_front floats is.2.4.0 is.2.4.1 k; written = is.2.4.3 }) (set_sendable floats s alias name 0 parent is.0.1.1 is.2.4.1 is.2.4.4 (sendable_back floats is.2.4.0 is.2.4.1 k))) in
      record { front = r.front; sendable = r.sendable; written = inr (inr ((is.0.0, (is.0.1.0, rewritten_selections s alias parent is.0.1.1)), ap (rewritten_below parent) is.1, r.written)) }

  fragments_sendable : (fs : List Fragment) → FragmentsSendable floats fs → EachSendable floats (map (rewritten_definition s alias) (map fragment_data fs))
  fragments_sendable [] each = tt
  fragments_sendable (f ∷ fs) each = (definition_sendable (composite_named s (fragment_data f).on.0) (tree_of_fragment f) each.0.front each.0.written each.0.sendable, fragments_sendable fs each.1)

  together : (ts : List DefinitionTree) → EachSendable floats ts → Sendable floats (Repeated (IsDefinition 0) ts)
  together [] each = record { front = []; sendable = tt; written = refl }
  together (t ∷ ts) each = joined_sendable floats each.0 (together ts each.1)

  -- The operation and the fragments that were met are sendable where the client's definitions are.
  pub rewritten_sendable : (ds : List Definition) (place root : ℕ) (o : Operation) (met : List Met) → EachSendable floats (map definition_tree ds) → operation_at ds place ≡ Some o
      → Sendable floats (IsDocument (rewritten_document s alias root o (map fragment_data (fragments_met (fragments_of ds) met))))
  unfolding IsDocument rewritten_document
  rewritten_sendable ds place root o met each there =
      let own = operation_there floats ds place o each there in
      let fragments = fragments_sendable (fragments_met (fragments_of ds) met) (met_sendable floats (fragments_of ds) met (fragments_there floats ds each)) in
      let r = joined_sendable floats (definition_sendable (Some root) (tree_of_operation o) own.front own.written own.sendable) (together _ fragments) in
      record { front = r.front; sendable = r.sendable; written = (_, refl, r.written) }
