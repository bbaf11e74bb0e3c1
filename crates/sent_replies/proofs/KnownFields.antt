-- An operation that breaks no rule: each of its fields is one of the type on which it is written.
use Rattle.std.proofs.Common.{◌≡◌, ℕ, ◌+◌, List, [], ◌∷◌, map, Option, Some, None, sym, ◌∙◌, subst}
use Rattle.std.specs.Prelude.{slice_get, option_map}
use Rattle.std.proofs.lemmas.Option.{slice_get-map}
use Rattle.gql_base.specs.parts.Trees.{directive_tree}
use Rattle.document_reader.specs.declared.trees.Definition.{Definition}
use Rattle.document_reader.specs.declared.trees.Operation.{Operation}
use Rattle.document_reader.specs.declared.trees.Fragment.{Fragment}
use Rattle.document_reader.specs.Documents.{SelectionTree, field_selection, fragment_spread, inline_fragment, SelectionTrees, no_selection, selection_then}
use Rattle.document_reader.specs.Trees.{variable_tree, set_tree}
use Rattle.schema_rules.specs.First.{fault_where, first_of}
use Rattle.schema_rules.proofs.FirstFaults.{neither, not_told}
use Rattle.schema_model.specs.SchemaData.{SchemaData}
use Rattle.document_rules.specs.Parts.{FragmentData, fragment_data, fragments_of}
use Rattle.document_rules.specs.Met.{Met, before_reached, fragments_met}
use Rattle.document_rules.specs.Sites.{Meaning, Site, variable_site, operation_site, name_of_field, meaning_on, below_field, below_inline, composite_named, sites_in, sites_in_one, sites_of_operation, sites_of_fragment, sites_of_met, all_sites, type_of_kind}
use Rattle.document_rules.specs.Rules.{is_no_such_field, unknown_field}
use Rattle.document_rules.specs.Checking.{first_broken, fragments_in, reached_by}
use Rattle.document_rules.proofs.Lists.{first_of_append}
use Rattle.sent_replies.proofs.RulesKept.{fields_kept, on_fields}
use Rattle.sent_replies.proofs.Placed.{IsKnownIn, AreKnownIn, FragmentsKnown}

module _ (s : SchemaData) where
  mutual
    unfolding sites_in

    one_known : (within parent : Option ℕ) (x : SelectionTree) → first_of unknown_field (sites_in_one s within parent x) ≡ None → IsKnownIn s parent x
    one_known within parent (field_selection names arguments directives below) none =
        let meaning : Meaning = meaning_on s parent (name_of_field names).0 in
        let both = neither (fault_where (is_no_such_field meaning) (name_of_field names).1) (first_of unknown_field (sites_in s within (below_field s meaning) below)) none in
        (not_told (is_no_such_field meaning) (name_of_field names).1 both.0, all_known within (below_field s meaning) below both.1)
    one_known within parent (fragment_spread name directives) none = tt
    one_known within parent (inline_fragment on directives below) none = all_known within (below_inline s parent on) below none

    all_known : (within parent : Option ℕ) (xs : SelectionTrees) → first_of unknown_field (sites_in s within parent xs) ≡ None → AreKnownIn s parent xs
    all_known within parent no_selection none = tt
    all_known within parent (selection_then x others) none =
        let both = neither (first_of unknown_field (sites_in_one s within parent x)) (first_of unknown_field (sites_in s within parent others))
        (sym (first_of_append unknown_field (sites_in_one s within parent x) (sites_in s within parent others)) ∙ none) in
        (one_known within parent x both.0, all_known within parent others both.1)

  module _ (all : List Fragment) where
    met_known : (place : ℕ) (met : List Met) → first_of unknown_field (sites_of_met s (map fragment_data all) place met) ≡ None → FragmentsKnown s (map fragment_data (fragments_met all met))
    met_known place [] none = tt
    met_known place (m ∷ met) none =
        let both = neither (first_of unknown_field (sites_of_fragment s place (slice_get (map fragment_data all) m.fragment))) (first_of unknown_field (sites_of_met s (map fragment_data all) (place + 1) met))
        (sym (first_of_append unknown_field (sites_of_fragment s place (slice_get (map fragment_data all) m.fragment)) (sites_of_met s (map fragment_data all) (place + 1) met)) ∙ none) in
        by_place (slice_get all m.fragment) (subst (λ (o : Option FragmentData). first_of unknown_field (sites_of_fragment s place o) ≡ None) (slice_get-map fragment_data all m.fragment) both.0) (met_known (place + 1) met both.1)
      where
        by_place : (o : Option Fragment) → first_of unknown_field (sites_of_fragment s place (option_map fragment_data o)) ≡ None → FragmentsKnown s (map fragment_data (fragments_met all met))
            → FragmentsKnown s (map fragment_data (before_reached o (fragments_met all met)))
        by_place None none others = others
        by_place (Some f) none others = (all_known (Some place) (composite_named s (fragment_data f).on.0) (fragment_data f).below none, others)

  pub operation_known : (ds : List Definition) (o : Operation) (root : ℕ) → first_broken s ds o ≡ None → type_of_kind s o.kind ≡ Some root
      → AreKnownIn s (Some root) (set_tree o.selections.items) × FragmentsKnown s (map fragment_data (fragments_met (fragments_of ds) (reached_by ds o)))
  operation_known ds o root none is =
      let met : List Met = reached_by ds o in
      let sites : List Site = all_sites s (type_of_kind s o.kind) (fragments_in ds) met o in
      let kept : first_of unknown_field sites ≡ None = (on_fields s sites (fields_kept s ds o none)).0 in
      let both = neither (first_of unknown_field (sites_of_operation s (type_of_kind s o.kind) o)) (first_of unknown_field (sites_of_met s (fragments_in ds) 0 met))
      (sym (first_of_append unknown_field (sites_of_operation s (type_of_kind s o.kind) o) (sites_of_met s (fragments_in ds) 0 met)) ∙ kept) in
      let variables : List Site = map variable_site (map variable_tree o.variables.items) in
      let behind : List Site = operation_site (map variable_tree o.variables.items) (map directive_tree o.directives.items) ∷ sites_in s None (type_of_kind s o.kind) (set_tree o.selections.items) in
      let own : first_of unknown_field behind ≡ None = (neither (first_of unknown_field variables) (first_of unknown_field behind) (sym (first_of_append unknown_field variables behind) ∙ both.0)).1 in
      (subst (λ (parent : Option ℕ). AreKnownIn s parent (set_tree o.selections.items)) is (all_known None (type_of_kind s o.kind) (set_tree o.selections.items) own), met_known (fragments_of ds) 0 met both.1)
