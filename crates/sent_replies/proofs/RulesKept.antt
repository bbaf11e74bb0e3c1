-- An operation that breaks no rule: each field whose type is an interface or a union has selections.
use Rattle.std.proofs.Common.{◌≡◌, ⊎_elim, ℕ, ◌+◌, List, [], ◌∷◌, map, Bool, true, false, not, true≢false, ◌&&◌, Option, Some, None, refl, sym, ap, ◌∙◌, subst}
use Rattle.std.specs.Prelude.{slice_get, option_map, if◌then◌else◌}
use Rattle.std.proofs.lemmas.Bool.{cases_Bool}
use Rattle.std.proofs.lemmas.Option.{slice_get-map}
use Rattle.gql_base.specs.parts.Trees.{directive_tree}
use Rattle.document_reader.specs.declared.trees.Definition.{Definition}
use Rattle.document_reader.specs.declared.trees.Operation.{Operation}
use Rattle.document_reader.specs.declared.trees.Fragment.{Fragment}
use Rattle.document_reader.specs.Documents.{SelectionTree, field_selection, fragment_spread, inline_fragment, SelectionTrees, no_selection, selection_then, VariableTree}
use Rattle.document_reader.specs.Trees.{variable_tree, set_tree}
use Rattle.schema_rules.specs.First.{or_else, fault_where, first_of}
use Rattle.schema_rules.proofs.FirstFaults.{neither, not_told}
use Rattle.schema_model.specs.SchemaData.{SchemaData}
use Rattle.document_rules.specs.declared.rule.Rule.TheVariants.{Introspection, UnknownField, LeafWithSelection, CompositeWithout}
use Rattle.document_rules.specs.Parts.{FragmentData, fragment_data, fragments_of}
use Rattle.document_rules.specs.Met.{Met, before_reached, fragments_met}
use Rattle.document_rules.specs.Sites.{Meaning, no_position, no_such_field, name_of_type, known_field, Site, variable_site, operation_site, has_selections, is_composite, name_of_field, meaning_on, type_of_field, below_field, below_inline, composite_named, sites_in, sites_in_one, sites_of_operation, sites_of_fragment, sites_of_met, all_sites, type_of_kind}
use Rattle.document_rules.specs.Rules.{introspection, unknown_field, leaf_with_selection, is_of_composite, composite_without}
use Rattle.document_rules.specs.Checking.{SiteRule, breach, first_breach, rules_of_fragments, rules_of_directives, rules_of_fields, rules_of_variables, rules_of_arguments, breach_before_parts, breach_of_parts, first_broken, fragments_in, reached_by}
use Rattle.document_rules.proofs.Lists.{first_of_append}
use Rattle.document_rules.proofs.CycleSteps.{no_breach}
use Rattle.plan_model.specs.SelectedFields.{is_abstract, is_asked, written_below}
use Rattle.sent_replies.specs.Asking.{HasSelections, HaveSelections, FragmentsHaveSelections}

-- ---- the rules on fields

first_kept : (r : SiteRule) (rules : List SiteRule) (sites : List Site) → first_breach (r ∷ rules) sites ≡ None → (first_of r.1 sites ≡ None) × (first_breach rules sites ≡ None)
first_kept r rules sites none =
    let both = neither (breach r.0 (first_of r.1 sites)) (first_breach rules sites) none in
    (no_breach r.0 (first_of r.1 sites) both.0, both.1)

pub fields_kept : (s : SchemaData) (ds : List Definition) (o : Operation) → first_broken s ds o ≡ None → first_breach (rules_of_fields s) (all_sites s (type_of_kind s o.kind) (fragments_in ds) (reached_by ds o) o) ≡ None
fields_kept s ds o none =
    let sites : List Site = all_sites s (type_of_kind s o.kind) (fragments_in ds) (reached_by ds o) o in
    let variables : List VariableTree = map variable_tree o.variables.items in
    let parts : breach_of_parts s (fragments_in ds) o (reached_by ds o) ≡ None = (neither (breach_before_parts s ds o) (breach_of_parts s (fragments_in ds) o (reached_by ds o)) none).1 in
    let behind = or_else (first_breach (rules_of_variables s variables) sites) (first_breach (rules_of_arguments s variables) sites) in
    let fields = or_else (first_breach (rules_of_fields s) sites) behind in
    let directives = (neither (first_breach (rules_of_fragments s (fragments_in ds) (reached_by ds o)) sites) (or_else (first_breach (rules_of_directives s) sites) fields) parts).1 in
    (neither (first_breach (rules_of_fields s) sites) behind (neither (first_breach (rules_of_directives s) sites) fields directives).1).0

-- each type has the fields that are asked of it, and those of composite types have selections
pub on_fields : (s : SchemaData) (sites : List Site) → first_breach (rules_of_fields s) sites ≡ None → (first_of unknown_field sites ≡ None) × (first_of (composite_without s) sites ≡ None)
on_fields s sites none =
    let without : SiteRule = (CompositeWithout, composite_without s) in
    let leaf : SiteRule = (LeafWithSelection, leaf_with_selection s) in
    let unknown : SiteRule = (UnknownField, unknown_field) in
    let first = first_kept (Introspection, introspection s) (unknown ∷ leaf ∷ without ∷ []) sites none in
    let second = first_kept unknown (leaf ∷ without ∷ []) sites first.1 in
    (second.0, (first_kept without [] sites (first_kept leaf (without ∷ []) sites second.1).1).0)

module _ (s : SchemaData) where
  -- ---- a field whose type is an interface or a union

  asked_is_composite : (m : Meaning) → is_abstract s (below_field s m) ≡ true → is_of_composite s m ≡ true
  asked_is_composite no_position asked = absurd (true≢false (sym asked))
  asked_is_composite no_such_field asked = absurd (true≢false (sym asked))
  asked_is_composite name_of_type asked = absurd (true≢false (sym asked))
  asked_is_composite (known_field field) asked = ⊎_elim
      (λ (is : is_composite s (type_of_field s field) ≡ true). is)
      (λ (isnt : is_composite s (type_of_field s field) ≡ false). absurd (true≢false (sym asked ∙ ap (λ (b : Bool). is_abstract s (if b then Some (type_of_field s field) else None)) isnt)))
      (cases_Bool (is_composite s (type_of_field s field)))

  has_where : (has composite : Bool) → (not has && composite) ≡ false → composite ≡ true → has ≡ true
  has_where true composite none is = refl
  has_where false composite none is = absurd (true≢false (sym is ∙ none))

  mutual
    unfolding sites_in is_asked written_below

    one_has : (within parent : Option ℕ) (x : SelectionTree) → first_of (composite_without s) (sites_in_one s within parent x) ≡ None → HasSelections s parent x
    one_has within parent (field_selection names arguments directives below) none =
        let meaning : Meaning = meaning_on s parent (name_of_field names).0 in
        let both = neither (fault_where (not (has_selections below) && is_of_composite s meaning) (name_of_field names).1) (first_of (composite_without s) (sites_in s within (below_field s meaning) below)) none in (
          λ asked. has_where (has_selections below) (is_of_composite s meaning) (not_told (not (has_selections below) && is_of_composite s meaning) (name_of_field names).1 both.0) (asked_is_composite meaning asked),
          all_have within (below_field s meaning) below both.1,
        )
    one_has within parent (fragment_spread name directives) none = tt
    one_has within parent (inline_fragment on directives below) none = all_have within (below_inline s parent on) below none

    all_have : (within parent : Option ℕ) (xs : SelectionTrees) → first_of (composite_without s) (sites_in s within parent xs) ≡ None → HaveSelections s parent xs
    all_have within parent no_selection none = tt
    all_have within parent (selection_then x others) none =
        let both = neither (first_of (composite_without s) (sites_in_one s within parent x)) (first_of (composite_without s) (sites_in s within parent others))
        (sym (first_of_append (composite_without s) (sites_in_one s within parent x) (sites_in s within parent others)) ∙ none) in
        (one_has within parent x both.0, all_have within parent others both.1)

  -- ---- fragments that were met

  module _ (all : List Fragment) where
    met_have : (place : ℕ) (met : List Met) → first_of (composite_without s) (sites_of_met s (map fragment_data all) place met) ≡ None → FragmentsHaveSelections s (map fragment_data (fragments_met all met))
    met_have place [] none = tt
    met_have place (m ∷ met) none =
        let both = neither (first_of (composite_without s) (sites_of_fragment s place (slice_get (map fragment_data all) m.fragment))) (first_of (composite_without s) (sites_of_met s (map fragment_data all) (place + 1) met))
        (sym (first_of_append (composite_without s) (sites_of_fragment s place (slice_get (map fragment_data all) m.fragment)) (sites_of_met s (map fragment_data all) (place + 1) met)) ∙ none) in
        by_place (slice_get all m.fragment) (subst (λ (o : Option FragmentData). first_of (composite_without s) (sites_of_fragment s place o) ≡ None) (slice_get-map fragment_data all m.fragment) both.0) (met_have (place + 1) met both.1)
      where
        by_place : (o : Option Fragment) → first_of (composite_without s) (sites_of_fragment s place (option_map fragment_data o)) ≡ None → FragmentsHaveSelections s (map fragment_data (fragments_met all met))
            → FragmentsHaveSelections s (map fragment_data (before_reached o (fragments_met all met)))
        by_place None none others = others
        by_place (Some f) none others = (all_have (Some place) (composite_named s (fragment_data f).on.0) (fragment_data f).below none, others)

  -- ---- a whole operation

  pub operation_has : (ds : List Definition) (o : Operation) (root : ℕ) → first_broken s ds o ≡ None → type_of_kind s o.kind ≡ Some root
      → HaveSelections s (Some root) (set_tree o.selections.items) × FragmentsHaveSelections s (map fragment_data (fragments_met (fragments_of ds) (reached_by ds o)))
  operation_has ds o root none is =
      let met : List Met = reached_by ds o in
      let sites : List Site = all_sites s (type_of_kind s o.kind) (fragments_in ds) met o in
      let kept : first_of (composite_without s) sites ≡ None = (on_fields s sites (fields_kept s ds o none)).1 in
      let both = neither (first_of (composite_without s) (sites_of_operation s (type_of_kind s o.kind) o)) (first_of (composite_without s) (sites_of_met s (fragments_in ds) 0 met))
      (sym (first_of_append (composite_without s) (sites_of_operation s (type_of_kind s o.kind) o) (sites_of_met s (fragments_in ds) 0 met)) ∙ kept) in
      let variables : List Site = map variable_site (map variable_tree o.variables.items) in
      let behind : List Site = operation_site (map variable_tree o.variables.items) (map directive_tree o.directives.items) ∷ sites_in s None (type_of_kind s o.kind) (set_tree o.selections.items) in
      let own : first_of (composite_without s) behind ≡ None = (neither (first_of (composite_without s) variables) (first_of (composite_without s) behind) (sym (first_of_append (composite_without s) variables behind) ∙ both.0)).1 in
      (subst (λ (parent : Option ℕ). HaveSelections s parent (set_tree o.selections.items)) is (all_have None (type_of_kind s o.kind) (set_tree o.selections.items) own), met_have (fragments_of ds) 0 met both.1)
