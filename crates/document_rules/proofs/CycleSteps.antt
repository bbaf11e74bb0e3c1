-- Where the rule on circles is kept, no spread of a fragment names one that the walk is inside of there.
use Rattle.std.proofs.Common.{◌≡◌, ℕ, zero, suc, ◌+◌, List, [], ◌∷◌, ◌++◌, map, Option, Some, None, refl, sym, ap, ◌∙◌, subst, arith}
use Rattle.std.specs.Prelude.{slice_get}
use Rattle.std.proofs.lemmas.Option.{same_Some}
use Rattle.gql_base.specs.names.Names.{place_of_name}
use Rattle.document_reader.specs.declared.trees.Definition.{Definition}
use Rattle.document_reader.specs.declared.trees.Operation.{Operation}
use Rattle.document_reader.specs.Documents.{SelectionTree, field_selection, fragment_spread, inline_fragment, SelectionTrees, no_selection, selection_then, VariableTree}
use Rattle.document_reader.specs.Trees.{variable_tree, set_tree}
use Rattle.schema_rules.specs.First.{or_else, fault_where, first_of}
use Rattle.schema_rules.proofs.FirstFaults.{neither, not_told}
use Rattle.schema_model.specs.SchemaData.{SchemaData}
use Rattle.document_rules.specs.declared.rule.Rule.{Rule}
use Rattle.document_rules.specs.declared.rule.Rule.TheVariants.{UnknownFragment, FragmentCycle, FragmentOn}
use Rattle.document_rules.specs.Parts.{FragmentData, fragment_name}
use Rattle.document_rules.specs.Met.{Met, spreads_in, spreads_in_one, inside_at}
use Rattle.document_rules.specs.Sites.{Site, name_of_field, meaning_on, below_field, below_inline, composite_named, sites_in, sites_in_one, sites_of_operation, sites_of_fragment, sites_of_met, all_sites, type_of_kind}
use Rattle.document_rules.specs.Rules.{is_inside, unknown_fragment, fragment_cycle, fragment_on}
use Rattle.document_rules.specs.Checking.{Breach, breach, first_breach, rules_of_fragments, rules_of_directives, rules_of_fields, rules_of_variables, rules_of_arguments, breach_before_parts, breach_of_parts, first_broken, fragments_in, reached_by}
use Rattle.document_rules.specs.Ranks.{HasRanks}
use Rattle.document_rules.proofs.Lists.{first_of_append}
use Rattle.document_rules.proofs.RankSteps.{NoneInside, ranks}

pub no_breach : (rule : Rule) (o : Option ℕ) → breach rule o ≡ None → o ≡ None
no_breach rule None none = refl
no_breach rule (Some at) none = absurd (cc)

module _ (s : SchemaData) (fs : List FragmentData) (met : List Met) where
  both_apart : (inside : List ℕ) (xs ys : List (List ℕ)) → NoneInside fs inside xs → NoneInside fs inside ys → NoneInside fs inside (xs ++ ys)
  both_apart inside [] ys h k = k
  both_apart inside (x ∷ xs) ys h k = (h.0, both_apart inside xs ys h.1 k)

  mutual
    unfolding sites_in spreads_in

    one_apart : (within parent : Option ℕ) (x : SelectionTree) → first_of (fragment_cycle fs met) (sites_in_one s within parent x) ≡ None → NoneInside fs (inside_at met within) (spreads_in_one x)
    one_apart within parent (field_selection names arguments directives below) none = all_apart within (below_field s (meaning_on s parent (name_of_field names).0)) below none
    one_apart within parent (fragment_spread name directives) none = (
      not_told (is_inside (inside_at met within) (place_of_name fragment_name fs name.0)) name.1
          ((neither (fault_where (is_inside (inside_at met within) (place_of_name fragment_name fs name.0)) name.1) None none).0),
      tt,
    )
    one_apart within parent (inline_fragment on directives below) none = all_apart within (below_inline s parent on) below none

    all_apart : (within parent : Option ℕ) (xs : SelectionTrees) → first_of (fragment_cycle fs met) (sites_in s within parent xs) ≡ None → NoneInside fs (inside_at met within) (spreads_in xs)
    all_apart within parent no_selection none = tt
    all_apart within parent (selection_then x others) none =
        let both = neither (first_of (fragment_cycle fs met) (sites_in_one s within parent x)) (first_of (fragment_cycle fs met) (sites_in s within parent others))
        (sym (first_of_append (fragment_cycle fs met) (sites_in_one s within parent x) (sites_in s within parent others)) ∙ none) in
        both_apart (inside_at met within) (spreads_in_one x) (spreads_in others) (one_apart within parent x both.0) (all_apart within parent others both.1)

  fragment_apart : (place : ℕ) (o : Option FragmentData) (f : FragmentData) → o ≡ Some f → first_of (fragment_cycle fs met) (sites_of_fragment s place o) ≡ None → NoneInside fs (inside_at met (Some place)) (spreads_in f.below)
  fragment_apart place None f is none = absurd (cc)
  fragment_apart place (Some g) f is none = subst (λ (h : FragmentData). NoneInside fs (inside_at met (Some place)) (spreads_in h.below)) (same_Some g f is) (all_apart (Some place) (composite_named s g.on.0) g.below none)

  fragments_apart : (ms : List Met) (place n : ℕ) (m : Met) (f : FragmentData) → first_of (fragment_cycle fs met) (sites_of_met s fs place ms) ≡ None → slice_get ms n ≡ Some m → slice_get fs m.fragment ≡ Some f
      → NoneInside fs (inside_at met (Some (place + n))) (spreads_in f.below)
  fragments_apart [] place n m f none is there = absurd (cc)
  fragments_apart (x ∷ ms) place zero m f none is there =
      let both = neither (first_of (fragment_cycle fs met) (sites_of_fragment s place (slice_get fs x.fragment))) (first_of (fragment_cycle fs met) (sites_of_met s fs (place + 1) ms))
      (sym (first_of_append (fragment_cycle fs met) (sites_of_fragment s place (slice_get fs x.fragment)) (sites_of_met s fs (place + 1) ms)) ∙ none) in
      let e : place ≡ place + 0 = omega arith in
      subst (λ p. NoneInside fs (inside_at met (Some p)) (spreads_in f.below)) e (fragment_apart place (slice_get fs x.fragment) f (ap (λ (y : Met). slice_get fs y.fragment) (same_Some x m is) ∙ there) both.0)
  fragments_apart (x ∷ ms) place (suc n) m f none is there =
      let both = neither (first_of (fragment_cycle fs met) (sites_of_fragment s place (slice_get fs x.fragment))) (first_of (fragment_cycle fs met) (sites_of_met s fs (place + 1) ms))
      (sym (first_of_append (fragment_cycle fs met) (sites_of_fragment s place (slice_get fs x.fragment)) (sites_of_met s fs (place + 1) ms)) ∙ none) in
      let e : (place + 1) + n ≡ place + suc n = omega arith in
      subst (λ p. NoneInside fs (inside_at met (Some p)) (spreads_in f.below)) e (fragments_apart ms (place + 1) n m f both.1 is there)

pub kept_has_ranks : (s : SchemaData) (ds : List Definition) (o : Operation) → first_broken s ds o ≡ None → HasRanks (fragments_in ds) (reached_by ds o) (set_tree o.selections.items)
kept_has_ranks s ds o none =
    let fs : List FragmentData = fragments_in ds in
    let met : List Met = reached_by ds o in
    let sites : List Site = all_sites s (type_of_kind s o.kind) fs met o in
    let variables : List VariableTree = map variable_tree o.variables.items in
    let parts : breach_of_parts s fs o met ≡ None = (neither (breach_before_parts s ds o) (breach_of_parts s fs o met) none).1 in
    let rules : first_breach (rules_of_fragments s fs met) sites ≡ None =
    (neither (first_breach (rules_of_fragments s fs met) sites) (or_else (first_breach (rules_of_directives s) sites) (or_else (first_breach (rules_of_fields s) sites)
    (or_else (first_breach (rules_of_variables s variables) sites) (first_breach (rules_of_arguments s variables) sites)))) parts).0 in
    let others : Option Breach = or_else (breach FragmentOn (first_of (fragment_on s) sites)) None in
    let later : or_else (breach FragmentCycle (first_of (fragment_cycle fs met) sites)) others ≡ None =
    (neither (breach UnknownFragment (first_of (unknown_fragment fs) sites)) (or_else (breach FragmentCycle (first_of (fragment_cycle fs met) sites)) others) rules).1 in
    let cycles : first_of (fragment_cycle fs met) sites ≡ None =
    no_breach FragmentCycle (first_of (fragment_cycle fs met) sites) (neither (breach FragmentCycle (first_of (fragment_cycle fs met) sites)) others later).0 in
    let both = neither (first_of (fragment_cycle fs met) (sites_of_operation s (type_of_kind s o.kind) o)) (first_of (fragment_cycle fs met) (sites_of_met s fs 0 met))
    (sym (first_of_append (fragment_cycle fs met) (sites_of_operation s (type_of_kind s o.kind) o) (sites_of_met s fs 0 met)) ∙ cycles) in
    ranks fs (set_tree o.selections.items) (λ place m f is there.
    let e : 0 + place ≡ place = omega arith in
    subst (λ p. NoneInside fs (inside_at met (Some p)) (spreads_in f.below)) e (fragments_apart s fs met met 0 place m f both.1 is there))
