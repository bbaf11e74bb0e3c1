-- Selection sets that hold nothing but the spread of a fragment.
use Rattle.std.proofs.Common.{◌≡◌, ◌<◌, ◌≤◌, ◌-◌, ℕ, Bool, true, List, [], ◌∷◌, ◌++◌, map, flat_map, length, append-nil, Option, Some, None, if◌then◌else◌, refl, sym, ap, ◌∙◌, subst, arith}
use Rattle.std.specs.Prelude.{IfSome, get_or, option_map, ltb}
use Rattle.std.specs.List.{slice_get}
use Rattle.std.proofs.lemmas.Bool.{lt-ltb}
use Rattle.std.proofs.lemmas.Option.{slice_get-map, get_or_from_slice_get}
use Rattle.gql_base.specs.ways.Reading.{Identifier}
use Rattle.gql_base.specs.parts.Arguments.{DirectiveTree}
use Rattle.document_reader.specs.Documents.{fragment_spread, no_selection, selection_then}
use Rattle.document_reader.specs.Trees.{set_tree}
use Rattle.schema_model.specs.Numbers.{type_number}
use Rattle.plan_model.specs.SelectedFields.{Setting}
use Rattle.plan_model.specs.Collecting.{is_included, fields_spread, nesting, collected, WrittenSelections, CollectedField}
use Rattle.plan_model.specs.MergingWalk.{AllRanked}
use Rattle.collected_fields.specs.declared.collector.Collector.{Collector}
use Rattle.collected_fields.specs.declared.tables.SelectionList.{SelectionList}
use Rattle.collected_fields.specs.Gathering.{setting_at, written_in_list, written_at, meaning_at}
use Rattle.collected_fields.specs.Lists.{lists_of_joins}
use Rattle.collected_fields.specs.Alone.{IsSpread, IsSpreadAlone, SpreadsAlone}

-- a list of one, by its length
pub only_one : (xs : List ℕ) → 1 ≤ length xs → length xs < 2 → xs ≡ get_or xs 0 0 ∷ []
only_one [] some few = absurd (omega arith)
only_one (x ∷ []) some few = refl
only_one (x ∷ (y ∷ xs)) some few = absurd (omega arith)

-- what a spread that stands alone comes to
fields_alone : (e : Setting) (T : ℕ) (parent : Option ℕ) (written : Identifier) (directives : List DirectiveTree) → is_included e.values (fragment_spread written directives) ≡ true
    → collected e T ((parent, selection_then (fragment_spread written directives) no_selection) ∷ []) ≡ fields_spread e T (nesting e) written.0
unfolding collected
fields_alone e T parent written directives included =
    let there : List CollectedField = fields_spread e T (nesting e) written.0 in
    ap (λ (b : Bool). ((if b then there else []) ++ []) ++ []) included ∙ (append-nil (there ++ []) ∙ append-nil there)

-- the selections of the number of a selection set
written_there : (c : Collector) (number : ℕ) (list : SelectionList) → slice_get c.tables.lists.items number ≡ Some list → written_at c number ≡ written_in_list list
unfolding written_at
written_there c number list is = get_or_from_slice_get (map written_in_list c.tables.lists.items) number (written_in_list list) _ (slice_get-map written_in_list c.tables.lists.items number ∙ ap (option_map written_in_list) is)

selections_there : (c : Collector) (numbers : List ℕ) (number : ℕ) (list : SelectionList) → numbers ≡ number ∷ [] → ltb number c.joins.count ≡ true → slice_get c.tables.lists.items number ≡ Some list
    → flat_map (meaning_at c) numbers ≡ written_in_list list ∷ []
selections_there c numbers number list alone less is =
    ap (flat_map (meaning_at c)) alone
    ∙ (ap (λ (b : Bool). map (written_at c) (if b then number ∷ [] else get_or (lists_of_joins c.joins) (number - c.joins.count) []) ++ []) less
    ∙ ap (λ (w : WrittenSelections). w ∷ []) (written_there c number list is))

module _ (c : Collector) (numbers : List ℕ) (number : ℕ) (list : SelectionList) (alone : numbers ≡ number ∷ []) (below : number < c.joins.count) (is : slice_get c.tables.lists.items number ≡ Some list) where
  abbrev e : Setting
  e = setting_at c

  spreads : (name : List ℕ) → IsSpreadAlone e.values (set_tree list.written.now) name → SpreadsAlone c numbers name
  spreads name h =
      let spread : IsSpread e.values h.0 name = h.1.1 in
      let parent : Option ℕ = option_map type_number list.parent in
      let there : flat_map (meaning_at c) numbers ≡ (parent, selection_then (fragment_spread spread.written spread.directives) no_selection) ∷ [] =
      selections_there c numbers number list alone (lt-ltb number c.joins.count below) is ∙ (ap (λ ss. (parent, ss) ∷ []) h.1.0 ∙ ap (λ s. (parent, selection_then s no_selection) ∷ []) spread.spread) in
      record {
        fields = λ T. ap (λ ws. collected e T ws) there ∙ (fields_alone e T parent spread.written spread.directives spread.included ∙ ap (fields_spread e T (nesting e)) spread.named);
        above = λ rank ranked. let here = subst (λ ws. AllRanked rank (nesting e) ws) there ranked in subst (λ n. rank n < nesting e) spread.named here.0.0;
        below = λ rank under. subst (λ ws. AllRanked rank (nesting e) ws) (sym there) ((subst (λ n. rank n < nesting e) (sym spread.named) under, tt), tt);
      }

  pub spreads_told : {X : Type 0} (view : X → List ℕ) (found : Option X) → IfSome found (λ x. IsSpreadAlone e.values (set_tree list.written.now) (view x)) → IfSome found (λ x. SpreadsAlone c numbers (view x))
  spreads_told view None h = tt
  spreads_told view (Some x) h = spreads (view x) h
