-- What is collected from selections that can be ended: below each field they can be ended again.
use Rattle.std.proofs.Common.{◌≡◌, ⊎_elim, ℕ, zero, suc, List, [], ◌∷◌, map, true, false, bytes_eq, Option}
use Rattle.std.specs.Prelude.{find, if◌then◌else◌}
use Rattle.std.proofs.lemmas.Bool.{cases_Bool}
use Rattle.document_reader.specs.Documents.{SelectionTree, field_selection, fragment_spread, inline_fragment, SelectionTrees, no_selection, selection_then}
use Rattle.document_rules.specs.Parts.{FragmentData, fragment_name}
use Rattle.document_rules.specs.Sites.{has_selections, composite_named, below_inline}
use Rattle.plan_model.specs.SelectedFields.{Setting, written_below}
use Rattle.plan_model.specs.Collecting.{is_included, applies_if_named, applies_by_name, fragment_named, nesting, CollectedField, WrittenSelections, fields_of, fields_in, fields_written, fields_entered, fields_spread, collected_to, collected}
use Rattle.plan_model.specs.Merging.{Position, fields_of_key, selections_below, asks, fields_at, fields_under}
use Rattle.stripped_responses.proofs.RewrittenFields.{Each, each_append, each_where}
use Rattle.sent_replies.specs.Asking.{HasSelections, HaveSelections, AllHaveSelections, FragmentsHaveSelections, MarkedSelections, CanBeEnded}

module _ (e : Setting) where
  -- A field whose type is an interface or a union has selections, and so it is below it.
  abbrev pub FieldHas : CollectedField → Type 0
  FieldHas f = (asks e f ≡ true → has_selections f.below ≡ true) × HaveSelections e.schema (written_below e.schema f.parent f.call) f.below

  module _ (T : ℕ) where
    abbrev Gives : (List ℕ → List CollectedField) → Type 0
    Gives g = (name : List ℕ) → Each FieldHas (g name)

    mutual
      one_has : (g : List ℕ → List CollectedField) (parent : Option ℕ) (x : SelectionTree) → Gives g → HasSelections e.schema parent x → Each FieldHas (fields_of e T g parent x)
      one_has g parent (field_selection names arguments directives below) gives has = (has, tt)
      one_has g parent (fragment_spread name directives) gives has = gives name.0
      one_has g parent (inline_fragment on directives below) gives has =
          each_where FieldHas (applies_if_named e.schema T on) (fields_in e T g (below_inline e.schema parent on) below) (all_have g (below_inline e.schema parent on) below gives has)

      all_have : (g : List ℕ → List CollectedField) (parent : Option ℕ) (xs : SelectionTrees) → Gives g → HaveSelections e.schema parent xs → Each FieldHas (fields_in e T g parent xs)
      all_have g parent no_selection gives has = tt
      all_have g parent (selection_then x others) gives has =
          each_append FieldHas (if is_included e.values x then fields_of e T g parent x else []) (fields_in e T g parent others)
          (each_where FieldHas (is_included e.values x) (fields_of e T g parent x) (one_has g parent x gives has.0)) (all_have g parent others gives has.1)

    entered_has : (g : List ℕ → List CollectedField) (fs : List FragmentData) (name : List ℕ) → Gives g → FragmentsHaveSelections e.schema fs → Each FieldHas (fields_entered e T g (find (λ x. bytes_eq (fragment_name x) name) fs))
    entered_has g [] name gives has = tt
    entered_has g (b ∷ fs) name gives has = ⊎_elim
        (λ (is : bytes_eq (fragment_name b) name ≡ true). rw (is) (each_where FieldHas (applies_by_name e.schema T b.on.0) (fields_in e T g (composite_named e.schema b.on.0) b.below) (all_have g (composite_named e.schema b.on.0) b.below gives has.0)))
        (λ (is : bytes_eq (fragment_name b) name ≡ false). rw (is) (entered_has g fs name gives has.1))
        (cases_Bool (bytes_eq (fragment_name b) name))

    spread_has : (depth : ℕ) (name : List ℕ) → FragmentsHaveSelections e.schema e.fragments → Each FieldHas (fields_spread e T depth name)
    unfolding fields_spread fragment_named
    spread_has zero name has = tt
    spread_has (suc depth) name has = entered_has (fields_spread e T depth) e.fragments name (λ other. spread_has depth other has) has

    written_have : (depth : ℕ) (ws : List WrittenSelections) → FragmentsHaveSelections e.schema e.fragments → AllHaveSelections e.schema ws → Each FieldHas (collected_to e T depth ws)
    written_have depth [] fragments has = tt
    written_have depth (v ∷ ws) fragments has =
        each_append FieldHas (fields_written e T (fields_spread e T depth) v) (collected_to e T depth ws)
        (all_have (fields_spread e T depth) v.0 v.1 (λ name. spread_has depth name fragments) has.0) (written_have depth ws fragments has.1)

    fields_have : (p : Position) → FragmentsHaveSelections e.schema e.fragments → AllHaveSelections e.schema p.selections → Each FieldHas (fields_at e T p)
    unfolding collected
    fields_have p fragments has = written_have (nesting e) p.selections fragments has

    key_has : (k : List ℕ) (fs : List CollectedField) → Each FieldHas fs → Each FieldHas (fields_of_key k fs)
    key_has k [] has = tt
    key_has k (f ∷ fs) has = ⊎_elim
        (λ (here : bytes_eq f.key k ≡ true). rw (here) (has.0, key_has k fs has.1))
        (λ (other : bytes_eq f.key k ≡ false). rw (other) (key_has k fs has.1))
        (cases_Bool (bytes_eq f.key k))

    pub under_has : (k : List ℕ) (p : Position) → FragmentsHaveSelections e.schema e.fragments → AllHaveSelections e.schema p.selections → Each FieldHas (fields_under e T k p)
    under_has k p fragments has = key_has k (fields_at e T p) (fields_have p fragments has)

  -- ---- what stands below such fields

  pub below_has : (fs : List CollectedField) → Each FieldHas fs → AllHaveSelections e.schema (map (selections_below e) fs)
  below_has [] has = tt
  below_has (f ∷ fs) has = (has.0.1, below_has fs has.1)

  -- each with the mark of its field
  abbrev pub marked_below : CollectedField → MarkedSelections
  marked_below f = (asks e f, selections_below e f)

  pub marked_can : (fs : List CollectedField) → Each FieldHas fs → CanBeEnded (map marked_below fs)
  marked_can [] has = tt
  marked_can (f ∷ fs) has = (has.0.0, marked_can fs has.1)
