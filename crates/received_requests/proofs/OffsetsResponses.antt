-- What fits a position, keeps its sizes and costs something does so without the offsets of names.
use Rattle.std.proofs.Common.{◌≡◌, ℕ, ◌+◌, List, [], ◌∷◌, map, Bool, true, Option, None, refl, sym, ap, ap₂, ◌∙◌}
use Rattle.cost_directives.specs.Weights.{WeightsData}
use Rattle.response_model.specs.Plan.{Form, single, listed}
use Rattle.response_model.specs.Response.{Tree, null, leaf, list_of, object, Elements, no_element, element, Entries, no_entry, entry, count, IsWithin}
use Rattle.response_model.specs.Cost.{Part, value_cost}
use Rattle.input_values.specs.coercion.Literals.{Environment}
use Rattle.document_rules.specs.Parts.{FragmentData}
use Rattle.schema_model.specs.SchemaData.{SchemaData}
use Rattle.plan_model.specs.SelectedFields.{Setting, HandedSize, Place, leaf_place, object_place, form_at, place_at, size_at}
use Rattle.plan_model.specs.Collecting.{WrittenSelections}
use Rattle.plan_model.specs.Merging.{Position, keys_at, call_under, selected_under, below_key}
use Rattle.plan_model.specs.Plans.{type_weight}
use Rattle.plan_model.specs.Responses.{is_among, FitsSelections, EntriesFitSelections, ElementsFitSelections, KeepsSizes, EntriesKeepSizes, ElementsKeepSizes, response_cost, entries_cost, elements_cost}
use Rattle.stripped_responses.proofs.Stripping.{entry_alike}
use Rattle.received_requests.specs.Offsets.{fragment_placeless, setting_placeless, position_placeless, DifferInOffsets}
use Rattle.received_requests.proofs.OffsetsFields.{e'}
use Rattle.received_requests.proofs.OffsetsKeys.{same_keys, below_alike, form_alike, place_alike, size_alike, weight_alike, cost_alike}

abbrev p' : Position → Position
p' p = position_placeless p

module _ (e : Setting) where
  -- ---- the value under a key, first as it is looked for without offsets

  fit_under : (T : ℕ) (k : List ℕ) (p : Position) (t : Tree) → FitsSelections (e' e) (form_at (e' e) T (call_under (e' e) T k (p' p))) (place_at (e' e) T (call_under (e' e) T k (p' p))) (below_key (e' e) T k (p' p)) t
      ≡ FitsSelections (e' e) (form_at e T (call_under e T k p)) (place_at e T (call_under e T k p)) (p' (below_key e T k p)) t
  fit_under T k p t =
      ap₂ (λ (form : Form) (place : Place). FitsSelections (e' e) form place (below_key (e' e) T k (p' p)) t) (form_alike e T k p) (place_alike e T k p)
      ∙ ap (λ (q : Position). FitsSelections (e' e) (form_at e T (call_under e T k p)) (place_at e T (call_under e T k p)) q t) (below_alike e T k p)

  keeping_under : (T : ℕ) (k : List ℕ) (p : Position) (t : Tree) → KeepsSizes (e' e) (size_at (e' e) T (call_under (e' e) T k (p' p)) p.handed) (place_at (e' e) T (call_under (e' e) T k (p' p))) (below_key (e' e) T k (p' p)) t
      ≡ KeepsSizes (e' e) (size_at e T (call_under e T k p) p.handed) (place_at e T (call_under e T k p)) (p' (below_key e T k p)) t
  keeping_under T k p t =
      ap₂ (λ (size : Option ℕ) (place : Place). KeepsSizes (e' e) size place (below_key (e' e) T k (p' p)) t) (size_alike e T k p) (place_alike e T k p)
      ∙ ap (λ (q : Position). KeepsSizes (e' e) (size_at e T (call_under e T k p) p.handed) (place_at e T (call_under e T k p)) q t) (below_alike e T k p)

  cost_under : (part : Part) (T : ℕ) (k : List ℕ) (p : Position) (t : Tree) → response_cost (e' e) part (place_at (e' e) T (call_under (e' e) T k (p' p))) (below_key (e' e) T k (p' p)) t ≡ response_cost (e' e) part (place_at e T (call_under e T k p)) (p' (below_key e T k p)) t
  cost_under part T k p t = ap₂ (λ (place : Place) (q : Position). response_cost (e' e) part place q t) (place_alike e T k p) (below_alike e T k p)

  -- ---- responses

  mutual
    same_fit : (form : Form) (place : Place) (p : Position) (t : Tree) → FitsSelections (e' e) form place (p' p) t ≡ FitsSelections e form place p t
    same_fit form place p null = refl
    same_fit (single nullable) (leaf_place type weight fill) p (leaf json) = refl
    same_fit (single nullable) (object_place Ts) p (leaf json) = refl
    same_fit (listed nullable item_nullable) place p (leaf json) = refl
    same_fit (single nullable) place p (list_of ts) = refl
    same_fit (listed nullable item_nullable) place p (list_of ts) = elements_fit item_nullable place p ts
    same_fit (single nullable) (leaf_place type weight fill) p (object T es) = refl
    same_fit (single nullable) (object_place Ts) p (object T es) =
        ap (λ (X : Type 0). (is_among T Ts ≡ true) × X) (ap (λ (ks : List (List ℕ)). EntriesFitSelections (e' e) T ks (p' p) es) (same_keys e T p) ∙ entries_fit T (keys_at e T p) p es)
    same_fit (listed nullable item_nullable) place p (object T es) = refl

    entries_fit : (T : ℕ) (ks : List (List ℕ)) (p : Position) (es : Entries) → EntriesFitSelections (e' e) T ks (p' p) es ≡ EntriesFitSelections e T ks p es
    entries_fit T [] p no_entry = refl
    entries_fit T [] p (entry key t es) = refl
    entries_fit T (k ∷ ks) p no_entry = refl
    entries_fit T (k ∷ ks) p (entry key t es) =
        ap₂ (λ (X Y : Type 0). (k ≡ key) × X × Y) (fit_under T k p t ∙ same_fit (form_at e T (call_under e T k p)) (place_at e T (call_under e T k p)) (below_key e T k p) t) (entries_fit T ks p es)

    elements_fit : (nullable : Bool) (place : Place) (p : Position) (ts : Elements) → ElementsFitSelections (e' e) nullable place (p' p) ts ≡ ElementsFitSelections e nullable place p ts
    elements_fit nullable place p no_element = refl
    elements_fit nullable place p (element t ts) = ap₂ (λ (X Y : Type 0). X × Y) (same_fit (single nullable) place p t) (elements_fit nullable place p ts)

  mutual
    same_keeping : (size : Option ℕ) (place : Place) (p : Position) (t : Tree) → KeepsSizes (e' e) size place (p' p) t ≡ KeepsSizes e size place p t
    same_keeping size place p null = refl
    same_keeping size place p (leaf json) = refl
    same_keeping size place p (list_of ts) = ap (λ (X : Type 0). IsWithin size (count ts) × X) (elements_keep place p ts)
    same_keeping size (leaf_place type weight fill) p (object T es) = refl
    same_keeping size (object_place Ts) p (object T es) = ap (λ (ks : List (List ℕ)). EntriesKeepSizes (e' e) T ks (p' p) es) (same_keys e T p) ∙ entries_keep T (keys_at e T p) p es

    entries_keep : (T : ℕ) (ks : List (List ℕ)) (p : Position) (es : Entries) → EntriesKeepSizes (e' e) T ks (p' p) es ≡ EntriesKeepSizes e T ks p es
    entries_keep T [] p es = refl
    entries_keep T (k ∷ ks) p no_entry = refl
    entries_keep T (k ∷ ks) p (entry key t es) =
        ap₂ (λ (X Y : Type 0). X × Y) (keeping_under T k p t ∙ same_keeping (size_at e T (call_under e T k p) p.handed) (place_at e T (call_under e T k p)) (below_key e T k p) t) (entries_keep T ks p es)

    elements_keep : (place : Place) (p : Position) (ts : Elements) → ElementsKeepSizes (e' e) place (p' p) ts ≡ ElementsKeepSizes e place p ts
    elements_keep place p no_element = refl
    elements_keep place p (element t ts) = ap₂ (λ (X Y : Type 0). X × Y) (same_keeping None place p t) (elements_keep place p ts)

  module _ (part : Part) where
    mutual
      same_cost : (place : Place) (p : Position) (t : Tree) → response_cost (e' e) part place (p' p) t ≡ response_cost e part place p t
      same_cost place p null = refl
      same_cost (leaf_place type weight fill) p (leaf json) = refl
      same_cost (object_place Ts) p (leaf json) = refl
      same_cost place p (list_of ts) = elements_alike place p ts
      same_cost (leaf_place type weight fill) p (object T es) = refl
      same_cost (object_place Ts) p (object T es) =
          ap (λ (n : ℕ). value_cost part (type_weight e T) + n) (ap (λ (ks : List (List ℕ)). entries_cost (e' e) part T ks (p' p) es) (same_keys e T p) ∙ entries_alike T (keys_at e T p) p es)

      entries_alike : (T : ℕ) (ks : List (List ℕ)) (p : Position) (es : Entries) → entries_cost (e' e) part T ks (p' p) es ≡ entries_cost e part T ks p es
      entries_alike T [] p es = refl
      entries_alike T (k ∷ ks) p no_entry = refl
      entries_alike T (k ∷ ks) p (entry key t es) =
          ap₂ (λ (n m : ℕ). n + m)
          (ap₂ (λ (n m : ℕ). n + m) (entry_alike part (selected_under (e' e) T k (p' p)) (selected_under e T k p) (weight_alike e T k p) (cost_alike e T k p)) (cost_under part T k p t ∙ same_cost (place_at e T (call_under e T k p)) (below_key e T k p) t))
          (entries_alike T ks p es)

      elements_alike : (place : Place) (p : Position) (ts : Elements) → elements_cost (e' e) part place (p' p) ts ≡ elements_cost e part place p ts
      elements_alike place p no_element = refl
      elements_alike place p (element t ts) = ap₂ (λ (n m : ℕ). n + m) (same_cost place p t) (elements_alike place p ts)

-- ---- two that differ in offsets are one without them

module _ (e f : Setting) (p q : Position) (differ : DifferInOffsets e f p q) where
  one_setting : setting_placeless f ≡ setting_placeless e
  one_setting =
      ap₂ (λ (s : SchemaData) (w : WeightsData). record { schema = s; weights = w; values = f.values; fragments = map fragment_placeless f.fragments }) differ.schema differ.weights
      ∙ ap₂ (λ (values : Environment) (fragments : List FragmentData). record { schema = e.schema; weights = e.weights; values = values; fragments = fragments }) differ.values differ.fragments

  one_position : position_placeless q ≡ position_placeless p
  one_position = ap₂ (λ (ws : List WrittenSelections) (handed : HandedSize). record { selections = ws; handed = handed }) differ.selections differ.handed

  pub fits_alike : (form : Form) (place : Place) (t : Tree) → FitsSelections e form place p t ≡ FitsSelections f form place q t
  fits_alike form place t =
      sym (same_fit e form place p t)
      ∙ (sym (ap₂ (λ (g : Setting) (r : Position). FitsSelections g form place r t) one_setting one_position)
      ∙ same_fit f form place q t)

  pub keeps_alike : (size : Option ℕ) (place : Place) (t : Tree) → KeepsSizes e size place p t ≡ KeepsSizes f size place q t
  keeps_alike size place t =
      sym (same_keeping e size place p t)
      ∙ (sym (ap₂ (λ (g : Setting) (r : Position). KeepsSizes g size place r t) one_setting one_position)
      ∙ same_keeping f size place q t)

  pub costs_alike : (part : Part) (place : Place) (t : Tree) → response_cost e part place p t ≡ response_cost f part place q t
  costs_alike part place t =
      sym (same_cost e part place p t)
      ∙ (sym (ap₂ (λ (g : Setting) (r : Position). response_cost g part place r t) one_setting one_position)
      ∙ same_cost f part place q t)

  pub differ_back : DifferInOffsets f e q p
  differ_back = record {
    schema = sym differ.schema;
    weights = sym differ.weights;
    values = sym differ.values;
    fragments = sym differ.fragments;
    selections = sym differ.selections;
    handed = sym differ.handed;
  }
