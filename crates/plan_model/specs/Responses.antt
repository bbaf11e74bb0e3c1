-- The responses of an operation, without a plan: when a tree fits selections, keeps the declared sizes, and what it costs; and
-- the bound of these costs.
use Rattle.std.specs.Prelude.{◌≡◌, ℕ, ◌+◌, ◌≤◌, List, [], ◌∷◌, Bool, true, false, ◌||◌, eqb, Option, None}
use Rattle.response_model.specs.Plan.{Form, single, listed}
use Rattle.response_model.specs.Response.{Tree, null, leaf, list_of, object, Elements, no_element, element, Entries, no_entry, entry, count, is_null, may_be_null, IsLeafOf, IsWithin}
use Rattle.response_model.specs.Cost.{Part, value_cost, entry_cost}
use Rattle.plan_model.specs.SelectedFields.{Setting, Place, leaf_place, object_place, holds, form_at, place_at, size_at}
use Rattle.plan_model.specs.Merging.{Position, keys_at, call_under, selected_under, below_key}
use Rattle.plan_model.specs.Plans.{type_weight}

abbrev pub is_among : ℕ → List ℕ → Bool
is_among T [] = false
is_among T (U ∷ Us) = eqb U T || is_among T Us

module _ (e : Setting) where
  abbrev mutual
    -- Null stands where it may, a list where a list is due, a leaf holds what its type holds, and an object of a possible type
    -- has an entry for each response key, in their order, and no other.
    pub FitsSelections : Form → Place → Position → Tree → Type 0
    FitsSelections form place p null = may_be_null form ≡ true
    FitsSelections (single nullable) (leaf_place type weight fill) p (leaf json) = (is_null json ≡ false) × IsLeafOf (holds e.schema) type fill json
    FitsSelections (single nullable) (object_place Ts) p (leaf json) = ⊥
    FitsSelections (listed nullable item_nullable) place p (leaf json) = ⊥
    FitsSelections (single nullable) place p (list_of ts) = ⊥
    FitsSelections (listed nullable item_nullable) place p (list_of ts) = ElementsFitSelections item_nullable place p ts
    FitsSelections (single nullable) (leaf_place type weight fill) p (object T es) = ⊥
    FitsSelections (single nullable) (object_place Ts) p (object T es) = (is_among T Ts ≡ true) × EntriesFitSelections T (keys_at e T p) p es
    FitsSelections (listed nullable item_nullable) place p (object T es) = ⊥

    pub EntriesFitSelections : ℕ → List (List ℕ) → Position → Entries → Type 0
    EntriesFitSelections T [] p no_entry = Unit {0}
    EntriesFitSelections T [] p (entry key t es) = ⊥
    EntriesFitSelections T (k ∷ ks) p no_entry = ⊥
    EntriesFitSelections T (k ∷ ks) p (entry key t es) =
        (k ≡ key) × FitsSelections (form_at e T (call_under e T k p)) (place_at e T (call_under e T k p)) (below_key e T k p) t × EntriesFitSelections T ks p es

    pub ElementsFitSelections : Bool → Place → Position → Elements → Type 0
    ElementsFitSelections nullable place p no_element = Unit {0}
    ElementsFitSelections nullable place p (element t ts) = FitsSelections (single nullable) place p t × ElementsFitSelections nullable place p ts

  abbrev mutual
    -- Each list has at most the declared size of its field.
    pub KeepsSizes : Option ℕ → Place → Position → Tree → Type 0
    KeepsSizes size place p null = Unit {0}
    KeepsSizes size place p (leaf json) = Unit {0}
    KeepsSizes size place p (list_of ts) = IsWithin size (count ts) × ElementsKeepSizes place p ts
    KeepsSizes size (leaf_place type weight fill) p (object T es) = Unit {0}
    KeepsSizes size (object_place Ts) p (object T es) = EntriesKeepSizes T (keys_at e T p) p es

    pub EntriesKeepSizes : ℕ → List (List ℕ) → Position → Entries → Type 0
    EntriesKeepSizes T [] p es = Unit {0}
    EntriesKeepSizes T (k ∷ ks) p no_entry = Unit {0}
    EntriesKeepSizes T (k ∷ ks) p (entry key t es) =
        KeepsSizes (size_at e T (call_under e T k p) p.handed) (place_at e T (call_under e T k p)) (below_key e T k p) t × EntriesKeepSizes T ks p es

    pub ElementsKeepSizes : Place → Position → Elements → Type 0
    ElementsKeepSizes place p no_element = Unit {0}
    ElementsKeepSizes place p (element t ts) = KeepsSizes None place p t × ElementsKeepSizes place p ts

  abbrev mutual
    -- What it costs: each value by its type, each entry by its field and arguments. Null and lists cost nothing by themselves.
    pub response_cost : Part → Place → Position → Tree → ℕ
    response_cost part place p null = 0
    response_cost part (leaf_place type weight fill) p (leaf json) = value_cost part weight
    response_cost part (object_place Ts) p (leaf json) = 0
    response_cost part place p (list_of ts) = elements_cost part place p ts
    response_cost part (leaf_place type weight fill) p (object T es) = 0
    response_cost part (object_place Ts) p (object T es) = value_cost part (type_weight e T) + entries_cost part T (keys_at e T p) p es

    pub entries_cost : Part → ℕ → List (List ℕ) → Position → Entries → ℕ
    entries_cost part T [] p es = 0
    entries_cost part T (k ∷ ks) p no_entry = 0
    entries_cost part T (k ∷ ks) p (entry key t es) =
        entry_cost part (selected_under e T k p) + response_cost part (place_at e T (call_under e T k p)) (below_key e T k p) t + entries_cost part T ks p es

    pub elements_cost : Part → Place → Position → Elements → ℕ
    elements_cost part place p no_element = 0
    elements_cost part place p (element t ts) = response_cost part place p t + elements_cost part place p ts

  -- A response: it fits and keeps the sizes, and at its root null may stand and no list.
  abbrev pub IsResponseTo : Place → Position → Tree → Type 0
  IsResponseTo place p t = FitsSelections (single true) place p t × KeepsSizes None place p t

  -- The bound of a part of the cost: no response costs more, and one costs as much.
  pub record IsBoundOf (part : Part) (place : Place) (p : Position) (bound : ℕ) : Type 0 where
    pub upper : (t : Tree) → IsResponseTo place p t → response_cost part place p t ≤ bound
    pub attained : (t : Tree) × IsResponseTo place p t × (response_cost part place p t ≡ bound)
