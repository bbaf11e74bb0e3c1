-- What is visited and which rows are made at a position, for a type, and for the fields of one key.
use Rattle.std.specs.Prelude.{◌-◌, ℕ, zero, suc, Bool, true, false, List, [], ◌∷◌, ◌++◌, flat_map}
use Rattle.response_model.specs.Plan.{Plan as PlanTree, ObjectTypes}
use Rattle.plan_model.specs.SelectedFields.{Setting, HandedSize, Place, types_of, place_at, hands_at}
use Rattle.plan_model.specs.Collecting.{CollectedField}
use Rattle.plan_model.specs.Merging.{Position, keys_at, first_call, selected_by}
use Rattle.plan_model.specs.Plans.{with_capped, type_weight}
use Rattle.plan_model.specs.Visits.{Visit, fault_of, visits_of, visits_of_type, too_deep_at, deepest_visits, visits, planned_nodes, planned_types, nothing_planned, planned}
use Rattle.collected_fields.specs.Groups.{GroupData}
use Rattle.plan_table.specs.Rows.{Row, below_in, rows_below, rows_of_types, rows_of_nodes}

-- how many levels may stand below nodes of this depth, with these themselves
abbrev pub levels_from : ℕ → ℕ
levels_from depth = 51 - depth

abbrev pub key_seen : List CollectedField → List ℕ
key_seen [] = []
key_seen (f ∷ fields) = f.key

module _ (e : Setting) where
  -- ---- a type

  abbrev pub type_visits : ℕ → Position → ℕ → List Visit
  type_visits zero p T = deepest_visits e p T
  type_visits (suc levels) p T = visits_of_type e (visits e levels) p T

  abbrev pub planned_below : ℕ → Place → Position → PlanTree
  planned_below zero place p = nothing_planned place p
  planned_below (suc levels) place p = planned e levels place p

  abbrev pub type_rows : ℕ → ℕ → Position → ℕ → List Row
  type_rows levels depth p T = rows_of_nodes depth T (type_weight e T) true (planned_nodes e (planned_below levels) p T (keys_at e T p))

  -- ---- a position

  abbrev pub types_planned : ℕ → Position → List ℕ → ObjectTypes
  types_planned levels p Ts = planned_types e (planned_below levels) p Ts

  abbrev pub types_rows : ℕ → ℕ → Position → List ℕ → List Row
  types_rows levels depth p Ts = rows_of_types depth (types_planned levels p Ts)

  -- ---- the fields of one key

  module _ (T : ℕ) (handed : HandedSize) where
    -- the position below them
    abbrev pub group_position : GroupData → Position
    group_position g = record { selections = g.below; handed = hands_at e T (first_call g.fields) }

    abbrev pub node_visits : ℕ → GroupData → List Visit
    node_visits zero g = too_deep_at (key_seen g.fields) ∷ []
    node_visits (suc levels) g = visits_of (key_seen g.fields) (fault_of e T handed g.fields) (visits e levels (types_of (place_at e T (first_call g.fields))) (group_position g))

    abbrev pub planned_for_node : ℕ → GroupData → PlanTree
    planned_for_node levels g = planned_below levels (place_at e T (first_call g.fields)) (group_position g)

    abbrev pub node_row : ℕ → ℕ → Bool → GroupData → Row
    node_row levels depth first g = record {
      depth = depth;
      type = T;
      weight = type_weight e T;
      first = first;
      selected = with_capped (selected_by e T (key_seen g.fields) handed g.fields);
      below = below_in (planned_for_node levels g);
    }

    abbrev pub node_rows : ℕ → ℕ → Bool → GroupData → List Row
    node_rows levels depth first g = node_row levels depth first g ∷ rows_below (suc depth) (planned_for_node levels g)

    -- ---- several keys, where the first of them is the first of the type or not

    abbrev pub groups_visits : ℕ → List GroupData → List Visit
    groups_visits levels groups = flat_map (node_visits levels) groups

    abbrev pub groups_rows : ℕ → ℕ → Bool → List GroupData → List Row
    groups_rows levels depth first [] = []
    groups_rows levels depth first (g ∷ groups) = node_rows levels depth first g ++ groups_rows levels depth false groups
