-- The types that the objects of the filled response have, found by the pass over the rows, and its entries read from the rows.
use Rattle.std.specs.Prelude.{ℕ, suc, max, List, [], ◌∷◌, get_or, drop, Bool, cond, eqb, leb, ltb, ◌&&◌, ◌||◌}
use Rattle.cost_num.specs.Capped.{capped}
use Rattle.response_model.specs.Response.{Tree, leaf, object, Entries, no_entry, entry}
use Rattle.response_model.specs.Cost.{Part, value_cost}
use Rattle.response_model.specs.Filled.{filled_in}
use Rattle.plan_table.specs.Rows.{PossibleType, Below, leaf_below, objects_below, Row}
use Rattle.plan_table.specs.Totals.{put_at, greatest_alone, type_total, totals}

-- Whether objects of a type cost `most`: by themselves, or since they are those that were picked among types with nodes.
abbrev pub attains_most : ℕ → ℕ → ℕ → ℕ → ℕ → Bool
attains_most most greatest pick cost number = leb most cost || (leb most greatest && eqb number pick)

unfoldable pub first_attaining : Part → ℕ → ℕ → ℕ → List PossibleType → ℕ
first_attaining part most greatest pick [] = 0
first_attaining part most greatest pick (t ∷ possible) = cond (attains_most most greatest pick (value_cost part t.weight) t.number) t.number (first_attaining part most greatest pick possible)

-- The type of the objects below a node, where the types that have nodes there cost this at most, and the first of them that
-- does was picked. Leaves have none.
abbrev pub chosen : Part → Below → ℕ → ℕ → ℕ
chosen part (leaf_below type weight fill) greatest pick = 0
chosen part (objects_below possible) greatest pick = first_attaining part (capped (max (greatest_alone part possible) greatest)) greatest pick possible

-- By depth, the first of the types with nodes that attains the greatest cost, among those behind.
unfoldable pub picked : Part → List Row → ℕ → ℕ
picked part [] = λ d. 0
picked part (r ∷ rows) =
    cond (r.first && leb (capped ((totals part rows).greatest r.depth)) (capped (type_total part r (totals part rows)))) (put_at r.depth r.type (picked part rows)) (picked part rows)

-- the choice at a row before others
abbrev pub choice_at : Part → Row → List Row → ℕ
choice_at part r rows = chosen part r.below (capped ((totals part rows).greatest (suc r.depth))) (picked part rows (suc r.depth))

unfoldable pub choices : Part → List Row → List ℕ
choices part [] = []
choices part (r ∷ rows) = choice_at part r rows ∷ choices part rows

-- ---- entries, where the types of objects were chosen

abbrev pub item_by : Below → ℕ → Entries → Tree
item_by (leaf_below type weight fill) on es = leaf fill
item_by (objects_below possible) on es = object on es

abbrev pub value_by : Row → ℕ → Entries → Tree
value_by r on es = filled_in r.selected.form r.selected.size (item_by r.below on es)

-- The entries of objects of the type T at a depth, from a row on up to the next that is less deep.
unfoldable pub entries_by : ℕ → ℕ → List Row → List ℕ → Entries
entries_by d T [] choices = no_entry
entries_by d T (r ∷ rows) choices =
    cond (ltb r.depth d) no_entry
    (cond (eqb r.depth d && eqb r.type T)
    (entry r.selected.key (value_by r (get_or choices 0 0) (entries_by (suc r.depth) (get_or choices 0 0) rows (drop 1 choices))) (entries_by d T rows (drop 1 choices)))
    (entries_by d T rows (drop 1 choices)))
