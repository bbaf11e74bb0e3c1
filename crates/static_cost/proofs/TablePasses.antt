-- Going over a table from its last row to its first.
use Rattle.std.proofs.Common.{◌≡◌, ℕ, suc, ◌+◌, ◌-◌, ◌<◌, max, min, List, [], ◌∷◌, map, length, drop, get_or, sym, ap, ◌∙◌, subst, arith, drop-cons}
use Rattle.std.proofs.lemmas.List.{drop-map, drop_all, length-map}
use Rattle.cost_num.specs.declared.TheConstants.{CAP}
use Rattle.cost_num.specs.Capped.{capped}
use Rattle.response_model.specs.Plan.{Plan as PlanTree}
use Rattle.response_model.specs.Cost.{Part, types, value_cost}
use Rattle.response_model.specs.Bound.{greatest_cost}
use Rattle.plan_model.specs.Plans.{type_weight}
use Rattle.plan_table.specs.declared.rows.NodeRow.{NodeRow}
use Rattle.plan_table.specs.declared.table.Plan.{Plan}
use Rattle.plan_table.specs.Rows.{Row}
use Rattle.plan_table.specs.Tables.{HasRows, row_in, table_rows, setting_in}
use Rattle.plan_table.specs.Totals.{totals_in_front, totals, greatest_in_rows}
use Rattle.plan_table.proofs.TableTrees.{greatest_of_table}
use Rattle.static_cost.specs.declared.totals.ByDepth.{ByDepth}
use Rattle.static_cost.specs.ByDepth.{HoldsTotals}

-- the row before those behind it
pub row_in_front : (p : Plan) (rows : List NodeRow) (i : ℕ) (n : NodeRow) → rows ≡ p.rows.items → i < length rows → n ≡ get_or rows i n → drop i (table_rows p) ≡ row_in p n ∷ drop (suc i) (table_rows p)
row_in_front p rows i n is within found =
    drop-map (row_in p) i p.rows.items
    ∙ ap (λ (xs : List NodeRow). map (row_in p) (drop i xs)) (sym is)
    ∙ ap (λ (xs : List NodeRow). map (row_in p) xs) (drop-cons rows i n within ∙ ap (λ (m : NodeRow). m ∷ drop (suc i) rows) (sym found))
    ∙ ap (λ (xs : List NodeRow). row_in p n ∷ map (row_in p) (drop (suc i) xs)) is
    ∙ ap (λ (xs : List Row). row_in p n ∷ xs) (sym (drop-map (row_in p) (suc i) p.rows.items))

pub none_behind : (p : Plan) (rows : List NodeRow) → rows ≡ p.rows.items → drop (length rows) (table_rows p) ≡ []
none_behind p rows is = drop_all (length rows) (table_rows p) (let same = length-map p.rows.items (row_in p) in let long = ap length is in omega arith)

pub first_totals : (part : Part) (p : Plan) (rows : List NodeRow) (b : ByDepth) → rows ≡ p.rows.items → HoldsTotals (totals types []) b → HoldsTotals (totals part (drop (length rows) (table_rows p))) b
unfolding totals
first_totals part p rows b is holds = subst (λ (xs : List Row). HoldsTotals (totals part xs) b) (sym (none_behind p rows is)) holds

pub next_totals : (part : Part) (p : Plan) (rows : List NodeRow) (at : ℕ) (n : NodeRow) (b : ByDepth) → rows ≡ p.rows.items → 0 < at → at - 1 < length rows → n ≡ get_or rows (at - 1) n
    → HoldsTotals (totals_in_front part (row_in p n) (totals part (drop at (table_rows p)))) b → HoldsTotals (totals part (drop (at - 1) (table_rows p))) b
unfolding totals
next_totals part p rows at n b is some within found holds =
    let next : suc (at - 1) ≡ at = omega arith in
    subst (λ (xs : List Row). HoldsTotals (totals part xs) b)
    (sym (row_in_front p rows (at - 1) n is within found ∙ ap (λ (k : ℕ). row_in p n ∷ drop k (table_rows p)) next)) holds

pub last_totals : (part : Part) (p : Plan) (at : ℕ) (b : ByDepth) (weight alone most result : ℕ) → at ≡ 0 → HoldsTotals (totals part (drop at (table_rows p))) b
    → weight ≡ type_weight (setting_in p) p.root.number → alone ≡ value_cost part weight → most ≡ max (get_or b.greatest 1 0) alone → result ≡ min most (CAP + 1)
    → result ≡ capped (greatest_in_rows part (type_weight (setting_in p) p.root.number) (table_rows p))
last_totals part p at b weight alone most result first holds is_weight is_alone is_most is_result =
    let greatest : get_or b.greatest 1 0 ≡ capped ((totals part (table_rows p)).greatest 1) = (holds 1 (omega arith)).1 ∙ ap (λ (k : ℕ). capped ((totals part (drop k (table_rows p))).greatest 1)) first in
    let own : alone ≡ value_cost part (type_weight (setting_in p) p.root.number) = is_alone ∙ ap (λ (w : ℕ). value_cost part w) is_weight in
    omega arith

-- What the pass gives is the greatest cost of each tree that the table holds.
pub greatest_found : (part : Part) (p : Plan) (tree : PlanTree) (most : ℕ) → HasRows p tree → most ≡ capped (greatest_in_rows part (type_weight (setting_in p) p.root.number) (table_rows p)) → most ≡ capped (greatest_cost part tree)
greatest_found part p tree most has is = is ∙ ap capped (greatest_of_table p part tree has)
