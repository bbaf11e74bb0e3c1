-- What a table says of the trees that it holds.
use Rattle.std.proofs.Common.{◌≡◌, ℕ, max, List, length, sym, ap, ◌∙◌, arith}
use Rattle.response_model.specs.Plan.{Plan as PlanTree, leaf_plan, position, ObjectTypes, no_type, object_type}
use Rattle.response_model.specs.Cost.{Part, value_cost}
use Rattle.response_model.specs.Bound.{greatest_cost}
use Rattle.plan_model.specs.Plans.{node_count, type_weight}
use Rattle.plan_table.specs.declared.table.Plan.{Plan}
use Rattle.plan_table.specs.Rows.{Row, types_in, rows_of_types}
use Rattle.plan_table.specs.Tables.{IsAlone, HasRows, table_rows, setting_in}
use Rattle.plan_table.specs.Totals.{greatest_alone, greatest_in_rows, totals}
use Rattle.plan_table.proofs.RowCounts.{types_counted}
use Rattle.plan_table.proofs.RowTotals.{greatest_of_rows}

pub rows_counted : (p : Plan) (tree : PlanTree) → HasRows p tree → length (table_rows p) ≡ node_count tree
rows_counted p (leaf_plan type weight fill) has = absurd has
rows_counted p (position possible) has = ap length has.1 ∙ types_counted 1 possible

alone_costs : (part : Part) (T weight : ℕ) (possible : ObjectTypes) → IsAlone T weight possible → greatest_alone part (types_in possible) ≡ value_cost part weight
alone_costs part T weight no_type alone = absurd alone
alone_costs part T weight (object_type U w nodes no_type) alone = ap (λ (n : ℕ). max (value_cost part n) 0) alone.1 ∙ omega arith
alone_costs part T weight (object_type U w nodes (object_type V v ns others)) alone = absurd alone

pub greatest_of_table : (p : Plan) (part : Part) (tree : PlanTree) → HasRows p tree → greatest_in_rows part (type_weight (setting_in p) p.root.number) (table_rows p) ≡ greatest_cost part tree
greatest_of_table p part (leaf_plan type weight fill) has = absurd has
greatest_of_table p part (position possible) has =
    ap (λ (rows : List Row). max (value_cost part (type_weight (setting_in p) p.root.number)) ((totals part rows).greatest 1)) has.1
    ∙ ap (λ (n : ℕ). max n ((totals part (rows_of_types 1 possible)).greatest 1)) (sym (alone_costs part p.root.number (type_weight (setting_in p) p.root.number) possible has.0))
    ∙ greatest_of_rows part possible
