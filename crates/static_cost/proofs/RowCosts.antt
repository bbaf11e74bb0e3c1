-- What a row costs, by what is looked up of it.
use Rattle.std.proofs.Common.{◌≡◌, ℕ, ◌+◌, ◌*◌, List, [], ◌∷◌, true, false, Option, Some, None, refl, sym, ap, ◌∙◌, arith, mul_comm}
use Rattle.cost_num.specs.Capped.{capped}
use Rattle.cost_num.proofs.CappedSums.{capped_times}
use Rattle.response_model.specs.Plan.{Form, single, listed}
use Rattle.response_model.specs.Cost.{fields, entry_cost}
use Rattle.response_model.specs.Bound.{greatest_in}
use Rattle.plan_table.specs.declared.rows.NodeRow.{NodeRow}
use Rattle.plan_table.specs.declared.table.Plan.{Plan}
use Rattle.plan_table.specs.Rows.{PossibleType}
use Rattle.plan_table.specs.Tables.{row_of, row_in}
use Rattle.plan_table.specs.Looked.{is_list}
use Rattle.plan_table.specs.Totals.{greatest_alone}

pub entry_of_fields : (p : Plan) (n : NodeRow) (cost : ℕ) → cost ≡ capped ((row_in p n).selected.weight + n.arguments) → cost ≡ capped (entry_cost fields (row_in p n).selected)
unfolding row_of
entry_of_fields p n cost is = is

pub single_value : (form : Form) (size : Option ℕ) (each : ℕ) → is_list form ≡ false → capped each ≡ capped (greatest_in form size each)
single_value (single nullable) size each no_list = refl
single_value (listed nullable item_nullable) size each no_list = absurd (other no_list)
  where
    other : true ≡ false → ⊥
    other e = cc

any_values : (form : Form) (each : ℕ) → is_list form ≡ true → 0 ≡ capped (greatest_in form None each)
any_values (single nullable) each is = absurd (other is)
  where
    other : false ≡ true → ⊥
    other e = cc
any_values (listed nullable item_nullable) each is = omega arith

all_values : (form : Form) (size each cost : ℕ) → is_list form ≡ true → cost ≡ capped (capped each * size) → cost ≡ capped (greatest_in form (Some size) each)
all_values (single nullable) size each cost is e = absurd (other is)
  where
    other : false ≡ true → ⊥
    other e = cc
all_values (listed nullable item_nullable) size each cost is e = e ∙ capped_times each size ∙ ap capped (mul_comm each size)

pub list_of_any_length : (p : Plan) (n : NodeRow) (each : ℕ) → is_list (row_in p n).selected.form ≡ true → n.size ≡ None → 0 ≡ capped (greatest_in (row_in p n).selected.form (row_in p n).selected.size each)
unfolding row_of
list_of_any_length p n each is none = any_values (row_in p n).selected.form each is ∙ ap (λ (size : Option ℕ). capped (greatest_in (row_in p n).selected.form size each)) (sym none)

pub list_of_length : (p : Plan) (n : NodeRow) (size each cost : ℕ) → is_list (row_in p n).selected.form ≡ true → n.size ≡ Some size → cost ≡ capped (capped each * size) → cost ≡ capped (greatest_in (row_in p n).selected.form (row_in p n).selected.size each)
unfolding row_of
list_of_length p n size each cost is some e = all_values (row_in p n).selected.form size each cost is e ∙ ap (λ (z : Option ℕ). capped (greatest_in (row_in p n).selected.form z each)) (sym some)

pub alone_in_fields : (possible : List PossibleType) → 0 ≡ greatest_alone fields possible
alone_in_fields [] = refl
alone_in_fields (t ∷ possible) = let e = alone_in_fields possible in omega arith
