-- Costs by depth, before and after a row is taken.
use Rattle.std.proofs.Common.{◌≡◌, ⊎_elim, ℕ, zero, suc, ◌+◌, ◌<◌, ◌≤◌, max, List, [], ◌∷◌, length, get_or, Bool, true, false, true≢false, cond, eqb, Option, Some, None, refl, sym, ap, ◌∙◌, subst, arith, eqb-true, eq-eqb}
use Rattle.std.proofs.Math.ListN.{set}
use Rattle.std.proofs.lemmas.Bool.{cases_Bool}
use Rattle.std.proofs.lemmas.List.{get_or-set_other, length-set}
use Rattle.std.proofs.lemmas.Grind.{get_or-set_at}
use Rattle.cost_num.specs.Capped.{capped}
use Rattle.cost_num.proofs.CappedSums.{capped_counts}
use Rattle.response_model.specs.Plan.{Form, single, listed}
use Rattle.response_model.specs.Cost.{Part, types, value_cost, entry_cost}
use Rattle.response_model.specs.Bound.{greatest_in}
use Rattle.plan_model.specs.Plans.{type_weight}
use Rattle.plan_table.specs.declared.TheConstants.{LEVELS}
use Rattle.plan_table.specs.declared.rows.NodeRow.{NodeRow}
use Rattle.plan_table.specs.declared.table.Plan.{Plan}
use Rattle.plan_table.specs.Tables.{row_of, row_in, setting_in}
use Rattle.static_cost.specs.declared.totals.ByDepth.{ByDepth}
use Rattle.static_cost.specs.ByDepth.{HoldsTotals}
use Rattle.plan_table.specs.Rows.{Below, leaf_below, objects_below, Row}
use Rattle.plan_table.specs.Totals.{Totals, put_at, greatest_below, row_total, type_total, with_type, totals_in_front, totals}
use Rattle.plan_table.proofs.Places.{put_elsewhere, below_apart}

abbrev pub zeros : ℕ → List ℕ
zeros zero = []
zeros (suc n) = 0 ∷ zeros n

pub zero_at : (n d : ℕ) → get_or (zeros n) d 0 ≡ 0
zero_at zero d = refl
zero_at (suc n) zero = refl
zero_at (suc n) (suc d) = zero_at n d

pub nothing_taken : (n d : ℕ) → (get_or (zeros n) d 0 ≡ capped ((totals types []).sum d)) × (get_or (zeros n) d 0 ≡ capped ((totals types []).greatest d))
unfolding totals
nothing_taken n d = (let e = zero_at n d in omega arith, let e = zero_at n d in omega arith)

-- A table up to its first 52 places, each up to just above the cap.
abbrev pub AreCapped : List ℕ → (ℕ → ℕ) → Type 0
AreCapped xs table = (d : ℕ) → d < 52 → get_or xs d 0 ≡ capped (table d)

pub put_capped : (xs : List ℕ) (table : ℕ → ℕ) (d n x : ℕ) → length xs ≡ 52 → d < 52 → n ≡ capped x → AreCapped xs table → AreCapped (set xs d n) (put_at d x table)
put_capped xs table d n x long within is all e deep = ⊎_elim
    (λ (same : eqb e d ≡ true). get_or-set_at xs d e n 0 (eqb-true e d same) (let l = long in omega arith) ∙ is ∙ ap (λ (b : Bool). capped (cond b x (table e))) (sym same))
    (λ (differ : eqb e d ≡ false). get_or-set_other xs d e n 0 (apart differ) ∙ all e deep ∙ ap (λ (b : Bool). capped (cond b x (table e))) (sym differ))
    (cases_Bool (eqb e d))
  where
    apart : eqb e d ≡ false → e ≡ d → ⊥
    apart differ same = true≢false (sym (eq-eqb e d same) ∙ differ)

-- What stood at d is put there again.
pub put_again : (xs : List ℕ) (table : ℕ → ℕ) (d : ℕ) → AreCapped xs table → AreCapped xs (put_at d (table d) table)
put_again xs table d all e deep = ⊎_elim
    (λ (same : eqb e d ≡ true). all e deep ∙ ap (λ (k : ℕ). capped (table k)) (eqb-true e d same) ∙ ap (λ (b : Bool). capped (cond b (table d) (table e))) (sym same))
    (λ (differ : eqb e d ≡ false). all e deep ∙ ap (λ (b : Bool). capped (cond b (table d) (table e))) (sym differ))
    (cases_Bool (eqb e d))

below_capped : (part : Part) (below : Below) (n : ℕ) → capped (greatest_below part below (capped n)) ≡ capped (greatest_below part below n)
below_capped part (leaf_below type weight fill) n = refl
below_capped part (objects_below possible) n = omega arith

pub values_capped : (form : Form) (size : Option ℕ) (n : ℕ) → capped (greatest_in form size (capped n)) ≡ capped (greatest_in form size n)
values_capped (single nullable) size n = omega arith
values_capped (listed nullable item_nullable) None n = refl
values_capped (listed nullable item_nullable) (Some size) n = capped_counts n size

-- Where one of two values is capped as the other, so are all values of an entry.
values_alike : (form : Form) (size : Option ℕ) (m n : ℕ) → capped m ≡ capped n → capped (greatest_in form size m) ≡ capped (greatest_in form size n)
values_alike form size m n same = sym (values_capped form size m) ∙ ap (λ (k : ℕ). capped (greatest_in form size k)) same ∙ values_capped form size n

pub record Added (part : Part) (r : Row) (greatest behind each entry values own total : ℕ) : Type 0 where
  pub is_each : each ≡ greatest_below part r.below greatest
  pub is_entry : entry ≡ capped (entry_cost part r.selected)
  pub is_values : values ≡ capped (greatest_in r.selected.form r.selected.size each)
  pub is_own : own ≡ capped (entry + values)
  pub is_total : total ≡ capped (own + behind)

added : (part : Part) (r : Row) (t : Totals) (greatest behind each entry values own total : ℕ) → Added part r greatest behind each entry values own total
    → greatest ≡ capped (t.greatest (suc r.depth)) → behind ≡ capped (t.sum r.depth) → total ≡ capped (row_total part r t)
added part r t greatest behind each entry values own total a is_greatest is_behind =
    let most = greatest_below part r.below (t.greatest (suc r.depth)) in
    let alike : capped each ≡ capped most = ap capped (a.is_each ∙ ap (λ (n : ℕ). greatest_below part r.below n) is_greatest) ∙ below_capped part r.below (t.greatest (suc r.depth)) in
    let all : values ≡ capped (greatest_in r.selected.form r.selected.size most) = a.is_values ∙ values_alike r.selected.form r.selected.size each most alike in
    let e = a.is_entry in
    let o = a.is_own in
    let w = a.is_total in
    omega arith

set_long : (xs : List ℕ) (d n : ℕ) → length xs ≡ 52 → length (set xs d n) ≡ 52
set_long xs d n long = length-set xs d n ∙ long

-- A row that isn't the first of its type.
pub node_taken : (part : Part) (r : Row) (t : Totals) (sums greatest : List ℕ) (each entry values own total : ℕ) → r.first ≡ false → r.depth ≤ 50 → length sums ≡ 52 → length greatest ≡ 52
    → Added part r (get_or greatest (r.depth + 1) 0) (get_or sums r.depth 0) each entry values own total → AreCapped sums t.sum → AreCapped greatest t.greatest
    → AreCapped (set sums r.depth total) (totals_in_front part r t).sum × AreCapped (set greatest (r.depth + 1) 0) (totals_in_front part r t).greatest
node_taken part r t sums greatest each entry values own total not_first shallow long longer a are_sums are_greatest =
    let deeper : r.depth + 1 ≡ suc r.depth = omega arith in
    let total_is = added part r t _ _ each entry values own total a (are_greatest (r.depth + 1) (omega arith) ∙ ap (λ (d : ℕ). capped (t.greatest d)) deeper) (are_sums r.depth (omega arith)) in
    let cleared : AreCapped (set greatest (r.depth + 1) 0) (put_at (suc r.depth) 0 t.greatest) =
    subst (λ (d : ℕ). AreCapped (set greatest (r.depth + 1) 0) (put_at d 0 t.greatest)) deeper (put_capped greatest t.greatest (r.depth + 1) 0 0 longer (omega arith) (omega arith) are_greatest) in
    let own_left : put_at (suc r.depth) 0 t.greatest r.depth ≡ t.greatest r.depth = put_elsewhere (suc r.depth) 0 t.greatest r.depth (below_apart r.depth (suc r.depth) (omega arith)) in (
      subst (λ (b : Bool). AreCapped (set sums r.depth total) (put_at r.depth (cond b 0 (row_total part r t)) t.sum)) (sym not_first) (put_capped sums t.sum r.depth total (row_total part r t) long (omega arith) total_is are_sums),
      subst (λ (b : Bool). AreCapped (set greatest (r.depth + 1) 0) (put_at r.depth (with_type b (value_cost part r.weight + row_total part r t) (t.greatest r.depth)) (put_at (suc r.depth) 0 t.greatest))) (sym not_first)
          (subst (λ (n : ℕ). AreCapped (set greatest (r.depth + 1) 0) (put_at r.depth n (put_at (suc r.depth) 0 t.greatest))) own_left (put_again (set greatest (r.depth + 1) 0) (put_at (suc r.depth) 0 t.greatest) r.depth cleared)),
    )

-- The first row of a type.
pub type_taken : (part : Part) (r : Row) (t : Totals) (sums greatest : List ℕ) (each entry values own total weight cost most : ℕ) → r.first ≡ true → r.depth ≤ 50 → length sums ≡ 52 → length greatest ≡ 52
    → Added part r (get_or greatest (r.depth + 1) 0) (get_or sums r.depth 0) each entry values own total
    → weight ≡ value_cost part r.weight → cost ≡ capped (weight + total) → most ≡ max (get_or (set greatest (r.depth + 1) 0) r.depth 0) cost
    → AreCapped sums t.sum → AreCapped greatest t.greatest
    → AreCapped (set sums r.depth 0) (totals_in_front part r t).sum × AreCapped (set (set greatest (r.depth + 1) 0) r.depth most) (totals_in_front part r t).greatest
type_taken part r t sums greatest each entry values own total weight cost most is_first shallow long longer a is_weight is_cost is_most are_sums are_greatest =
    let deeper : r.depth + 1 ≡ suc r.depth = omega arith in
    let total_is = added part r t _ _ each entry values own total a (are_greatest (r.depth + 1) (omega arith) ∙ ap (λ (d : ℕ). capped (t.greatest d)) deeper) (are_sums r.depth (omega arith)) in
    let cleared : AreCapped (set greatest (r.depth + 1) 0) (put_at (suc r.depth) 0 t.greatest) =
    subst (λ (d : ℕ). AreCapped (set greatest (r.depth + 1) 0) (put_at d 0 t.greatest)) deeper (put_capped greatest t.greatest (r.depth + 1) 0 0 longer (omega arith) (omega arith) are_greatest) in
    let own_left : get_or (set greatest (r.depth + 1) 0) r.depth 0 ≡ capped (t.greatest r.depth) =
    cleared r.depth (omega arith) ∙ ap capped (put_elsewhere (suc r.depth) 0 t.greatest r.depth (below_apart r.depth (suc r.depth) (omega arith))) in
    let most_is : most ≡ capped (max (value_cost part r.weight + row_total part r t) (t.greatest r.depth)) = omega arith in (
      subst (λ (b : Bool). AreCapped (set sums r.depth 0) (put_at r.depth (cond b 0 (row_total part r t)) t.sum)) (sym is_first) (put_capped sums t.sum r.depth 0 0 long (omega arith) (omega arith) are_sums),
      subst (λ (b : Bool). AreCapped (set (set greatest (r.depth + 1) 0) r.depth most) (put_at r.depth (with_type b (value_cost part r.weight + row_total part r t) (t.greatest r.depth)) (put_at (suc r.depth) 0 t.greatest))) (sym is_first)
          (put_capped (set greatest (r.depth + 1) 0) (put_at (suc r.depth) 0 t.greatest) r.depth most (max (value_cost part r.weight + row_total part r t) (t.greatest r.depth)) (set_long greatest (r.depth + 1) 0 longer) (omega arith) most_is cleared),
    )

-- The same of a row of the program.
pub node_step : (part : Part) (p : Plan) (n : NodeRow) (t : Totals) (b : ByDepth) (each entry values own total : ℕ) → n.first ≡ false → n.depth ≤ LEVELS → length b.sums ≡ 52 → length b.greatest ≡ 52
    → Added part (row_in p n) (get_or b.greatest (n.depth + 1) 0) (get_or b.sums n.depth 0) each entry values own total → HoldsTotals t b
    → (d : ℕ) → d < 52 → (get_or (set b.sums n.depth total) d 0 ≡ capped ((totals_in_front part (row_in p n) t).sum d)) × (get_or (set b.greatest (n.depth + 1) 0) d 0 ≡ capped ((totals_in_front part (row_in p n) t).greatest d))
unfolding row_of
node_step part p n t b each entry values own total not_first shallow long longer a holds d within =
    let taken = node_taken part (row_in p n) t b.sums b.greatest each entry values own total not_first shallow long longer a (λ e w. (holds e w).0) (λ e w. (holds e w).1) in
    (taken.0 d within, taken.1 d within)

pub type_step : (part : Part) (p : Plan) (n : NodeRow) (t : Totals) (b : ByDepth) (each entry values own total weight cost most : ℕ) → n.first ≡ true → n.depth ≤ LEVELS → length b.sums ≡ 52 → length b.greatest ≡ 52
    → Added part (row_in p n) (get_or b.greatest (n.depth + 1) 0) (get_or b.sums n.depth 0) each entry values own total
    → weight ≡ value_cost part (type_weight (setting_in p) n.on.number) → cost ≡ capped (weight + total) → most ≡ max (get_or (set b.greatest (n.depth + 1) 0) n.depth 0) cost → HoldsTotals t b
    → (d : ℕ) → d < 52 → (get_or (set b.sums n.depth 0) d 0 ≡ capped ((totals_in_front part (row_in p n) t).sum d)) × (get_or (set (set b.greatest (n.depth + 1) 0) n.depth most) d 0 ≡ capped ((totals_in_front part (row_in p n) t).greatest d))
unfolding row_of
type_step part p n t b each entry values own total weight cost most is_first shallow long longer a is_weight is_cost is_most holds d within =
    let taken = type_taken part (row_in p n) t b.sums b.greatest each entry values own total weight cost most is_first shallow long longer a is_weight is_cost is_most (λ e w. (holds e w).0) (λ e w. (holds e w).1) in
    (taken.0 d within, taken.1 d within)

-- what an object of its type costs
pub cost_of_type : (part : Part) (p : Plan) (n : NodeRow) (t : Totals) (b : ByDepth) (each entry values own total weight cost : ℕ) → n.depth ≤ LEVELS
    → Added part (row_in p n) (get_or b.greatest (n.depth + 1) 0) (get_or b.sums n.depth 0) each entry values own total
    → weight ≡ value_cost part (type_weight (setting_in p) n.on.number) → cost ≡ capped (weight + total) → HoldsTotals t b → cost ≡ capped (type_total part (row_in p n) t)
unfolding row_of
cost_of_type part p n t b each entry values own total weight cost shallow a is_weight is_cost holds =
    let deeper : n.depth + 1 ≡ suc n.depth = omega arith in
    let total_is = added part (row_in p n) t _ _ each entry values own total a ((holds (n.depth + 1) (omega arith)).1 ∙ ap (λ (d : ℕ). capped (t.greatest d)) deeper) (holds n.depth (omega arith)).0 in
    omega arith
