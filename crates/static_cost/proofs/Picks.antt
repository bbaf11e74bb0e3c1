-- The choice of types, row by row.
use Rattle.std.proofs.Common.{◌≡◌, ⊎_elim, ◌⊎◌, ℕ, suc, ◌+◌, ◌-◌, ◌<◌, ◌≤◌, List, [], ◌∷◌, ◌++◌, map, length, drop, get_or, reverse, Bool, true, false, true≢false, cond, eqb, leb, ◌&&◌, refl, sym, ap, ap₂, ◌∙◌, subst, arith, drop-cons, eqb-true, eq-eqb, le-leb}
use mathlib.Core.List.{reverse-cons}
use Rattle.std.proofs.Math.ListN.{set}
use Rattle.std.proofs.Math.Bool.{and-false}
use Rattle.std.proofs.lemmas.Bool.{cases_Bool, lt-leb}
use Rattle.std.proofs.lemmas.List.{get_or-set_other, reverse-reverse}
use Rattle.std.proofs.lemmas.Grind.{get_or-set_at}
use Rattle.cost_num.specs.Capped.{capped}
use Rattle.input_values.specs.declared.inputs.shape.TypeId.{TypeId}
use Rattle.response_model.specs.Cost.{Part, types, value_cost}
use Rattle.schema_model.specs.Numbers.{type_number}
use Rattle.plan_model.specs.SelectedFields.{Setting}
use Rattle.plan_model.specs.Plans.{type_weight}
use Rattle.plan_table.specs.declared.TheConstants.{LEVELS}
use Rattle.plan_table.specs.declared.rows.NodeRow.{NodeRow}
use Rattle.plan_table.specs.declared.table.Plan.{Plan}
use Rattle.plan_table.specs.Rows.{PossibleType, Row}
use Rattle.plan_table.specs.Tables.{weighed, row_of, row_in, table_rows}
use Rattle.plan_table.specs.Totals.{put_at, type_total, totals_in_front, totals}
use Rattle.static_cost.specs.declared.totals.ByDepth.{ByDepth}
use Rattle.static_cost.specs.declared.choices.Picks.{Picks}
use Rattle.static_cost.specs.ByDepth.{HoldsTotals}
use Rattle.static_cost.specs.Choices.{attains_most, first_attaining, chosen, picked, choice_at, choices}
use Rattle.static_cost.specs.Picking.{HoldsPicks}
use Rattle.static_cost.proofs.Depths.{zeros, zero_at}
use Rattle.static_cost.proofs.TablePasses.{row_in_front, none_behind}

pub no_totals : (part : Part) (b : ByDepth) → HoldsTotals (totals types []) b → HoldsTotals (totals part []) b
unfolding totals
no_totals part b holds = holds

pub totals_taken : (part : Part) (r : Row) (rows : List Row) (b : ByDepth) → HoldsTotals (totals_in_front part r (totals part rows)) b → HoldsTotals (totals part (r ∷ rows)) b
unfolding totals
totals_taken part r rows b holds = holds

pub none_picked : (part : Part) (n d : ℕ) → get_or (zeros n) d 0 ≡ picked part [] d
unfolding picked
none_picked part n d = zero_at n d

-- ---- the first type that attains the greatest cost

abbrev pub possible_from : Setting → List TypeId → List PossibleType
possible_from e xs = map (weighed e) (map type_number xs)

pub first_of_left : (part : Part) (e : Setting) (most greatest pick i : ℕ) (xs : List TypeId) (x : TypeId) → i < length xs → x ≡ get_or xs i x
    → first_attaining part most greatest pick (possible_from e (drop i xs))
    ≡ cond (attains_most most greatest pick (value_cost part (type_weight e x.number)) x.number) x.number (first_attaining part most greatest pick (possible_from e (drop (i + 1) xs)))
unfolding first_attaining
first_of_left part e most greatest pick i xs x within is =
    let next : i + 1 ≡ suc i = omega arith in
    let left : drop i xs ≡ x ∷ drop (i + 1) xs = drop-cons xs i x within ∙ ap (λ (y : TypeId). y ∷ drop (suc i) xs) (sym is) ∙ ap (λ (j : ℕ). x ∷ drop j xs) (sym next) in
    ap (λ (ys : List TypeId). first_attaining part most greatest pick (possible_from e ys)) left

pub first_found : (part : Part) (e : Setting) (most greatest pick i cost : ℕ) (xs : List TypeId) (x : TypeId) → i < length xs → x ≡ get_or xs i x → cost ≡ value_cost part (type_weight e x.number)
    → attains_most most greatest pick cost x.number ≡ true → x.number ≡ first_attaining part most greatest pick (possible_from e (drop i xs))
first_found part e most greatest pick i cost xs x within is is_cost found =
    sym (first_of_left part e most greatest pick i xs x within is
    ∙ ap (λ (b : Bool). cond b x.number (first_attaining part most greatest pick (possible_from e (drop (i + 1) xs)))) (ap (λ (n : ℕ). attains_most most greatest pick n x.number) (sym is_cost) ∙ found))

pub first_behind : (part : Part) (e : Setting) (most greatest pick i cost : ℕ) (xs : List TypeId) (x : TypeId) → i < length xs → x ≡ get_or xs i x → cost ≡ value_cost part (type_weight e x.number)
    → attains_most most greatest pick cost x.number ≡ false → first_attaining part most greatest pick (possible_from e (drop (i + 1) xs)) ≡ first_attaining part most greatest pick (possible_from e (drop i xs))
first_behind part e most greatest pick i cost xs x within is is_cost found =
    sym (first_of_left part e most greatest pick i xs x within is
    ∙ ap (λ (b : Bool). cond b x.number (first_attaining part most greatest pick (possible_from e (drop (i + 1) xs)))) (ap (λ (n : ℕ). attains_most most greatest pick n x.number) (sym is_cost) ∙ found))

pub none_attaining : (part : Part) (e : Setting) (most greatest pick i : ℕ) (xs : List TypeId) → drop i xs ≡ [] → 0 ≡ first_attaining part most greatest pick (possible_from e (drop i xs))
unfolding first_attaining
none_attaining part e most greatest pick i xs none = ap (λ (ys : List TypeId). first_attaining part most greatest pick (possible_from e ys)) (sym none)

-- ---- a row that is taken

pub put_same : (xs : List ℕ) (table : ℕ → ℕ) (d n : ℕ) → length xs ≡ 52 → d < 52 → ((e : ℕ) → e < 52 → get_or xs e 0 ≡ table e) → (e : ℕ) → e < 52 → get_or (set xs d n) e 0 ≡ put_at d n table e
put_same xs table d n long within all e deep = ⊎_elim
    (λ (same : eqb e d ≡ true). get_or-set_at xs d e n 0 (eqb-true e d same) (let l = long in omega arith) ∙ ap (λ (b : Bool). cond b n (table e)) (sym same))
    (λ (differ : eqb e d ≡ false). get_or-set_other xs d e n 0 (apart differ) ∙ all e deep ∙ ap (λ (b : Bool). cond b n (table e)) (sym differ))
    (cases_Bool (eqb e d))
  where
    apart : eqb e d ≡ false → e ≡ d → ⊥
    apart differ same = true≢false (sym (eq-eqb e d same) ∙ differ)

abbrev attains_in_front : Part → Row → List Row → Bool
attains_in_front part r rows = r.first && leb (capped ((totals part rows).greatest r.depth)) (capped (type_total part r (totals part rows)))

pub type_picked : (part : Part) (p : Plan) (n : NodeRow) (rows : List Row) (b : Picks) (before cost : ℕ) → n.first ≡ true → n.depth ≤ LEVELS → length b.types ≡ 52
    → before ≡ get_or b.costs.greatest n.depth 0 → cost ≡ capped (type_total part (row_in p n) (totals part rows)) → before ≤ cost → HoldsPicks part rows b
    → (d : ℕ) → d < 52 → get_or (set b.types n.depth n.on.number) d 0 ≡ picked part (row_in p n ∷ rows) d
unfolding row_of picked
type_picked part p n rows b before cost is_first shallow long is_before is_cost most holds d within =
    let known = (holds.0 n.depth (omega arith)).1 in
    let test : attains_in_front part (row_in p n) rows ≡ true = ap₂ (λ (x y : Bool). x && y) is_first (le-leb (capped ((totals part rows).greatest n.depth)) (capped (type_total part (row_in p n) (totals part rows))) (omega arith)) in
    put_same b.types (picked part rows) n.depth n.on.number long (omega arith) holds.1 d within
    ∙ ap (λ (x : Bool). cond x (put_at n.depth n.on.number (picked part rows)) (picked part rows) d) (sym test)

pub none_taken : (part : Part) (p : Plan) (n : NodeRow) (rows : List Row) (b : Picks) (before cost : ℕ) → n.depth ≤ LEVELS
    → before ≡ get_or b.costs.greatest n.depth 0 → cost ≡ capped (type_total part (row_in p n) (totals part rows)) → ((n.first ≡ true) × (cost < before)) ⊎ (n.first ≡ false) → HoldsPicks part rows b
    → (d : ℕ) → d < 52 → get_or b.types d 0 ≡ picked part (row_in p n ∷ rows) d
unfolding row_of picked
none_taken part p n rows b before cost shallow is_before is_cost either holds d within =
    holds.1 d within ∙ ap (λ (x : Bool). cond x (put_at n.depth n.on.number (picked part rows)) (picked part rows) d) (sym test)
  where
    less : cost < before → leb (capped ((totals part rows).greatest n.depth)) (capped (type_total part (row_in p n) (totals part rows))) ≡ false
    less h = let known = (holds.0 n.depth (omega arith)).1 in lt-leb (capped ((totals part rows).greatest n.depth)) (capped (type_total part (row_in p n) (totals part rows))) (omega arith)

    test : attains_in_front part (row_in p n) rows ≡ false
    test = ⊎_elim
        (λ (h : (n.first ≡ true) × (cost < before)). ap (λ (y : Bool). n.first && y) (less h.1) ∙ and-false n.first)
        (λ (h : n.first ≡ false). ap (λ (x : Bool). x && leb (capped ((totals part rows).greatest n.depth)) (capped (type_total part (row_in p n) (totals part rows)))) h)
        either

pub chosen_is : (part : Part) (p : Plan) (n : NodeRow) (rows : List Row) (b : Picks) (found : ℕ) → n.depth ≤ LEVELS → found ≡ chosen part (row_in p n).below (get_or b.costs.greatest (n.depth + 1) 0) (get_or b.types (n.depth + 1) 0)
    → HoldsPicks part rows b → found ≡ choice_at part (row_in p n) rows
unfolding row_of
chosen_is part p n rows b found shallow is holds =
    let deeper : n.depth + 1 ≡ suc n.depth = omega arith in
    is
    ∙ ap (λ (g : ℕ). chosen part (row_in p n).below g (get_or b.types (n.depth + 1) 0)) ((holds.0 (n.depth + 1) (omega arith)).1 ∙ ap (λ (d : ℕ). capped ((totals part rows).greatest d)) deeper)
    ∙ ap (λ (k : ℕ). chosen part (row_in p n).below (capped ((totals part rows).greatest (suc n.depth))) k) (holds.1 (n.depth + 1) (omega arith) ∙ ap (λ (d : ℕ). picked part rows d) deeper)

-- ---- the pass

pub first_choices : (part : Part) (p : Plan) (rows : List NodeRow) (b : Picks) (found : List ℕ) → rows ≡ p.rows.items → HoldsPicks part [] b → found ≡ []
    → HoldsPicks part (drop (length rows) (table_rows p)) b × (found ≡ reverse (choices part (drop (length rows) (table_rows p))))
unfolding choices
first_choices part p rows b found is holds none = subst (λ (xs : List Row). HoldsPicks part xs b × (found ≡ reverse (choices part xs))) (sym (none_behind p rows is)) (holds, none)

pub next_choices : (part : Part) (p : Plan) (rows : List NodeRow) (at : ℕ) (n : NodeRow) (b : Picks) (on : ℕ) (before after : List ℕ) → rows ≡ p.rows.items → 0 < at → at - 1 < length rows → n ≡ get_or rows (at - 1) n
    → HoldsPicks part (row_in p n ∷ drop at (table_rows p)) b → on ≡ choice_at part (row_in p n) (drop at (table_rows p)) → before ≡ reverse (choices part (drop at (table_rows p))) → after ≡ before ++ on ∷ []
    → HoldsPicks part (drop (at - 1) (table_rows p)) b × (after ≡ reverse (choices part (drop (at - 1) (table_rows p))))
unfolding choices
next_choices part p rows at n b on before after is some within found holds is_on is_before is_after =
    let next : suc (at - 1) ≡ at = omega arith in
    subst (λ (xs : List Row). HoldsPicks part xs b × (after ≡ reverse (choices part xs)))
    (sym (row_in_front p rows (at - 1) n is within found ∙ ap (λ (k : ℕ). row_in p n ∷ drop k (table_rows p)) next))
    (holds, is_after ∙ ap₂ (λ (xs : List ℕ) (x : ℕ). xs ++ x ∷ []) is_before is_on ∙ sym (reverse-cons (choice_at part (row_in p n) (drop at (table_rows p))) (choices part (drop at (table_rows p)))))

pub all_choices : (part : Part) (p : Plan) (at : ℕ) (found whole : List ℕ) → at ≡ 0 → found ≡ reverse (choices part (drop at (table_rows p))) → whole ≡ reverse found → whole ≡ choices part (table_rows p)
all_choices part p at found whole first is turned =
    turned ∙ ap reverse is ∙ reverse-reverse (choices part (drop at (table_rows p))) ∙ ap (λ (k : ℕ). choices part (drop k (table_rows p))) first
