-- The pass over rows gives the greatest cost of the tree whose rows they are.
use Rattle.std.proofs.Common.{◌≡◌, ⊎_elim, ℕ, suc, ◌+◌, ◌<◌, max, List, [], ◌++◌, Bool, true, false, refl, sym, ap, ◌∙◌, subst, arith}
use Rattle.std.proofs.lemmas.List.{append_assoc, append-nil}
use Rattle.std.proofs.Math.Nat.{eq-or-lt_of_le}
use Rattle.response_model.specs.Plan.{Selected, Plan, leaf_plan, position, ObjectTypes, no_type, object_type, Nodes, no_node, node}
use Rattle.response_model.specs.Cost.{Part, value_cost}
use Rattle.response_model.specs.Bound.{greatest_in, greatest_cost, greatest_of_types, greatest_of_nodes}
use Rattle.plan_table.specs.Rows.{Row, types_in, below_in, rows_below, rows_of_types, rows_of_nodes}
use Rattle.plan_table.specs.Totals.{Totals, put_at, greatest_alone, greatest_below, row_total, totals_in_front, totals}
use Rattle.plan_table.proofs.Places.{put_here, put_elsewhere, below_apart, put_clear}
use Rattle.plan_model.proofs.SoundSettings.{before}

-- the greatest cost of the types that have nodes
abbrev pub greatest_with : Part → ObjectTypes → ℕ
greatest_with part no_type = 0
greatest_with part (object_type T w no_node others) = greatest_with part others
greatest_with part (object_type T w (node s below nodes) others) = max (value_cost part w + greatest_of_nodes part (node s below nodes)) (greatest_with part others)

pub with_or_alone : (part : Part) (possible : ObjectTypes) → max (greatest_alone part (types_in possible)) (greatest_with part possible) ≡ greatest_of_types part possible
with_or_alone part no_type = refl
with_or_alone part (object_type T w no_node others) = let e = with_or_alone part others in omega arith
with_or_alone part (object_type T w (node s below nodes) others) = let e = with_or_alone part others in omega arith

-- Nothing is left deeper than d.
abbrev pub ClearBelow : ℕ → Totals → Type 0
ClearBelow d t = (e : ℕ) → d < e → (t.sum e ≡ 0) × (t.greatest e ≡ 0)

-- The same is left less deep than d.
abbrev pub SameAbove : ℕ → Totals → Totals → Type 0
SameAbove d t u = (e : ℕ) → e < d → (t.sum e ≡ u.sum e) × (t.greatest e ≡ u.greatest e)

pub record NodesAdded (part : Part) (d : ℕ) (nodes : Nodes) (t rest : Totals) : Type 0 where
  pub clear : ClearBelow d t
  pub above : SameAbove d t rest
  pub sum : t.sum d ≡ greatest_of_nodes part nodes + rest.sum d
  pub greatest : t.greatest d ≡ rest.greatest d

pub record TypesAdded (part : Part) (d : ℕ) (possible : ObjectTypes) (t rest : Totals) : Type 0 where
  pub clear : ClearBelow d t
  pub above : SameAbove d t rest
  pub sum : t.sum d ≡ 0
  pub greatest : t.greatest d ≡ max (greatest_with part possible) (rest.greatest d)

pub record BelowAdded (part : Part) (d : ℕ) (below : Plan) (t rest : Totals) : Type 0 where
  pub clear : ClearBelow (suc d) t
  pub above : SameAbove (suc d) t rest
  pub value : greatest_below part (below_in below) (t.greatest (suc d)) ≡ greatest_cost part below
  pub sum : t.sum (suc d) ≡ 0

pub one_deeper : (d : ℕ) (t : Totals) → ClearBelow d t → ClearBelow (suc d) t
one_deeper d t clear = λ e deep. clear e (omega arith)

deeper : (d e : ℕ) → d < e → (e ≡ suc d → ⊥) → suc d < e
deeper d e deep apart = ⊎_elim (λ (same : suc d ≡ e). absurd (apart (sym same))) (λ (less : suc d < e). less) (eq-or-lt_of_le deep)

abbrev pub row_at : ℕ → ℕ → ℕ → Bool → Selected → Plan → Row
row_at d T w first s below = record { depth = d; type = T; weight = w; first = first; selected = s; below = below_in below }

pub row_total_is : (part : Part) (d T w : ℕ) (first : Bool) (s : Selected) (below : Plan) (others : Nodes) (t q rest : Totals)
    → BelowAdded part d below t q → NodesAdded part d others q rest
    → row_total part (row_at d T w first s below) t ≡ greatest_of_nodes part (node s below others) + rest.sum d
row_total_is part d T w first s below others t q rest under behind =
    let value : greatest_in s.form s.size (greatest_below part (below_in below) (t.greatest (suc d))) ≡ greatest_in s.form s.size (greatest_cost part below) = ap (λ (n : ℕ). greatest_in s.form s.size n) under.value in
    let sum : t.sum d ≡ q.sum d = (under.above d (omega arith)).0 in
    let left = behind.sum in
    omega arith

-- A row that isn't the first of its type.
node_in_front : (part : Part) (d T w : ℕ) (s : Selected) (below : Plan) (others : Nodes) (t q rest : Totals)
    → BelowAdded part d below t q → NodesAdded part d others q rest
    → NodesAdded part d (node s below others) (totals_in_front part (row_at d T w false s below) t) rest
node_in_front part d T w s below others t q rest under behind = record {
  clear = λ e deep. (
    put_elsewhere d (row_total part (row_at d T w false s below) t) t.sum e (before e d deep) ∙ no_sum e deep,
    put_elsewhere d (t.greatest d) (put_at (suc d) 0 t.greatest) e (before e d deep)
        ∙ put_clear (suc d) 0 t.greatest e (λ apart. (under.clear e (deeper d e deep apart)).1),
  );
  above = λ e less. (
    put_elsewhere d (row_total part (row_at d T w false s below) t) t.sum e (below_apart e d less) ∙ (under.above e (omega arith)).0 ∙ (behind.above e less).0,
    put_elsewhere d (t.greatest d) (put_at (suc d) 0 t.greatest) e (below_apart e d less)
        ∙ put_elsewhere (suc d) 0 t.greatest e (below_apart e (suc d) (omega arith)) ∙ (under.above e (omega arith)).1 ∙ (behind.above e less).1,
  );
  sum = put_here d (row_total part (row_at d T w false s below) t) t.sum ∙ row_total_is part d T w false s below others t q rest under behind;
  greatest = put_here d (t.greatest d) (put_at (suc d) 0 t.greatest) ∙ (under.above d (omega arith)).1 ∙ behind.greatest;
}
  where
    no_sum : (e : ℕ) → d < e → t.sum e ≡ 0
    no_sum e deep = ⊎_elim
        (λ (same : suc d ≡ e). subst (λ (x : ℕ). t.sum x ≡ 0) same under.sum)
        (λ (less : suc d < e). (under.clear e less).0)
        (eq-or-lt_of_le deep)

-- The first row of a type, and the types behind it.
type_in_front : (part : Part) (d T w : ℕ) (s : Selected) (below : Plan) (nodes : Nodes) (others : ObjectTypes) (t q p rest : Totals)
    → BelowAdded part d below t q → NodesAdded part d nodes q p → TypesAdded part d others p rest
    → TypesAdded part d (object_type T w (node s below nodes) others) (totals_in_front part (row_at d T w true s below) t) rest
type_in_front part d T w s below nodes others t q p rest under inside behind = record {
  clear = λ e deep. (
    put_elsewhere d 0 t.sum e (before e d deep) ∙ no_sum e deep,
    put_elsewhere d most (put_at (suc d) 0 t.greatest) e (before e d deep)
        ∙ put_clear (suc d) 0 t.greatest e (λ apart. (under.clear e (deeper d e deep apart)).1),
  );
  above = λ e less. (
    put_elsewhere d 0 t.sum e (below_apart e d less) ∙ (under.above e (omega arith)).0 ∙ (inside.above e less).0 ∙ (behind.above e less).0,
    put_elsewhere d most (put_at (suc d) 0 t.greatest) e (below_apart e d less)
        ∙ put_elsewhere (suc d) 0 t.greatest e (below_apart e (suc d) (omega arith)) ∙ (under.above e (omega arith)).1 ∙ (inside.above e less).1 ∙ (behind.above e less).1,
  );
  sum = put_here d 0 t.sum;
  greatest =
      let total = row_total_is part d T w true s below nodes t q p under inside in
      let none = behind.sum in
      let left : t.greatest d ≡ max (greatest_with part others) (rest.greatest d) = (under.above d (omega arith)).1 ∙ inside.greatest ∙ behind.greatest in
      put_here d most (put_at (suc d) 0 t.greatest) ∙ omega arith;
}
  where
    most : ℕ
    most = max (value_cost part w + row_total part (row_at d T w true s below) t) (t.greatest d)

    no_sum : (e : ℕ) → d < e → t.sum e ≡ 0
    no_sum e deep = ⊎_elim
        (λ (same : suc d ≡ e). subst (λ (x : ℕ). t.sum x ≡ 0) same under.sum)
        (λ (less : suc d < e). (under.clear e less).0)
        (eq-or-lt_of_le deep)

pub regroup : {X : Type 0} (xs ys zs rest : List X) → xs ++ (ys ++ (zs ++ rest)) ≡ ((xs ++ ys) ++ zs) ++ rest
regroup xs ys zs rest = sym (append_assoc xs ys (zs ++ rest)) ∙ sym (append_assoc (xs ++ ys) zs rest)

mutual
  unfolding totals rows_below rows_of_types rows_of_nodes

  pub below_added : (part : Part) (d : ℕ) (below : Plan) (rows : List Row) → ClearBelow d (totals part rows) → BelowAdded part d below (totals part (rows_below (suc d) below ++ rows)) (totals part rows)
  below_added part d (leaf_plan type w fill) rows clear = record { clear = one_deeper d (totals part rows) clear; above = λ e less. (refl, refl); value = refl; sum = (clear (suc d) (omega arith)).0 }
  below_added part d (position possible) rows clear =
      let p = types_added part (suc d) possible rows (one_deeper d (totals part rows) clear) (clear (suc d) (omega arith)).0 in
      let none : (totals part rows).greatest (suc d) ≡ 0 = (clear (suc d) (omega arith)).1 in
      let found = p.greatest in
      let all = with_or_alone part possible in
      record { clear = p.clear; above = p.above; value = omega arith; sum = p.sum }

  pub types_added : (part : Part) (d : ℕ) (possible : ObjectTypes) (rows : List Row) → ClearBelow d (totals part rows) → (totals part rows).sum d ≡ 0 → TypesAdded part d possible (totals part (rows_of_types d possible ++ rows)) (totals part rows)
  types_added part d no_type rows clear none = record { clear = clear; above = λ e less. (refl, refl); sum = none; greatest = omega arith }
  types_added part d (object_type T w no_node others) rows clear none =
      let p = types_added part d others rows clear none in
      record { clear = p.clear; above = p.above; sum = p.sum; greatest = p.greatest }
  types_added part d (object_type T w (node s below nodes) others) rows clear none =
      let behind = types_added part d others rows clear none in
      let inside = nodes_added part d T w nodes (rows_of_types d others ++ rows) behind.clear in
      let under = below_added part d below (rows_of_nodes d T w false nodes ++ (rows_of_types d others ++ rows)) inside.clear in
      subst (λ (xs : List Row). TypesAdded part d (object_type T w (node s below nodes) others) (totals_in_front part (row_at d T w true s below) (totals part xs)) (totals part rows))
      (regroup (rows_below (suc d) below) (rows_of_nodes d T w false nodes) (rows_of_types d others) rows)
      (type_in_front part d T w s below nodes others _ _ _ _ under inside behind)

  pub nodes_added : (part : Part) (d T w : ℕ) (nodes : Nodes) (rows : List Row) → ClearBelow d (totals part rows) → NodesAdded part d nodes (totals part (rows_of_nodes d T w false nodes ++ rows)) (totals part rows)
  nodes_added part d T w no_node rows clear = record { clear = clear; above = λ e less. (refl, refl); sum = omega arith; greatest = refl }
  nodes_added part d T w (node s below others) rows clear =
      let behind = nodes_added part d T w others rows clear in
      let under = below_added part d below (rows_of_nodes d T w false others ++ rows) behind.clear in
      subst (λ (xs : List Row). NodesAdded part d (node s below others) (totals_in_front part (row_at d T w false s below) (totals part xs)) (totals part rows))
      (sym (append_assoc (rows_below (suc d) below) (rows_of_nodes d T w false others) rows))
      (node_in_front part d T w s below others _ _ _ under behind)

-- The greatest cost by the rows of all types of a position.
pub greatest_of_rows : (part : Part) (possible : ObjectTypes) → max (greatest_alone part (types_in possible)) ((totals part (rows_of_types 1 possible)).greatest 1) ≡ greatest_of_types part possible
unfolding totals
greatest_of_rows part possible =
    let p = types_added part 1 possible [] (λ e deep. (refl, refl)) refl in
    let found = p.greatest in
    let all = with_or_alone part possible in
    ap (λ (rows : List Row). max (greatest_alone part (types_in possible)) ((totals part rows).greatest 1)) (sym (append-nil (rows_of_types 1 possible))) ∙ omega arith
