-- What the program finds for the rows of a table.
use Rattle.std.proofs.Common.{◌≡◌, inl, inr, ℕ, suc, ◌+◌, ◌*◌, ◌<◌, ◌≤◌, List, [], ◌∷◌, ◌++◌, map, length, drop, get_or, Bool, true, false, cond, eqb, Option, Some, None, Result, Ok, Err, zero, mul_comm, Vec, Global, refl, sym, ap, ap₂, ◌∙◌, subst, arith, drop-cons, eqb-true, eq-eqb}
use Rattle.std.specs.Prelude.{IfOk}
use Rattle.std.specs.declared.alloc.AllocError.{AllocError}
use Rattle.std.proofs.Math.ListN.{set}
use Rattle.std.proofs.lemmas.Bool.{cases_lt}
use Rattle.std.proofs.lemmas.List.{append_assoc, append-nil, drop_all, length-map, map-append}
use Rattle.cost_num.specs.declared.TheConstants.{CAP}
use Rattle.cost_num.specs.declared.Cost.{Cost}
use Rattle.cost_num.specs.Capped.{capped}
use Rattle.cost_num.proofs.CappedSums.{capped_times, capped_counts}
use Rattle.input_values.specs.declared.inputs.shape.TypeId.{TypeId}
use Rattle.response_model.specs.Plan.{Form, single, listed, Plan as PlanTree, leaf_plan, position}
use Rattle.response_model.specs.Cost.{Part, types, fields, value_cost, entry_cost}
use Rattle.response_model.specs.Bound.{IsBound, greatest_in, greatest_cost}
use Rattle.response_model.specs.Filled.{filled}
use Rattle.response_model.proofs.Filling.{bound_is, exceeds}
use Rattle.schema_model.specs.Numbers.{type_number}
use Rattle.plan_model.specs.SelectedFields.{Setting}
use Rattle.plan_model.specs.Plans.{type_weight}
use Rattle.plan_table.specs.declared.TheConstants.{LEVELS}
use Rattle.plan_table.specs.declared.rows.NodeRow.{NodeRow}
use Rattle.plan_table.specs.declared.table.Plan.{Plan}
use Rattle.plan_table.specs.Rows.{Row}
use Rattle.plan_table.specs.Totals.{put_at}
use Rattle.plan_table.proofs.Places.{put_here, put_elsewhere}
use Rattle.plan_table.specs.Tables.{weighed, row_of, row_in, table_rows, setting_in}
use Rattle.plan_table.specs.TableBounds.{holds_in, HoldsSound, IsBoundIn, IsWithinCap}
use Rattle.static_cost.specs.CostBound.{component}
use Rattle.static_cost.specs.Choices.{choices}
use Rattle.static_cost.proofs.Depths.{zeros, zero_at, put_capped, values_capped}
use Rattle.static_cost.proofs.Picks.{put_same}
use Rattle.static_cost.proofs.TablePasses.{row_in_front}
use Rattle.cost_shares.specs.declared.share.Share.{Share}
use Rattle.cost_shares.specs.declared.passing.ObjectsByDepth.{ObjectsByDepth}
use Rattle.cost_shares.specs.Shares.{NodeShare, shares_in, sum_of_shares}
use Rattle.cost_shares.specs.Examples.{share}
use Rattle.cost_shares.specs.Passing.{Standing, at_root, times_of, values_of, weight_among, weight_below, row_share, standing_behind, row_shares}
use Rattle.cost_shares.specs.Holding.{HoldsStanding, capped_share}
use Rattle.cost_shares.specs.TableShares.{share_seen, shares_seen, counted, AreShares, root_adds, MakeBound}
use Rattle.cost_shares.proofs.AddedUp.{filled_add}
use Rattle.cost_shares.proofs.RowShares.{own_shares}
use Rattle.cost_shares.proofs.RootShares.{root_shares, root_adds_weight, all_within, counted_sum, found_within}

-- ---- the weight of a type among some

abbrev pub among_possible : Setting → ℕ → List TypeId → ℕ
among_possible e T xs = weight_among T (map (weighed e) (map type_number xs))

pub among_left : (e : Setting) (T i : ℕ) (xs : List TypeId) (x : TypeId) → i < length xs → x ≡ get_or xs i x
    → among_possible e T (drop i xs) ≡ cond (eqb x.number T) (type_weight e x.number) (among_possible e T (drop (i + 1) xs))
among_left e T i xs x within is =
    let next : i + 1 ≡ suc i = omega arith in
    let left : drop i xs ≡ x ∷ drop (i + 1) xs = drop-cons xs i x within ∙ ap (λ (y : TypeId). y ∷ drop (suc i) xs) (sym is) ∙ ap (λ (j : ℕ). x ∷ drop j xs) (sym next) in
    ap (λ (ys : List TypeId). among_possible e T ys) left

pub among_here : (e : Setting) (T i weight : ℕ) (xs : List TypeId) (x : TypeId) → i < length xs → x ≡ get_or xs i x → x.number ≡ T → weight ≡ type_weight e x.number → weight ≡ among_possible e T (drop i xs)
among_here e T i weight xs x within is same is_weight =
    is_weight ∙ sym (among_left e T i xs x within is ∙ ap (λ (b : Bool). cond b (type_weight e x.number) (among_possible e T (drop (i + 1) xs))) (eq-eqb x.number T same))

pub among_behind : (e : Setting) (T i : ℕ) (xs : List TypeId) (x : TypeId) → i < length xs → x ≡ get_or xs i x → (x.number ≡ T → ⊥) → among_possible e T (drop (i + 1) xs) ≡ among_possible e T (drop i xs)
among_behind e T i xs x within is other =
    sym (among_left e T i xs x within is ∙ ap (λ (b : Bool). cond b (type_weight e x.number) (among_possible e T (drop (i + 1) xs))) (apart (eqb x.number T) refl))
  where
    apart : (b : Bool) → eqb x.number T ≡ b → eqb x.number T ≡ false
    apart true same = absurd (other (eqb-true x.number T same))
    apart false differ = differ

pub none_among : (e : Setting) (T i : ℕ) (xs : List TypeId) → drop i xs ≡ [] → 0 ≡ among_possible e T (drop i xs)
none_among e T i xs none = ap (λ (ys : List TypeId). among_possible e T ys) (sym none)

-- ---- a row that is taken

-- What stands at the beginning.
apart_from_one : (d : ℕ) → suc (suc d) ≡ 1 → ⊥
apart_from_one d same = omega arith

none_is_one : zero ≡ 1 → ⊥
none_is_one same = omega arith

pub types_at_root : (n d : ℕ) → get_or (0 ∷ n ∷ zeros 50) d 0 ≡ put_at 1 n (λ e. 0) d
types_at_root n zero = sym (put_elsewhere 1 n (λ (e : ℕ). 0) zero none_is_one)
types_at_root n (suc zero) = sym (put_here 1 n (λ (e : ℕ). 0))
types_at_root n (suc (suc d)) = zero_at 50 d ∙ sym (put_elsewhere 1 n (λ (e : ℕ). 0) (suc (suc d)) (apart_from_one d))

pub counts_at_root : (d : ℕ) → get_or (0 ∷ 1 ∷ zeros 50) d 0 ≡ capped (put_at 1 1 (λ e. 0) d)
counts_at_root zero = let none = put_elsewhere {X = ℕ} 1 1 (λ (e : ℕ). 0) zero none_is_one in omega arith
counts_at_root (suc zero) = let one = put_here {X = ℕ} 1 1 (λ (e : ℕ). 0) in omega arith
counts_at_root (suc (suc d)) = let none = put_elsewhere {X = ℕ} 1 1 (λ (e : ℕ). 0) (suc (suc d)) (apart_from_one d) in let z = zero_at 50 d in omega arith

-- What so many entries and values add, each capped.
pub both_added : (entry times value values first second all : ℕ) → first ≡ capped (entry * times) → second ≡ capped (value * values) → all ≡ capped (first + second) → all ≡ capped (times * entry + values * value)
both_added entry times value values first second all is_first is_second is_all =
    let a = mul_comm entry times in
    let b = mul_comm value values in
    let x = is_first ∙ ap capped a in
    let y = is_second ∙ ap capped b in
    omega arith

cond_capped : (b : Bool) (n : ℕ) → cond b (capped n) 0 ≡ capped (cond b n 0)
cond_capped true n = refl
cond_capped false n = omega arith

pub times_held : (p : Plan) (n : NodeRow) (t : Standing) (b : ObjectsByDepth) (times : ℕ) → n.depth ≤ LEVELS → times ≡ cond (eqb n.on.number (get_or b.types n.depth 0)) (get_or b.counts n.depth 0) 0
    → HoldsStanding t b → times ≡ capped (times_of t (row_in p n))
unfolding row_of
times_held p n t b times shallow is holds =
    let held = holds n.depth (omega arith) in
    is ∙ ap₂ (λ (T c : ℕ). cond (eqb n.on.number T) c 0) held.1 held.0 ∙ cond_capped (eqb n.on.number (t.types n.depth)) (t.objects n.depth)

pub values_held : (p : Plan) (n : NodeRow) (t : Standing) (times values : ℕ) → times ≡ capped (times_of t (row_in p n))
    → values ≡ capped (greatest_in (row_in p n).selected.form (row_in p n).selected.size times) → values ≡ capped (values_of t (row_in p n))
values_held p n t times values is_times is =
    is
    ∙ ap (λ (k : ℕ). capped (greatest_in (row_in p n).selected.form (row_in p n).selected.size k)) is_times
    ∙ values_capped (row_in p n).selected.form (row_in p n).selected.size (times_of t (row_in p n))

products : (a b : ℕ) → capped (capped a * capped b) ≡ capped (a * b)
products a b = capped_times a (capped b) ∙ capped_counts b a

pub share_held : (part : Part) (p : Plan) (n : NodeRow) (t : Standing) (on times values entry value adds : ℕ)
    → times ≡ capped (times_of t (row_in p n)) → values ≡ capped (values_of t (row_in p n))
    → entry ≡ capped (entry_cost part (row_in p n).selected) → value ≡ capped (value_cost part (weight_below on (row_in p n).below))
    → adds ≡ capped (times * entry + values * value)
    → share times values adds ≡ capped_share (row_share part t (row_in p n) on)
share_held part p n t on times values entry value adds is_times is_values is_entry is_value is_adds =
    let a = times_of t (row_in p n) in
    let e = entry_cost part (row_in p n).selected in
    let v = values_of t (row_in p n) in
    let w = value_cost part (weight_below on (row_in p n).below) in
    let both : adds ≡ capped (capped a * capped e + capped v * capped w) = is_adds ∙ ap₂ (λ (x y : ℕ). capped (x + y)) (ap₂ (λ (x y : ℕ). x * y) is_times is_entry) (ap₂ (λ (x y : ℕ). x * y) is_values is_value) in
    let first = products a e in
    let second = products v w in
    let all : adds ≡ capped (a * e + v * w) = omega arith in
    ap (λ (x : ℕ). share x values adds) is_times ∙ ap (λ (x : ℕ). share (capped a) x adds) is_values ∙ ap (λ (x : ℕ). share (capped a) (capped v) x) all

pub behind_held : (p : Plan) (n : NodeRow) (t : Standing) (b : ObjectsByDepth) (on values : ℕ) → n.depth ≤ LEVELS → length b.counts ≡ 52 → length b.types ≡ 52 → values ≡ capped (values_of t (row_in p n)) → HoldsStanding t b
    → (d : ℕ) → d < 52 → (get_or (set b.counts (n.depth + 1) values) d 0 ≡ capped ((standing_behind t (row_in p n) on).objects d)) × (get_or (set b.types (n.depth + 1) on) d 0 ≡ (standing_behind t (row_in p n) on).types d)
unfolding row_of
behind_held p n t b on values shallow long longer is holds d within =
    let deeper : n.depth + 1 ≡ suc n.depth = omega arith in (
      put_capped b.counts t.objects (n.depth + 1) values (values_of t (row_in p n)) long (omega arith) is (λ e w. (holds e w).0) d within
          ∙ ap (λ (k : ℕ). capped (put_at k (values_of t (row_in p n)) t.objects d)) deeper,
      put_same b.types t.types (n.depth + 1) on longer (omega arith) (λ e w. (holds e w).1) d within ∙ ap (λ (k : ℕ). put_at k on t.types d) deeper,
    )

-- ---- the pass

first_left : (xs : List ℕ) (i : ℕ) → get_or (drop i xs) 0 0 ≡ get_or xs i 0
first_left xs zero = refl
first_left [] (suc i) = refl
first_left (x ∷ xs) (suc i) = first_left xs i

drop_left : (xs : List ℕ) (i : ℕ) → drop 1 (drop i xs) ≡ drop (suc i) xs
drop_left xs zero = refl
drop_left [] (suc i) = refl
drop_left (x ∷ xs) (suc i) = drop_left xs i

-- What was found, and what is left to find, are the shares of all rows.
pub record Goes (part : Part) (p : Plan) (chosen : List ℕ) (b : ObjectsByDepth) (found : List NodeShare) (at : ℕ) : Type 0 where
  pub standing : Standing
  pub holds : HoldsStanding standing b
  pub all : found ++ map capped_share (row_shares part standing (drop at (table_rows p)) (drop at chosen)) ≡ map capped_share (row_shares part (at_root p.root.number) (table_rows p) chosen)

pub next_goes : (part : Part) (p : Plan) (chosen : List ℕ) (rows : List NodeRow) (n : NodeRow) (b next : ObjectsByDepth) (found after : List Share) (s : Share) (at on : ℕ) → rows ≡ p.rows.items → at < length rows → n ≡ get_or rows at n → on ≡ get_or chosen at 0
    → ((t : Standing) → HoldsStanding t b → share_seen s ≡ capped_share (row_share part t (row_in p n) on)) → ((t : Standing) → HoldsStanding t b → HoldsStanding (standing_behind t (row_in p n) on) next)
    → after ≡ found ++ s ∷ [] → Goes part p chosen b (shares_seen found) at → Goes part p chosen next (shares_seen after) (at + 1)
unfolding row_shares
next_goes part p chosen rows n b next found after s at on is within here is_on has behind pushed goes =
    let t = goes.standing in
    let more : at + 1 ≡ suc at = omega arith in
    let left = row_in_front p rows at n is within here in
    let first : get_or (drop at chosen) 0 0 ≡ on = first_left chosen at ∙ sym is_on in
    let rest : List NodeShare = map capped_share (row_shares part (standing_behind t (row_in p n) on) (drop (at + 1) (table_rows p)) (drop (at + 1) chosen)) in
    let opened : map capped_share (row_shares part t (drop at (table_rows p)) (drop at chosen)) ≡ share_seen s ∷ rest =
    ap (λ (xs : List Row). map capped_share (row_shares part t xs (drop at chosen))) left
    ∙ ap₂ (λ (T : ℕ) (ks : List ℕ). capped_share (row_share part t (row_in p n) T) ∷ map capped_share (row_shares part (standing_behind t (row_in p n) T) (drop (suc at) (table_rows p)) ks)) first (drop_left chosen at)
    ∙ ap₂ (λ (x : NodeShare) (k : ℕ). x ∷ map capped_share (row_shares part (standing_behind t (row_in p n) on) (drop k (table_rows p)) (drop k chosen))) (sym (has t goes.holds)) (sym more) in
    record {
      standing = standing_behind t (row_in p n) on;
      holds = behind t goes.holds;
      all = ap (λ (xs : List NodeShare). xs ++ rest) (ap shares_seen pushed ∙ map-append share_seen found (s ∷ []))
          ∙ append_assoc (shares_seen found) (share_seen s ∷ []) rest
          ∙ ap (λ (xs : List NodeShare). shares_seen found ++ xs) (sym opened)
          ∙ goes.all;
    }

pub first_goes : (part : Part) (p : Plan) (chosen : List ℕ) (b : ObjectsByDepth) (found : List Share) (root at : ℕ) → at ≡ 0 → found ≡ [] → root ≡ p.root.number → HoldsStanding (at_root root) b → Goes part p chosen b (shares_seen found) at
first_goes part p chosen b found root at first none is_root holds = record {
  standing = at_root p.root.number;
  holds = subst (λ (n : ℕ). HoldsStanding (at_root n) b) is_root holds;
  all = ap₂ (λ (xs : List Share) (k : ℕ). shares_seen xs ++ map capped_share (row_shares part (at_root p.root.number) (drop k (table_rows p)) (drop k chosen))) none first;
}

pub all_gone : (part : Part) (p : Plan) (chosen : List ℕ) (rows : List NodeRow) (b : ObjectsByDepth) (found : List Share) (at : ℕ) → rows ≡ p.rows.items → length rows ≤ at → Goes part p chosen b (shares_seen found) at
    → shares_seen found ≡ map capped_share (row_shares part (at_root p.root.number) (table_rows p) chosen)
unfolding row_shares
all_gone part p chosen rows b found at is past goes =
    let many = length-map p.rows.items (row_in p) in
    let long = ap length is in
    let none : drop at (table_rows p) ≡ [] = drop_all at (table_rows p) (omega arith) in
    sym (append-nil (shares_seen found))
    ∙ ap (λ (xs : List Row). shares_seen found ++ map capped_share (row_shares part goes.standing xs (drop at chosen))) (sym none)
    ∙ goes.all

-- ---- the whole

rows_long : (part : Part) (t : Standing) (rows : List Row) (chosen : List ℕ) → length (row_shares part t rows chosen) ≡ length rows
unfolding row_shares
rows_long part t [] chosen = refl
rows_long part t (r ∷ rows) chosen = ap suc (rows_long part (standing_behind t r (get_or chosen 0 0)) rows (drop 1 chosen))

pub as_many : (part : Part) (p : Plan) (chosen : List ℕ) (found : List Share) → shares_seen found ≡ map capped_share (row_shares part (at_root p.root.number) (table_rows p) chosen) → length found ≡ length (table_rows p)
as_many part p chosen found is =
    sym (length-map found share_seen) ∙ ap length is ∙ length-map (row_shares part (at_root p.root.number) (table_rows p) chosen) capped_share ∙ rows_long part (at_root p.root.number) (table_rows p) chosen

module _ (part : Part) (p : Plan) where
  within_cap : (tree : PlanTree) → HoldsSound p tree → IsWithinCap p part → greatest_cost part tree ≤ CAP
  within_cap tree of counted = elim (cases_lt CAP (greatest_cost part tree)) [
    | inl more ↦ absurd (counted tree of ((exceeds (holds_in p) part tree CAP of.1).1 more))
    | inr less ↦ less
  ]

  pub table_shares : (tree : PlanTree) (chosen : List ℕ) (found : List NodeShare) → HoldsSound p tree → IsWithinCap p part → chosen ≡ choices part (table_rows p)
      → found ≡ map capped_share (row_shares part (at_root p.root.number) (table_rows p) chosen) → found ≡ map counted (shares_in part tree (filled part tree))
  table_shares (leaf_plan type w fill) chosen found of counted is_chosen is = absurd of.0
  table_shares (position possible) chosen found of counted is_chosen is =
      let within = within_cap (position possible) of counted in
      let shares : List NodeShare = shares_in part (position possible) (filled part (position possible)) in
      is
      ∙ ap (λ (ks : List ℕ). map capped_share (row_shares part (at_root p.root.number) (table_rows p) ks)) is_chosen
      ∙ ap (λ (xs : List Row). map capped_share (own_shares part (at_root p.root.number) xs)) of.0.1
      ∙ ap (map capped_share) (root_shares (holds_in p) part p.root.number (type_weight (setting_in p) p.root.number) possible of.0.0 of.1.1 within)
      ∙ all_within shares (found_within (holds_in p) part (position possible) of.1 within)

  bound_found : (tree : PlanTree) (bound : ℕ) → HoldsSound p tree → IsBound (holds_in p) part tree bound → greatest_cost part tree ≡ bound
  bound_found tree bound of is =
      let greatest = bound_is (holds_in p) part tree of.1 in
      let above = is.upper greatest.attained.0 greatest.attained.1 in
      let below = greatest.upper is.attained.0 is.attained.1 in
      let attained = greatest.attained.2 in
      let attained_too = is.attained.2 in
      omega arith

  pub table_sum : (tree : PlanTree) (bound : ℕ) (found : List NodeShare) → HoldsSound p tree → IsBound (holds_in p) part tree bound → found ≡ map counted (shares_in part tree (filled part tree)) → root_adds p part + sum_of_shares found ≡ bound
  table_sum (leaf_plan type w fill) bound found of is are = absurd of.0
  table_sum (position possible) bound found of is are =
      let all = filled_add (holds_in p) part (position possible) of.1 in
      let root = root_adds_weight part p.root.number (type_weight (setting_in p) p.root.number) possible of.0.0 in
      let sum : sum_of_shares found ≡ sum_of_shares (shares_in part (position possible) (filled part (position possible))) = ap sum_of_shares are ∙ counted_sum (shares_in part (position possible) (filled part (position possible))) in
      let same = bound_found (position possible) bound of is in
      omega arith

bound_in : (part : Part) (p : Plan) (tree : PlanTree) (cost : Cost) → IsBoundIn p tree cost → IsBound (holds_in p) part tree (component part cost)
bound_in types p tree cost is = is.of_types
bound_in fields p tree cost is = is.of_fields

pub made_bound : (part : Part) (p : Plan) (shares : List Share) → AreShares p part shares → MakeBound p part shares
made_bound part p shares are tree cost of is = table_sum part p tree (component part cost) (shares_seen shares) of (bound_in part p tree cost is) (are tree of)

-- ---- the same of an answer

abbrev pub Found : Part → Plan → List ℕ → Result (Vec Share Global) AllocError → Type 0
Found part p chosen result = IfOk result (λ found. shares_seen found.items ≡ map capped_share (row_shares part (at_root p.root.number) (table_rows p) chosen))

pub found_shares : (part : Part) (p : Plan) (chosen : List ℕ) (result : Result (Vec Share Global) AllocError) → IsWithinCap p part → chosen ≡ choices part (table_rows p) → Found part p chosen result → IfOk result (λ found. AreShares p part found.items)
found_shares part p chosen (Ok found) counted is_chosen is = λ tree of. table_shares part p tree chosen (shares_seen found.items) of counted is_chosen is
found_shares part p chosen (Err fault) counted is_chosen is = is

pub rows_found : (part : Part) (p : Plan) (chosen : List ℕ) (result : Result (Vec Share Global) AllocError) → Found part p chosen result → IfOk result (λ found. length found.items ≡ length (table_rows p))
rows_found part p chosen (Ok found) is = as_many part p chosen found.items is
rows_found part p chosen (Err fault) is = is

pub sum_found : (part : Part) (p : Plan) (chosen : List ℕ) (result : Result (Vec Share Global) AllocError) → IsWithinCap p part → chosen ≡ choices part (table_rows p) → Found part p chosen result → IfOk result (λ found. MakeBound p part found.items)
sum_found part p chosen (Ok found) counted is_chosen is = made_bound part p found.items (λ tree of. table_shares part p tree chosen (shares_seen found.items) of counted is_chosen is)
sum_found part p chosen (Err fault) counted is_chosen is = is
