-- The shares that the pass over all rows of a plan finds, and what they and the root add.
use Rattle.std.proofs.Common.{◌≡◌, ℕ, ◌+◌, ◌≤◌, ◌<◌, List, [], ◌∷◌, ◌++◌, map, Bool, true, cond, refl, sym, ap, ap₂, ◌∙◌, arith, le-leb, eq-eqb}
use Rattle.std.proofs.lemmas.List.{append-nil}
use Rattle.std.proofs.lemmas.List.Sums.{sum_by-cons}
use Rattle.std.proofs.lemmas.List.Folds.{fold-map}
use Rattle.cost_num.specs.declared.TheConstants.{CAP}
use Rattle.serde_json.specs.Data.{Data}
use Rattle.response_model.specs.Plan.{Plan, position, ObjectTypes, no_type, object_type, is_possible, weight_of, nodes_of}
use Rattle.response_model.specs.Response.{object, Entries}
use Rattle.response_model.specs.Cost.{Part, value_cost}
use Rattle.response_model.specs.Bound.{greatest_cost, greatest_of_types, greatest_of_nodes, IsSound, TypesSound}
use Rattle.response_model.specs.Filled.{filled, filled_type, filled_object, filled_entries}
use Rattle.plan_table.specs.Rows.{Row, rows_of_types}
use Rattle.plan_table.specs.Totals.{totals}
use Rattle.plan_table.specs.Tables.{IsAlone}
use Rattle.plan_table.proofs.RowTotals.{ClearBelow}
use Rattle.static_cost.specs.Choices.{choices}
use Rattle.static_cost.proofs.PickedTypes.{filled_object_is, nodes_at_most}
use Rattle.cost_shares.specs.Shares.{single_values, values_add, each_of_types, NodeShare, node_share, shares_in, sum_of_shares}
use Rattle.cost_shares.specs.Passing.{Standing, at_root, row_shares}
use Rattle.cost_shares.specs.Holding.{capped_share}
use Rattle.cost_shares.specs.TableShares.{counted}
use Rattle.cost_shares.proofs.AddedUp.{filled_add}
use Rattle.cost_shares.proofs.RowShares.{own_shares, types_passed}

none_deeper : (part : Part) → ClearBelow 1 (totals part [])
unfolding totals
none_deeper part e deep = (refl, refl)

no_rows : (part : Part) (t : Standing) → own_shares part t [] ≡ []
unfolding row_shares choices
no_rows part t = refl

-- The type of the root is the one that the filled response takes there.
alone_filled : (part : Part) (T weight : ℕ) (possible : ObjectTypes) → IsAlone T weight possible → filled_type part possible ≡ T
alone_filled part T weight no_type alone = absurd alone
alone_filled part T weight (object_type U w nodes no_type) alone = ap (λ (b : Bool). cond b U 0) (le-leb 0 (value_cost part w + greatest_of_nodes part nodes) (omega arith)) ∙ alone.0
alone_filled part T weight (object_type U w nodes (object_type V v ns others)) alone = absurd alone

alone_weight : (T weight : ℕ) (possible : ObjectTypes) → IsAlone T weight possible → weight_of T possible ≡ weight
alone_weight T weight no_type alone = absurd alone
alone_weight T weight (object_type U w nodes no_type) alone = ap (λ (b : Bool). cond b w 0) (eq-eqb U T alone.0) ∙ alone.1
alone_weight T weight (object_type U w nodes (object_type V v ns others)) alone = absurd alone

pub root_shares : (holds : ℕ → Data → Bool) (part : Part) (T weight : ℕ) (possible : ObjectTypes) → IsAlone T weight possible → TypesSound holds possible → greatest_of_types part possible ≤ CAP
    → own_shares part (at_root T) (rows_of_types 1 possible) ≡ shares_in part (position possible) (filled part (position possible))
unfolding totals
root_shares holds part T weight possible alone sound within =
    let es : Entries = filled_object part possible in
    let taken = alone_filled part T weight possible alone in
    let p = types_passed holds part 1 T 1 es possible [] (at_root T) refl refl sound
    (λ (is : is_possible T possible ≡ true) (h : 0 < 1).
    let few = nodes_at_most part T possible in
    (omega arith, filled_object_is holds part possible sound ∙ ap (λ (U : ℕ). filled_entries part (nodes_of U possible)) taken))
    (none_deeper part) refl in
    ap (λ (xs : List Row). own_shares part (at_root T) xs) (sym (append-nil (rows_of_types 1 possible)))
    ∙ p.found
    ∙ ap (λ (xs : List NodeShare). each_of_types (node_share part) possible (object T es ∷ []) ++ xs) (no_rows part p.behind)
    ∙ append-nil (each_of_types (node_share part) possible (object T es ∷ []))
    ∙ ap (λ (U : ℕ). each_of_types (node_share part) possible (object U es ∷ [])) (sym taken)

pub root_adds_weight : (part : Part) (T weight : ℕ) (possible : ObjectTypes) → IsAlone T weight possible → values_add part (position possible) (single_values (filled part (position possible))) ≡ value_cost part weight
root_adds_weight part T weight possible alone =
    let one : values_add part (position possible) (single_values (filled part (position possible))) ≡ value_cost part (weight_of (filled_type part possible) possible) = omega arith in
    one ∙ ap (λ (U : ℕ). value_cost part (weight_of U possible)) (alone_filled part T weight possible alone) ∙ ap (λ (w : ℕ). value_cost part w) (alone_weight T weight possible alone)

-- ---- shares within the cap

pub all_within : (xs : List NodeShare) → sum_of_shares xs ≤ CAP → map capped_share xs ≡ map counted xs
all_within [] few = refl
all_within (x ∷ xs) few =
    let all = sum_by-cons (λ (s : NodeShare). s.adds) x xs in
    let own : (capped_share x).adds ≡ x.adds = omega arith in
    ap₂ (λ (n : ℕ) (ys : List NodeShare). record { times = (counted x).times; values = (counted x).values; adds = n } ∷ ys) own (all_within xs (omega arith))

pub counted_sum : (xs : List NodeShare) → sum_of_shares (map counted xs) ≡ sum_of_shares xs
counted_sum xs = fold-map (λ (n : ℕ) (s : NodeShare). n + s.adds) counted 0 xs

pub found_within : (holds : ℕ → Data → Bool) (part : Part) (plan : Plan) → IsSound holds plan → greatest_cost part plan ≤ CAP → sum_of_shares (shares_in part plan (filled part plan)) ≤ CAP
found_within holds part plan sound within = let all = filled_add holds part plan sound in omega arith
