-- The numbers of a column add up to the price.
use Rattle.std.proofs.Common.{◌≡◌, ℕ, zero, suc, ◌+◌, ◌-◌, ◌≤◌, List, [], ◌∷◌, ◌++◌, length, map, take, drop, refl, sym, ap, ◌∙◌, arith}
use Rattle.std.specs.List.{sum, sum_by}
use Rattle.std.proofs.lemmas.List.{drop_all}
use Rattle.std.proofs.lemmas.List.Sums.{sum-map, sum_by-append, sum_by-cons, sum_by-take-drop}
use Rattle.cost_num.specs.declared.TheConstants.{CAP}
use Rattle.cost_num.specs.declared.Cost.{Cost}
use Rattle.cost_num.specs.Capped.{capped}
use Rattle.response_model.specs.Cost.{Part, types, fields}
use Rattle.response_model.specs.Plan.{Plan as PlanTree}
use Rattle.plan_table.specs.declared.table.Plan.{Plan}
use Rattle.plan_table.specs.TableBounds.{HoldsSound, IsBoundIn}
use Rattle.static_cost.specs.CostBound.{IsWithin, component}
use Rattle.cost_shares.specs.declared.share.Share.{Share}
use Rattle.cost_shares.specs.Shares.{NodeShare, sum_of_shares}
use Rattle.cost_shares.specs.TableShares.{share_seen, shares_seen, root_adds}
use Rattle.cost_tables.specs.declared.TheConstants.{SHOWN}
use Rattle.cost_tables.specs.Tables.{adds_of, added, AreSharesOf, for_others, column}

seen_alike : (shares : List Share) → sum_of_shares (shares_seen shares) ≡ sum_by adds_of shares
seen_alike [] = refl
seen_alike (s ∷ shares) = sum_by-cons (λ (n : NodeShare). n.adds) (share_seen s) (shares_seen shares) ∙ (ap (λ n. s.adds + n) (seen_alike shares) ∙ sym (sum_by-cons adds_of s shares))

sum_behind : (shares : List Share) (others : List ℕ) → sum (map adds_of shares ++ others) ≡ sum_by adds_of shares + sum others
sum_behind shares others = sum_by-append (λ n. n) (map adds_of shares) others ∙ ap (λ n. n + sum others) (sum-map adds_of shares)

others_sum : (more n : ℕ) → (more ≡ 0 → n ≡ 0) → n ≤ CAP → sum (for_others more (capped n)) ≡ n
others_sum zero n none within = sym (none refl)
others_sum (suc more) n none within = omega arith

component_within : (part : Part) (price : Cost) → IsWithin price → component part price ≤ CAP
component_within types price within = within.of_types
component_within fields price within = within.of_fields

pub adds_up : (p : Plan) (part : Part) (shares : List Share) (tree : PlanTree) (price : Cost) → AreSharesOf p part shares → HoldsSound p tree → IsBoundIn p tree price → IsWithin price → sum (column p part shares) ≡ component part price
adds_up p part shares tree price are holds is_bound within =
    let whole : root_adds p part + sum_by adds_of shares ≡ component part price = ap (λ n. root_adds p part + n) (sym (seen_alike shares)) ∙ are.sum tree price holds is_bound in
    let parts : sum_by adds_of (take SHOWN shares) + sum_by adds_of (drop SHOWN shares) ≡ sum_by adds_of shares = sum_by-take-drop adds_of shares SHOWN in
    let most = component_within part price within in
    let none : length p.rows.items - SHOWN ≡ 0 → sum_by adds_of (drop SHOWN shares) ≡ 0 = λ few. ap (sum_by adds_of) (drop_all SHOWN shares (let many = are.rows in omega arith)) in
    let others : sum (for_others (length p.rows.items - SHOWN) (added (drop SHOWN shares))) ≡ sum_by adds_of (drop SHOWN shares) = others_sum (length p.rows.items - SHOWN) (sum_by adds_of (drop SHOWN shares)) none (omega arith) in
    let behind : List ℕ = map adds_of (take SHOWN shares) ++ for_others (length p.rows.items - SHOWN) (added (drop SHOWN shares)) in
    let shown : sum (map adds_of (take SHOWN shares) ++ for_others (length p.rows.items - SHOWN) (added (drop SHOWN shares))) ≡ sum_by adds_of shares =
    sum_behind (take SHOWN shares) (for_others (length p.rows.items - SHOWN) (added (drop SHOWN shares))) ∙ (ap (λ n. sum_by adds_of (take SHOWN shares) + n) others ∙ parts) in
    sum_by-cons (λ n. n) (root_adds p part) behind ∙ (ap (λ n. root_adds p part + n) shown ∙ whole)
