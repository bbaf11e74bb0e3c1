-- What is shown in the last two columns.
use Rattle.std.proofs.Common.{◌≡◌, ℕ, zero, suc, ◌+◌, ◌-◌, ◌≤◌, List, [], ◌∷◌, ◌++◌, length, map, min, take, drop, get_or, refl, sym, ap, ◌∙◌, arith, drop-cons}
use Rattle.std.proofs.lemmas.List.{map-append, length-take, take_min}
use Rattle.response_model.specs.Cost.{types, fields}
use Rattle.plan_table.specs.declared.rows.NodeRow.{NodeRow}
use Rattle.plan_table.specs.declared.table.Plan.{Plan}
use Rattle.cost_shares.specs.declared.share.Share.{Share}
use Rattle.cost_shares.specs.TableShares.{root_adds}
use Rattle.cost_tables.specs.declared.TheConstants.{SHOWN}
use Rattle.cost_tables.specs.declared.above.Above.{Above}
use Rattle.cost_tables.specs.Cells.{told_amount, at_root, stack_behind, node_cells}
use Rattle.cost_tables.specs.Tables.{adds_of, added, share_at, nothing, nodes_cells, shown_cells, other_cells, inner_cells, AreSharesOf, for_others, column, cells_in}

-- a column in which each node's line has what these shares add
module _ (p : Plan) (ts fs shares : List Share) (c : ℕ) (mine : (stack : List Above) (n : NodeRow) (at : ℕ) → get_or (node_cells p stack n (share_at at ts) (share_at at fs)) c [] ≡ told_amount (share_at at shares).adds) where
  nodes_shown : (rows : List NodeRow) (stack : List Above) (at : ℕ) → at + length rows ≤ length shares → cells_in c (nodes_cells p ts fs at stack rows) ≡ map told_amount (map adds_of (take (length rows) (drop at shares)))
  unfolding nodes_cells
  nodes_shown [] stack at many = refl
  nodes_shown (n ∷ rows) stack at many =
      ap (λ (text : List ℕ). text ∷ cells_in c (nodes_cells p ts fs (suc at) (stack_behind stack n) rows)) (mine stack n at)
      ∙ (ap (λ (texts : List (List ℕ)). told_amount (share_at at shares).adds ∷ texts) (nodes_shown rows (stack_behind stack n) (suc at) (omega arith))
      ∙ ap (λ (ss : List Share). map told_amount (map adds_of (take (suc (length rows)) ss))) (sym (drop-cons shares at nothing (omega arith))))

  takes_shown : length shares ≡ length p.rows.items → take (length (take SHOWN p.rows.items)) shares ≡ take SHOWN shares
  takes_shown same = ap (λ (k : ℕ). take k shares) (length-take SHOWN p.rows.items ∙ ap (λ (k : ℕ). min SHOWN k) (sym same)) ∙ take_min SHOWN shares

  pub all_shown : length shares ≡ length p.rows.items → cells_in c (shown_cells p ts fs) ≡ map told_amount (map adds_of (take SHOWN shares))
  all_shown same =
      nodes_shown (take SHOWN p.rows.items) (at_root ∷ []) 0 (let many = length-take SHOWN p.rows.items in omega arith)
      ∙ ap (λ (ss : List Share). map told_amount (map adds_of ss)) (takes_shown same)

others_shown_6 : (more t f : ℕ) → cells_in 6 (other_cells more t f) ≡ map told_amount (for_others more t)
others_shown_6 zero t f = refl
others_shown_6 (suc more) t f = refl

others_shown_7 : (more t f : ℕ) → cells_in 7 (other_cells more t f) ≡ map told_amount (for_others more f)
others_shown_7 zero t f = refl
others_shown_7 (suc more) t f = refl

-- a column behind its first number
joined : (c : ℕ) (shown others : List (List (List ℕ))) (adds rest : List ℕ) → cells_in c shown ≡ map told_amount adds → cells_in c others ≡ map told_amount rest → cells_in c (shown ++ others) ≡ map told_amount (adds ++ rest)
joined c shown others adds rest first second =
    map-append (λ (l : List (List ℕ)). get_or l c []) shown others
    ∙ (ap (λ (texts : List (List ℕ)). texts ++ cells_in c others) first ∙ (ap (λ (texts : List (List ℕ)). map told_amount adds ++ texts) second ∙ sym (map-append told_amount adds rest)))

pub types_shown : (p : Plan) (ts fs : List Share) → AreSharesOf p types ts → cells_in 6 (inner_cells p ts fs) ≡ map told_amount (column p types ts)
types_shown p ts fs are = ap (λ (texts : List (List ℕ)). told_amount (root_adds p types) ∷ texts)
    (joined 6 (shown_cells p ts fs) (other_cells (length p.rows.items - SHOWN) (added (drop SHOWN ts)) (added (drop SHOWN fs))) (map adds_of (take SHOWN ts)) (for_others (length p.rows.items - SHOWN) (added (drop SHOWN ts)))
    (all_shown p ts fs ts 6 (λ stack n at. refl) are.rows) (others_shown_6 (length p.rows.items - SHOWN) (added (drop SHOWN ts)) (added (drop SHOWN fs))))

pub fields_shown : (p : Plan) (ts fs : List Share) → AreSharesOf p fields fs → cells_in 7 (inner_cells p ts fs) ≡ map told_amount (column p fields fs)
fields_shown p ts fs are = ap (λ (texts : List (List ℕ)). told_amount (root_adds p fields) ∷ texts)
    (joined 7 (shown_cells p ts fs) (other_cells (length p.rows.items - SHOWN) (added (drop SHOWN ts)) (added (drop SHOWN fs))) (map adds_of (take SHOWN fs)) (for_others (length p.rows.items - SHOWN) (added (drop SHOWN fs)))
    (all_shown p ts fs fs 7 (λ stack n at. refl) are.rows) (others_shown_7 (length p.rows.items - SHOWN) (added (drop SHOWN ts)) (added (drop SHOWN fs))))
