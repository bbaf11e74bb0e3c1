-- Going on by a node, and by a share.
use Rattle.std.proofs.Common.{◌≡◌, ℕ, suc, ◌+◌, ◌<◌, ◌≤◌, ◌-◌, min, List, [], ◌∷◌, ◌++◌, length, map, take, drop, get_or, subst, sym, ap, ◌∙◌, arith, drop-cons}
use Rattle.std.specs.List.{sum_by}
use Rattle.std.proofs.lemmas.List.{append_assoc, append-nil, drop_all, drop_min, get_or-map, length-drop, length-map, map-append, take_all, take_min}
use Rattle.std.proofs.lemmas.List.Sums.{sum_by-cons}
use Rattle.cost_num.specs.declared.TheConstants.{CAP}
use Rattle.cost_num.specs.Capped.{capped}
use Rattle.input_values.specs.declared.inputs.definition.InputDef.{InputDef}
use Rattle.input_values.specs.inputs.Definitions.{InputData, input_data}
use Rattle.schema_model.specs.SchemaData.{input_name}
use Rattle.plan_table.specs.declared.rows.NodeRow.{NodeRow}
use Rattle.plan_table.specs.declared.table.Plan.{Plan}
use Rattle.cost_shares.specs.declared.share.Share.{Share}
use Rattle.aligned_lines.specs.declared.lines.Line.{Line}
use Rattle.aligned_lines.specs.Aligned.{Cells, cells_of, lines_seen, aligned}
use Rattle.cost_num.specs.declared.Cost.{Cost}
use Rattle.cost_tables.specs.declared.above.Above.{Above}
use Rattle.cost_tables.specs.declared.TheConstants.{SHOWN}
use Rattle.cost_tables.specs.Cells.{at_root, stack_behind, node_cells}
use Rattle.cost_tables.specs.Tables.{share_at, nodes_cells, shown_cells, adds_of, left_columns, table_cells}

-- the argument at a place is called so
pub name_at : (args : List InputDef) (told : List InputData) (place : ℕ) (a : InputDef) → map input_data args ≡ told → place < length args → a ≡ get_or args place a → a.name ≡ get_or (map input_name told) place []
name_at args told place a are within is =
    let inside : place < length (map input_data args) = subst (λ n. place < n) (sym (length-map args input_data)) within in
    ap (λ (i : InputDef). i.name) is
    ∙ (ap input_name (sym (get_or-map input_data args place a (input_data a) within))
    ∙ (sym (get_or-map input_name (map input_data args) place (input_data a) [] inside) ∙ ap (λ (is : List InputData). get_or (map input_name is) place []) are))

-- the rows that are shown, and the shares of the others
pub rows_shown : (rows : List NodeRow) (k : ℕ) → k ≡ min SHOWN (length rows) → take k rows ≡ take SHOWN rows
rows_shown rows k is = ap (λ n. take n rows) is ∙ take_min SHOWN rows

pub others_left : (shares : List Share) (k : ℕ) → k ≡ min SHOWN (length shares) → take (length shares - k) (drop k shares) ≡ drop SHOWN shares
others_left shares k is = take_all (length shares - k) (drop k shares) (let left = length-drop k shares in omega arith) ∙ (ap (λ n. drop n shares) is ∙ drop_min SHOWN shares)

pub nodes_begun : (p : Plan) (ts fs : List Share) (lines : List Cells) (rows : List NodeRow) (stack : List Above) → stack ≡ at_root ∷ [] → rows ≡ take SHOWN p.rows.items → lines ++ nodes_cells p ts fs 0 stack rows ≡ lines ++ shown_cells p ts fs
nodes_begun p ts fs lines rows stack above shown = ap (λ (s : List Above). lines ++ nodes_cells p ts fs 0 s rows) above ∙ ap (λ (ns : List NodeRow). lines ++ nodes_cells p ts fs 0 (at_root ∷ []) ns) shown

module _ (p : Plan) (ts fs : List Share) (rows : List NodeRow) (whole : List Cells) where
  pub node_written : (at : ℕ) (n : NodeRow) (stack behind : List Above) (line : Line) (before after : List Line) → at < length rows → n ≡ get_or rows at n → cells_of line ≡ node_cells p stack n (share_at at ts) (share_at at fs)
      → after ≡ before ++ (line ∷ []) → behind ≡ stack_behind stack n → lines_seen before ++ nodes_cells p ts fs at stack (drop at rows) ≡ whole
      → lines_seen after ++ nodes_cells p ts fs (at + 1) behind (drop (at + 1) rows) ≡ whole
  unfolding nodes_cells
  node_written at n stack behind line before after within is says pushed goes held =
      let next : at + 1 ≡ suc at = omega arith in
      let front : drop at rows ≡ n ∷ drop (suc at) rows = drop-cons rows at n within ∙ ap (λ (m : NodeRow). m ∷ drop (suc at) rows) (sym is) in
      let seen : lines_seen after ≡ lines_seen before ++ (node_cells p stack n (share_at at ts) (share_at at fs) ∷ []) =
      ap (λ (ls : List Line). lines_seen ls) pushed ∙ (map-append cells_of before (line ∷ []) ∙ ap (λ (l : Cells). lines_seen before ++ (l ∷ [])) says) in
      ap (λ (k : ℕ). lines_seen after ++ nodes_cells p ts fs k behind (drop k rows)) next
      ∙ (ap (λ (s : List Above). lines_seen after ++ nodes_cells p ts fs (suc at) s (drop (suc at) rows)) goes
      ∙ (ap (λ (ls : List Cells). ls ++ nodes_cells p ts fs (suc at) (stack_behind stack n) (drop (suc at) rows)) seen
      ∙ (append_assoc (lines_seen before) (node_cells p stack n (share_at at ts) (share_at at fs) ∷ []) (nodes_cells p ts fs (suc at) (stack_behind stack n) (drop (suc at) rows))
      ∙ (ap (λ (ns : List NodeRow). lines_seen before ++ nodes_cells p ts fs at stack ns) (sym front) ∙ held))))

  pub nodes_written : (at : ℕ) (stack : List Above) (lines : List Line) → length rows ≤ at → lines_seen lines ++ nodes_cells p ts fs at stack (drop at rows) ≡ whole → lines_seen lines ≡ whole
  unfolding nodes_cells
  nodes_written at stack lines past held =
      sym (append-nil (lines_seen lines)) ∙ (ap (λ (ns : List NodeRow). lines_seen lines ++ nodes_cells p ts fs at stack ns) (sym (drop_all at rows past)) ∙ held)

-- the text of lines that are those of a table
pub table_told : (p : Plan) (price : Cost) (text : List ℕ) (lines : List Cells) (ts fs types fields : List Share) → text ≡ aligned left_columns lines → lines ≡ table_cells p price ts fs → ts ≡ types → fs ≡ fields → text ≡ aligned left_columns (table_cells p price types fields)
table_told p price text lines ts fs types fields told are of_types of_fields =
    told ∙ (ap (aligned left_columns) are ∙ (ap (λ (ss : List Share). aligned left_columns (table_cells p price ss fs)) of_types ∙ ap (λ (ss : List Share). aligned left_columns (table_cells p price types ss)) of_fields))

pub share_added : (shares : List Share) (at so_far next : ℕ) (s : Share) → at < length shares → s ≡ get_or shares at s → next ≡ capped (so_far + min s.adds (CAP + 1))
    → capped (so_far + sum_by adds_of (drop at shares)) ≡ capped (sum_by adds_of shares) → capped (next + sum_by adds_of (drop (at + 1) shares)) ≡ capped (sum_by adds_of shares)
share_added shares at so_far next s within is goes held =
    let more : at + 1 ≡ suc at = omega arith in
    let front : drop at shares ≡ s ∷ drop (suc at) shares = drop-cons shares at s within ∙ ap (λ (x : Share). x ∷ drop (suc at) shares) (sym is) in
    let split : sum_by adds_of (drop at shares) ≡ s.adds + sum_by adds_of (drop (suc at) shares) = ap (sum_by adds_of) front ∙ sum_by-cons adds_of s (drop (suc at) shares) in
    let same : sum_by adds_of (drop (at + 1) shares) ≡ sum_by adds_of (drop (suc at) shares) = ap (λ (k : ℕ). sum_by adds_of (drop k shares)) more in
    let step : capped (next + sum_by adds_of (drop (suc at) shares)) ≡ capped (so_far + (s.adds + sum_by adds_of (drop (suc at) shares))) = omega arith in
    ap (λ (k : ℕ). capped (next + k)) same ∙ (step ∙ (ap (λ (k : ℕ). capped (so_far + k)) (sym split) ∙ held))

pub all_added : (shares : List Share) (at so_far : ℕ) → length shares ≤ at → so_far ≤ CAP + 1 → capped (so_far + sum_by adds_of (drop at shares)) ≡ capped (sum_by adds_of shares) → so_far ≡ capped (sum_by adds_of shares)
all_added shares at so_far past within held =
    let none : sum_by adds_of (drop at shares) ≡ 0 = ap (sum_by adds_of) (drop_all at shares past) in
    let same : capped (so_far + sum_by adds_of (drop at shares)) ≡ so_far = omega arith in
    sym same ∙ held
