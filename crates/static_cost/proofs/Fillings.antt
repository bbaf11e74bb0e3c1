-- Filling, row by row.
use Rattle.std.proofs.Common.{◌≡◌, ℕ, zero, suc, ◌+◌, ◌-◌, ◌*◌, ◌<◌, ◌≤◌, List, [], ◌∷◌, ◌++◌, map, length, drop, get_or, Bool, true, false, cond, eqb, ltb, ◌&&◌, Option, refl, sym, ap, ap₂, ◌∙◌, subst, arith, lt-ltb, suc-mul}
use Rattle.std.proofs.lemmas.Bool.{le-ltb}
use Rattle.std.proofs.lemmas.List.{drop_all, drop-drop, get_or-drop, map_push, length-map}
use Rattle.response_model.specs.Plan.{Form, single, listed}
use Rattle.response_model.specs.Response.{Tree, list_of, Elements, no_element, element, Entries, no_entry, entry}
use Rattle.response_model.specs.Filled.{repeated, filled_in, filled_count}
use Rattle.plan_table.specs.declared.rows.NodeRow.{NodeRow}
use Rattle.plan_table.specs.declared.table.Plan.{Plan}
use Rattle.plan_table.specs.declared.response.Entry.{Entry as MemoryEntry}
use Rattle.plan_table.specs.Rows.{Row}
use Rattle.plan_table.specs.Tables.{row_of, row_in, table_rows}
use Rattle.plan_table.specs.Looked.{is_list}
use Rattle.plan_table.specs.Trees.{keyed_tree, KeyedTree, elements_from, entries_from}
use Rattle.static_cost.specs.declared.filling.Node.{Node}
use Rattle.static_cost.specs.declared.filling.WorstFault.{WorstFault}
use Rattle.static_cost.specs.declared.filling.WorstFault.TheVariants.{TooLarge, Memory}
use Rattle.static_cost.specs.Worst.{values, values_of_elements, values_of_entries}
use Rattle.static_cost.specs.Choices.{value_by, entries_by}
use Rattle.static_cost.specs.Filling.{Lacks, entries_from_row, value_at, item_of, list_value, value_of}
use Rattle.static_cost.proofs.TablePasses.{row_in_front}

-- ---- entries before others

abbrev pub entries_then : Entries → Entries → Entries
entries_then no_entry more = more
entries_then (entry k t es) more = entry k t (entries_then es more)

pub entries_then_none : (es : Entries) → entries_then es no_entry ≡ es
entries_then_none no_entry = refl
entries_then_none (entry k t es) = ap (λ (xs : Entries). entry k t xs) (entries_then_none es)

pub one_more : (xs : List KeyedTree) (k : List ℕ) (t : Tree) (more : Entries) → entries_then (entries_from (xs ++ (k, t) ∷ [])) more ≡ entries_then (entries_from xs) (entry k t more)
one_more [] k t more = refl
one_more (x ∷ xs) k t more = ap (λ (es : Entries). entry x.0 x.1 es) (one_more xs k t more)

pub values_then : (es more : Entries) → values_of_entries (entries_then es more) ≡ values_of_entries es + values_of_entries more
values_then no_entry more = omega arith
values_then (entry k t es) more = let e = values_then es more in omega arith

-- ---- the entries from a row on

abbrev step_with : Plan → List ℕ → ℕ → ℕ → ℕ → NodeRow → ℕ → List ℕ → Entries
step_with p choices at d T row on cs =
    cond (ltb row.depth d) no_entry
    (cond (eqb row.depth d && eqb row.on.number T)
    (entry row.key (value_by (row_in p row) on (entries_by (suc row.depth) on (drop (at + 1) (table_rows p)) cs)) (entries_by d T (drop (at + 1) (table_rows p)) cs))
    (entries_by d T (drop (at + 1) (table_rows p)) cs))

abbrev value_here : Plan → List ℕ → ℕ → NodeRow → Tree
value_here p choices at row = value_at p choices row (get_or choices at 0) (at + 1)

row_here : (p : Plan) (choices : List ℕ) (at d T : ℕ) (rows : List NodeRow) (row : NodeRow) → rows ≡ p.rows.items → at < length rows → row ≡ get_or rows at row
    → entries_from_row p choices at d T
    ≡ cond (ltb row.depth d) no_entry (cond (eqb row.depth d && eqb row.on.number T) (entry row.key (value_here p choices at row) (entries_from_row p choices (at + 1) d T)) (entries_from_row p choices (at + 1) d T))
unfolding entries_by row_of
row_here p choices at d T rows row is within found =
    let next : suc at ≡ at + 1 = omega arith in
    let left : drop at (table_rows p) ≡ row_in p row ∷ drop (at + 1) (table_rows p) = row_in_front p rows at row is within found ∙ ap (λ (k : ℕ). row_in p row ∷ drop k (table_rows p)) next in
    let others : drop 1 (drop at choices) ≡ drop (at + 1) choices = drop-drop 1 at choices in
    let here : get_or (drop at choices) 0 0 ≡ get_or choices at 0 = get_or-drop at choices 0 0 ∙ ap (λ (k : ℕ). get_or choices k 0) (omega arith) in
    ap (λ (xs : List Row). entries_by d T xs (drop at choices)) left
    ∙ ap₂ (λ (on : ℕ) (cs : List ℕ). step_with p choices at d T row on cs) here others

-- What was made so far, and what is left.
pub record FillsOn (p : Plan) (choices : List ℕ) (from at d T : ℕ) (made : List MemoryEntry) (before left : ℕ) : Type 0 where
  pub onward : from ≤ at
  pub whole : entries_then (entries_from (map keyed_tree made)) (entries_from_row p choices at d T) ≡ entries_from_row p choices from d T
  pub taken : left + values_of_entries (entries_from (map keyed_tree made)) ≡ before

pub fills_none : (p : Plan) (choices : List ℕ) (from d T left : ℕ) (made : List MemoryEntry) → made ≡ [] → FillsOn p choices from from d T made left left
fills_none p choices from d T left made none = record {
  onward = omega arith;
  whole = ap (λ (xs : List MemoryEntry). entries_then (entries_from (map keyed_tree xs)) (entries_from_row p choices from d T)) none;
  taken = ap (λ (xs : List MemoryEntry). left + values_of_entries (entries_from (map keyed_tree xs))) none ∙ omega arith;
}

-- Where nothing is left, all was made.
pub all_filled : (p : Plan) (choices : List ℕ) (from at d T : ℕ) (made : List MemoryEntry) (before left : ℕ) → entries_from_row p choices at d T ≡ no_entry → FillsOn p choices from at d T made before left
    → (left + values_of_entries (entries_from_row p choices from d T) ≡ before) × (entries_from (map keyed_tree made) ≡ entries_from_row p choices from d T)
all_filled p choices from at d T made before left none f =
    let all : entries_from (map keyed_tree made) ≡ entries_from_row p choices from d T =
    sym (entries_then_none (entries_from (map keyed_tree made))) ∙ ap (λ (es : Entries). entries_then (entries_from (map keyed_tree made)) es) (sym none) ∙ f.whole in
    (ap (λ (es : Entries). left + values_of_entries es) (sym all) ∙ f.taken, all)

pub no_rows_left : (p : Plan) (choices : List ℕ) (at d T : ℕ) (rows : List NodeRow) → rows ≡ p.rows.items → length rows ≤ at → entries_from_row p choices at d T ≡ no_entry
unfolding entries_by
no_rows_left p choices at d T rows is past =
    ap (λ (xs : List Row). entries_by d T xs (drop at choices))
    (drop_all at (table_rows p) (let same = length-map p.rows.items (row_in p) in let long = ap length is in omega arith))

pub less_deep : (p : Plan) (choices : List ℕ) (at d T : ℕ) (rows : List NodeRow) (row : NodeRow) → rows ≡ p.rows.items → at < length rows → row ≡ get_or rows at row → row.depth < d → entries_from_row p choices at d T ≡ no_entry
less_deep p choices at d T rows row is within found less =
    row_here p choices at d T rows row is within found
    ∙ ap (λ (b : Bool). cond b no_entry
    (cond (eqb row.depth d && eqb row.on.number T) (entry row.key (value_here p choices at row) (entries_from_row p choices (at + 1) d T)) (entries_from_row p choices (at + 1) d T))) (lt-ltb row.depth d less)

deep_row : (p : Plan) (choices : List ℕ) (at d T : ℕ) (rows : List NodeRow) (row : NodeRow) (own : Bool) → rows ≡ p.rows.items → at < length rows → row ≡ get_or rows at row → d ≤ row.depth → (eqb row.depth d && eqb row.on.number T) ≡ own
    → entries_from_row p choices at d T ≡ cond own (entry row.key (value_here p choices at row) (entries_from_row p choices (at + 1) d T)) (entries_from_row p choices (at + 1) d T)
deep_row p choices at d T rows row own is within found deep test =
    row_here p choices at d T rows row is within found
    ∙ ap₂ (λ (a b : Bool). cond a no_entry (cond b (entry row.key (value_here p choices at row) (entries_from_row p choices (at + 1) d T)) (entries_from_row p choices (at + 1) d T)))
    (le-ltb row.depth d deep) test

-- A row that is passed over.
pub passed : (p : Plan) (choices : List ℕ) (from at d T : ℕ) (rows : List NodeRow) (row : NodeRow) (made : List MemoryEntry) (before left : ℕ) → rows ≡ p.rows.items → at < length rows → row ≡ get_or rows at row
    → d ≤ row.depth → (eqb row.depth d && eqb row.on.number T) ≡ false → FillsOn p choices from at d T made before left → FillsOn p choices from (at + 1) d T made before left
passed p choices from at d T rows row made before left is within found deep other f = record {
  onward = let o = f.onward in omega arith;
  whole = ap (λ (es : Entries). entries_then (entries_from (map keyed_tree made)) es) (sym (deep_row p choices at d T rows row false is within found deep other)) ∙ f.whole;
  taken = f.taken;
}

-- A row whose entry was made.
pub entry_filled : (p : Plan) (choices : List ℕ) (from at d T : ℕ) (rows : List NodeRow) (row : NodeRow) (on : ℕ) (made more : List MemoryEntry) (e : MemoryEntry) (before left after : ℕ) → rows ≡ p.rows.items → at < length rows → row ≡ get_or rows at row → on ≡ get_or choices at 0
    → d ≤ row.depth → (eqb row.depth d && eqb row.on.number T) ≡ true → keyed_tree e ≡ (row.key, value_at p choices row on (at + 1)) → after + values (value_at p choices row on (at + 1)) ≡ left → more ≡ made ++ e ∷ []
    → FillsOn p choices from at d T made before left → FillsOn p choices from (at + 1) d T more before after
entry_filled p choices from at d T rows row on made more e before left after is within found is_on deep own keyed spent pushed f = record {
  onward = let o = f.onward in omega arith;
  whole = ap (λ (xs : List KeyedTree). entries_then (entries_from xs) (entries_from_row p choices (at + 1) d T)) all
      ∙ one_more (map keyed_tree made) row.key (value_here p choices at row) (entries_from_row p choices (at + 1) d T)
      ∙ ap (λ (es : Entries). entries_then (entries_from (map keyed_tree made)) es) (sym (deep_row p choices at d T rows row true is within found deep own))
      ∙ f.whole;
  taken =
      let s : after + values (value_here p choices at row) ≡ left = ap (λ (k : ℕ). after + values (value_at p choices row k (at + 1))) (sym is_on) ∙ spent in
      let t = f.taken in
      let count : values_of_entries (entries_from (map keyed_tree more)) ≡ values_of_entries (entries_from (map keyed_tree made)) + (values (value_here p choices at row) + 0) =
      ap (λ (xs : List KeyedTree). values_of_entries (entries_from xs)) all
      ∙ ap values_of_entries (sym (entries_then_none (entries_from (map keyed_tree made ++ (row.key, value_here p choices at row) ∷ []))) ∙ one_more (map keyed_tree made) row.key (value_here p choices at row) no_entry)
      ∙ values_then (entries_from (map keyed_tree made)) (entry row.key (value_here p choices at row) no_entry) in
      omega arith;
}
  where
    all : map keyed_tree more ≡ map keyed_tree made ++ (row.key, value_here p choices at row) ∷ []
    all = ap (map keyed_tree) pushed ∙ map_push keyed_tree made e ∙ ap (λ (k : KeyedTree). map keyed_tree made ++ k ∷ []) (keyed ∙ ap (λ (k : ℕ). (row.key, value_at p choices row k (at + 1))) is_on)

pub lacks_more : (fault : WorstFault) (A B : Type 0) → (A → B) → Lacks fault A → Lacks fault B
lacks_more TooLarge A B more lacks = more lacks
lacks_more Memory A B more lacks = tt

-- A row whose entry wasn't made.
pub entry_lacks : (p : Plan) (choices : List ℕ) (from at d T : ℕ) (rows : List NodeRow) (row : NodeRow) (on : ℕ) (made : List MemoryEntry) (before left : ℕ) (fault : WorstFault) → rows ≡ p.rows.items → at < length rows → row ≡ get_or rows at row → on ≡ get_or choices at 0
    → d ≤ row.depth → (eqb row.depth d && eqb row.on.number T) ≡ true → Lacks fault (left < values (value_at p choices row on (at + 1)))
    → FillsOn p choices from at d T made before left → Lacks fault (before < values_of_entries (entries_from_row p choices from d T))
entry_lacks p choices from at d T rows row on made before left fault is within found is_on deep own lacks f =
    lacks_more fault (left < values (value_at p choices row on (at + 1))) (before < values_of_entries (entries_from_row p choices from d T)) (λ (few : left < values (value_at p choices row on (at + 1))).
    let t = f.taken in
    let same : values (value_at p choices row on (at + 1)) ≡ values (value_here p choices at row) = ap (λ (k : ℕ). values (value_at p choices row k (at + 1))) is_on in
    let w : values_of_entries (entries_from (map keyed_tree made)) + values_of_entries (entries_from_row p choices at d T) ≡ values_of_entries (entries_from_row p choices from d T) =
    sym (values_then (entries_from (map keyed_tree made)) (entries_from_row p choices at d T)) ∙ ap values_of_entries f.whole in
    let o = ap values_of_entries (deep_row p choices at d T rows row true is within found deep own) in
    omega arith) lacks

-- ---- lists

pub values_repeated : (n : ℕ) (t : Tree) → values_of_elements (repeated n t) ≡ n * values t
values_repeated zero t = omega arith
values_repeated (suc n) t = let e = values_repeated n t in let m = suc-mul n (values t) in omega arith

pub single_is : (p : Plan) (choices : List ℕ) (n : Node) → is_list (row_in p n.row.now).selected.form ≡ false → value_of p choices n ≡ item_of p choices n
single_is p choices n no_list = by (row_in p n.row.now).selected.form no_list
  where
    other : true ≡ false → ⊥
    other e = cc

    by : (form : Form) → is_list form ≡ false → filled_in form (row_in p n.row.now).selected.size (item_of p choices n) ≡ item_of p choices n
    by (single nullable) no_list = refl
    by (listed nullable item_nullable) no_list = absurd (other no_list)

list_filled : (form : Form) (size : Option ℕ) (t : Tree) → is_list form ≡ true → filled_in form size t ≡ list_of (repeated (filled_count size) t)
list_filled (single nullable) size t is = absurd (other is)
  where
    other : false ≡ true → ⊥
    other e = cc
list_filled (listed nullable item_nullable) size t is = refl

pub list_is : (p : Plan) (choices : List ℕ) (n : Node) → is_list (row_in p n.row.now).selected.form ≡ true → value_of p choices n ≡ list_value p choices n
unfolding row_of
list_is p choices n is = list_filled (row_in p n.row.now).selected.form (row_in p n.row.now).selected.size (item_of p choices n) is

-- The first of some items took its values, and the others took as many each.
pub items_filled : (count each before between after : ℕ) (t : Tree) → (count ≡ 0 → ⊥) → each ≡ before - between → between + values t ≡ before → after + (count - 1) * each ≡ between → after + values_of_elements (repeated count t) ≡ before
items_filled zero each before between after t some is_each first others = absurd (some refl)
items_filled (suc n) each before between after t some is_each first others =
    let same : each ≡ values t = omega arith in
    let less : suc n - 1 ≡ n = omega arith in
    let left : after + n * values t ≡ between = ap₂ (λ (k v : ℕ). after + k * v) (sym less) (sym same) ∙ others in
    let all = values_repeated n t in
    omega arith

pub items_lack : (count each before between : ℕ) (t : Tree) (fault : WorstFault) → (count ≡ 0 → ⊥) → each ≡ before - between → between + values t ≡ before → Lacks fault (between < (count - 1) * each) → Lacks fault (before < values_of_elements (repeated count t))
items_lack zero each before between t fault some is_each first lacks = absurd (some refl)
items_lack (suc n) each before between t fault some is_each first lacks =
    lacks_more fault (between < (suc n - 1) * each) (before < values_of_elements (repeated (suc n) t)) (λ (few : between < (suc n - 1) * each).
    let same : each ≡ values t = omega arith in
    let less : suc n - 1 ≡ n = omega arith in
    let left : between < n * values t = subst (λ (m : ℕ). between < m) (ap₂ (λ (k v : ℕ). k * v) less same) few in
    let all = values_repeated n t in
    omega arith) lacks

-- One more copy of the same item.
pub one_more_copy : (xs : List Tree) (n : ℕ) (t : Tree) → elements_from xs ≡ repeated n t → elements_from (xs ++ t ∷ []) ≡ repeated (n + 1) t
one_more_copy xs n t is =
    let next : suc n ≡ n + 1 = omega arith in
    at_end xs ∙ ap (λ (ts : Elements). append ts (element t no_element)) is ∙ turned n ∙ ap (λ (k : ℕ). repeated k t) next
  where
    append : Elements → Elements → Elements
    append no_element more = more
    append (element x ts) more = element x (append ts more)

    at_end : (xs : List Tree) → elements_from (xs ++ t ∷ []) ≡ append (elements_from xs) (element t no_element)
    at_end [] = refl
    at_end (x ∷ xs) = ap (λ (ts : Elements). element x ts) (at_end xs)

    turned : (n : ℕ) → append (repeated n t) (element t no_element) ≡ repeated (suc n) t
    turned zero = refl
    turned (suc n) = ap (λ (ts : Elements). element t ts) (turned n)
