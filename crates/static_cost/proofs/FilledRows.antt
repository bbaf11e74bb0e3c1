-- The entries that are read from the rows of a plan are those of its filled response.
use Rattle.std.proofs.Common.{◌≡◌, ⊎_elim, ℕ, zero, suc, ◌+◌, ◌<◌, ◌≤◌, List, [], ◌∷◌, ◌++◌, Bool, true, false, true≢false, cond, eqb, ltb, Option, Some, None, Result, Ok, Err, refl, sym, ap, ap₂, ◌∙◌, subst, arith, eqb-true, le-leb, inl, inr}
use Rattle.std.proofs.lemmas.Bool.{cases_Bool, cases_lt, lt-ltb}
use Rattle.std.proofs.lemmas.List.{append_assoc, append-nil}
use Rattle.cost_num.specs.declared.TheConstants.{CAP}
use Rattle.serde_json.specs.Data.{Data}
use Rattle.response_model.specs.Plan.{Form, single, listed, Selected, Plan, leaf_plan, position, ObjectTypes, no_type, object_type, Nodes, no_node, node, is_possible, nodes_of}
use Rattle.response_model.specs.Response.{Tree, list_of, object, Entries, no_entry, entry}
use Rattle.response_model.specs.Cost.{Part, value_cost}
use Rattle.response_model.specs.Bound.{greatest_in, greatest_cost, greatest_of_types, greatest_of_nodes, IsSound, TypesSound, NodesSound}
use Rattle.response_model.specs.Filled.{repeated, filled_in, filled, filled_type, filled_object, filled_entries}
use Rattle.response_model.proofs.Filling.{exceeds}
use Rattle.plan_table.specs.Rows.{Row, below_in, rows_below, rows_of_types, rows_of_nodes}
use Rattle.plan_table.specs.Totals.{totals}
use Rattle.plan_table.proofs.RowOrder.{AreDeeper, below_deeper, neither, own_depth, Ends, ends_deeper, nodes_end, types_end}
use Rattle.plan_table.proofs.TreesAgain.{no_nodes_of}
use Rattle.plan_table.proofs.RowTotals.{ClearBelow, row_at, one_deeper, types_added, nodes_added}
use Rattle.plan_model.specs.Plans.{type_weight}
use Rattle.plan_table.specs.declared.table.Plan.{Plan as Plan'}
use Rattle.plan_table.specs.Tables.{IsAlone, table_rows, setting_in}
use Rattle.static_cost.specs.declared.filling.WorstFault.{WorstFault}
use Rattle.static_cost.specs.declared.filling.WorstFault.TheVariants.{TooLarge}
use Rattle.plan_table.specs.TableBounds.{holds_in, HoldsSound, IsWithinCap}
use Rattle.static_cost.specs.Worst.{values, values_of_entries}
use Rattle.static_cost.specs.Filling.{Lacks, entries_from_row}
use Rattle.static_cost.specs.Choices.{picked, choice_at, choices, item_by, entries_by}
use Rattle.static_cost.proofs.Fillings.{entries_then, entries_then_none}
use Rattle.static_cost.proofs.PickedTypes.{types_picked, chosen_is_filled, filled_object_is, nodes_at_most}

-- What is read from rows, with their own choices.
abbrev pub read_entries : Part → ℕ → ℕ → List Row → Entries
read_entries part d T rows = entries_by d T rows (choices part rows)

-- ---- rows that are passed over

deeper_passed : (part : Part) (d T : ℕ) (xs rows : List Row) → AreDeeper d xs → read_entries part d T (xs ++ rows) ≡ read_entries part d T rows
unfolding entries_by choices
deeper_passed part d T [] rows deeper = refl
deeper_passed part d T (x ∷ xs) rows deeper = neither d x.depth (eqb x.type T) no_entry _ _ deeper.0 ∙ deeper_passed part d T xs rows deeper.1

none_if : (b : Bool) (es : Entries) → b ≡ true → cond b no_entry es ≡ no_entry
none_if true es e = refl
none_if false es e = absurd (true≢false (sym e))

nothing_read : (part : Part) (d T : ℕ) (rows : List Row) → Ends d rows → read_entries part d T rows ≡ no_entry
unfolding entries_by choices
nothing_read part d T [] ends = refl
nothing_read part d T (r ∷ rows) ends = none_if (ltb r.depth d) _ (lt-ltb r.depth d ends)

-- ---- values

-- Items that are the same where they cost little enough give the same values, where the values do.
same_values : (form : Form) (size : Option ℕ) (each : ℕ) (t u : Tree) → greatest_in form size each ≤ CAP → (each ≤ CAP → t ≡ u) → filled_in form size t ≡ filled_in form size u
same_values (single nullable) size each t u counted same = same counted
same_values (listed nullable item_nullable) None each t u counted same = refl
same_values (listed nullable item_nullable) (Some zero) each t u counted same = refl
same_values (listed nullable item_nullable) (Some (suc n)) each t u counted same = ap (λ (x : Tree). list_of (repeated (suc n) x)) (same (omega arith))

-- ---- the whole

same_both : (b : Bool) (es : Entries) → es ≡ cond b es es
same_both true es = refl
same_both false es = refl

module _ (holds : ℕ → Data → Bool) (part : Part) where
  mutual
    unfolding entries_by choices rows_below rows_of_types rows_of_nodes

    item_read : (d T w : ℕ) (first : Bool) (s : Selected) (below : Plan) (rows : List Row) → IsSound holds below → greatest_cost part below ≤ CAP → Ends (suc d) rows → ClearBelow d (totals part rows)
        → item_by (below_in below) (choice_at part (row_at d T w first s below) (rows_below (suc d) below ++ rows))
        (read_entries part (suc d) (choice_at part (row_at d T w first s below) (rows_below (suc d) below ++ rows)) (rows_below (suc d) below ++ rows))
        ≡ filled part below
    item_read d T w first s (leaf_plan type weight fill) rows sound counted ends clear = refl
    item_read d T w first s (position possible) rows sound counted ends clear =
        let deeper = one_deeper d (totals part rows) clear in
        let nothing = clear (suc d) (omega arith) in
        let added = types_added part (suc d) possible rows deeper nothing.0 in
        let most = added.greatest in
        let none = nothing.1 in
        let chosen = chosen_is_filled holds part ((totals part (rows_of_types (suc d) possible ++ rows)).greatest (suc d)) (picked part (rows_of_types (suc d) possible ++ rows) (suc d)) (picked part rows (suc d)) possible sound.1 counted (omega arith)
        (types_picked part (suc d) possible rows deeper nothing.0 nothing.1) in
        let few = nodes_at_most part (filled_type part possible) possible in
        ap (λ (U : ℕ). object U (read_entries part (suc d) U (rows_of_types (suc d) possible ++ rows))) chosen
        ∙ ap (λ (es : Entries). object (filled_type part possible) es)
        (types_read (suc d) (filled_type part possible) possible rows sound.1 (omega arith) ends deeper nothing.0 ∙ sym (filled_object_is holds part possible sound.1))

    pub types_read : (d T : ℕ) (possible : ObjectTypes) (rows : List Row) → TypesSound holds possible → greatest_of_nodes part (nodes_of T possible) ≤ CAP → Ends d rows → ClearBelow d (totals part rows) → (totals part rows).sum d ≡ 0
        → read_entries part d T (rows_of_types d possible ++ rows) ≡ filled_entries part (nodes_of T possible)
    types_read d T no_type rows sound counted ends clear none = nothing_read part d T rows ends
    types_read d T (object_type U w nodes others) rows sound counted ends clear none =
        let behind = types_added part d others rows clear none in
        let more = rows_of_types d others ++ rows in
        ap (λ (xs : List Row). read_entries part d T xs) (append_assoc (rows_of_nodes d U w true nodes) (rows_of_types d others) rows)
        ∙ nodes_read d T U w true nodes more sound.1
        (λ (e : eqb U T ≡ true). subst (λ (b : Bool). greatest_of_nodes part (cond b nodes (nodes_of T others)) ≤ CAP) e counted)
        (types_end d others rows (ends_deeper d rows ends)) behind.clear
        ∙ ⊎_elim
        (λ (e : eqb U T ≡ true).
        let absent = no_nodes_of T others (subst (λ (x : ℕ). is_possible x others ≡ false) (eqb-true U T e) sound.0) in
        let rest : read_entries part d T more ≡ no_entry =
        types_read d T others rows sound.2 (subst (λ (ns : Nodes). greatest_of_nodes part ns ≤ CAP) (sym absent) (omega arith)) ends clear none ∙ ap (filled_entries part) absent in
        ap (λ (b : Bool). cond b (entries_then (filled_entries part nodes) (read_entries part d T more)) (read_entries part d T more)) e
        ∙ ap (λ (es : Entries). entries_then (filled_entries part nodes) es) rest
        ∙ entries_then_none (filled_entries part nodes)
        ∙ ap (λ (b : Bool). filled_entries part (cond b nodes (nodes_of T others))) (sym e))
        (λ (e : eqb U T ≡ false).
        ap (λ (b : Bool). cond b (entries_then (filled_entries part nodes) (read_entries part d T more)) (read_entries part d T more)) e
        ∙ types_read d T others rows sound.2 (subst (λ (b : Bool). greatest_of_nodes part (cond b nodes (nodes_of T others)) ≤ CAP) e counted) ends clear none
        ∙ ap (λ (b : Bool). filled_entries part (cond b nodes (nodes_of T others))) (sym e))
        (cases_Bool (eqb U T))

    nodes_read : (d T U w : ℕ) (first : Bool) (nodes : Nodes) (rows : List Row) → NodesSound holds nodes → (eqb U T ≡ true → greatest_of_nodes part nodes ≤ CAP) → Ends (suc d) rows → ClearBelow d (totals part rows)
        → read_entries part d T (rows_of_nodes d U w first nodes ++ rows) ≡ cond (eqb U T) (entries_then (filled_entries part nodes) (read_entries part d T rows)) (read_entries part d T rows)
    nodes_read d T U w first no_node rows sound counted ends clear = same_both (eqb U T) (read_entries part d T rows)
    nodes_read d T U w first (node s below others) rows sound counted ends clear =
        let more = rows_of_nodes d U w false others ++ rows in
        let added = nodes_added part d U w others rows clear in
        let left = rows_below (suc d) below ++ more in
        let on = choice_at part (row_at d U w first s below) left in
        let item = item_by (below_in below) on (read_entries part (suc d) on left) in
        let passed : read_entries part d T left ≡ read_entries part d T more = deeper_passed part d T (rows_below (suc d) below) more (below_deeper d (suc d) below (omega arith)) in
        let behind = nodes_read d T U w false others rows sound.2 (λ (e : eqb U T ≡ true). let c = counted e in omega arith) ends clear in
        ap (λ (xs : List Row). read_entries part d T (row_at d U w first s below ∷ xs)) (append_assoc (rows_below (suc d) below) (rows_of_nodes d U w false others) rows)
        ∙ own_depth d (eqb U T) no_entry (entry s.key (filled_in s.form s.size item) (read_entries part d T left)) (read_entries part d T left)
        ∙ ⊎_elim
        (λ (e : eqb U T ≡ true).
        let c = counted e in
        let same = same_values s.form s.size (greatest_cost part below) item (filled part below) (omega arith) (λ (few : greatest_cost part below ≤ CAP). item_read d U w first s below more sound.1 few (nodes_end d U w false others rows ends) added.clear) in
        ap (λ (b : Bool). cond b (entry s.key (filled_in s.form s.size item) (read_entries part d T left)) (read_entries part d T left)) e
        ∙ ap₂ (λ (t : Tree) (es : Entries). entry s.key t es) same (passed ∙ behind ∙ ap (λ (b : Bool). cond b (entries_then (filled_entries part others) (read_entries part d T rows)) (read_entries part d T rows)) e)
        ∙ ap (λ (b : Bool). cond b (entries_then (filled_entries part (node s below others)) (read_entries part d T rows)) (read_entries part d T rows)) (sym e))
        (λ (e : eqb U T ≡ false).
        ap (λ (b : Bool). cond b (entry s.key (filled_in s.form s.size item) (read_entries part d T left)) (read_entries part d T left)) e
        ∙ passed ∙ behind
        ∙ ap (λ (b : Bool). cond b (entries_then (filled_entries part others) (read_entries part d T rows)) (read_entries part d T rows)) e
        ∙ ap (λ (b : Bool). cond b (entries_then (filled_entries part (node s below others)) (read_entries part d T rows)) (read_entries part d T rows)) (sym e))
        (cases_Bool (eqb U T))

none_deeper : (part : Part) → ClearBelow 1 (totals part [])
unfolding totals
none_deeper part e deep = (refl, refl)

-- The object of the root, read from the rows of its one type.
pub root_read : (holds : ℕ → Data → Bool) (part : Part) (T weight : ℕ) (possible : ObjectTypes) → IsAlone T weight possible → TypesSound holds possible → greatest_of_types part possible ≤ CAP
    → object T (read_entries part 1 T (rows_of_types 1 possible)) ≡ filled part (position possible)
unfolding totals
root_read holds part T weight no_type alone sound counted = absurd alone
root_read holds part T weight (object_type U w nodes (object_type V v ns others)) alone sound counted = absurd alone
root_read holds part T weight (object_type U w nodes no_type) alone sound counted =
    let possible = object_type U w nodes no_type in
    let few = nodes_at_most part T possible in
    let taken : filled_type part possible ≡ T = ap (λ (b : Bool). cond b U 0) (le-leb 0 (value_cost part w + greatest_of_nodes part nodes) (omega arith)) ∙ alone.0 in
    ap (λ (es : Entries). object T es)
    (ap (λ (xs : List Row). read_entries part 1 T xs) (sym (append-nil (rows_of_types 1 possible)))
    ∙ types_read holds part 1 T possible [] sound (omega arith) tt (none_deeper part) refl
    ∙ ap (λ (k : ℕ). filled_entries part (nodes_of k possible)) (sym taken) ∙ sym (filled_object_is holds part possible sound))
    ∙ ap (λ (k : ℕ). object k (filled_object part possible)) (sym taken)

-- The filled response of a plan that a table holds.
pub table_read : (p : Plan') (part : Part) (plan : Plan) (found : List ℕ) → HoldsSound p plan → IsWithinCap p part → found ≡ choices part (table_rows p) → object p.root.number (entries_from_row p found 0 1 p.root.number) ≡ filled part plan
table_read p part (leaf_plan type w fill) found of counted is = absurd of.0
table_read p part (position possible) found of counted is =
    ap (λ (cs : List ℕ). object p.root.number (entries_by 1 p.root.number (table_rows p) cs)) is
    ∙ ap (λ (xs : List Row). object p.root.number (read_entries part 1 p.root.number xs)) of.0.1
    ∙ root_read (holds_in p) part p.root.number (type_weight (setting_in p) p.root.number) possible of.0.0 of.1.1 within
  where
    past : CAP < greatest_of_types part possible → ⊥
    past more = counted (position possible) of ((exceeds (holds_in p) part (position possible) CAP of.1).1 more)

    within : greatest_of_types part possible ≤ CAP
    within = elim (cases_lt CAP (greatest_of_types part possible)) [ inl more ↦ absurd (past more) | inr less ↦ less ]

-- It was filled with the values that were left.
pub worst_filled : (p : Plan') (part : Part) (plan : Plan) (found : List ℕ) (on : ℕ) (tree : Tree) (entries : Entries) (left limit : ℕ) → HoldsSound p plan → IsWithinCap p part → found ≡ choices part (table_rows p) → on ≡ p.root.number
    → tree ≡ object on entries → left + values_of_entries (entries_from_row p found 0 1 on) ≡ limit → entries ≡ entries_from_row p found 0 1 on
    → (tree ≡ filled part plan) × (values (filled part plan) ≤ limit + 1)
worst_filled p part plan found on tree entries left limit of counted is root made taken read =
    let same : object on (entries_from_row p found 0 1 on) ≡ filled part plan = ap (λ (k : ℕ). object k (entries_from_row p found 0 1 k)) root ∙ table_read p part plan found of counted is in
    let count = ap values same in
    (made ∙ ap (λ (es : Entries). object on es) read ∙ same, omega arith)

pub worst_too_large : (p : Plan') (part : Part) (plan : Plan) (found : List ℕ) (on limit : ℕ) (fault : WorstFault) → HoldsSound p plan → IsWithinCap p part → found ≡ choices part (table_rows p) → on ≡ p.root.number
    → Lacks fault (limit < values_of_entries (entries_from_row p found 0 1 on)) → fault ≡ TooLarge → limit + 1 < values (filled part plan)
worst_too_large p part plan found on limit fault of counted is root lacks told =
    let more : limit < values_of_entries (entries_from_row p found 0 1 on) = subst (λ (f : WorstFault). Lacks f (limit < values_of_entries (entries_from_row p found 0 1 on))) told lacks in
    let count = ap values (ap (λ (k : ℕ). object k (entries_from_row p found 0 1 k)) root ∙ table_read p part plan found of counted is) in
    omega arith

abbrev fault_or : {A : Type 0} → WorstFault → Result A WorstFault → WorstFault
fault_or other (Ok x) = other
fault_or other (Err fault) = fault

pub same_fault : {A : Type 0} (f g : WorstFault) (r : Result A WorstFault) → r ≡ Err f → r ≡ Err g → f ≡ g
same_fault f g r a b = sym (ap (fault_or f) a) ∙ ap (fault_or f) b
