-- The tree of a plan is read from its rows again, so that rows have one tree.
use Rattle.std.proofs.Common.{◌≡◌, ⊎_elim, ℕ, suc, List, [], ◌∷◌, ◌++◌, Bool, true, false, true≢false, cond, eqb, ltb, ◌&&◌, ◌||◌, refl, sym, ap, ap₂, ◌∙◌, subst, arith, eqb-true, eq-eqb}
use Rattle.std.proofs.lemmas.Bool.{cases_Bool, lt-ltb}
use Rattle.std.proofs.lemmas.List.{append_assoc, append-nil}
use Rattle.serde_json.specs.Data.{Data}
use Rattle.response_model.specs.Plan.{Plan, leaf_plan, position, ObjectTypes, no_type, object_type, Nodes, no_node, node, is_possible, nodes_of}
use Rattle.response_model.specs.Bound.{IsSound, TypesSound, NodesSound}
use Rattle.response_model.proofs.Lookup.{types_differ, nodes_in_front, nodes_behind}
use Rattle.plan_model.specs.Plans.{type_weight}
use Rattle.plan_table.specs.declared.table.Plan.{Plan as Table}
use Rattle.plan_table.specs.Rows.{PossibleType, Below, leaf_below, objects_below, Row, types_in, below_in, rows_below, rows_of_types, rows_of_nodes}
use Rattle.plan_table.specs.Tables.{IsAlone, HasRows, table_rows, setting_in}
use Rattle.plan_table.proofs.RowTotals.{row_at}
use Rattle.plan_table.proofs.RowOrder.{AreDeeper, below_deeper, neither, own_depth, Ends, ends_deeper, nodes_end, types_end}

-- The types of a position, where `nodes` gives the nodes of each.
abbrev types_with : (ℕ → Nodes) → List PossibleType → ObjectTypes
types_with nodes [] = no_type
types_with nodes (t ∷ possible) = object_type t.number t.weight (nodes t.number) (types_with nodes possible)

abbrev plan_with : (ℕ → Nodes) → Below → Plan
plan_with nodes (leaf_below type weight fill) = leaf_plan type weight fill
plan_with nodes (objects_below possible) = position (types_with nodes possible)

-- The nodes of the type T at a depth, from a row on up to the next that is less deep.
abbrev nodes_again : ℕ → ℕ → List Row → Nodes
nodes_again d T [] = no_node
nodes_again d T (r ∷ rows) =
    cond (ltb r.depth d) no_node
    (cond (eqb r.depth d && eqb r.type T)
    (node r.selected (plan_with (λ U. nodes_again (suc r.depth) U rows) r.below) (nodes_again d T rows))
    (nodes_again d T rows))

abbrev nodes_then : Nodes → Nodes → Nodes
nodes_then no_node more = more
nodes_then (node s below others) more = node s below (nodes_then others more)

nodes_then_none : (nodes : Nodes) → nodes_then nodes no_node ≡ nodes
nodes_then_none no_node = refl
nodes_then_none (node s below others) = ap (λ (ns : Nodes). node s below ns) (nodes_then_none others)

deeper_passed : (d T : ℕ) (xs rows : List Row) → AreDeeper d xs → nodes_again d T (xs ++ rows) ≡ nodes_again d T rows
deeper_passed d T [] rows deeper = refl
deeper_passed d T (x ∷ xs) rows deeper = neither d x.depth (eqb x.type T) no_node _ _ deeper.0 ∙ deeper_passed d T xs rows deeper.1

none_if : (b : Bool) (ns : Nodes) → b ≡ true → cond b no_node ns ≡ no_node
none_if true ns e = refl
none_if false ns e = absurd (true≢false (sym e))

nothing_again : (d T : ℕ) (rows : List Row) → Ends d rows → nodes_again d T rows ≡ no_node
nothing_again d T [] ends = refl
nothing_again d T (r ∷ rows) ends = none_if (ltb r.depth d) _ (lt-ltb r.depth d ends)

same_both : (b : Bool) (ns : Nodes) → ns ≡ cond b ns ns
same_both true ns = refl
same_both false ns = refl

pub no_nodes_of : (T : ℕ) (possible : ObjectTypes) → is_possible T possible ≡ false → nodes_of T possible ≡ no_node
no_nodes_of T no_type absent = refl
no_nodes_of T (object_type U w nodes others) absent = by (eqb U T) absent (λ (e : is_possible T others ≡ false). no_nodes_of T others e)
  where
    by : (b : Bool) → (b || is_possible T others) ≡ false → (is_possible T others ≡ false → nodes_of T others ≡ no_node) → cond b nodes (nodes_of T others) ≡ no_node
    by true absent later = absurd (true≢false absent)
    by false absent later = later absent

module _ (holds : ℕ → Data → Bool) where
  -- Types with the nodes that a position says they have are the types of that position.
  types_again : (possible : ObjectTypes) (nodes : ℕ → Nodes) → TypesSound holds possible → ((U : ℕ) → is_possible U possible ≡ true → nodes U ≡ nodes_of U possible) → types_with nodes (types_in possible) ≡ possible
  types_again no_type nodes sound all = refl
  types_again (object_type T w ns others) nodes sound all =
      ap₂ (λ (ms : Nodes) (ts : ObjectTypes). object_type T w ms ts)
      (all T (ap (λ (b : Bool). b || is_possible T others) (eq-eqb T T refl)) ∙ nodes_in_front T w ns others)
      (types_again others nodes sound.2 (λ (U : ℕ) (is : is_possible U others ≡ true).
      let differ = types_differ T U others sound.0 is in
      all U (ap (λ (b : Bool). b || is_possible U others) differ ∙ is) ∙ nodes_behind T U w ns others differ))

  mutual
    unfolding rows_below rows_of_types rows_of_nodes

    below_again : (d : ℕ) (below : Plan) (rows : List Row) → IsSound holds below → Ends (suc d) rows → plan_with (λ U. nodes_again (suc d) U (rows_below (suc d) below ++ rows)) (below_in below) ≡ below
    below_again d (leaf_plan type weight fill) rows sound ends = refl
    below_again d (position possible) rows sound ends =
        ap position (types_again possible (λ U. nodes_again (suc d) U (rows_of_types (suc d) possible ++ rows)) sound.1
        (λ (U : ℕ) (is : is_possible U possible ≡ true). all_again (suc d) U possible rows sound.1 ends))

    pub all_again : (d T : ℕ) (possible : ObjectTypes) (rows : List Row) → TypesSound holds possible → Ends d rows → nodes_again d T (rows_of_types d possible ++ rows) ≡ nodes_of T possible
    all_again d T no_type rows sound ends = nothing_again d T rows ends
    all_again d T (object_type U w nodes others) rows sound ends =
        let more = rows_of_types d others ++ rows in
        ap (λ (xs : List Row). nodes_again d T xs) (append_assoc (rows_of_nodes d U w true nodes) (rows_of_types d others) rows)
        ∙ type_again d T U w true nodes more sound.1 (types_end d others rows (ends_deeper d rows ends))
        ∙ ⊎_elim
        (λ (e : eqb U T ≡ true).
        let rest : nodes_again d T more ≡ no_node = all_again d T others rows sound.2 ends ∙ no_nodes_of T others (subst (λ (x : ℕ). is_possible x others ≡ false) (eqb-true U T e) sound.0) in
        ap (λ (b : Bool). cond b (nodes_then nodes (nodes_again d T more)) (nodes_again d T more)) e
        ∙ ap (λ (ns : Nodes). nodes_then nodes ns) rest
        ∙ nodes_then_none nodes
        ∙ ap (λ (b : Bool). cond b nodes (nodes_of T others)) (sym e))
        (λ (e : eqb U T ≡ false).
        ap (λ (b : Bool). cond b (nodes_then nodes (nodes_again d T more)) (nodes_again d T more)) e
        ∙ all_again d T others rows sound.2 ends
        ∙ ap (λ (b : Bool). cond b nodes (nodes_of T others)) (sym e))
        (cases_Bool (eqb U T))

    type_again : (d T U w : ℕ) (first : Bool) (nodes : Nodes) (rows : List Row) → NodesSound holds nodes → Ends (suc d) rows
        → nodes_again d T (rows_of_nodes d U w first nodes ++ rows) ≡ cond (eqb U T) (nodes_then nodes (nodes_again d T rows)) (nodes_again d T rows)
    type_again d T U w first no_node rows sound ends = same_both (eqb U T) (nodes_again d T rows)
    type_again d T U w first (node s below others) rows sound ends =
        let more = rows_of_nodes d U w false others ++ rows in
        let left = rows_below (suc d) below ++ more in
        let again = plan_with (λ V. nodes_again (suc d) V left) (below_in below) in
        let passed : nodes_again d T left ≡ nodes_again d T more = deeper_passed d T (rows_below (suc d) below) more (below_deeper d (suc d) below (omega arith)) in
        let behind = type_again d T U w false others rows sound.2 ends in
        ap (λ (xs : List Row). nodes_again d T (row_at d U w first s below ∷ xs)) (append_assoc (rows_below (suc d) below) (rows_of_nodes d U w false others) rows)
        ∙ own_depth d (eqb U T) no_node (node s again (nodes_again d T left)) (nodes_again d T left)
        ∙ ⊎_elim
        (λ (e : eqb U T ≡ true).
        ap (λ (b : Bool). cond b (node s again (nodes_again d T left)) (nodes_again d T left)) e
        ∙ ap₂ (λ (b : Plan) (ns : Nodes). node s b ns) (below_again d below more sound.1 (nodes_end d U w false others rows ends)) (passed ∙ behind ∙ ap (λ (b : Bool). cond b (nodes_then others (nodes_again d T rows)) (nodes_again d T rows)) e)
        ∙ ap (λ (b : Bool). cond b (nodes_then (node s below others) (nodes_again d T rows)) (nodes_again d T rows)) (sym e))
        (λ (e : eqb U T ≡ false).
        ap (λ (b : Bool). cond b (node s again (nodes_again d T left)) (nodes_again d T left)) e
        ∙ passed ∙ behind
        ∙ ap (λ (b : Bool). cond b (nodes_then others (nodes_again d T rows)) (nodes_again d T rows)) e
        ∙ ap (λ (b : Bool). cond b (nodes_then (node s below others) (nodes_again d T rows)) (nodes_again d T rows)) (sym e))
        (cases_Bool (eqb U T))

  alone_in : (T weight : ℕ) (possible : ObjectTypes) → IsAlone T weight possible → types_in possible ≡ record { number = T; weight = weight } ∷ []
  alone_in T weight no_type alone = absurd alone
  alone_in T weight (object_type U w nodes no_type) alone = ap₂ (λ (x y : ℕ). record { number = x; weight = y } ∷ []) alone.0 alone.1
  alone_in T weight (object_type U w nodes (object_type V v ns others)) alone = absurd alone

  -- The tree that a table has is read from its rows.
  tree_again : (p : Table) (tree : Plan) → HasRows p tree → IsSound holds tree
      → tree ≡ position (types_with (λ U. nodes_again 1 U (table_rows p)) (record { number = p.root.number; weight = type_weight (setting_in p) p.root.number } ∷ []))
  tree_again p (leaf_plan type weight fill) has sound = absurd has
  tree_again p (position possible) has sound =
      ap position (sym (types_again possible (λ U. nodes_again 1 U (table_rows p)) sound.1
      (λ (U : ℕ) (is : is_possible U possible ≡ true).
      ap (λ (xs : List Row). nodes_again 1 U xs) (has.1 ∙ sym (append-nil (rows_of_types 1 possible))) ∙ all_again 1 U possible [] sound.1 tt)))
      ∙ ap (λ (ts : List PossibleType). position (types_with (λ U. nodes_again 1 U (table_rows p)) ts)) (alone_in p.root.number (type_weight (setting_in p) p.root.number) possible has.0)

  pub same_trees : (p : Table) (a b : Plan) → HasRows p a → HasRows p b → IsSound holds a → IsSound holds b → a ≡ b
  same_trees p a b has has_too sound sound_too = tree_again p a has sound ∙ sym (tree_again p b has_too sound_too)
