-- Rows that are taken one by one give the nodes that they stand for.
use Rattle.std.proofs.Common.{◌≡◌, ⊎_elim, ℕ, suc, ◌<◌, ◌≤◌, List, [], ◌∷◌, ◌++◌, length, map, Bool, true, false, true≢false, cond, not, eqb, ◌&&◌, ◌||◌, Option, None, Some, Result, Ok, Err, IfOk, refl, sym, ap, ap₂, ◌∙◌, subst, arith, eqb-true, eq-eqb}
use Rattle.std.proofs.lemmas.Bool.{cases_Bool}
use Rattle.std.proofs.lemmas.List.{append_assoc, append-nil, get_or_append_left, get_or_push, map_push, length-append, length-map}
use Rattle.std.proofs.lemmas.Option.{same_Some}
use Rattle.std.specs.Ordering.{is_eq, nat_cmp}
use Rattle.std.specs.declared.cmp.Ordering.{Ordering}
use Rattle.std.specs.declared.cmp.Ordering.TheVariants.{Less, Equal, Greater}
use Rattle.std.specs.BTreeMap.{BTreeMap, get, is_at, Updates}
use Rattle.std.specs.Map.{lookup}
use Rattle.std.specs.Cmp.{nat_cmp_is}
use Rattle.std.specs.FinMap.{nat_cmp-IsAntisymmetric}
use Rattle.serde_json.specs.Data.{Data}
use Rattle.response_model.specs.Plan.{Plan, leaf_plan, position, ObjectTypes, no_type, object_type, Nodes, no_node, node, is_possible, nodes_of}
use Rattle.response_model.specs.Bound.{IsSound, TypesSound, NodesSound}
use Rattle.response_model.proofs.Lookup.{types_differ, nodes_in_front, nodes_behind}
use Rattle.plan_model.specs.SelectedFields.{Setting}
use Rattle.plan_table.specs.declared.rows.NodeRow.{NodeRow}
use Rattle.plan_table.specs.Rows.{PossibleType, Row, types_in, below_in, rows_below, rows_of_types, rows_of_nodes}
use Rattle.plan_table.specs.Tables.{IsAlone, row_of, setting_in, weighed}
use Rattle.plan_model.specs.Plans.{type_weight}
use Rattle.plan_table.specs.TableBounds.{holds_in, HoldsSound}
use Rattle.plan_table.proofs.RowOrder.{ends_deeper, nodes_end, types_end}
use Rattle.plan_table.proofs.RowTotals.{row_at}
use Rattle.plan_table.proofs.TreesAgain.{no_nodes_of}
use Rattle.response_meter.specs.declared.nested.Node.{Node}
use Rattle.response_meter.specs.declared.readings.Reading.{Reading}
use Rattle.response_meter.specs.declared.nested.Types.{Types}
use Rattle.response_meter.specs.declared.nested.NodeSet.{NodeSet}
use Rattle.response_meter.specs.Nested.{types_with, plan_with, OneNode, nodes_from, nodes_at, node_of, types_of, set_of, rows_in, is_next, StopsAt, Ends, EndsType, NestsNode, NestsTypes, NestsSet}
use Rattle.response_meter.specs.Walks.{root_plan}

-- ---- the number of a type, found in a map

pub same_number : (T U : ℕ) → is_eq (nat_cmp T U) ≡ eqb T U
same_number T U = ⊎_elim
    (λ (e : eqb T U ≡ true). ap is_eq (sym (nat_cmp_is T U Equal (eqb-true T U e))) ∙ sym e)
    (λ (e : eqb T U ≡ false). by_order (nat_cmp T U) refl e)
    (cases_Bool (eqb T U))
  where
    by_order : (r : Ordering) → nat_cmp T U ≡ r → eqb T U ≡ false → is_eq r ≡ eqb T U
    by_order Less is e = sym e
    by_order Equal is e = absurd (true≢false (sym (eq-eqb T U (nat_cmp-IsAntisymmetric T U is)) ∙ e))
    by_order Greater is e = sym e

-- ---- types whose nodes are known

types_again : (holds : ℕ → Data → Bool) (possible : ObjectTypes) (nodes : ℕ → Nodes) → TypesSound holds possible → ((U : ℕ) → is_possible U possible ≡ true → nodes U ≡ nodes_of U possible) → types_with nodes (types_in possible) ≡ possible
types_again holds no_type nodes sound all = refl
types_again holds (object_type T w ns others) nodes sound all =
    ap₂ (λ (ms : Nodes) (ts : ObjectTypes). object_type T w ms ts)
    (all T (ap (λ (b : Bool). b || is_possible T others) (eq-eqb T T refl)) ∙ nodes_in_front T w ns others)
    (types_again holds others nodes sound.2 (λ (U : ℕ) (is : is_possible U others ≡ true).
    let differ = types_differ T U others sound.0 is in
    all U (ap (λ (b : Bool). b || is_possible U others) differ ∙ is) ∙ nodes_behind T U w ns others differ))

-- ---- the nodes of a type

abbrev pub nodes_then : Nodes → Nodes → Nodes
nodes_then no_node more = more
nodes_then (node s below others) more = node s below (nodes_then others more)

pub nodes_then_none : (nodes : Nodes) → nodes_then nodes no_node ≡ nodes
nodes_then_none no_node = refl
nodes_then_none (node s below others) = ap (λ (ns : Nodes). node s below ns) (nodes_then_none others)

pub one_more : (ns : List OneNode) (n : OneNode) (left : Nodes) → nodes_then (nodes_from (ns ++ n ∷ [])) left ≡ nodes_then (nodes_from ns) (node n.0 n.1 left)
one_more [] n left = refl
one_more (m ∷ ns) n left = ap (λ (others : Nodes). node m.0 m.1 others) (one_more ns n left)

-- ---- rows in front of others

same_tail : (r s : Row) (xs ys : List Row) → r ∷ xs ≡ s ∷ ys → xs ≡ ys
same_tail r s xs ys e = ap rest e
  where
    rest : List Row → List Row
    rest [] = []
    rest (z ∷ zs) = zs

same_head : (r s : Row) (xs ys : List Row) → r ∷ xs ≡ s ∷ ys → r ≡ s
same_head r s xs ys e = ap (front s) e
  where
    front : Row → List Row → Row
    front d [] = d
    front d (z ∷ zs) = z

-- ---- of a type: the next row is that of its next node, or there is none

pub record NextNode (e : Setting) (holds : ℕ → Data → Bool) (d T w : ℕ) (left : Nodes) (r : NodeRow) (rows : List NodeRow) (more : List Row) : Type 0 where
  pub below : Plan
  pub others : Nodes
  pub left_is : left ≡ node (row_of e r).selected below others
  pub below_is : (row_of e r).below ≡ below_in below
  pub depth_is : r.depth ≡ d
  pub below_sound : IsSound holds below
  pub others_sound : NodesSound holds others
  pub rows_are : rows_in e rows ≡ rows_below (suc d) below ++ (rows_of_nodes d T w false others ++ more)

-- ---- of a position: the next row is that of the first node of its next type, or there is none

pub record NextType (e : Setting) (holds : ℕ → Data → Bool) (d : ℕ) (left : ObjectTypes) (r : NodeRow) (rows : List NodeRow) (more : List Row) : Type 0 where
  pub T : ℕ
  pub w : ℕ
  pub below : Plan
  pub nodes : Nodes
  pub others : ObjectTypes
  pub type_is : r.on.number ≡ T
  pub below_is : (row_of e r).below ≡ below_in below
  pub depth_is : r.depth ≡ d
  pub below_sound : IsSound holds below
  pub nodes_sound : NodesSound holds nodes
  pub others_sound : TypesSound holds others
  pub fresh : is_possible T others ≡ false
  pub was_possible : is_possible T left ≡ true
  pub were_possible : (U : ℕ) → is_possible U others ≡ true → is_possible U left ≡ true
  pub nodes_are : (U : ℕ) → nodes_of U left ≡ cond (eqb T U) (node (row_of e r).selected below nodes) (nodes_of U others)
  pub rows_are : rows_in e rows ≡ rows_below (suc d) below ++ (rows_of_nodes d T w false nodes ++ (rows_of_types d others ++ more))

absurd_rows : {A : Type 0} (r : Row) (rows : List Row) → r ∷ rows ≡ [] → A
absurd_rows r rows e = absurd (some_none e)
  where
    some_none : r ∷ rows ≡ [] → ⊥
    some_none h = cc

none_rows : {A : Type 0} (r : Row) (rows : List Row) → [] ≡ r ∷ rows → A
none_rows r rows e = absurd_rows r rows (sym e)

and_false : (b : Bool) → b && false ≡ false
and_false true = refl
and_false false = refl

or_true : (b : Bool) → b || true ≡ true
or_true true = refl
or_true false = refl

no_number_below : {A : Type 0} (n d : ℕ) → n < d → eqb n d ≡ true → A
no_number_below n d less e = absurd (let same = eqb-true n d e in differ same)
  where
    differ : n ≡ d → ⊥
    differ same = omega arith

pub ends_both : (d : ℕ) (rows : List Row) → Ends d rows → EndsType d rows
ends_both d [] ends = tt
ends_both d (r ∷ rows) ends = ⊎_elim
    (λ (e : eqb r.depth d ≡ true). no_number_below r.depth d ends e)
    (λ (e : eqb r.depth d ≡ false). ap (λ (b : Bool). b && not r.first) e)
    (cases_Bool (eqb r.depth d))

pub types_end_type : (d : ℕ) (possible : ObjectTypes) (more : List Row) → Ends d more → EndsType d (rows_of_types d possible ++ more)
unfolding rows_of_types rows_of_nodes
types_end_type d no_type more ends = ends_both d more ends
types_end_type d (object_type T w no_node others) more ends = types_end_type d others more ends
types_end_type d (object_type T w (node s below nodes) others) more ends = and_false (eqb d d)

module _ (e : Setting) (holds : ℕ → Data → Bool) (d : ℕ) where
  -- a further node, where the next row is one of the type
  pub next_node : (T w : ℕ) (left : Nodes) (r : NodeRow) (rows : List NodeRow) (more : List Row) → NodesSound holds left → EndsType d more → is_next d true r ≡ true
      → rows_in e (r ∷ rows) ≡ rows_of_nodes d T w false left ++ more → NextNode e holds d T w left r rows more
  unfolding row_of rows_of_nodes
  next_node T w no_node r rows [] sound ends next h = absurd_rows _ _ h
  next_node T w no_node r rows (m ∷ more) sound ends next h =
      absurd (true≢false (sym next ∙ ap (λ (x : Row). eqb x.depth d && not x.first) (same_head (row_of e r) m (rows_in e rows) more h) ∙ ends))
  next_node T w (node s below others) r rows more sound ends next h =
      let row = row_at d T w false s below in
      let same : row_of e r ≡ row = same_head (row_of e r) row (rows_in e rows) ((rows_below (suc d) below ++ rows_of_nodes d T w false others) ++ more) h in
      record {
        below = below;
        others = others;
        left_is = ap (λ (x : Row). node x.selected below others) (sym same);
        below_is = ap (λ (x : Row). x.below) same;
        depth_is = ap (λ (x : Row). x.depth) same;
        below_sound = sound.1;
        others_sound = sound.2;
        rows_are = same_tail (row_of e r) row (rows_in e rows) ((rows_below (suc d) below ++ rows_of_nodes d T w false others) ++ more) h
            ∙ append_assoc (rows_below (suc d) below) (rows_of_nodes d T w false others) more;
      }

  pub no_next_node : (T w : ℕ) (left : Nodes) (rows : List NodeRow) (more : List Row) → StopsAt d true rows → rows_in e rows ≡ rows_of_nodes d T w false left ++ more
      → (left ≡ no_node) × (rows_in e rows ≡ more)
  unfolding row_of rows_of_nodes
  no_next_node T w no_node rows more stops h = (refl, h)
  no_next_node T w (node s below others) [] more stops h = none_rows _ _ h
  no_next_node T w (node s below others) (r ∷ rows) more stops h =
      let row = row_at d T w false s below in
      let same : row_of e r ≡ row = same_head (row_of e r) row (rows_in e rows) ((rows_below (suc d) below ++ rows_of_nodes d T w false others) ++ more) h in
      absurd (true≢false (sym (ap (λ (b : Bool). b && true) (eq-eqb d d refl)) ∙ sym (ap (λ (x : Row). eqb x.depth d && not x.first) same) ∙ stops))

  -- a further type, where the next row has this depth
  pub next_type : (left : ObjectTypes) (r : NodeRow) (rows : List NodeRow) (more : List Row) → TypesSound holds left → Ends d more → eqb r.depth d ≡ true
      → rows_in e (r ∷ rows) ≡ rows_of_types d left ++ more → NextType e holds d left r rows more
  unfolding row_of rows_of_types rows_of_nodes
  next_type no_type r rows [] sound ends next h = absurd_rows _ _ h
  next_type no_type r rows (m ∷ more) sound ends next h =
      no_number_below m.depth d ends (ap (λ (x : Row). eqb x.depth d) (sym (same_head (row_of e r) m (rows_in e rows) more h)) ∙ next)
  next_type (object_type T w no_node others) r rows more sound ends next h =
      let n = next_type others r rows more sound.2 ends next h in
      record {
        T = n.T;
        w = n.w;
        below = n.below;
        nodes = n.nodes;
        others = n.others;
        type_is = n.type_is;
        below_is = n.below_is;
        depth_is = n.depth_is;
        below_sound = n.below_sound;
        nodes_sound = n.nodes_sound;
        others_sound = n.others_sound;
        fresh = n.fresh;
        was_possible = ap (λ (b : Bool). eqb T n.T || b) n.was_possible ∙ or_true (eqb T n.T);
        were_possible = λ (U : ℕ) (is : is_possible U n.others ≡ true). ap (λ (b : Bool). eqb T U || b) (n.were_possible U is) ∙ or_true (eqb T U);
        nodes_are = λ (U : ℕ). skipped T U others sound.0 ∙ n.nodes_are U;
        rows_are = n.rows_are;
      }
    where
      skipped : (T U : ℕ) (others : ObjectTypes) → is_possible T others ≡ false → cond (eqb T U) no_node (nodes_of U others) ≡ nodes_of U others
      skipped T U others absent = ⊎_elim
          (λ (e : eqb T U ≡ true). ap (λ (b : Bool). cond b no_node (nodes_of U others)) e ∙ sym (no_nodes_of U others (subst (λ (x : ℕ). is_possible x others ≡ false) (eqb-true T U e) absent)))
          (λ (e : eqb T U ≡ false). ap (λ (b : Bool). cond b no_node (nodes_of U others)) e)
          (cases_Bool (eqb T U))
  next_type (object_type T w (node s below nodes) others) r rows more sound ends next h =
      let row = row_at d T w true s below in
      let tail = ((rows_below (suc d) below ++ rows_of_nodes d T w false nodes) ++ rows_of_types d others) ++ more in
      let same : row_of e r ≡ row = same_head (row_of e r) row (rows_in e rows) tail h in
      record {
        T = T;
        w = w;
        below = below;
        nodes = nodes;
        others = others;
        type_is = ap (λ (x : Row). x.type) same;
        below_is = ap (λ (x : Row). x.below) same;
        depth_is = ap (λ (x : Row). x.depth) same;
        below_sound = sound.1.1;
        nodes_sound = sound.1.2;
        others_sound = sound.2;
        fresh = sound.0;
        was_possible = ap (λ (b : Bool). b || is_possible T others) (eq-eqb T T refl);
        were_possible = λ (U : ℕ) (is : is_possible U others ≡ true). ap (λ (b : Bool). eqb T U || b) is ∙ or_true (eqb T U);
        nodes_are = λ (U : ℕ). ap (λ (x : Row). cond (eqb T U) (node x.selected below nodes) (nodes_of U others)) (sym same);
        rows_are = same_tail (row_of e r) row (rows_in e rows) tail h
            ∙ append_assoc (rows_below (suc d) below ++ rows_of_nodes d T w false nodes) (rows_of_types d others) more
            ∙ append_assoc (rows_below (suc d) below) (rows_of_nodes d T w false nodes) (rows_of_types d others ++ more);
      }

  pub no_next_type : (left : ObjectTypes) (rows : List NodeRow) (more : List Row) → StopsAt d false rows → rows_in e rows ≡ rows_of_types d left ++ more
      → ((U : ℕ) → nodes_of U left ≡ no_node) × (rows_in e rows ≡ more)
  unfolding row_of rows_of_types rows_of_nodes
  no_next_type no_type rows more stops h = (λ U. refl, h)
  no_next_type (object_type T w no_node others) rows more stops h =
      let behind = no_next_type others rows more stops h in
      (λ (U : ℕ). either (eqb T U) (nodes_of U others) (behind.0 U), behind.1)
    where
      either : (b : Bool) (ns : Nodes) → ns ≡ no_node → cond b no_node ns ≡ no_node
      either true ns h = refl
      either false ns h = h
  no_next_type (object_type T w (node s below nodes) others) [] more stops h = none_rows _ _ h
  no_next_type (object_type T w (node s below nodes) others) (r ∷ rows) more stops h =
      let row = row_at d T w true s below in
      let same : row_of e r ≡ row = same_head (row_of e r) row (rows_in e rows) (((rows_below (suc d) below ++ rows_of_nodes d T w false nodes) ++ rows_of_types d others) ++ more) h in
      absurd (true≢false (sym (ap (λ (b : Bool). b && true) (eq-eqb d d refl)) ∙ sym (ap (λ (x : Row). eqb x.depth d && true) same) ∙ stops))

-- ---- loops: what was made, and what is left, are the whole

pub record SetLeft (e : Setting) (holds : ℕ → Data → Bool) (d T w : ℕ) (now : List NodeRow) (done : List OneNode) (whole : Nodes) (more : List Row) : Type 0 where
  pub left : Nodes
  pub sound : NodesSound holds left
  pub rows_are : rows_in e now ≡ rows_of_nodes d T w false left ++ more
  pub same : nodes_then (nodes_from done) left ≡ whole

abbrev pub SetOn : NodeRow → List NodeRow → List NodeRow → List Node → Type 0
SetOn row old now done = (e : Setting) (holds : ℕ → Data → Bool) (T w : ℕ) (below : Plan) (others : Nodes) (more : List Row)
    → IsSound holds below → NodesSound holds others → (row_of e row).below ≡ below_in below → Ends (suc row.depth) more → EndsType row.depth more
    → rows_in e old ≡ rows_below (suc row.depth) below ++ (rows_of_nodes row.depth T w false others ++ more)
    → SetLeft e holds row.depth T w now (map (node_of e) done) (node (row_of e row).selected below others) more

pub set_begins : (row : NodeRow) (old now : List NodeRow) (n : Node) (done : List Node) → NestsNode row old now n → done ≡ [] ++ n ∷ [] → SetOn row old now done
set_begins row old now n done nests is e holds T w below others more sound all opened ends stops rows =
    let made = nests e holds below (rows_of_nodes row.depth T w false others ++ more) sound opened (nodes_end row.depth T w false others more ends) rows in
    record {
      left = others;
      sound = all;
      rows_are = made.1;
      same = ap (λ (ns : List Node). nodes_then (nodes_from (map (node_of e) ns)) others) is ∙ ap (λ (m : OneNode). node m.0 m.1 others) made.0;
    }

pub set_step : (row r : NodeRow) (old now mid after : List NodeRow) (n : Node) (done further : List Node) → SetOn row old now done → now ≡ r ∷ mid → is_next row.depth true r ≡ true
    → NestsNode r mid after n → further ≡ done ++ n ∷ [] → SetOn row old after further
set_step row r old now mid after n done further on popped next nests pushed e holds T w below others more sound all opened ends stops rows =
    let l = on e holds T w below others more sound all opened ends stops rows in
    let f = next_node e holds row.depth T w l.left r mid more l.sound stops next (ap (rows_in e) (sym popped) ∙ l.rows_are) in
    let behind = rows_of_nodes row.depth T w false f.others ++ more in
    let deep : row.depth ≡ r.depth = sym f.depth_is in
    let made = nests e holds f.below behind f.below_sound f.below_is (subst (λ (d : ℕ). Ends (suc d) behind) deep (nodes_end row.depth T w false f.others more ends))
    (subst (λ (d : ℕ). rows_in e mid ≡ rows_below (suc d) f.below ++ behind) deep f.rows_are) in
    record {
      left = f.others;
      sound = f.others_sound;
      rows_are = made.1;
      same = ap (λ (ns : List Node). nodes_then (nodes_from (map (node_of e) ns)) f.others) pushed
          ∙ ap (λ (ns : List OneNode). nodes_then (nodes_from ns) f.others) (map_push (node_of e) done n)
          ∙ one_more (map (node_of e) done) (node_of e n) f.others
          ∙ ap (λ (m : OneNode). nodes_then (nodes_from (map (node_of e) done)) (node m.0 m.1 f.others)) made.0
          ∙ ap (nodes_then (nodes_from (map (node_of e) done))) (sym f.left_is)
          ∙ l.same;
    }

pub set_ends : (row : NodeRow) (old now after : List NodeRow) (done : List Node) (set : NodeSet) → SetOn row old now done → after ≡ now → StopsAt row.depth true now
    → ((e : Setting) → set_of e set ≡ nodes_from (map (node_of e) done)) → NestsSet row old after set
set_ends row old now after done set on same stops made e holds T w below others more sound all opened ends ends_type rows =
    let l = on e holds T w below others more sound all opened ends ends_type rows in
    let none = no_next_node e holds row.depth T w l.left now more stops l.rows_are in
    (made e ∙ sym (nodes_then_none (nodes_from (map (node_of e) done))) ∙ ap (nodes_then (nodes_from (map (node_of e) done))) (sym none.0) ∙ l.same, ap (rows_in e) same ∙ none.1)

pub record TypesLeft (e : Setting) (holds : ℕ → Data → Bool) (d : ℕ) (now : List NodeRow) (places : ℕ → Option ℕ) (sets : List Nodes) (whole : ObjectTypes) (more : List Row) : Type 0 where
  pub left : ObjectTypes
  pub sound : TypesSound holds left
  pub rows_are : rows_in e now ≡ rows_of_types d left ++ more
  pub within : (T at : ℕ) → places T ≡ Some at → at < length sets
  pub fresh : (T : ℕ) → is_possible T left ≡ true → places T ≡ None
  pub same : (T : ℕ) → nodes_at (places T) sets (nodes_of T left) ≡ nodes_of T whole

abbrev pub TypesOn : ℕ → List NodeRow → List NodeRow → (ℕ → Option ℕ) → List NodeSet → Type 0
TypesOn d old now places sets = (e : Setting) (holds : ℕ → Data → Bool) (possible : ObjectTypes) (more : List Row) → TypesSound holds possible → Ends d more
    → rows_in e old ≡ rows_of_types d possible ++ more → TypesLeft e holds d now places (map (set_of e) sets) possible more

pub types_begin : (d : ℕ) (old : List NodeRow) (places : ℕ → Option ℕ) → ((T : ℕ) → places T ≡ None) → TypesOn d old old places []
types_begin d old places none e holds possible more sound ends rows = record {
  left = possible;
  sound = sound;
  rows_are = rows;
  within = λ T at is. some_none at (sym is ∙ none T);
  fresh = λ T is. none T;
  same = λ T. ap (λ (o : Option ℕ). nodes_at o [] (nodes_of T possible)) (none T);
}
  where
    some_none : {A : Type 0} (at : ℕ) → Some at ≡ None → A
    some_none at h = absurd (differ at h)
      where
        differ : (at : ℕ) → Some at ≡ None → ⊥
        differ at h = cc

-- a set behind the others
behind_others : (o : Option ℕ) (sets : List Nodes) (set fallback : Nodes) → ((at : ℕ) → o ≡ Some at → at < length sets) → nodes_at o (sets ++ set ∷ []) fallback ≡ nodes_at o sets fallback
behind_others None sets set fallback within = refl
behind_others (Some at) sets set fallback within = get_or_append_left sets (set ∷ []) fallback at (within at refl)

put_within : (b : Bool) (o : Option ℕ) (sets : List Nodes) (set : Nodes) (at : ℕ) → ((i : ℕ) → o ≡ Some i → i < length sets) → cond b (Some (length sets)) o ≡ Some at → at < length (sets ++ set ∷ [])
put_within true o sets set at within is =
    let same = same_Some (length sets) at is in
    let longer = length-append sets (set ∷ []) in
    omega arith
put_within false o sets set at within is =
    let less = within at is in
    let longer = length-append sets (set ∷ []) in
    omega arith

put_nodes : (b : Bool) (o : Option ℕ) (sets : List Nodes) (set rest whole : Nodes) → ((i : ℕ) → o ≡ Some i → i < length sets) → (b ≡ true → o ≡ None)
    → nodes_at o sets (cond b set rest) ≡ whole → nodes_at (cond b (Some (length sets)) o) (sets ++ set ∷ []) rest ≡ whole
put_nodes true o sets set rest whole within none same =
    get_or_push sets set rest (length sets) refl ∙ sym (ap (λ (x : Option ℕ). nodes_at x sets set) (none refl)) ∙ same
put_nodes false o sets set rest whole within none same = behind_others o sets set rest within ∙ same

pub types_step : (d : ℕ) (r : NodeRow) (old now mid after : List NodeRow) (places further : ℕ → Option ℕ) (set : NodeSet) (sets more_sets : List NodeSet)
    → TypesOn d old now places sets → now ≡ r ∷ mid → eqb r.depth d ≡ true → ((U : ℕ) → further U ≡ cond (eqb r.on.number U) (Some (length sets)) (places U)) → NestsSet r mid after set
    → more_sets ≡ sets ++ set ∷ [] → TypesOn d old after further more_sets
types_step d r old now mid after places further set sets more_sets on popped next put nests pushed e holds possible more sound ends rows =
    let l = on e holds possible more sound ends rows in
    let f = next_type e holds d l.left r mid more l.sound ends next (ap (rows_in e) (sym popped) ∙ l.rows_are) in
    let behind = rows_of_types d f.others ++ more in
    let deep : d ≡ r.depth = sym f.depth_is in
    let made = nests e holds f.T f.w f.below f.nodes behind f.below_sound f.nodes_sound f.below_is
    (subst (λ (k : ℕ). Ends (suc k) behind) deep (types_end d f.others more (ends_deeper d more ends)))
    (subst (λ (k : ℕ). EndsType k behind) deep (types_end_type d f.others more ends))
    (subst (λ (k : ℕ). rows_in e mid ≡ rows_below (suc k) f.below ++ (rows_of_nodes k f.T f.w false f.nodes ++ behind)) deep f.rows_are) in
    let own = node (row_of e r).selected f.below f.nodes in
    let count : length sets ≡ length (map (set_of e) sets) = sym (length-map sets (set_of e)) in
    let seen : map (set_of e) more_sets ≡ map (set_of e) sets ++ own ∷ [] = ap (map (set_of e)) pushed ∙ map_push (set_of e) sets set ∙ ap (λ (ns : Nodes). map (set_of e) sets ++ ns ∷ []) made.0 in
    let put_at : (U : ℕ) → further U ≡ cond (eqb f.T U) (Some (length (map (set_of e) sets))) (places U) =
    λ U. put U ∙ ap₂ (λ (T n : ℕ). cond (eqb T U) (Some n) (places U)) f.type_is count in
    record {
      left = f.others;
      sound = f.others_sound;
      rows_are = made.1;
      within = λ U at is. subst (λ (ns : List Nodes). at < length ns) (sym seen)
          (put_within (eqb f.T U) (places U) (map (set_of e) sets) own at (l.within U) (sym (put_at U) ∙ is));
      fresh = λ U is. put_at U ∙ ap (λ (b : Bool). cond b (Some (length (map (set_of e) sets))) (places U)) (types_differ f.T U f.others f.fresh is) ∙ l.fresh U (f.were_possible U is);
      same = λ U. ap₂ (λ (o : Option ℕ) (ns : List Nodes). nodes_at o ns (nodes_of U f.others)) (put_at U) seen
          ∙ put_nodes (eqb f.T U) (places U) (map (set_of e) sets) own (nodes_of U f.others) (nodes_of U possible) (l.within U)
          (λ (b : eqb f.T U ≡ true). l.fresh U (subst (λ (x : ℕ). is_possible x l.left ≡ true) (eqb-true f.T U b) f.was_possible))
          (ap (nodes_at (places U) (map (set_of e) sets)) (sym (f.nodes_are U)) ∙ l.same U);
    }

pub types_end_here : (d : ℕ) (old now after : List NodeRow) (places : ℕ → Option ℕ) (sets : List NodeSet) (types : Types) → TypesOn d old now places sets → after ≡ now → StopsAt d false now
    → ((e : Setting) (T : ℕ) → types_of e types T ≡ nodes_at (places T) (map (set_of e) sets) no_node) → NestsTypes d old after types
types_end_here d old now after places sets types on same stops made e holds possible more sound ends rows =
    let l = on e holds possible more sound ends rows in
    let none = no_next_type e holds d l.left now more stops l.rows_are in
    ((λ (T : ℕ). made e T ∙ ap (nodes_at (places T) (map (set_of e) sets)) (sym (none.0 T)) ∙ l.same T), ap (rows_in e) same ∙ none.1)

-- ---- a node with the types below it

pub node_nests : (row : NodeRow) (old new : List NodeRow) (types : Types) (n : Node) → NestsTypes (suc row.depth) old new types
    → ((e : Setting) → node_of e n ≡ ((row_of e row).selected, plan_with (types_of e types) (row_of e row).below)) → NestsNode row old new n
unfolding rows_below rows_of_types
node_nests row old new types n nests made e holds (leaf_plan type weight fill) more sound opened ends rows =
    let none = nests e holds no_type more tt ends (rows ∙ no_rows (suc row.depth) more) in
    (made e ∙ ap (λ b. ((row_of e row).selected, plan_with (types_of e types) b)) opened, none.1)
  where
    no_rows : (d : ℕ) (more : List Row) → more ≡ rows_of_types d no_type ++ more
    no_rows d more = refl
node_nests row old new types n nests made e holds (position possible) more sound opened ends rows =
    let all = nests e holds possible more sound.1 ends rows in (
      made e ∙ ap (λ b. ((row_of e row).selected, plan_with (types_of e types) b)) opened
          ∙ ap (λ b. ((row_of e row).selected, b)) (ap position (types_again holds possible (types_of e types) sound.1 (λ (U : ℕ) (is : is_possible U possible ≡ true). all.0 U))),
      all.1,
    )

-- ---- the whole plan

alone_in : (e : Setting) (T : ℕ) (possible : ObjectTypes) → IsAlone T (type_weight e T) possible → types_in possible ≡ weighed e T ∷ []
alone_in e T no_type alone = absurd alone
alone_in e T (object_type U w nodes no_type) alone = ap₂ (λ (x y : ℕ). record { number = x; weight = y } ∷ []) alone.0 alone.1
alone_in e T (object_type U w nodes (object_type V v ns others)) alone = absurd alone

-- The tree that a table holds is that of the types that were made of its rows.
pub tree_nested : (by : Reading) (types : Types) (left : List NodeRow) (tree : Plan) → NestsTypes 1 by.of.now.rows.items left types → HoldsSound by.of.now tree → root_plan by types ≡ tree
tree_nested by types left (leaf_plan type weight fill) nests holds = absurd holds.0
tree_nested by types left (position possible) nests holds =
    let e = setting_in by.of.now in
    let made = nests e (holds_in by.of.now) possible [] holds.1.1 tt (holds.0.1 ∙ sym (append-nil (rows_of_types 1 possible))) in
    ap (λ (ts : List PossibleType). position (types_with (types_of e types) ts)) (sym (alone_in e by.of.now.root.number possible holds.0.0))
    ∙ ap position (types_again (holds_in by.of.now) possible (types_of e types) holds.1.1 (λ (U : ℕ) (is : is_possible U possible ≡ true). made.0 U))

-- ---- what loops begin and end with

only_test : (b : Bool) → b && true ≡ true → b ≡ true
only_test true e = refl
only_test false e = e

pub has_depth : (d : ℕ) (r : NodeRow) → is_next d false r ≡ true → eqb r.depth d ≡ true
has_depth d r next = only_test (eqb r.depth d) next

pub types_start : (d : ℕ) (old : List NodeRow) (places : BTreeMap ℕ ℕ) (sets : List NodeSet) → places.entries ≡ [] → sets ≡ [] → TypesOn d old old (λ T. get nat_cmp places T) sets
types_start d old places sets empty none =
    subst (λ (ss : List NodeSet). TypesOn d old old (λ T. get nat_cmp places T) ss) (sym none)
    (types_begin d old (λ T. get nat_cmp places T) (λ (T : ℕ). ap (λ (es : List (ℕ × ℕ)). lookup (is_at (nat_cmp T)) es) empty))

pub type_put : (m n : BTreeMap ℕ ℕ) (T place at : ℕ) → Updates nat_cmp m n T (Some place) → place ≡ at → (U : ℕ) → get nat_cmp n U ≡ cond (eqb T U) (Some at) (get nat_cmp m U)
type_put m n T place at puts same U = puts.0 U ∙ ap₂ (λ (b : Bool) (x : ℕ). cond b (Some x) (get nat_cmp m U)) (same_number T U) same

pub no_nodes : (e : Setting) (none : NodeSet) (nodes : List Node) → set_of e none ≡ nodes_from (map (node_of e) nodes) → nodes ≡ [] → set_of e none ≡ no_node
no_nodes e none nodes made empty = made ∙ ap (λ (ns : List Node). nodes_from (map (node_of e) ns)) empty

pub types_of_none : (e : Setting) (places : ℕ → Option ℕ) (sets : List NodeSet) (none : NodeSet) (nodes : Nodes) (T : ℕ) → nodes ≡ nodes_at (places T) (map (set_of e) sets) (set_of e none) → set_of e none ≡ no_node
    → nodes ≡ nodes_at (places T) (map (set_of e) sets) no_node
types_of_none e places sets none nodes T made empty = made ∙ ap (nodes_at (places T) (map (set_of e) sets)) empty

pub fewer_after : (old now mid after : List NodeRow) (r : NodeRow) → length now ≤ length old → now ≡ r ∷ mid → length after ≤ length mid → length after ≤ length old
fewer_after old now mid after r less popped few = let same : length now ≡ suc (length mid) = ap length popped in omega arith

pub node_nests_at : (row : NodeRow) (old new : List NodeRow) (types : Types) (n : Node) (d : ℕ) → d ≡ suc row.depth → NestsTypes d old new types
    → ((e : Setting) → node_of e n ≡ ((row_of e row).selected, plan_with (types_of e types) (row_of e row).below)) → NestsNode row old new n
node_nests_at row old new types n d deep nests made = node_nests row old new types n (subst (λ (k : ℕ). NestsTypes k old new types) deep nests) made

pub types_found : {E : Type 0} (r : Result Types E) (rows whole left : List NodeRow) → rows ≡ whole → IfOk r (NestsTypes 1 rows left) → IfOk r (λ (types : Types). (l : List NodeRow) × NestsTypes 1 whole l types)
types_found (Ok types) rows whole left same nests = (left, subst (λ (rs : List NodeRow). NestsTypes 1 rs left types) same nests)
types_found (Err e) rows whole left same nests = tt
