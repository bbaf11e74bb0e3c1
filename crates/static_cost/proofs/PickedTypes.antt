-- The type that is picked at a position, and the type that is chosen there.
use Rattle.std.proofs.Common.{◌≡◌, ⊎_elim, ℕ, suc, ◌+◌, ◌<◌, ◌≤◌, max, List, ◌∷◌, ◌++◌, Bool, true, false, true≢false, cond, eqb, leb, ◌&&◌, ◌||◌, refl, sym, ap, ap₂, ◌∙◌, subst, arith, leb-true, leb-false, le-leb, eq-eqb}
use Rattle.std.proofs.lemmas.Bool.{cases_Bool, lt-leb, or_left, and_right}
use Rattle.std.proofs.lemmas.List.{append_assoc}
use Rattle.cost_num.specs.declared.TheConstants.{CAP}
use Rattle.cost_num.specs.Capped.{capped}
use Rattle.serde_json.specs.Data.{Data}
use Rattle.response_model.specs.Plan.{Plan, leaf_plan, position, ObjectTypes, no_type, object_type, Nodes, no_node, node, is_possible, nodes_of}
use Rattle.response_model.specs.Cost.{Part, value_cost}
use Rattle.response_model.specs.Bound.{greatest_of_types, greatest_of_nodes, TypesSound}
use Rattle.response_model.specs.Filled.{attains, filled_type, filled_object, filled_entries}
use Rattle.response_model.proofs.Lookup.{types_differ, nodes_in_front, nodes_behind, first_attained, costly_has_type, filled_type_first}
use Rattle.plan_table.specs.Rows.{Row, types_in, rows_below, rows_of_types, rows_of_nodes}
use Rattle.plan_table.specs.Totals.{put_at, greatest_alone, type_total, totals}
use Rattle.plan_table.proofs.Places.{put_here, put_elsewhere, below_apart}
use Rattle.plan_table.proofs.RowTotals.{greatest_with, with_or_alone, ClearBelow, row_at, row_total_is, regroup, below_added, types_added, nodes_added}
use Rattle.static_cost.specs.Choices.{first_attaining, picked}

-- the first of the types with nodes that attains the greatest cost among these
abbrev pub pick_with : Part → ObjectTypes → ℕ → ℕ
pick_with part no_type pick = pick
pick_with part (object_type T w no_node others) pick = pick_with part others pick
pick_with part (object_type T w (node s below nodes) others) pick =
    cond (leb (capped (greatest_with part others)) (capped (value_cost part w + greatest_of_nodes part (node s below nodes)))) T (pick_with part others pick)

picked_if : (b : Bool) (d T : ℕ) (k : ℕ → ℕ) (e : ℕ) → e < d → cond b (put_at d T k) k e ≡ k e
picked_if true d T k e less = put_elsewhere d T k e (below_apart e d less)
picked_if false d T k e less = refl

mutual
  unfolding picked rows_below rows_of_types rows_of_nodes totals

  below_picked : (part : Part) (d : ℕ) (below : Plan) (rows : List Row) (e : ℕ) → e ≤ d → picked part (rows_below (suc d) below ++ rows) e ≡ picked part rows e
  below_picked part d (leaf_plan type w fill) rows e less = refl
  below_picked part d (position possible) rows e less = types_above part (suc d) possible rows e (omega arith)

  types_above : (part : Part) (d : ℕ) (possible : ObjectTypes) (rows : List Row) (e : ℕ) → e < d → picked part (rows_of_types d possible ++ rows) e ≡ picked part rows e
  types_above part d no_type rows e less = refl
  types_above part d (object_type T w no_node others) rows e less = types_above part d others rows e less
  types_above part d (object_type T w (node s below nodes) others) rows e less =
      ap (λ (xs : List Row). picked part (row_at d T w true s below ∷ xs) e) (sym (regroup (rows_below (suc d) below) (rows_of_nodes d T w false nodes) (rows_of_types d others) rows))
      ∙ picked_if (leb (capped ((totals part (rows_below (suc d) below ++ (rows_of_nodes d T w false nodes ++ (rows_of_types d others ++ rows)))).greatest d)) (capped (type_total part (row_at d T w true s below) (totals part (rows_below (suc d) below ++ (rows_of_nodes d T w false nodes ++ (rows_of_types d others ++ rows))))))) d T (picked part (rows_below (suc d) below ++ (rows_of_nodes d T w false nodes ++ (rows_of_types d others ++ rows)))) e less
      ∙ below_picked part d below (rows_of_nodes d T w false nodes ++ (rows_of_types d others ++ rows)) e (omega arith)
      ∙ nodes_picked part d T w nodes (rows_of_types d others ++ rows) e (omega arith)
      ∙ types_above part d others rows e less

  nodes_picked : (part : Part) (d T w : ℕ) (nodes : Nodes) (rows : List Row) (e : ℕ) → e ≤ d → picked part (rows_of_nodes d T w false nodes ++ rows) e ≡ picked part rows e
  nodes_picked part d T w no_node rows e less = refl
  nodes_picked part d T w (node s below others) rows e less =
      ap (λ (xs : List Row). picked part xs e) (append_assoc (rows_below (suc d) below) (rows_of_nodes d T w false others) rows)
      ∙ below_picked part d below (rows_of_nodes d T w false others ++ rows) e less
      ∙ nodes_picked part d T w others rows e less

picked_here : (b c : Bool) (d T k : ℕ) (ks : ℕ → ℕ) → b ≡ c → ks d ≡ k → cond b (put_at d T ks) ks d ≡ cond c T k
picked_here true true d T k ks e same = put_here d T ks
picked_here false false d T k ks e same = same
picked_here true false d T k ks e same = absurd (true≢false e)
picked_here false true d T k ks e same = absurd (true≢false (sym e))

-- The type that is picked among those of a position.
pub types_picked : (part : Part) (d : ℕ) (possible : ObjectTypes) (rows : List Row) → ClearBelow d (totals part rows) → (totals part rows).sum d ≡ 0 → (totals part rows).greatest d ≡ 0
    → picked part (rows_of_types d possible ++ rows) d ≡ pick_with part possible (picked part rows d)
unfolding picked rows_below rows_of_types rows_of_nodes totals
types_picked part d no_type rows clear none nothing = refl
types_picked part d (object_type T w no_node others) rows clear none nothing = types_picked part d others rows clear none nothing
types_picked part d (object_type T w (node s below nodes) others) rows clear none nothing =
    ap (λ (xs : List Row). picked part (row_at d T w true s below ∷ xs) d) (sym (regroup (rows_below (suc d) below) (rows_of_nodes d T w false nodes) (rows_of_types d others) rows))
    ∙ picked_here (leb (capped ((totals part left).greatest d)) (capped (type_total part (row_at d T w true s below) (totals part left))))
    (leb (capped (greatest_with part others)) (capped (value_cost part w + greatest_of_nodes part (node s below nodes)))) d T (pick_with part others (picked part rows d)) (picked part left)
    (ap₂ (λ (x y : ℕ). leb (capped x) (capped y)) most own) (kept (types_picked part d others rows clear none nothing))
  where
    left : List Row
    left = rows_below (suc d) below ++ (rows_of_nodes d T w false nodes ++ (rows_of_types d others ++ rows))

    kept : picked part (rows_of_types d others ++ rows) d ≡ pick_with part others (picked part rows d) → picked part left d ≡ pick_with part others (picked part rows d)
    kept behind = below_picked part d below (rows_of_nodes d T w false nodes ++ (rows_of_types d others ++ rows)) d (omega arith)
        ∙ nodes_picked part d T w nodes (rows_of_types d others ++ rows) d (omega arith)
        ∙ behind

    most : (totals part left).greatest d ≡ greatest_with part others
    most =
        let behind = types_added part d others rows clear none in
        let inside = nodes_added part d T w nodes (rows_of_types d others ++ rows) behind.clear in
        let under = below_added part d below (rows_of_nodes d T w false nodes ++ (rows_of_types d others ++ rows)) inside.clear in
        let g = behind.greatest in
        (under.above d (omega arith)).1 ∙ inside.greatest ∙ omega arith

    own : type_total part (row_at d T w true s below) (totals part left) ≡ value_cost part w + greatest_of_nodes part (node s below nodes)
    own =
        let behind = types_added part d others rows clear none in
        let inside = nodes_added part d T w nodes (rows_of_types d others ++ rows) behind.clear in
        let under = below_added part d below (rows_of_nodes d T w false nodes ++ (rows_of_types d others ++ rows)) inside.clear in
        let total = row_total_is part d T w true s below nodes (totals part left) _ _ under inside in
        let z = behind.sum in
        omega arith

-- ---- the choice

or_false : (a b : Bool) → a ≡ false → (a || b) ≡ b
or_false false b e = refl
or_false true b e = absurd (true≢false e)

and_true : (a b : Bool) → a ≡ true → (a && b) ≡ b
and_true true b e = refl
and_true false b e = absurd (true≢false (sym e))

-- What is picked is possible, where something with nodes costs anything.
pick_possible : (part : Part) (possible : ObjectTypes) (pick : ℕ) → 0 < greatest_with part possible → is_possible (pick_with part possible pick) possible ≡ true
pick_possible part no_type pick some = absurd (none some)
  where
    none : 0 < 0 → ⊥
    none h = omega arith
pick_possible part (object_type T w no_node others) pick some = flip (eqb T (pick_with part others pick)) (pick_possible part others pick some)
  where
    flip : (a : Bool) → is_possible (pick_with part others pick) others ≡ true → (a || is_possible (pick_with part others pick) others) ≡ true
    flip true e = refl
    flip false e = e
pick_possible part (object_type T w (node s below nodes) others) pick some =
    by (leb (capped (greatest_with part others)) (capped (value_cost part w + greatest_of_nodes part (node s below nodes)))) (λ (h : 0 < greatest_with part others). pick_possible part others pick h) refl
  where
    own : ℕ
    own = value_cost part w + greatest_of_nodes part (node s below nodes)

    flip : (a : Bool) → is_possible (pick_with part others pick) others ≡ true → (a || is_possible (pick_with part others pick) others) ≡ true
    flip true e = refl
    flip false e = e

    by : (b : Bool) → (0 < greatest_with part others → is_possible (pick_with part others pick) others ≡ true) → leb (capped (greatest_with part others)) (capped own) ≡ b → is_possible (cond b T (pick_with part others pick)) (object_type T w (node s below nodes) others) ≡ true
    by true later e = or_left (eqb T T) (is_possible T others) (eq-eqb T T refl)
    by false later e = flip (eqb T (pick_with part others pick)) (later (let less = leb-false (capped (greatest_with part others)) (capped own) e in omega arith))

or_picked : (a b c : Bool) → b ≡ true → c ≡ true → (a || (b && c)) ≡ true
or_picked true b c e f = refl
or_picked false b c e f = and_true b c e ∙ f

not_picked : (part : Part) (most greatest pick k T : ℕ) (others : ObjectTypes) → is_possible T others ≡ false → (most ≤ greatest → (0 < greatest_with part others) × (pick ≡ pick_with part others k)) → (leb most greatest && eqb T pick) ≡ false
not_picked part most greatest pick k T others absent then = ⊎_elim
    (λ (h : leb most greatest ≡ true).
    let p = then (leb-true most greatest h) in
    and_right (leb most greatest) (eqb T pick) (types_differ T pick others absent (subst (λ (x : ℕ). is_possible x others ≡ true) (sym p.1) (pick_possible part others k p.0))))
    (λ (h : leb most greatest ≡ false). ap (λ (b : Bool). b && eqb T pick) h)
    (cases_Bool (leb most greatest))

-- Of the types from one on, of which none before attains the greatest cost, the first that does is chosen.
chosen_first : (holds : ℕ → Data → Bool) (part : Part) (most greatest pick k : ℕ) (possible : ObjectTypes) → TypesSound holds possible → most ≤ CAP → most ≡ greatest_of_types part possible → greatest_with part possible ≤ greatest
    → (most ≤ greatest → (most ≡ greatest_with part possible) × (pick ≡ pick_with part possible k)) → first_attaining part most greatest pick (types_in possible) ≡ filled_type part possible
unfolding first_attaining
chosen_first holds part most greatest pick k no_type sound counted is_most within then = refl
chosen_first holds part most greatest pick k (object_type T w no_node others) sound counted is_most within then =
    let all = with_or_alone part others in
    ⊎_elim
    (λ (e : attains part w no_node others ≡ true).
    let above = leb-true (greatest_of_types part others) (value_cost part w + 0) e in
    ap (λ (b : Bool). cond b T (first_attaining part most greatest pick (types_in others))) (or_left (leb most (value_cost part w)) (leb most greatest && eqb T pick) (le-leb most (value_cost part w) (omega arith)))
    ∙ ap (λ (b : Bool). cond b T (filled_type part others)) (sym e))
    (λ (e : attains part w no_node others ≡ false).
    let less = leb-false (greatest_of_types part others) (value_cost part w + 0) e in
    let costs : most ≡ greatest_of_types part others = omega arith in
    ap (λ (b : Bool). cond b T (first_attaining part most greatest pick (types_in others)))
    (or_false (leb most (value_cost part w)) (leb most greatest && eqb T pick) (lt-leb most (value_cost part w) (omega arith))
    ∙ not_picked part most greatest pick k T others sound.0 (λ (h : most ≤ greatest). let p = then h in (let same = p.0 in omega arith, p.1)))
    ∙ chosen_first holds part most greatest pick k others sound.2 counted costs within then
    ∙ ap (λ (b : Bool). cond b T (filled_type part others)) (sym e))
    (cases_Bool (attains part w no_node others))
chosen_first holds part most greatest pick k (object_type T w (node s below nodes) others) sound counted is_most within then =
    let own : ℕ = value_cost part w + greatest_of_nodes part (node s below nodes) in
    let all = with_or_alone part others in
    ⊎_elim
    (λ (e : attains part w (node s below nodes) others ≡ true).
    let above = leb-true (greatest_of_types part others) own e in
    let enough : most ≤ greatest = omega arith in
    let here : pick ≡ T = (then enough).1 ∙ ap (λ (b : Bool). cond b T (pick_with part others k)) (le-leb (capped (greatest_with part others)) (capped own) (omega arith)) in
    ap (λ (b : Bool). cond b T (first_attaining part most greatest pick (types_in others)))
    (or_picked (leb most (value_cost part w)) (leb most greatest) (eqb T pick) (le-leb most greatest enough) (eq-eqb T pick (sym here)))
    ∙ ap (λ (b : Bool). cond b T (filled_type part others)) (sym e))
    (λ (e : attains part w (node s below nodes) others ≡ false).
    let less = leb-false (greatest_of_types part others) own e in
    let costs : most ≡ greatest_of_types part others = omega arith in
    let later : most ≤ greatest → (most ≡ greatest_with part others) × (pick ≡ pick_with part others k) =
    λ (h : most ≤ greatest).
    let p = then h in
    let whole = p.0 in
    let same : most ≡ greatest_with part others = omega arith in
    (same, p.1 ∙ ap (λ (b : Bool). cond b T (pick_with part others k)) (lt-leb (capped (greatest_with part others)) (capped own) (omega arith))) in
    ap (λ (b : Bool). cond b T (first_attaining part most greatest pick (types_in others)))
    (or_false (leb most (value_cost part w)) (leb most greatest && eqb T pick) (lt-leb most (value_cost part w) (omega arith))
    ∙ not_picked part most greatest pick k T others sound.0 (λ (h : most ≤ greatest). let p = later h in (let same = p.0 in omega arith, p.1)))
    ∙ chosen_first holds part most greatest pick k others sound.2 counted costs (omega arith) later
    ∙ ap (λ (b : Bool). cond b T (filled_type part others)) (sym e))
    (cases_Bool (attains part w (node s below nodes) others))

-- The chosen type is that of the filled response.
pub chosen_is_filled : (holds : ℕ → Data → Bool) (part : Part) (greatest pick k : ℕ) (possible : ObjectTypes) → TypesSound holds possible → greatest_of_types part possible ≤ CAP → greatest ≡ greatest_with part possible → pick ≡ pick_with part possible k
    → first_attaining part (capped (max (greatest_alone part (types_in possible)) (capped greatest))) (capped greatest) pick (types_in possible) ≡ filled_type part possible
chosen_is_filled holds part greatest pick k possible sound counted is_greatest is_pick =
    let all = with_or_alone part possible in
    let exact : capped greatest ≡ greatest_with part possible = omega arith in
    let most : capped (max (greatest_alone part (types_in possible)) (capped greatest)) ≡ greatest_of_types part possible = omega arith in
    ap₂ (λ (m g : ℕ). first_attaining part m g pick (types_in possible)) most exact
    ∙ chosen_first holds part (greatest_of_types part possible) (greatest_with part possible) pick k possible sound counted refl (omega arith) (λ (h : greatest_of_types part possible ≤ greatest_with part possible). (omega arith, is_pick))

-- The entries of the filled object are those of its type.
pub filled_object_is : (holds : ℕ → Data → Bool) (part : Part) (possible : ObjectTypes) → TypesSound holds possible → filled_object part possible ≡ filled_entries part (nodes_of (filled_type part possible) possible)
filled_object_is holds part no_type sound = refl
filled_object_is holds part (object_type T w nodes others) sound = ⊎_elim
    (λ (e : attains part w nodes others ≡ true).
    ap (λ (b : Bool). cond b (filled_entries part nodes) (filled_object part others)) e
    ∙ ap (filled_entries part) (sym (nodes_in_front T w nodes others))
    ∙ ap (λ (b : Bool). filled_entries part (nodes_of (cond b T (filled_type part others)) (object_type T w nodes others))) (sym e))
    (λ (e : attains part w nodes others ≡ false).
    let some = costly_has_type part others (value_cost part w + greatest_of_nodes part nodes) (leb-false (greatest_of_types part others) (value_cost part w + greatest_of_nodes part nodes) e) in
    let is = first_attained holds part (greatest_of_types part others) others (filled_type part others) sound.2 (filled_type_first part others some) in
    let differ = types_differ T (filled_type part others) others sound.0 is.possible_type in
    ap (λ (b : Bool). cond b (filled_entries part nodes) (filled_object part others)) e
    ∙ filled_object_is holds part others sound.2
    ∙ ap (filled_entries part) (sym (nodes_behind T (filled_type part others) w nodes others differ))
    ∙ ap (λ (b : Bool). filled_entries part (nodes_of (cond b T (filled_type part others)) (object_type T w nodes others))) (sym e))
    (cases_Bool (attains part w nodes others))

-- No type's nodes cost more than the greatest of the types.
pub nodes_at_most : (part : Part) (T : ℕ) (possible : ObjectTypes) → greatest_of_nodes part (nodes_of T possible) ≤ greatest_of_types part possible
nodes_at_most part T no_type = omega arith
nodes_at_most part T (object_type U w nodes others) = ⊎_elim
    (λ (e : eqb U T ≡ true). let same = ap (λ (b : Bool). greatest_of_nodes part (cond b nodes (nodes_of T others))) e in omega arith)
    (λ (e : eqb U T ≡ false). let same = ap (λ (b : Bool). greatest_of_nodes part (cond b nodes (nodes_of T others))) e in let less = nodes_at_most part T others in omega arith)
    (cases_Bool (eqb U T))
