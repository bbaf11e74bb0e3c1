-- The order of a plan's rows: those of what stands below a node are deeper, and those of a position end before rows that are less deep.
use Rattle.std.proofs.Common.{◌≡◌, ℕ, suc, ◌<◌, List, [], ◌∷◌, ◌++◌, Bool, true, false, cond, eqb, ltb, ◌&&◌, refl, sym, ap, ◌∙◌, subst, arith, eqb-true, eq-eqb}
use Rattle.std.proofs.lemmas.Bool.{le-ltb}
use Rattle.std.proofs.lemmas.List.{append_assoc}
use Rattle.response_model.specs.Plan.{Plan, leaf_plan, position, ObjectTypes, no_type, object_type, Nodes, no_node, node}
use Rattle.plan_table.specs.Rows.{Row, rows_below, rows_of_types, rows_of_nodes}

abbrev pub AreDeeper : ℕ → List Row → Type 0
AreDeeper d [] = Unit {0}
AreDeeper d (r ∷ rows) = (d < r.depth) × AreDeeper d rows

all_deeper : (d : ℕ) (xs ys : List Row) → AreDeeper d xs → AreDeeper d ys → AreDeeper d (xs ++ ys)
all_deeper d [] ys a b = b
all_deeper d (x ∷ xs) ys a b = (a.0, all_deeper d xs ys a.1 b)

mutual
  unfolding rows_below rows_of_types rows_of_nodes

  pub below_deeper : (d e : ℕ) (below : Plan) → d < e → AreDeeper d (rows_below e below)
  below_deeper d e (leaf_plan type w fill) less = tt
  below_deeper d e (position possible) less = types_deeper d e possible less

  types_deeper : (d e : ℕ) (possible : ObjectTypes) → d < e → AreDeeper d (rows_of_types e possible)
  types_deeper d e no_type less = tt
  types_deeper d e (object_type T w nodes others) less = all_deeper d (rows_of_nodes e T w true nodes) (rows_of_types e others) (nodes_deeper d e T w true nodes less) (types_deeper d e others less)

  nodes_deeper : (d e T w : ℕ) (first : Bool) (nodes : Nodes) → d < e → AreDeeper d (rows_of_nodes e T w first nodes)
  nodes_deeper d e T w first no_node less = tt
  nodes_deeper d e T w first (node s below others) less = (less, all_deeper d (rows_below (suc e) below) (rows_of_nodes e T w false others) (below_deeper d (suc e) below (omega arith)) (nodes_deeper d e T w false others less))

-- Of a deeper row, neither of two tests on its depth holds.
pub neither : {X : Type 0} (d e : ℕ) (b : Bool) (a x y : X) → d < e → cond (ltb e d) a (cond (eqb e d && b) x y) ≡ y
neither d e b a x y less =
    ap (λ (t : Bool). cond t a (cond (eqb e d && b) x y)) (le-ltb e d (omega arith))
    ∙ ap (λ (t : Bool). cond (t && b) x y) (apart (eqb e d) refl)
  where
    apart : (t : Bool) → eqb e d ≡ t → eqb e d ≡ false
    apart false is = is
    apart true is = absurd (let same = eqb-true e d is in differ same)
      where
        differ : e ≡ d → ⊥
        differ same = omega arith

-- Of a row of this depth, the second holds where the rest does.
pub own_depth : {X : Type 0} (d : ℕ) (b : Bool) (a x y : X) → cond (ltb d d) a (cond (eqb d d && b) x y) ≡ cond b x y
own_depth d b a x y =
    ap (λ (t : Bool). cond t a (cond (eqb d d && b) x y)) (le-ltb d d (omega arith))
    ∙ ap (λ (t : Bool). cond (t && b) x y) (eq-eqb d d refl)

-- The first row is less deep, or there is none.
abbrev pub Ends : ℕ → List Row → Type 0
Ends d [] = Unit {0}
Ends d (r ∷ rows) = r.depth < d

pub ends_deeper : (d : ℕ) (rows : List Row) → Ends d rows → Ends (suc d) rows
ends_deeper d [] ends = tt
ends_deeper d (r ∷ rows) ends = omega arith

pub nodes_end : (d T w : ℕ) (first : Bool) (nodes : Nodes) (rows : List Row) → Ends (suc d) rows → Ends (suc d) (rows_of_nodes d T w first nodes ++ rows)
unfolding rows_of_nodes
nodes_end d T w first no_node rows ends = ends
nodes_end d T w first (node s below others) rows ends = omega arith

pub types_end : (d : ℕ) (possible : ObjectTypes) (rows : List Row) → Ends (suc d) rows → Ends (suc d) (rows_of_types d possible ++ rows)
unfolding rows_of_types
types_end d no_type rows ends = ends
types_end d (object_type T w nodes others) rows ends =
    subst (λ (xs : List Row). Ends (suc d) xs) (sym (append_assoc (rows_of_nodes d T w true nodes) (rows_of_types d others) rows))
    (nodes_end d T w true nodes (rows_of_types d others ++ rows) (types_end d others rows ends))
