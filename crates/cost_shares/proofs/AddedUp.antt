-- What the single values at a place add, and what the nodes below it add, is what these values cost.
use Rattle.std.proofs.Common.{◌≡◌, ⊎_elim, ℕ, ◌+◌, ◌*◌, List, [], ◌∷◌, ◌++◌, length, Bool, true, false, cond, eqb, refl, sym, ap, ◌∙◌, subst, arith, suc-mul, eqb-true}
use Rattle.std.specs.List.{flat_map, sum_by}
use Rattle.std.proofs.lemmas.Bool.{cases_Bool}
use Rattle.std.proofs.lemmas.List.Sums.{sum_by-cons, sum_by-append}
use Rattle.serde_json.specs.Data.{Data}
use Rattle.response_model.specs.Plan.{Selected, LeafType, Plan, leaf_plan, position, ObjectTypes, no_type, object_type, Nodes, no_node, node, is_possible, nodes_of}
use Rattle.response_model.specs.Response.{Tree, null, leaf, list_of, object, Elements, no_element, element, Entries, no_entry, entry}
use Rattle.response_model.specs.Cost.{Part, types, fields, value_cost, entry_cost, cost, entries_cost, elements_cost}
use Rattle.response_model.specs.Bound.{greatest_cost, IsSound, TypesSound, NodesSound}
use Rattle.response_model.specs.Filled.{filled}
use Rattle.response_model.proofs.Filling.{filled_is_filled, attains_greatest}
use Rattle.plan_table.proofs.TreesAgain.{no_nodes_of}
use Rattle.cost_shares.specs.Shares.{single_values, values_of_items, weight_of_value, values_add, entries_in, first_value, other_entries, each_node, each_of_types, each_of_nodes, NodeShare, node_share, shares_in, sum_of_shares}

-- ---- single values

abbrev pub costs_of : Part → Plan → List Tree → ℕ
costs_of part plan ts = sum_by (cost part plan) ts

mutual
  pub value_costs : (part : Part) (plan : Plan) (t : Tree) → cost part plan t ≡ costs_of part plan (single_values t)
  value_costs part plan null = refl
  value_costs part plan (leaf json) = omega arith
  value_costs part plan (list_of ts) = items_cost part plan ts
  value_costs part plan (object T es) = omega arith

  items_cost : (part : Part) (plan : Plan) (ts : Elements) → elements_cost part plan ts ≡ costs_of part plan (values_of_items ts)
  items_cost part plan no_element = refl
  items_cost part plan (element t ts) = let a = value_costs part plan t in let b = items_cost part plan ts in omega (arith, sum_by-append (cost part plan) (single_values t) (values_of_items ts))

all_cost : (part : Part) (plan : Plan) (ts : List Tree) → costs_of part plan ts ≡ costs_of part plan (flat_map single_values ts)
all_cost part plan [] = refl
all_cost part plan (t ∷ ts) = let a = value_costs part plan t in let b = all_cost part plan ts in omega (arith, sum_by-cons (cost part plan) t ts, sum_by-append (cost part plan) (single_values t) (flat_map single_values ts))

-- None of them is a list.
abbrev pub AreSingle : List Tree → Type 0
AreSingle [] = Unit {0}
AreSingle (null ∷ ts) = AreSingle ts
AreSingle (leaf json ∷ ts) = AreSingle ts
AreSingle (list_of us ∷ ts) = ⊥
AreSingle (object T es ∷ ts) = AreSingle ts

both_single : (xs ys : List Tree) → AreSingle xs → AreSingle ys → AreSingle (xs ++ ys)
both_single [] ys a b = b
both_single (null ∷ xs) ys a b = both_single xs ys a b
both_single (leaf json ∷ xs) ys a b = both_single xs ys a b
both_single (list_of us ∷ xs) ys a b = absurd a
both_single (object T es ∷ xs) ys a b = both_single xs ys a b

mutual
  pub value_single : (t : Tree) → AreSingle (single_values t)
  value_single null = tt
  value_single (leaf json) = tt
  value_single (list_of ts) = items_single ts
  value_single (object T es) = tt

  items_single : (ts : Elements) → AreSingle (values_of_items ts)
  items_single no_element = tt
  items_single (element t ts) = both_single (single_values t) (values_of_items ts) (value_single t) (items_single ts)

all_single : (ts : List Tree) → AreSingle (flat_map single_values ts)
all_single [] = tt
all_single (t ∷ ts) = both_single (single_values t) (flat_map single_values ts) (value_single t) (all_single ts)

-- ---- values and what stands below them

no_weight : (part : Part) → value_cost part 0 ≡ 0
no_weight types = refl
no_weight fields = refl

abbrev own : Part → Plan → Tree → ℕ
own part plan v = value_cost part (weight_of_value plan v)

sums_split : (f g h : Tree → ℕ) (vs : List Tree) → AreSingle vs → ((v : Tree) → AreSingle (v ∷ []) → f v ≡ g v + h v) → sum_by f vs ≡ sum_by g vs + sum_by h vs
sums_split f g h [] are each = refl
sums_split f g h (null ∷ vs) are each = let a = each null tt in let b = sums_split f g h vs are each in omega (arith, sum_by-cons f null vs, sum_by-cons g null vs, sum_by-cons h null vs)
sums_split f g h (leaf json ∷ vs) are each = let a = each (leaf json) tt in let b = sums_split f g h vs are each in omega (arith, sum_by-cons f (leaf json) vs, sum_by-cons g (leaf json) vs, sum_by-cons h (leaf json) vs)
sums_split f g h (list_of us ∷ vs) are each = absurd are
sums_split f g h (object T es ∷ vs) are each = let a = each (object T es) tt in let b = sums_split f g h vs are each in omega (arith, sum_by-cons f (object T es) vs, sum_by-cons g (object T es) vs, sum_by-cons h (object T es) vs)

no_sum : {X : Type 0} (f : X → ℕ) (xs : List X) → ((x : X) → f x ≡ 0) → sum_by f xs ≡ 0
no_sum f [] each = refl
no_sum f (x ∷ xs) each = let a = each x in let b = no_sum f xs each in omega (arith, sum_by-cons f x xs)

abbrev nothing : Tree → ℕ
nothing v = 0

leaf_costs : (part : Part) (type : LeafType) (weight : ℕ) (fill : Data) (v : Tree) → AreSingle (v ∷ []) → cost part (leaf_plan type weight fill) v ≡ own part (leaf_plan type weight fill) v + nothing v
leaf_costs part type weight fill null is = let a = no_weight part in omega arith
leaf_costs part type weight fill (leaf json) is = omega arith
leaf_costs part type weight fill (list_of us) is = absurd is
leaf_costs part type weight fill (object T es) is = let a = no_weight part in omega arith

-- what the entries of a value cost at a position
abbrev entries_below : Part → ObjectTypes → Tree → ℕ
entries_below part possible null = 0
entries_below part possible (leaf json) = 0
entries_below part possible (list_of ts) = 0
entries_below part possible (object T es) = entries_cost part (nodes_of T possible) es

object_costs : (part : Part) (possible : ObjectTypes) (v : Tree) → AreSingle (v ∷ []) → cost part (position possible) v ≡ own part (position possible) v + entries_below part possible v
object_costs part possible null is = let a = no_weight part in omega arith
object_costs part possible (leaf json) is = let a = no_weight part in omega arith
object_costs part possible (list_of us) is = absurd is
object_costs part possible (object T es) is = refl

no_types : (part : Part) (v : Tree) → entries_below part no_type v ≡ 0
no_types part null = refl
no_types part (leaf json) = refl
no_types part (list_of us) = refl
no_types part (object T es) = refl

-- Of one type of a position and those behind it.
type_costs : (part : Part) (U w : ℕ) (nodes : Nodes) (others : ObjectTypes) → is_possible U others ≡ false → (v : Tree) → entries_below part (object_type U w nodes others) v ≡ sum_by (entries_cost part nodes) (entries_in U v) + entries_below part others v
type_costs part U w nodes others absent null = refl
type_costs part U w nodes others absent (leaf json) = refl
type_costs part U w nodes others absent (list_of us) = refl
type_costs part U w nodes others absent (object T es) = ⊎_elim
    (λ (e : eqb U T ≡ true).
    let none : nodes_of T others ≡ no_node = no_nodes_of T others (subst (λ (x : ℕ). is_possible x others ≡ false) (eqb-true U T e) absent) in
    let rest : entries_cost part (nodes_of T others) es ≡ 0 = ap (λ (ns : Nodes). entries_cost part ns es) none in
    ap (λ (b : Bool). entries_cost part (cond b nodes (nodes_of T others)) es) e
    ∙ omega arith
    ∙ ap (λ (b : Bool). sum_by (entries_cost part nodes) (cond b (es ∷ []) []) + entries_cost part (nodes_of T others) es) (sym e))
    (λ (e : eqb U T ≡ false).
    ap (λ (b : Bool). entries_cost part (cond b nodes (nodes_of T others)) es) e
    ∙ omega arith
    ∙ ap (λ (b : Bool). sum_by (entries_cost part nodes) (cond b (es ∷ []) []) + entries_cost part (nodes_of T others) es) (sym e))
    (cases_Bool (eqb U T))

sum_of_all : (f : Entries → ℕ) (g : Tree → List Entries) (vs : List Tree) → sum_by f (flat_map g vs) ≡ sum_by (λ v. sum_by f (g v)) vs
sum_of_all f g [] = refl
sum_of_all f g (v ∷ vs) = let b = sum_of_all f g vs in omega (arith, sum_by-append f (g v) (flat_map g vs), sum_by-cons (λ x. sum_by f (g x)) v vs)

-- ---- entries

no_entries : (part : Part) (ess : List Entries) → sum_by (entries_cost part no_node) ess ≡ 0
no_entries part ess = no_sum (entries_cost part no_node) ess (λ es. refl)

node_costs : (part : Part) (s : Selected) (below : Plan) (others : Nodes) (ess : List Entries)
    → sum_by (entries_cost part (node s below others)) ess
    ≡ length (flat_map first_value ess) * entry_cost part s + costs_of part below (flat_map first_value ess) + sum_by (entries_cost part others) (flat_map other_entries ess)
node_costs part s below others [] = omega arith
node_costs part s below others (no_entry ∷ ess) = let b = node_costs part s below others ess in omega (arith, sum_by-cons (entries_cost part (node s below others)) no_entry ess)
node_costs part s below others (entry k t es ∷ ess) =
    let b = node_costs part s below others ess in
    omega (
      arith,
      sum_by-cons (entries_cost part (node s below others)) (entry k t es) ess,
      sum_by-cons (cost part below) t (flat_map first_value ess),
      sum_by-cons (entries_cost part others) es (flat_map other_entries ess),
      suc-mul (length (flat_map first_value ess)) (entry_cost part s),
    )

both_add : (xs ys : List NodeShare) → sum_of_shares (xs ++ ys) ≡ sum_of_shares xs + sum_of_shares ys
both_add xs ys = sum_by-append (λ s. s.adds) xs ys

one_adds : (x : NodeShare) (xs : List NodeShare) → sum_of_shares (x ∷ xs) ≡ x.adds + sum_of_shares xs
one_adds x xs = sum_by-cons (λ s. s.adds) x xs

module _ (holds : ℕ → Data → Bool) (part : Part) where
  mutual
    pub place_adds : (plan : Plan) (vs : List Tree) → IsSound holds plan → AreSingle vs → costs_of part plan vs ≡ values_add part plan vs + sum_of_shares (each_node (node_share part) plan vs)
    place_adds (leaf_plan type w fill) vs sound are =
        let a = sums_split (cost part (leaf_plan type w fill)) (own part (leaf_plan type w fill)) nothing vs are (leaf_costs part type w fill) in
        let b = no_sum nothing vs (λ v. refl) in
        omega arith
    place_adds (position possible) vs sound are =
        let a = sums_split (cost part (position possible)) (own part (position possible)) (entries_below part possible) vs are (object_costs part possible) in
        let b = types_add possible vs sound.1 are in
        omega arith

    types_add : (possible : ObjectTypes) (vs : List Tree) → TypesSound holds possible → AreSingle vs → sum_by (entries_below part possible) vs ≡ sum_of_shares (each_of_types (node_share part) possible vs)
    types_add no_type vs sound are = no_sum (entries_below part no_type) vs (no_types part)
    types_add (object_type U w nodes others) vs sound are =
        let a = sums_split (entries_below part (object_type U w nodes others)) (λ v. sum_by (entries_cost part nodes) (entries_in U v)) (entries_below part others) vs are (λ v is. type_costs part U w nodes others sound.0 v) in
        let b = sum_of_all (entries_cost part nodes) (entries_in U) vs in
        let c = nodes_add nodes (flat_map (entries_in U) vs) sound.1 in
        let d = types_add others vs sound.2 are in
        omega (arith, both_add (each_of_nodes (node_share part) nodes (flat_map (entries_in U) vs)) (each_of_types (node_share part) others vs))

    nodes_add : (nodes : Nodes) (ess : List Entries) → NodesSound holds nodes → sum_by (entries_cost part nodes) ess ≡ sum_of_shares (each_of_nodes (node_share part) nodes ess)
    nodes_add no_node ess sound = no_entries part ess
    nodes_add (node s below others) ess sound =
        let firsts = flat_map first_value ess in
        let singles = flat_map single_values firsts in
        let a = node_costs part s below others ess in
        let b = all_cost part below firsts in
        let c = place_adds below singles sound.1 (all_single firsts) in
        let d = nodes_add others (flat_map other_entries ess) sound.2 in
        omega (
          arith,
          one_adds (node_share part s below firsts) (each_node (node_share part) below singles ++ each_of_nodes (node_share part) others (flat_map other_entries ess)),
          both_add (each_node (node_share part) below singles) (each_of_nodes (node_share part) others (flat_map other_entries ess)),
        )

  pub all_add : (plan : Plan) (t : Tree) → IsSound holds plan → cost part plan t ≡ values_add part plan (single_values t) + sum_of_shares (shares_in part plan t)
  all_add plan t sound = value_costs part plan t ∙ place_adds plan (single_values t) sound (value_single t)

  -- The filled response costs as much as the greatest cost.
  pub filled_add : (plan : Plan) → IsSound holds plan → greatest_cost part plan ≡ values_add part plan (single_values (filled part plan)) + sum_of_shares (shares_in part plan (filled part plan))
  filled_add plan sound = sym (attains_greatest holds part plan (filled part plan) sound (filled_is_filled holds part plan sound)).1 ∙ all_add plan (filled part plan) sound
