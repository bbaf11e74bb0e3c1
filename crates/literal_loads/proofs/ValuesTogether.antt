-- What values that are built come to: lists by their items, and objects.
use Rattle.std.proofs.Common.{◌≡◌, ◌+◌, ◌*◌, ◌<◌, ◌≤◌, ℕ, suc, Bool, List, length, map, drop, get_or, Vec, Global, Option, refl, sym, ap, ap₂, ◌∙◌, subst, arith}
use Rattle.std.proofs.lemmas.List.{drop_all}
use Rattle.gql_base.proofs.Lists.{at_front}
use Rattle.input_values.specs.declared.values.coerced.Coerced.{Coerced}
use Rattle.input_values.specs.declared.values.coerced.Coerced.TheViews.{List as ListValue}
use Rattle.input_values.specs.values.Coerced.{CoercedTree, CoercedTrees, coerced_tree, trees_from, nodes, item_nodes, coerced_then, coerced_null, coerced_integer, coerced_float, coerced_string, coerced_boolean, coerced_enum, coerced_list, coerced_object}
use Rattle.input_values.specs.inputs.Shapes.{ShapeTree, named_shape, list_shape}
use Rattle.input_values.proofs.CoercedTrees.{list_made}
use Rattle.cost_directives.specs.ArgumentCosts.{ObjectInputs, leaf_cost, object_cost, value_cost, items_cost}
use Rattle.cost_directives.specs.Weights.{objects_in}
use Rattle.literal_loads.specs.declared.load.Load.{Load}
use Rattle.literal_loads.specs.LoadSums.{cost_at, IsBoth, IsLeaf, IsList}
use Rattle.literal_loads.specs.Loads.{Scale, IsLoad, AreLoads}
use Rattle.literal_loads.proofs.LinearCosts.{list_cost_at, both_cost_at}

-- ---- items

abbrev pub items_in : List Coerced → CoercedTrees
items_in vs = trees_from (map coerced_tree vs)

-- The sum of the items before this place and what is left are the whole.
pub record AreSummed (e : Scale) (item : ShapeTree) (vs : List Coerced) (at : ℕ) (sum : Load) : Type 0 where
  pub size : sum.nodes + item_nodes (items_in (drop at vs)) ≡ item_nodes (items_in vs)
  pub price : (own : Option ℕ) → cost_at own sum + items_cost (objects_in e.weights) item own (items_in (drop at vs)) ≡ items_cost (objects_in e.weights) item own (items_in vs)

more : (sum one now here value rest whole : ℕ) → sum + here ≡ whole → here ≡ value + rest → one ≡ value → now ≡ sum + one → now + rest ≡ whole
more sum one now here value rest whole same front is both = omega arith

pub first : (sum whole : ℕ) → sum ≡ 0 → sum + whole ≡ whole
first sum whole none = omega arith

last : (sum rest whole : ℕ) → rest ≡ 0 → sum + rest ≡ whole → sum ≡ whole
last sum rest whole none same = omega arith

no_cost : (own : Option ℕ) (load : Load) → load.leaves ≡ 0 → load.objects ≡ 0 → load.inside ≡ 0 → cost_at own load ≡ 0
no_cost own load l o i = ap₂ (λ x y. x + y) (ap₂ (λ x y. leaf_cost own * x + object_cost own * y) l o) i ∙ omega arith

module _ (e : Scale) (item : ShapeTree) (vs : List Coerced) where
  pub none_summed : (sum : Load) → sum.nodes ≡ 0 → sum.leaves ≡ 0 → sum.objects ≡ 0 → sum.inside ≡ 0 → AreSummed e item vs 0 sum
  none_summed sum n l o i = record {
    size = first sum.nodes (item_nodes (items_in vs)) n;
    price = λ own. first (cost_at own sum) (items_cost (objects_in e.weights) item own (items_in vs)) (no_cost own sum l o i);
  }

  pub one_summed : (at : ℕ) (v : Coerced) (sum one now : Load) → at < length vs → v ≡ get_or vs at v → AreSummed e item vs at sum → IsLoad e item (coerced_tree v) one → IsBoth sum one now → AreSummed e item vs (at + 1) now
  unfolding value_cost
  one_summed at v sum one now within is summed load both_ =
      let front : items_in (drop at vs) ≡ coerced_then (coerced_tree v) (items_in (drop (at + 1) vs)) = ap items_in (at_front vs at v within is) in
      record {
        size = more sum.nodes one.nodes now.nodes (item_nodes (items_in (drop at vs))) (nodes (coerced_tree v)) (item_nodes (items_in (drop (at + 1) vs))) (item_nodes (items_in vs)) summed.size (ap item_nodes front) load.size both_.size;
        price = λ own.
            let costs = items_cost (objects_in e.weights) item own in
            more (cost_at own sum) (cost_at own one) (cost_at own now) (costs (items_in (drop at vs))) (value_cost (objects_in e.weights) item own (coerced_tree v)) (costs (items_in (drop (at + 1) vs))) (costs (items_in vs))
            (summed.price own) (ap costs front) (load.price own) (both_cost_at own sum one now both_);
      }

  pub all_summed : (at : ℕ) (sum : Load) → length vs ≤ at → AreSummed e item vs at sum → AreLoads e item (items_in vs) sum
  unfolding value_cost
  all_summed at sum end summed = record {
    size = last sum.nodes (item_nodes (items_in (drop at vs))) (item_nodes (items_in vs)) (ap (λ l. item_nodes (items_in l)) (drop_all at vs end)) summed.size;
    price = λ own.
        let costs = items_cost (objects_in e.weights) item own in
        last (cost_at own sum) (costs (items_in (drop at vs))) (costs (items_in vs)) (ap (λ l. costs (items_in l)) (drop_all at vs end)) (summed.price own);
  }

  pub list_load : (s : ShapeTree) (nullable : Bool) (value : Coerced) (w : Vec Coerced Global) (items list : Load) → s ≡ list_shape item nullable → value ≡ ListValue w → vs ≡ w.items → AreLoads e item (items_in vs) items → IsList items list → IsLoad e s (coerced_tree value) list
  unfolding value_cost
  list_load s nullable value w items list shaped is seen loads round =
      let tree : coerced_tree value ≡ coerced_list (items_in vs) = ap coerced_tree is ∙ (list_made w ∙ ap (λ l. coerced_list (items_in l)) (sym seen)) in
      let here : IsLoad e (list_shape item nullable) (coerced_list (items_in vs)) list = record {
        size = round.size ∙ ap suc loads.size;
        price = λ own. list_cost_at own items list round ∙ loads.price own;
      } in
      subst (λ t. IsLoad e s t list) (sym tree) (subst (λ x. IsLoad e x (coerced_list (items_in vs)) list) (sym shaped) here)

-- ---- leaves

-- neither null nor a list nor an object
abbrev pub IsPlain : CoercedTree → Type 0
IsPlain coerced_null = ⊥
IsPlain (coerced_integer z) = Unit {0}
IsPlain (coerced_float z) = Unit {0}
IsPlain (coerced_string b) = Unit {0}
IsPlain (coerced_boolean b) = Unit {0}
IsPlain (coerced_enum name) = Unit {0}
IsPlain (coerced_list items) = ⊥
IsPlain (coerced_object fields) = ⊥

leaf_cost_at : (own : Option ℕ) (n : ℕ) (leaf : Load) → IsLeaf n leaf → cost_at own leaf ≡ leaf_cost own
leaf_cost_at own n leaf is = ap₂ (λ x y. x + y) (ap₂ (λ x y. leaf_cost own * x + object_cost own * y) is.leaves is.objects) is.inside ∙ omega arith

pub leaf_load : (e : Scale) (s : ShapeTree) (t : CoercedTree) (leaf : Load) → IsLeaf (nodes t) leaf → ((own : Option ℕ) → leaf_cost own ≡ value_cost (objects_in e.weights) s own t) → IsLoad e s t leaf
leaf_load e s t leaf is price = record { size = is.size; price = λ own. leaf_cost_at own (nodes t) leaf is ∙ price own }

plain_nodes : (t : CoercedTree) → IsPlain t → 1 ≡ nodes t
plain_nodes coerced_null plain = absurd plain
plain_nodes (coerced_integer z) plain = refl
plain_nodes (coerced_float z) plain = refl
plain_nodes (coerced_string b) plain = refl
plain_nodes (coerced_boolean b) plain = refl
plain_nodes (coerced_enum name) plain = refl
plain_nodes (coerced_list items) plain = absurd plain
plain_nodes (coerced_object fields) plain = absurd plain

plain_cost : (objects : ObjectInputs) (s : ShapeTree) (own : Option ℕ) (t : CoercedTree) → IsPlain t → leaf_cost own ≡ value_cost objects s own t
unfolding value_cost
plain_cost objects s own coerced_null plain = absurd plain
plain_cost objects s own (coerced_integer z) plain = refl
plain_cost objects s own (coerced_float z) plain = refl
plain_cost objects s own (coerced_string b) plain = refl
plain_cost objects s own (coerced_boolean b) plain = refl
plain_cost objects s own (coerced_enum name) plain = refl
plain_cost objects s own (coerced_list items) plain = absurd plain
plain_cost objects s own (coerced_object fields) plain = absurd plain

pub plain_load : (e : Scale) (s : ShapeTree) (t u : CoercedTree) (leaf : Load) → t ≡ u → IsPlain u → IsLeaf 1 leaf → IsLoad e s t leaf
plain_load e s t u leaf same plain is = subst (λ x. IsLoad e s x leaf) (sym same) (leaf_load e s u leaf (subst (λ n. IsLeaf n leaf) (plain_nodes u plain) is) (λ own. plain_cost (objects_in e.weights) s own u plain))

null_here : (e : Scale) (s : ShapeTree) (load : Load) → load.nodes ≡ 1 → load.leaves ≡ 0 → load.objects ≡ 0 → load.inside ≡ 0 → IsLoad e s coerced_null load
unfolding value_cost
null_here e s load n l o i = record { size = n; price = λ own. no_cost own load l o i }

pub null_load : (e : Scale) (s : ShapeTree) (t : CoercedTree) (load : Load) → t ≡ coerced_null → load.nodes ≡ 1 → load.leaves ≡ 0 → load.objects ≡ 0 → load.inside ≡ 0 → IsLoad e s t load
null_load e s t load is n l o i = subst (λ x. IsLoad e s x load) (sym is) (null_here e s load n l o i)

list_leaf_cost : (objects : ObjectInputs) (of : ℕ) (nullable : Bool) (own : Option ℕ) (items : CoercedTrees) → leaf_cost own ≡ value_cost objects (named_shape of nullable) own (coerced_list items)
unfolding value_cost
list_leaf_cost objects of nullable own items = refl

-- a list in the value of a custom scalar
pub list_leaf : (e : Scale) (s : ShapeTree) (of : ℕ) (nullable : Bool) (t : CoercedTree) (items : CoercedTrees) (leaf : Load) → s ≡ named_shape of nullable → t ≡ coerced_list items → IsLeaf (nodes t) leaf → IsLoad e s t leaf
list_leaf e s of nullable t items leaf shaped is leafs =
    leaf_load e s t leaf leafs
    (λ own. subst (λ x. leaf_cost own ≡ value_cost (objects_in e.weights) x own t) (sym shaped) (subst (λ x. leaf_cost own ≡ value_cost (objects_in e.weights) (named_shape of nullable) own x) (sym is) (list_leaf_cost (objects_in e.weights) of nullable own items)))
