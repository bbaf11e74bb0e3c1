-- Items of a list, from the last to the first.
use Rattle.std.proofs.Common.{◌≡◌, ◌+◌, ◌*◌, ◌<◌, ◌≤◌, ◌-◌, ℕ, suc, List, [], ◌∷◌, length, drop, get_or, Option, Ok, sym, ap, ap₂, ◌∙◌, subst, arith}
use Rattle.gql_base.specs.declared.parts.trees.Value.{Value}
use Rattle.gql_base.proofs.NameLaws.IndexLaws.{dropped_before}
use Rattle.input_values.specs.values.Coerced.{CoercedTrees, coerced_list, no_coerced, coerced_then, item_nodes}
use Rattle.input_values.specs.inputs.Shapes.{ShapeTree}
use Rattle.input_values.specs.coercion.Answers.{mapped, both, at_step, item_step}
use Rattle.input_values.specs.coercion.Coercion.{items_coerced}
use Rattle.input_values.specs.coercion.Literals.{literal_items}
use Rattle.input_values.specs.coercion.Sizes.{items_written}
use Rattle.schema_model.specs.InputForms.{input_forms}
use Rattle.cost_directives.specs.ArgumentCosts.{leaf_cost, object_cost, value_cost, items_cost}
use Rattle.cost_directives.specs.Weights.{objects_in}
use Rattle.literal_loads.specs.declared.load.Load.{Load}
use Rattle.literal_loads.specs.Loads.{Scale, WeighsLiteral, WeighsList, list_answer}
use Rattle.literal_loads.specs.LoadSums.{cost_at, IsBoth, IsList}
use Rattle.literal_loads.proofs.LinearCosts.{list_cost_at, both_cost_at}

-- These items, the first of which has this number, come to this.
pub record ItemsWeigh (e : Scale) (item : ShapeTree) (at : ℕ) (items : List Value) (load : Load) : Type 0 where
  pub trees : CoercedTrees
  pub coerces : items_coerced (input_forms e.schema) at (literal_items e.values (items_written items)) item ≡ Ok trees
  pub size : load.nodes ≡ item_nodes trees
  pub price : (own : Option ℕ) → cost_at own load ≡ items_cost (objects_in e.weights) item own trees

module _ (e : Scale) (item : ShapeTree) where
  pub no_items : (at : ℕ) (items : List Value) (load : Load) → items ≡ [] → load.nodes ≡ 0 → load.leaves ≡ 0 → load.objects ≡ 0 → load.inside ≡ 0 → ItemsWeigh e item at items load
  unfolding value_cost
  no_items at items load none n l o i = record {
    trees = no_coerced;
    coerces = ap (λ vs. items_coerced (input_forms e.schema) at (literal_items e.values (items_written vs)) item) none;
    size = n;
    price = λ own. ap₂ (λ x y. x + y) (ap₂ (λ x y. leaf_cost own * x + object_cost own * y) l o) i ∙ omega arith;
  }

  item_in_front : (at : ℕ) (v : Value) (items : List Value) (load one now : Load) → ItemsWeigh e item (suc at) items load → WeighsLiteral e item v one → IsBoth one load now → ItemsWeigh e item at (v ∷ items) now
  unfolding value_cost
  item_in_front at v items load one now rest weighs sum =
      let s = rest.size in
      let t = weighs.2.size in
      let n = sum.size in
      record {
        trees = coerced_then weighs.0 rest.trees;
        coerces = ap₂ (λ x y. both coerced_then (at_step (item_step at) x) y) weighs.1 rest.coerces;
        size = omega (arith, n, s, t);
        price = λ own. both_cost_at own one load now sum ∙ ap₂ (λ x y. x + y) (weighs.2.price own) (rest.price own);
      }

  pub one_item_more : (items : List Value) (at : ℕ) (v : Value) (load one now : Load) → 0 < at → at ≤ length items → v ≡ get_or items (at - 1) v → ItemsWeigh e item at (drop at items) load → WeighsLiteral e item v one → IsBoth one load now → ItemsWeigh e item (at - 1) (drop (at - 1) items) now
  one_item_more items at v load one now some within is rest weighs sum =
      let next : at ≡ suc (at - 1) = omega (arith, some) in
      subst (λ vs. ItemsWeigh e item (at - 1) vs now) (sym (dropped_before items at v some within is))
      (item_in_front (at - 1) v (drop at items) load one now (subst (λ k. ItemsWeigh e item k (drop at items) load) next rest) weighs sum)

  pub all_items : (items : List Value) (load list : Load) → ItemsWeigh e item 0 items load → IsList load list → WeighsList e item (list_answer e items item) list
  unfolding value_cost
  all_items items load list is round = λ nullable.
      let n = round.size in
      let s = is.size in
      (coerced_list is.trees, ap (mapped coerced_list) is.coerces, record { size = omega (arith, n, s); price = λ own. list_cost_at own load list round ∙ is.price own })
