-- What objects come to: by their fields, one after another, and where nothing is paid for any field.
use Rattle.std.proofs.Common.{◌≡◌, ◌+◌, ◌*◌, ◌<◌, ◌≤◌, ℕ, suc, bytes_eq, List, length, map, drop, get_or, All, Option, None, Some, refl, sym, ap, ap₂, ◌∙◌, subst, arith}
use Rattle.std.specs.Borrow.{Bor}
use Rattle.std.proofs.lemmas.List.{drop_all}
use Rattle.std.proofs.lemmas.List.Elements.{All-map}
use Rattle.gql_base.specs.names.Names.{first_of_name}
use Rattle.gql_base.proofs.Lists.{at_front}
use Rattle.input_values.specs.declared.values.coerced.CoercedField.{CoercedField}
use Rattle.input_values.specs.values.Coerced.{CoercedTree, CoercedTrees, CoercedFields, coerced_tree, named_tree, named_trees_from, nodes, field_nodes, coerced_null, coerced_integer, coerced_float, coerced_string, coerced_boolean, coerced_enum, coerced_list, coerced_object, no_coerced, coerced_then, no_coerced_field, coerced_field_then}
use Rattle.input_values.specs.inputs.Shapes.{ShapeTree, named_shape, list_shape}
use Rattle.input_values.specs.coercion.Places.{innermost}
use Rattle.input_values.proofs.CoercedTrees.{field_opened}
use Rattle.cost_directives.specs.ArgumentCosts.{ObjectInputs, InputWeightData, weighed_name, leaf_cost, object_cost, fields_at, cost_at_field, value_cost, items_cost, fields_cost}
use Rattle.cost_directives.specs.Weights.{objects_in}
use Rattle.cost_directives.specs.declared.entries.InputWeight.{InputWeight}
use Rattle.cost_directives.specs.WeightViews.{input_weight, maybe_input}
use Rattle.literal_loads.specs.declared.load.Load.{Load}
use Rattle.literal_loads.specs.declared.load.Sum.{Sum}
use Rattle.literal_loads.specs.LoadSums.{cost_at, IsLeaf, HasInside, IsObject, AreBoth}
use Rattle.literal_loads.specs.Loads.{Scale, IsLoad, IsField, AreFields, IsFree, inputs_there}
use Rattle.literal_loads.proofs.ValuesTogether.{first, leaf_load}
use Rattle.literal_loads.proofs.NamedSums.{found_right}

-- ---- at its place

place_cost : (objects : ObjectInputs) (s : ShapeTree) (own : Option ℕ) (fields : CoercedFields) → value_cost objects s own (coerced_object fields) ≡ fields_at own (λ inputs. fields_cost objects inputs fields) (inputs_there objects s)
unfolding value_cost
place_cost objects (named_shape of nullable) own fields = refl
place_cost objects (list_shape item nullable) own fields = refl

cost_there : (objects : ObjectInputs) (s : ShapeTree) (own : Option ℕ) (fields : CoercedFields) (t : CoercedTree) (found : Option (List InputWeightData)) → t ≡ coerced_object fields → inputs_there objects s ≡ found → value_cost objects s own t ≡ fields_at own (λ inputs. fields_cost objects inputs fields) found
cost_there objects s own fields t found is there = ap (value_cost objects s own) is ∙ (place_cost objects s own fields ∙ ap (fields_at own (λ inputs. fields_cost objects inputs fields)) there)

object_cost_at : (own : Option ℕ) (load : Load) (inside : ℕ) → load.leaves ≡ 0 → load.objects ≡ 1 → load.inside ≡ inside → cost_at own load ≡ object_cost own + inside
object_cost_at own load inside l o i = ap₂ (λ x y. x + y) (ap₂ (λ x y. leaf_cost own * x + object_cost own * y) l o) i ∙ omega arith

module _ (e : Scale) (s : ShapeTree) (t : CoercedTree) (fields : CoercedFields) (is : t ≡ coerced_object fields) where
  pub leaf_object : (leaf : Load) → IsLeaf (nodes t) leaf → inputs_there (objects_in e.weights) s ≡ None → IsLoad e s t leaf
  leaf_object leaf counted there = leaf_load e s t leaf counted (λ own. sym (cost_there (objects_in e.weights) s own fields t None is there))

  module _ (inputs : List InputWeightData) (there : inputs_there (objects_in e.weights) s ≡ Some inputs) where
    pub object_there : (inside : ℕ) (load : Load) → HasInside (nodes t) inside load → inside ≡ fields_cost (objects_in e.weights) inputs fields → IsLoad e s t load
    object_there inside load object price = record {
      size = object.size;
      price = λ own. object_cost_at own load (fields_cost (objects_in e.weights) inputs fields) object.leaves object.objects (object.inside ∙ price) ∙ sym (cost_there (objects_in e.weights) s own fields t (Some inputs) is there);
    }

    pub object_together : (sum : Sum) (load : Load) → AreFields e inputs fields sum → IsObject sum load → IsLoad e s t load
    object_together sum load all object =
        object_there sum.cost load record { size = object.size ∙ (ap suc all.size ∙ sym (ap nodes is)); leaves = object.leaves; objects = object.objects; inside = object.inside } all.price

    -- what it costs at a place that weighs nothing
    pub inside_there : (inside : ℕ) → inside ≡ value_cost (objects_in e.weights) s (Some 0) t → inside ≡ fields_cost (objects_in e.weights) inputs fields
    inside_there inside same = same ∙ (cost_there (objects_in e.weights) s (Some 0) fields t (Some inputs) is there ∙ omega arith)

-- ---- where nothing is paid

module _ (objects : ObjectInputs) where
  mutual
    unfolding value_cost

    free_cost : (t : CoercedTree) (s : ShapeTree) → get_or objects (innermost s) None ≡ None → value_cost objects s None t ≡ 0
    free_cost coerced_null s none = refl
    free_cost (coerced_integer z) s none = refl
    free_cost (coerced_float z) s none = refl
    free_cost (coerced_string b) s none = refl
    free_cost (coerced_boolean b) s none = refl
    free_cost (coerced_enum name) s none = refl
    free_cost (coerced_list items) (named_shape of nullable) none = refl
    free_cost (coerced_list items) (list_shape item nullable) none = free_items items item none
    free_cost (coerced_object fields) (named_shape of nullable) none = ap (fields_at None (λ inputs. fields_cost objects inputs fields)) none
    free_cost (coerced_object fields) (list_shape item nullable) none = refl

    free_items : (ts : CoercedTrees) (s : ShapeTree) → get_or objects (innermost s) None ≡ None → items_cost objects s None ts ≡ 0
    free_items no_coerced s none = refl
    free_items (coerced_then t ts) s none = ap₂ (λ a b. a + b) (free_cost t s none) (free_items ts s none)

  free_one : (i : InputWeightData) (t : CoercedTree) → IsFree objects i → value_cost objects i.shape i.own t ≡ 0
  free_one i t free = ap (λ own. value_cost objects i.shape own t) free.0 ∙ free_cost t i.shape free.1

  module _ (inputs : List InputWeightData) (free : All (IsFree objects) inputs) where
    free_found : (name : List ℕ) (t : CoercedTree) (found : Option InputWeightData) → first_of_name weighed_name inputs name ≡ found → cost_at_field (λ shape own. value_cost objects shape own t) found ≡ 0
    free_found name t None is = refl
    free_found name t (Some i) is = free_one i t (found_right (IsFree objects) (λ j. bytes_eq (weighed_name j) name) inputs i is free)

    free_fields : (fields : CoercedFields) → fields_cost objects inputs fields ≡ 0
    unfolding value_cost
    free_fields no_coerced_field = refl
    free_fields (coerced_field_then name t fields) = ap₂ (λ a b. a + b) (free_found name t (first_of_name weighed_name inputs name) refl) (free_fields fields)

pub none_inside : (objects : ObjectInputs) (inputs : List InputWeight) (fields : CoercedFields) → All (λ i. IsFree objects (input_weight i)) inputs → 0 ≡ fields_cost objects (map input_weight inputs) fields
none_inside objects inputs fields free = sym (free_fields objects (map input_weight inputs) (All-map (IsFree objects) input_weight inputs free) fields)

-- ---- one field

module _ (e : Scale) (inputs : List InputWeightData) (f : CoercedField) (sum : Sum) (fine : sum.refused ≡ 0) where
  field_by : (found : Option InputWeightData) → first_of_name weighed_name inputs f.name ≡ found → sum.nodes ≡ nodes (coerced_tree f.value) → sum.cost ≡ cost_at_field (λ shape own. value_cost (objects_in e.weights) shape own (coerced_tree f.value)) found → IsField e inputs (named_tree f) sum
  field_by found is size price =
      let here : IsField e inputs (f.name, coerced_tree f.value) sum = record { fine = fine; size = size; price = price ∙ sym (ap (cost_at_field (λ shape own. value_cost (objects_in e.weights) shape own (coerced_tree f.value))) is) } in
      subst (λ n. IsField e inputs n sum) (sym (field_opened f)) here

  pub field_found : (r : Option (Bor InputWeight)) (i : Bor InputWeight) (name : List ℕ) (load : Load) → maybe_input r ≡ first_of_name weighed_name inputs name → r ≡ Some i → name ≡ f.name → IsLoad e (input_weight i.now).shape (coerced_tree f.value) load → sum.nodes ≡ load.nodes → sum.cost ≡ cost_at i.now.own load → IsField e inputs (named_tree f) sum
  field_found r i name load found is named loads size price =
      field_by (Some (input_weight i.now)) (ap (first_of_name weighed_name inputs) (sym named) ∙ (sym found ∙ ap maybe_input is)) (size ∙ loads.size) (price ∙ loads.price i.now.own)

  pub field_unknown : (r : Option (Bor InputWeight)) (name : List ℕ) → maybe_input r ≡ first_of_name weighed_name inputs name → r ≡ None → name ≡ f.name → sum.nodes ≡ nodes (coerced_tree f.value) → sum.cost ≡ 0 → IsField e inputs (named_tree f) sum
  field_unknown r name found is named size price =
      field_by None (ap (first_of_name weighed_name inputs) (sym named) ∙ (sym found ∙ ap maybe_input is)) size price

-- ---- all fields

abbrev pub fields_in : List CoercedField → CoercedFields
fields_in fs = named_trees_from (map named_tree fs)

-- The sum of the fields before this place and what is left are the whole.
pub record AreFieldsSummed (e : Scale) (inputs : List InputWeightData) (fs : List CoercedField) (at : ℕ) (sum : Sum) : Type 0 where
  pub fine : sum.refused ≡ 0
  pub size : sum.nodes + field_nodes (fields_in (drop at fs)) ≡ field_nodes (fields_in fs)
  pub price : sum.cost + fields_cost (objects_in e.weights) inputs (fields_in (drop at fs)) ≡ fields_cost (objects_in e.weights) inputs (fields_in fs)

module _ (e : Scale) (inputs : List InputWeightData) (fs : List CoercedField) where
  pub no_field_summed : (sum : Sum) → sum.refused ≡ 0 → sum.nodes ≡ 0 → sum.cost ≡ 0 → AreFieldsSummed e inputs fs 0 sum
  no_field_summed sum r n c = record { fine = r; size = first sum.nodes (field_nodes (fields_in fs)) n; price = first sum.cost (fields_cost (objects_in e.weights) inputs (fields_in fs)) c }

  pub one_field_summed : (at : ℕ) (f : CoercedField) (sum one now : Sum) → at < length fs → f ≡ get_or fs at f → AreFieldsSummed e inputs fs at sum → IsField e inputs (named_tree f) one → AreBoth sum one now → AreFieldsSummed e inputs fs (at + 1) now
  unfolding value_cost
  one_field_summed at f sum one now within is summed field both =
      let front : fields_in (drop at fs) ≡ coerced_field_then (named_tree f).0 (named_tree f).1 (fields_in (drop (at + 1) fs)) = ap fields_in (at_front fs at f within is) in
      record {
        fine = omega (arith, both.refusals, summed.fine, field.fine);
        size = omega (arith, both.size, field.size, summed.size, ap field_nodes front);
        price = omega (arith, both.price, field.price, summed.price, ap (fields_cost (objects_in e.weights) inputs) front);
      }

  pub all_fields_summed : (at : ℕ) (sum : Sum) → length fs ≤ at → AreFieldsSummed e inputs fs at sum → AreFields e inputs (fields_in fs) sum
  unfolding value_cost
  all_fields_summed at sum end summed = record {
    fine = summed.fine;
    size = omega (arith, summed.size, ap (λ l. field_nodes (fields_in l)) (drop_all at fs end));
    price = omega (arith, summed.price, ap (λ l. fields_cost (objects_in e.weights) inputs (fields_in l)) (drop_all at fs end));
  }
