-- Loads at named types, in lists, and at other places of the same type.
use Rattle.std.proofs.Common.{◌≡◌, ◌+◌, ◌*◌, ◌≤◌, ◌&&◌, ℕ, Bool, true, false, not, cond, List, get_or, Option, None, Some, Ok, refl, sym, ap, ap₂, ◌∙◌, subst, arith}
use Rattle.std.proofs.lemmas.Option.{same_Some}
use Rattle.input_values.specs.values.Coerced.{CoercedTree, coerced_tree, is_coerced_null, CoercedTrees, coerced_null, coerced_integer, coerced_float, coerced_string, coerced_boolean, coerced_enum, coerced_list, coerced_object, no_coerced, coerced_then}
use Rattle.input_values.specs.declared.values.coerced.Coerced.{Coerced}
use Rattle.input_values.specs.inputs.Shapes.{ShapeTree, named_shape, list_shape, is_nullable}
use Rattle.input_values.specs.coercion.Answers.{Answer, refused, mapped}
use Rattle.input_values.specs.coercion.Calls.{Coerces}
use Rattle.input_values.specs.coercion.Coercion.{coerced}
use Rattle.input_values.specs.coercion.Literals.{variable_given}
use Rattle.input_values.specs.coercion.Places.{list_of_one, single_at, innermost}
use Rattle.schema_model.specs.InputForms.{input_forms}
use Rattle.cost_directives.specs.ArgumentCosts.{ObjectInputs, leaf_cost, object_cost, value_cost, items_cost, fields_at, fields_cost}
use Rattle.cost_directives.specs.Weights.{objects_in}
use Rattle.literal_loads.specs.declared.load.Load.{Load}
use Rattle.literal_loads.specs.LoadSums.{IsList}
use Rattle.literal_loads.proofs.LinearCosts.{list_cost_at}
use Rattle.literal_loads.specs.Loads.{Scale, IsLoad, Weighs, WeighsNamed, WeighsVariable}
use Rattle.literal_loads.specs.KnownInputs.{lists_round, IsHeldAs}

-- ---- in a list of one

list_cost : (objects : ObjectInputs) (item : ShapeTree) (nullable : Bool) (own : Option ℕ) (t : CoercedTree) → value_cost objects (list_shape item nullable) own (list_of_one t) ≡ value_cost objects item own t + 0
unfolding value_cost
list_cost objects item nullable own t = refl

list_round : (e : Scale) (item : ShapeTree) (nullable : Bool) (answer : Answer CoercedTree) (load list : Load) → Weighs e item answer load → IsList load list → Weighs e (list_shape item nullable) (mapped list_of_one answer) list
list_round e item nullable answer load list weighs round =
    let n = round.size in
    let s = weighs.2.size in (
      list_of_one weighs.0,
      ap (mapped list_of_one) weighs.1,
      record {
        size = omega (arith, s, n);
        price = λ own. list_cost_at own load list round ∙ (weighs.2.price own ∙ (let l = list_cost (objects_in e.weights) item nullable own weighs.0 in omega (arith, l)));
      },
    )

pub wraps_list : (e : Scale) (s item : ShapeTree) (nullable : Bool) (named : ℕ → Answer CoercedTree) (load list : Load) → s ≡ list_shape item nullable → Weighs e item (single_at named item) load → IsList load list → Weighs e s (single_at named s) list
wraps_list e s item nullable named load list is weighs round = subst (λ x. Weighs e x (single_at named x) list) (sym is) (list_round e item nullable (single_at named item) load list weighs round)

pub wraps_named : (e : Scale) (s : ShapeTree) (of : ℕ) (nullable : Bool) (named : ℕ → Answer CoercedTree) (load : Load) → s ≡ named_shape of nullable → WeighsNamed e (innermost s) (named (innermost s)) load → Weighs e s (single_at named s) load
wraps_named e s of nullable named load is weighs =
    subst (λ x. Weighs e x (single_at named x) load) (sym is) (subst (λ x. WeighsNamed e (innermost x) (named (innermost x)) load) is weighs nullable)

-- ---- at each place of a type in so many lists

module _ (objects : ObjectInputs) (own : Option ℕ) where
  mutual
    unfolding value_cost

    same_cost : (t : CoercedTree) (s o : ShapeTree) → innermost s ≡ innermost o → lists_round s ≡ lists_round o → value_cost objects s own t ≡ value_cost objects o own t
    same_cost coerced_null s o of lists = refl
    same_cost (coerced_integer z) s o of lists = refl
    same_cost (coerced_float z) s o of lists = refl
    same_cost (coerced_string b) s o of lists = refl
    same_cost (coerced_boolean b) s o of lists = refl
    same_cost (coerced_enum name) s o of lists = refl
    same_cost (coerced_list items) (named_shape a n) (named_shape b m) of lists = refl
    same_cost (coerced_list items) (named_shape a n) (list_shape o m) of lists = absurd (omega (arith, lists))
    same_cost (coerced_list items) (list_shape s n) (named_shape b m) of lists = absurd (omega (arith, lists))
    same_cost (coerced_list items) (list_shape s n) (list_shape o m) of lists = same_items items s o of (omega (arith, lists))
    same_cost (coerced_object fields) (named_shape a n) (named_shape b m) of lists = ap (λ c. fields_at own (λ inputs. fields_cost objects inputs fields) (get_or objects c None)) of
    same_cost (coerced_object fields) (named_shape a n) (list_shape o m) of lists = absurd (omega (arith, lists))
    same_cost (coerced_object fields) (list_shape s n) (named_shape b m) of lists = absurd (omega (arith, lists))
    same_cost (coerced_object fields) (list_shape s n) (list_shape o m) of lists = refl

    same_items : (ts : CoercedTrees) (s o : ShapeTree) → innermost s ≡ innermost o → lists_round s ≡ lists_round o → items_cost objects s own ts ≡ items_cost objects o own ts
    same_items no_coerced s o of lists = refl
    same_items (coerced_then t ts) s o of lists = ap₂ (λ a b. a + b) (same_cost t s o of lists) (same_items ts s o of lists)

held_elsewhere : (e : Scale) (t : CoercedTree) (s o : ShapeTree) (load : Load) → innermost o ≡ innermost s → lists_round o ≡ lists_round s → IsLoad e s t load → IsLoad e o t load
held_elsewhere e t s o load of lists is = record { size = is.size; price = λ own. is.price own ∙ sym (same_cost (objects_in e.weights) own t o s of lists) }

pub held_everywhere : (e : Scale) (name : List ℕ) (t : CoercedTree) (shape : ShapeTree) (load : Load) (of lists : ℕ) → e.values name ≡ Some t → IsLoad e shape t load → of ≡ innermost shape → lists ≡ lists_round shape
    → (s : ShapeTree) → innermost s ≡ of → lists_round s ≡ lists → IsHeldAs e name s load
held_everywhere e name t shape load of lists value is same round s same_too round_too = λ u again.
    subst (λ x. IsLoad e s x load) (same_Some t u (sym value ∙ again)) (held_elsewhere e t shape s load (same_too ∙ same) (round_too ∙ round) is)

-- ---- values and variables

pub built_weighs : (e : Scale) (shape : ShapeTree) (answer : Answer CoercedTree) (limit after : ℕ) (built : Coerced) (load : Load) → Coerces limit 0 after (Ok (Some built)) answer → after ≤ limit → IsLoad e shape (coerced_tree built) load → Weighs e shape answer load
built_weighs e shape answer limit after built load coerces small is = (coerced_tree built, coerces.1 ∙ ap Ok (sym (same_Some (coerced_tree built) coerces.0 (coerces.2.1 small))), is)

pub variable_weighs : (e : Scale) (shape : ShapeTree) (name : List ℕ) (t : CoercedTree) (load : Load) → e.values name ≡ Some t → is_coerced_null t && not (is_nullable shape) ≡ false → IsLoad e shape t load → WeighsVariable e shape name load
variable_weighs e shape name t load value fits is = (t, ap (λ v. coerced (input_forms e.schema) (variable_given v) shape) value ∙ ap (λ b. cond b refused (Ok t)) fits, is)

pub no_variable_weighs : (e : Scale) (shape : ShapeTree) (name : List ℕ) (load : Load) → e.values name ≡ None → is_nullable shape ≡ true → load.nodes ≡ 1 → load.leaves ≡ 0 → load.objects ≡ 0 → load.inside ≡ 0 → WeighsVariable e shape name load
unfolding value_cost
no_variable_weighs e shape name load value nullable n l o i = (coerced_null, ap (λ v. coerced (input_forms e.schema) (variable_given v) shape) value ∙ ap (λ b. cond b (Ok coerced_null) refused) nullable, record { size = n; price = λ own. ap₂ (λ x y. x + y) (ap₂ (λ x y. leaf_cost own * x + object_cost own * y) l o) i ∙ omega arith })
