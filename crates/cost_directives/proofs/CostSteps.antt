-- Sums of capped costs, value after value.
use Rattle.std.proofs.Common.{ℕ, ◌+◌, ◌≡◌, ◌<◌, ◌≤◌, List, length, map, drop, get_or, Option, sym, ap, ◌∙◌, arith}
use Rattle.std.proofs.lemmas.List.{drop_all}
use Rattle.cost_num.specs.declared.TheConstants.{CAP}
use Rattle.cost_num.specs.Capped.{capped}
use Rattle.gql_base.specs.names.Names.{first_of_name}
use Rattle.input_values.specs.inputs.Shapes.{ShapeTree}
use Rattle.input_values.specs.declared.values.coerced.Coerced.{Coerced}
use Rattle.input_values.specs.declared.values.coerced.CoercedField.{CoercedField}
use Rattle.input_values.specs.values.Coerced.{CoercedTree, CoercedTrees, CoercedFields, coerced_tree, named_tree, trees_from, named_trees_from}
use Rattle.input_values.proofs.CoercedTrees.{field_opened}
use Rattle.gql_base.proofs.Lists.{at_front}
use Rattle.cost_directives.specs.ArgumentCosts.{ObjectInputs, InputWeightData, weighed_name, cost_at_field, value_cost, items_cost, fields_cost, field_cost}

abbrev pub items_in : List Coerced → CoercedTrees
items_in vs = trees_from (map coerced_tree vs)

abbrev pub fields_in : List CoercedField → CoercedFields
fields_in fs = named_trees_from (map named_tree fs)

next_item : (objects : ObjectInputs) (item : ShapeTree) (own : Option ℕ) (vs : List Coerced) (at : ℕ) (v : Coerced) → at < length vs → v ≡ get_or vs at v
    → items_cost objects item own (items_in (drop at vs)) ≡ value_cost objects item own (coerced_tree v) + items_cost objects item own (items_in (drop (at + 1) vs))
unfolding value_cost
next_item objects item own vs at v within is = ap (λ l. items_cost objects item own (items_in l)) (at_front vs at v within is)

next_field : (objects : ObjectInputs) (inputs : List InputWeightData) (fs : List CoercedField) (at : ℕ) (f : CoercedField) → at < length fs → f ≡ get_or fs at f
    → fields_cost objects inputs (fields_in (drop at fs)) ≡ field_cost objects inputs (named_tree f) + fields_cost objects inputs (fields_in (drop (at + 1) fs))
unfolding value_cost
next_field objects inputs fs at f within is = ap (λ l. fields_cost objects inputs (fields_in l)) (at_front fs at f within is)

-- one more cost, where the sum and the rest are the whole
more : (sum cost added here one rest whole : ℕ) → capped (sum + here) ≡ capped whole → here ≡ one + rest → cost ≡ capped one → added ≡ capped (sum + cost) → capped (added + rest) ≡ capped whole
more sum cost added here one rest whole same front is add = omega arith

pub one_item : (objects : ObjectInputs) (item : ShapeTree) (own : Option ℕ) (vs : List Coerced) (at : ℕ) (v : Coerced) (sum cost added whole : ℕ) → at < length vs → v ≡ get_or vs at v
    → capped (sum + items_cost objects item own (items_in (drop at vs))) ≡ capped whole → cost ≡ capped (value_cost objects item own (coerced_tree v)) → added ≡ capped (sum + cost)
    → capped (added + items_cost objects item own (items_in (drop (at + 1) vs))) ≡ capped whole
one_item objects item own vs at v sum cost added whole within is same cost_is add =
    more sum cost added (items_cost objects item own (items_in (drop at vs))) (value_cost objects item own (coerced_tree v)) (items_cost objects item own (items_in (drop (at + 1) vs))) whole same (next_item objects item own vs at v within is) cost_is add

pub one_field : (objects : ObjectInputs) (inputs : List InputWeightData) (fs : List CoercedField) (at : ℕ) (f : CoercedField) (sum cost added whole : ℕ) → at < length fs → f ≡ get_or fs at f
    → capped (sum + fields_cost objects inputs (fields_in (drop at fs))) ≡ capped whole → cost ≡ capped (field_cost objects inputs (named_tree f)) → added ≡ capped (sum + cost)
    → capped (added + fields_cost objects inputs (fields_in (drop (at + 1) fs))) ≡ capped whole
one_field objects inputs fs at f sum cost added whole within is same cost_is add =
    more sum cost added (fields_cost objects inputs (fields_in (drop at fs))) (field_cost objects inputs (named_tree f)) (fields_cost objects inputs (fields_in (drop (at + 1) fs))) whole same (next_field objects inputs fs at f within is) cost_is add

none_left : (sum rest whole : ℕ) → rest ≡ 0 → capped (sum + rest) ≡ capped whole → sum ≤ CAP + 1 → sum ≡ capped whole
none_left sum rest whole none same small = omega arith

pub no_item_left : (objects : ObjectInputs) (item : ShapeTree) (own : Option ℕ) (vs : List Coerced) (at sum whole : ℕ) → length vs ≤ at
    → capped (sum + items_cost objects item own (items_in (drop at vs))) ≡ capped whole → sum ≤ CAP + 1 → sum ≡ capped whole
unfolding value_cost
no_item_left objects item own vs at sum whole end same small = none_left sum (items_cost objects item own (items_in (drop at vs))) whole (ap (λ l. items_cost objects item own (items_in l)) (drop_all at vs end)) same small

pub no_field_left : (objects : ObjectInputs) (inputs : List InputWeightData) (fs : List CoercedField) (at sum whole : ℕ) → length fs ≤ at
    → capped (sum + fields_cost objects inputs (fields_in (drop at fs))) ≡ capped whole → sum ≤ CAP + 1 → sum ≡ capped whole
unfolding value_cost
no_field_left objects inputs fs at sum whole end same small = none_left sum (fields_cost objects inputs (fields_in (drop at fs))) whole (ap (λ l. fields_cost objects inputs (fields_in l)) (drop_all at fs end)) same small

-- ---- one value

pub cost_is : (objects : ObjectInputs) (shape : ShapeTree) (own : Option ℕ) (v : Coerced) (t : CoercedTree) (r : ℕ) → coerced_tree v ≡ t → r ≡ capped (value_cost objects shape own t) → r ≡ capped (value_cost objects shape own (coerced_tree v))
cost_is objects shape own v t r is e = e ∙ ap (λ x. capped (value_cost objects shape own x)) (sym is)

pub field_cost_is : (objects : ObjectInputs) (inputs : List InputWeightData) (f : CoercedField) (name : List ℕ) (found seen : Option InputWeightData) → found ≡ seen → name ≡ f.name → found ≡ first_of_name weighed_name inputs name
    → cost_at_field (λ shape own. value_cost objects shape own (coerced_tree f.value)) seen ≡ field_cost objects inputs (named_tree f)
field_cost_is objects inputs f name found seen is same e =
    ap (cost_at_field (λ shape own. value_cost objects shape own (coerced_tree f.value))) (sym is ∙ (e ∙ ap (first_of_name weighed_name inputs) same))
    ∙ ap (field_cost objects inputs) (sym (field_opened f))
