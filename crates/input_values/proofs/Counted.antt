-- What was counted, and what is left, are the whole count.
use Rattle.std.proofs.Common.{◌≡◌, ◌+◌, ◌<◌, ◌≤◌, ℕ, suc, List, length, map, drop, get_or, Vec, Global, sym, ap, ◌∙◌, arith}
use Rattle.std.proofs.lemmas.List.{drop_all}
use Rattle.input_values.specs.declared.values.coerced.Coerced.{Coerced}
use Rattle.input_values.specs.declared.values.coerced.CoercedField.{CoercedField}
use Rattle.input_values.specs.declared.values.coerced.Coerced.TheViews.{List as ListValue, Object as ObjectValue}
use Rattle.input_values.specs.values.Coerced.{coerced_tree, named_tree, trees_from, named_trees_from, nodes, item_nodes, field_nodes}
use Rattle.input_values.specs.values.Counting.{counted}
use Rattle.input_values.proofs.CoercedTrees.{list_made, object_made, field_opened}
use Rattle.gql_base.proofs.Lists.{at_front}

abbrev nodes_in : List Coerced → ℕ
nodes_in vs = item_nodes (trees_from (map coerced_tree vs))

abbrev nodes_of : List CoercedField → ℕ
nodes_of fs = field_nodes (named_trees_from (map named_tree fs))

pub item_counted : (vs : List Coerced) (at limit before count more : ℕ) (v : Coerced) → at < length vs → v ≡ get_or vs at v → more ≡ counted limit (count + nodes (coerced_tree v))
    → counted limit (count + nodes_in (drop at vs)) ≡ counted limit (before + nodes_in vs) → counted limit (more + nodes_in (drop (at + 1) vs)) ≡ counted limit (before + nodes_in vs)
item_counted vs at limit before count more v within is step whole = let front = ap nodes_in (at_front vs at v within is) in omega (arith, step, front, whole)

pub items_counted : (vs : List Coerced) (at limit before count : ℕ) → length vs ≤ at → counted limit (count + nodes_in (drop at vs)) ≡ counted limit (before + nodes_in vs) → counted limit count ≡ counted limit (before + nodes_in vs)
items_counted vs at limit before count end whole = let none = ap nodes_in (drop_all at vs end) in omega (arith, none, whole)

pub field_counted : (fs : List CoercedField) (at limit before count more : ℕ) (f : CoercedField) → at < length fs → f ≡ get_or fs at f → more ≡ counted limit (count + nodes (coerced_tree f.value))
    → counted limit (count + nodes_of (drop at fs)) ≡ counted limit (before + nodes_of fs) → counted limit (more + nodes_of (drop (at + 1) fs)) ≡ counted limit (before + nodes_of fs)
field_counted fs at limit before count more f within is step whole =
    let front = ap nodes_of (at_front fs at f within is) in
    let opened = ap (λ p. nodes p.1) (field_opened f) in
    omega (arith, step, front, opened, whole)

pub fields_counted : (fs : List CoercedField) (at limit before count : ℕ) → length fs ≤ at → counted limit (count + nodes_of (drop at fs)) ≡ counted limit (before + nodes_of fs) → counted limit count ≡ counted limit (before + nodes_of fs)
fields_counted fs at limit before count end whole = let none = ap nodes_of (drop_all at fs end) in omega (arith, none, whole)

pub list_nodes_are : (w : Vec Coerced Global) (items : List Coerced) → items ≡ w.items → nodes (coerced_tree (ListValue w)) ≡ suc (nodes_in items)
list_nodes_are w items seen = ap nodes (list_made w) ∙ ap (λ l. suc (nodes_in l)) (sym seen)

pub object_nodes_are : (w : Vec CoercedField Global) (fields : List CoercedField) → fields ≡ w.items → nodes (coerced_tree (ObjectValue w)) ≡ suc (nodes_of fields)
object_nodes_are w fields seen = ap nodes (object_made w) ∙ ap (λ l. suc (nodes_of l)) (sym seen)
