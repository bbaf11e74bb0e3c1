-- Coerced values that are opened or made.
use Rattle.std.proofs.Common.{◌≡◌, ℕ, ℤ, Bool, List, map, Vec, Global}
use Rattle.std.specs.Arc.{arc_value}
use Rattle.input_values.specs.declared.values.coerced.Coerced.{Coerced}
use Rattle.input_values.specs.declared.values.coerced.CoercedField.{CoercedField}
use Rattle.input_values.specs.declared.values.coerced.Coerced.TheOpen.{Coerced-F}
use Rattle.input_values.specs.declared.values.coerced.Coerced.TheFolds.{fold-roll-Coerced, fold_out-CoercedField, fold-roll-CoercedField}
use Rattle.input_values.specs.declared.values.coerced.Coerced.TheViews.{List as ListValue, Object as ObjectValue, Shared as SharedValue, roll-CoercedField}
use Rattle.input_values.specs.declared.values.coerced.Coerced.TheBlock.{Int as IntValue, Float as FloatValue, Str as StrValue, Bool as BoolValue, Null as NullValue, EnumName as EnumValue}
use Rattle.input_values.specs.values.Coerced.{CoercedTree, coerced_null, coerced_integer, coerced_float, coerced_string, coerced_boolean, coerced_enum, coerced_list, coerced_object, coerced_step, coerced_field_step, NamedTree, coerced_tree, named_tree, trees_from, named_trees_from}

pub null_made : coerced_tree NullValue ≡ coerced_null
unfolding coerced_tree Rattle.input_values.specs.declared.values.coerced.Coerced.TheViews.roll-Coerced denote.Hole.Carrier.roll
null_made = fold-roll-Coerced CoercedTree NamedTree coerced_step coerced_field_step Coerced-F.Null

pub integer_made : (z : ℤ) → coerced_tree (IntValue z) ≡ coerced_integer z
unfolding coerced_tree Rattle.input_values.specs.declared.values.coerced.Coerced.TheViews.roll-Coerced denote.Hole.Carrier.roll
integer_made z = fold-roll-Coerced CoercedTree NamedTree coerced_step coerced_field_step (Coerced-F.Int z)

pub float_made : (bits : ℕ) → coerced_tree (FloatValue bits) ≡ coerced_float bits
unfolding coerced_tree Rattle.input_values.specs.declared.values.coerced.Coerced.TheViews.roll-Coerced denote.Hole.Carrier.roll
float_made bits = fold-roll-Coerced CoercedTree NamedTree coerced_step coerced_field_step (Coerced-F.Float bits)

pub string_made : (s : List ℕ) → coerced_tree (StrValue s) ≡ coerced_string s
unfolding coerced_tree Rattle.input_values.specs.declared.values.coerced.Coerced.TheViews.roll-Coerced denote.Hole.Carrier.roll
string_made s = fold-roll-Coerced CoercedTree NamedTree coerced_step coerced_field_step (Coerced-F.Str s)

pub boolean_made : (b : Bool) → coerced_tree (BoolValue b) ≡ coerced_boolean b
unfolding coerced_tree Rattle.input_values.specs.declared.values.coerced.Coerced.TheViews.roll-Coerced denote.Hole.Carrier.roll
boolean_made b = fold-roll-Coerced CoercedTree NamedTree coerced_step coerced_field_step (Coerced-F.Bool b)

pub enum_made : (name : List ℕ) → coerced_tree (EnumValue name) ≡ coerced_enum name
unfolding coerced_tree Rattle.input_values.specs.declared.values.coerced.Coerced.TheViews.roll-Coerced denote.Hole.Carrier.roll
enum_made name = fold-roll-Coerced CoercedTree NamedTree coerced_step coerced_field_step (Coerced-F.EnumName name)

pub list_made : (items : Vec Coerced Global) → coerced_tree (ListValue items) ≡ coerced_list (trees_from (map coerced_tree items.items))
unfolding coerced_tree Rattle.input_values.specs.declared.values.coerced.Coerced.TheViews.roll-Coerced denote.Hole.Carrier.roll
list_made items = fold-roll-Coerced CoercedTree NamedTree coerced_step coerced_field_step (Coerced-F.List items)

pub object_made : (fields : Vec CoercedField Global) → coerced_tree (ObjectValue fields) ≡ coerced_object (named_trees_from (map named_tree fields.items))
unfolding coerced_tree named_tree Rattle.input_values.specs.declared.values.coerced.Coerced.TheViews.roll-Coerced denote.Hole.Carrier.roll
object_made fields = fold-roll-Coerced CoercedTree NamedTree coerced_step coerced_field_step (Coerced-F.Object fields)

pub shared_made : (held : _) → coerced_tree (SharedValue held) ≡ coerced_tree (arc_value held)
unfolding coerced_tree Rattle.input_values.specs.declared.values.coerced.Coerced.TheViews.roll-Coerced denote.Hole.Carrier.roll
shared_made held = fold-roll-Coerced CoercedTree NamedTree coerced_step coerced_field_step (Coerced-F.Shared held)

pub field_made : (name : List ℕ) (v : Coerced) → named_tree (roll-CoercedField record { name = name; value = v }) ≡ (name, coerced_tree v)
unfolding named_tree coerced_tree
field_made name v = fold-roll-CoercedField CoercedTree NamedTree coerced_step coerced_field_step record { name = name; value = v }

pub field_opened : (f : CoercedField) → named_tree f ≡ (f.name, coerced_tree f.value)
unfolding named_tree coerced_tree
field_opened f = fold_out-CoercedField CoercedTree NamedTree coerced_step coerced_field_step f

pub ruleset made_trees = (null_made, integer_made, float_made, string_made, boolean_made, enum_made, list_made, object_made, shared_made)
