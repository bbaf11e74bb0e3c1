-- What reading a value is, by the next symbol; and what values of the program stand for.
use Rattle.std.proofs.Common.{ℕ, List, ℤ, zero, suc, ◌-◌, ◌≡◌, Bool, true, false, map, Vec, Global, Some, refl, sym, ap, ◌∙◌, arith, Box}
use Rattle.gql_base.specs.declared.lexical.token.TokenKind.TheVariants.{OpenBracket, OpenBrace, CloseBracket, CloseBrace}
use Rattle.gql_base.specs.declared.parts.trees.Value.{Value}
use Rattle.gql_base.specs.declared.parts.trees.Argument.{Argument}
use Rattle.gql_base.specs.declared.parts.trees.Value.TheViews.{List as ListValue, Object as ObjectValue}
use Rattle.gql_base.specs.declared.parts.trees.Value.TheBlock.{Var as VarValue, Int as IntValue, Float as FloatValue, Str as StrValue, Bool as BoolValue, Null as NullValue, EnumName as EnumValue}
use Rattle.gql_base.specs.declared.parts.trees.TypeRef.TheBlock.{Named as NamedType}
use Rattle.gql_base.specs.declared.parts.trees.Name.{Name}
use Rattle.gql_base.specs.declared.parts.trees.Value.TheOpen.{Value-F}
use Rattle.gql_base.specs.declared.parts.trees.Value.TheFolds.{fold-roll-Value}
use Rattle.gql_base.specs.declared.parts.trees.TypeRef.{TypeRef}
use Rattle.gql_base.specs.declared.parts.trees.TypeRef.TheViews.{ListOf, NonNull}
use Rattle.gql_base.specs.declared.parts.trees.TypeRef.TheOpen.{TypeRef-F}
use Rattle.gql_base.specs.declared.parts.trees.TypeRef.TheFolds.{fold-roll-TypeRef}
use Rattle.gql_base.specs.ways.Symbols.{Symbols}
use Rattle.gql_base.specs.ways.Reading.{Reader, next, single, pair, image, choice, takes, exact, level, second, up_to}
use Rattle.gql_base.specs.parts.Trees.{value_tree, named_value, value_step, argument_step, type_tree, type_step}
use Rattle.gql_base.specs.parts.Values.{ValueTree, NamedValue, variable_value, integer_value, float_value, string_value, boolean_value, null_value, enum_value, list_value, object_value, values_from, fields_from, value_at, list_at, object_at, in_list, in_object, named_value_at, simple_at}
use Rattle.gql_base.specs.parts.TypeReferences.{named_type, TypeTree, list_type, non_null_type, type_at, nullable_at, list_type_at, in_list_type, type_name}
use Rattle.gql_base.proofs.WayLaws.ReadingLaws.{chose_first, chose_second}
use Rattle.gql_base.proofs.WayLaws.RepeatingLaws.{Repeats, repeats}
use Rattle.gql_base.proofs.PartLaws.ValueLaws.{value_law, field_law, value_begins, field_begins}

pred : (n : ℕ) → suc n - 1 ≡ n
pred n = omega arith

open_list : (c : Bool) (n : ℕ) (ws : Symbols) → list_at c (suc n) ws ≡ level (exact OpenBracket) (Some (in_list (value_at c n))) ws
unfolding list_at level
open_list c n ws = ap (λ m. image second (pair (single (exact OpenBracket)) (in_list (value_at c m))) ws) (pred n)

open_object : (c : Bool) (n : ℕ) (ws : Symbols) → object_at c (suc n) ws ≡ level (exact OpenBrace) (Some (in_object (value_at c n))) ws
unfolding object_at level
open_object c n ws = ap (λ m. image second (pair (single (exact OpenBrace)) (in_object (value_at c m))) ws) (pred n)

abbrev no_list : Bool → ℕ → Reader ValueTree
no_list c n = choice (takes (exact OpenBrace)) (level (exact OpenBrace) (Some (in_object (value_at c n)))) (simple_at c)

pub value_is_list : (c : Bool) (n : ℕ) (ws : Symbols) → takes (exact OpenBracket) (next ws) ≡ true → value_at c n ws ≡ list_at c n ws
unfolding value_at list_at level
value_is_list c zero ws t = rw t refl
value_is_list c (suc n) ws t = chose_first (takes (exact OpenBracket)) (level (exact OpenBracket) (Some (in_list (value_at c n)))) (no_list c n) ws t ∙ sym (open_list c n ws)

pub value_is_object : (c : Bool) (n : ℕ) (ws : Symbols) → takes (exact OpenBracket) (next ws) ≡ false → takes (exact OpenBrace) (next ws) ≡ true → value_at c n ws ≡ object_at c n ws
unfolding value_at object_at level
value_is_object c zero ws f t = rw (f, t) refl
value_is_object c (suc n) ws f t = chose_second (takes (exact OpenBracket)) (level (exact OpenBracket) (Some (in_list (value_at c n)))) (no_list c n) ws f
    ∙ (chose_first (takes (exact OpenBrace)) (level (exact OpenBrace) (Some (in_object (value_at c n)))) (simple_at c) ws t ∙ sym (open_object c n ws))

pub value_is_simple : (c : Bool) (n : ℕ) (ws : Symbols) → takes (exact OpenBracket) (next ws) ≡ false → takes (exact OpenBrace) (next ws) ≡ false → value_at c n ws ≡ simple_at c ws
unfolding value_at
value_is_simple c zero ws f g = rw (f, g) refl
value_is_simple c (suc n) ws f g = rw (f, g) refl

pub values_repeat : (c : Bool) (n : ℕ) → Repeats (up_to CloseBracket) (value_at c n)
values_repeat c n = repeats (up_to CloseBracket) (value_law c n n 0 n (omega arith) (omega arith)) (value_begins c 0) refl

pub fields_repeat : (c : Bool) (n : ℕ) → Repeats (up_to CloseBrace) (named_value_at (value_at c n))
fields_repeat c n = repeats (up_to CloseBrace) (field_law c 0 (omega arith) (value_law c n n 0 n (omega arith) (omega arith))) (field_begins c 0 (λ b at. refl)) refl

-- trees

pub list_tree : (v : Vec Value Global) → value_tree (ListValue v) ≡ list_value (values_from (map value_tree v.items))
unfolding value_tree Rattle.gql_base.specs.declared.parts.trees.Value.TheViews.roll-Value denote.Hole.Carrier.roll
list_tree v = fold-roll-Value ValueTree NamedValue value_step argument_step (Value-F.List v)

pub object_tree : (v : Vec Argument Global) → value_tree (ObjectValue v) ≡ object_value (fields_from (map named_value v.items))
unfolding value_tree named_value Rattle.gql_base.specs.declared.parts.trees.Value.TheViews.roll-Value denote.Hole.Carrier.roll
object_tree v = fold-roll-Value ValueTree NamedValue value_step argument_step (Value-F.Object v)

pub list_type_tree : (b : Box TypeRef Global) → type_tree (ListOf b) ≡ list_type (type_tree b.value)
unfolding type_tree Rattle.gql_base.specs.declared.parts.trees.TypeRef.TheViews.roll-TypeRef denote.Hole.Carrier.roll
list_type_tree b = fold-roll-TypeRef TypeTree type_step (TypeRef-F.ListOf b)

pub non_null_tree : (b : Box TypeRef Global) → type_tree (NonNull b) ≡ non_null_type (type_tree b.value)
unfolding type_tree Rattle.gql_base.specs.declared.parts.trees.TypeRef.TheViews.roll-TypeRef denote.Hole.Carrier.roll
non_null_tree b = fold-roll-TypeRef TypeTree type_step (TypeRef-F.NonNull b)

-- types

pub nullable_is_list : (n : ℕ) (ws : Symbols) → takes (exact OpenBracket) (next ws) ≡ true → nullable_at n ws ≡ list_type_at n ws
unfolding nullable_at list_type_at level
nullable_is_list zero ws t = rw t refl
nullable_is_list (suc n) ws t = chose_first (takes (exact OpenBracket)) (level (exact OpenBracket) (Some (in_list_type (type_at n)))) (single type_name) ws t
    ∙ sym (ap (λ m. image second (pair (single (exact OpenBracket)) (in_list_type (type_at m))) ws) (pred n))

pub nullable_is_name : (n : ℕ) (ws : Symbols) → takes (exact OpenBracket) (next ws) ≡ false → nullable_at n ws ≡ single type_name ws
unfolding nullable_at
nullable_is_name zero ws f = rw f refl
nullable_is_name (suc n) ws f = rw f refl

-- trees of values without brackets, and of names of types

pub variable_tree : (n : Name) → value_tree (VarValue n) ≡ variable_value n.text n.at
unfolding value_tree Rattle.gql_base.specs.declared.parts.trees.Value.TheViews.roll-Value denote.Hole.Carrier.roll
variable_tree n = fold-roll-Value ValueTree NamedValue value_step argument_step (Value-F.Var n)

pub integer_tree : (v : ℤ) → value_tree (IntValue v) ≡ integer_value v
unfolding value_tree Rattle.gql_base.specs.declared.parts.trees.Value.TheViews.roll-Value denote.Hole.Carrier.roll
integer_tree v = fold-roll-Value ValueTree NamedValue value_step argument_step (Value-F.Int v)

pub float_tree : (v : List ℕ) → value_tree (FloatValue v) ≡ float_value v
unfolding value_tree Rattle.gql_base.specs.declared.parts.trees.Value.TheViews.roll-Value denote.Hole.Carrier.roll
float_tree v = fold-roll-Value ValueTree NamedValue value_step argument_step (Value-F.Float v)

pub string_tree : (v : List ℕ) → value_tree (StrValue v) ≡ string_value v
unfolding value_tree Rattle.gql_base.specs.declared.parts.trees.Value.TheViews.roll-Value denote.Hole.Carrier.roll
string_tree v = fold-roll-Value ValueTree NamedValue value_step argument_step (Value-F.Str v)

pub boolean_tree : (v : Bool) → value_tree (BoolValue v) ≡ boolean_value v
unfolding value_tree Rattle.gql_base.specs.declared.parts.trees.Value.TheViews.roll-Value denote.Hole.Carrier.roll
boolean_tree v = fold-roll-Value ValueTree NamedValue value_step argument_step (Value-F.Bool v)

pub null_tree : value_tree NullValue ≡ null_value
unfolding value_tree Rattle.gql_base.specs.declared.parts.trees.Value.TheViews.roll-Value denote.Hole.Carrier.roll
null_tree = fold-roll-Value ValueTree NamedValue value_step argument_step Value-F.Null

pub enum_tree : (n : Name) → value_tree (EnumValue n) ≡ enum_value n.text n.at
unfolding value_tree Rattle.gql_base.specs.declared.parts.trees.Value.TheViews.roll-Value denote.Hole.Carrier.roll
enum_tree n = fold-roll-Value ValueTree NamedValue value_step argument_step (Value-F.EnumName n)

pub named_type_tree : (n : Name) → type_tree (NamedType n) ≡ named_type n.text n.at
unfolding type_tree Rattle.gql_base.specs.declared.parts.trees.TypeRef.TheViews.roll-TypeRef denote.Hole.Carrier.roll
named_type_tree n = fold-roll-TypeRef TypeTree type_step (TypeRef-F.Named n)
