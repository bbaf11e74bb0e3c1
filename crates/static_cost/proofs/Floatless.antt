-- The response that is read from rows holds no float.
use Rattle.std.proofs.Common.{◌≡◌, ℕ, zero, suc, List, [], ◌∷◌, map, drop, get_or, Bool, true, false, cond, ltb, eqb, ◌&&◌, Option, Some, None, refl, subst, sym, if◌then◌else◌}
use Rattle.std.proofs.lemmas.List.{drop-map}
use Rattle.serde_json.specs.Written.{has_float}
use Rattle.input_values.specs.coercion.Kinds.{scalar_kind}
use Rattle.input_values.specs.declared.inputs.types.InputKind.{InputKind}
use Rattle.input_values.specs.declared.inputs.types.InputKind.TheVariants.{Int, String, Boolean, Float, Id, Custom, Lax, Enum as EnumInput, Object as ObjectInput, None as NoInput}
use Rattle.response_model.specs.Plan.{Form, single, listed}
use Rattle.response_model.specs.Response.{Tree, no_entry, object, Entries}
use Rattle.response_model.specs.Filled.{repeated, filled_in, filled_count}
use Rattle.schema_rules.specs.declared.kind.Kind.{Kind}
use Rattle.schema_rules.specs.declared.kind.Kind.TheVariants.{Scalar, Object, Interface, Union, Enum, Input}
use Rattle.schema_model.specs.declared.entries.FieldId.{FieldId}
use Rattle.schema_model.specs.SchemaData.{TypeData, type_at, possible}
use Rattle.document_rules.specs.Sites.{is_composite, type_of_field}
use Rattle.plan_model.specs.SelectedFields.{Setting, object_place, place_of, leaf_of, fill_by, scalar_fill}
use Rattle.plan_table.specs.declared.rows.NodeRow.{NodeRow}
use Rattle.plan_table.specs.declared.table.Plan.{Plan}
use Rattle.plan_table.specs.Rows.{Row, Below, leaf_below, objects_below}
use Rattle.plan_table.specs.Tables.{meaning_of, below_at, row_of, row_in, setting_in}
use Rattle.response_model.specs.WrittenJson.{IsFloatless, AreFloatless, HaveFloatless}
use Rattle.static_cost.specs.Choices.{item_by, entries_by}
use Rattle.static_cost.specs.Filling.{entries_from_row}

scalar_floatless : (kind : InputKind) → has_float (scalar_fill kind) ≡ false
scalar_floatless Int = refl
scalar_floatless String = refl
scalar_floatless Boolean = refl
scalar_floatless Float = refl
scalar_floatless Id = refl
scalar_floatless Custom = refl
scalar_floatless Lax = refl
scalar_floatless EnumInput = refl
scalar_floatless ObjectInput = refl
scalar_floatless NoInput = refl

fill_floatless : (kind : Kind) (t : TypeData) → has_float (fill_by kind t) ≡ false
fill_floatless Enum t = refl
fill_floatless Scalar t = scalar_floatless (scalar_kind t.lax t.name)
fill_floatless Object t = scalar_floatless (scalar_kind t.lax t.name)
fill_floatless Interface t = scalar_floatless (scalar_kind t.lax t.name)
fill_floatless Union t = scalar_floatless (scalar_kind t.lax t.name)
fill_floatless Input t = scalar_floatless (scalar_kind t.lax t.name)

abbrev BelowFloatless : Below → Type 0
BelowFloatless (leaf_below type weight fill) = has_float fill ≡ false
BelowFloatless (objects_below possible) = Unit {0}

type_floatless : (e : Setting) (of : ℕ) (b : Bool) → BelowFloatless (below_at e (if b then object_place (possible e.schema of) else leaf_of e of))
type_floatless e of true = tt
type_floatless e of false = fill_floatless (type_at e.schema of).kind (type_at e.schema of)

below_floatless : (e : Setting) (T : ℕ) (field : Option FieldId) → BelowFloatless (below_at e (place_of e T (meaning_of field)))
below_floatless e T None = refl
below_floatless e T (Some field) = type_floatless e (type_of_field e.schema field.number) (is_composite e.schema (type_of_field e.schema field.number))

item_floatless : (below : Below) (on : ℕ) (es : Entries) → BelowFloatless below → HaveFloatless es → IsFloatless (item_by below on es)
item_floatless (leaf_below type weight fill) on es clean inside = clean
item_floatless (objects_below possible) on es clean inside = inside

repeated_floatless : (n : ℕ) (t : Tree) → IsFloatless t → AreFloatless (repeated n t)
repeated_floatless zero t clean = tt
repeated_floatless (suc n) t clean = (clean, repeated_floatless n t clean)

value_floatless : (form : Form) (size : Option ℕ) (t : Tree) → IsFloatless t → IsFloatless (filled_in form size t)
value_floatless (single nullable) size t clean = clean
value_floatless (listed nullable item_nullable) size t clean = repeated_floatless (filled_count size) t clean

either_floatless : (b : Bool) (es fs : Entries) → HaveFloatless es → HaveFloatless fs → HaveFloatless (cond b es fs)
either_floatless true es fs a b = a
either_floatless false es fs a b = b

entries_floatless : (p : Plan) (d T : ℕ) (rows : List NodeRow) (choices : List ℕ) → HaveFloatless (entries_by d T (map (row_in p) rows) choices)
unfolding entries_by row_of
entries_floatless p d T [] choices = tt
entries_floatless p d T (n ∷ rows) choices =
    let others = entries_floatless p d T rows (drop 1 choices) in
    let value = value_floatless (row_in p n).selected.form (row_in p n).selected.size (item_by (row_in p n).below (get_or choices 0 0) (entries_by (suc n.depth) (get_or choices 0 0) (map (row_in p) rows) (drop 1 choices)))
    (item_floatless (row_in p n).below (get_or choices 0 0) (entries_by (suc n.depth) (get_or choices 0 0) (map (row_in p) rows) (drop 1 choices)) (below_floatless (setting_in p) n.on.number n.field)
    (entries_floatless p (suc n.depth) (get_or choices 0 0) rows (drop 1 choices))) in
    either_floatless (ltb n.depth d) no_entry _ tt (either_floatless (eqb n.depth d && eqb n.on.number T) _ (entries_by d T (map (row_in p) rows) (drop 1 choices)) (value, others) others)

-- So is what was filled from a row on.
pub filled_floatless : (p : Plan) (choices : List ℕ) (from d T : ℕ) (tree : Tree) (entries : Entries) → tree ≡ object T entries → entries ≡ entries_from_row p choices from d T → IsFloatless tree
filled_floatless p choices from d T tree entries made read =
    subst IsFloatless (sym made)
    (subst HaveFloatless (sym read)
    (subst (λ (xs : List Row). HaveFloatless (entries_by d T xs (drop from choices))) (sym (drop-map (row_in p) from p.rows.items)) (entries_floatless p d T (drop from p.rows.items) (drop from choices))))
