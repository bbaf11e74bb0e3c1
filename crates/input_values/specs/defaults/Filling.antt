-- Drafts in the program, and the values of defaults that were found so far.
use Rattle.std.specs.Prelude.{ℕ, suc, List, [], ◌∷◌, map, Option, Some, None, option_map, slice_get}
use Rattle.std.specs.Borrow.{Bor}
use Rattle.std.specs.BTreeMap.{BTreeMap, get}
use Rattle.std.specs.declared.cmp.Ordering.{Ordering}
use Rattle.std.specs.Ordering.{nat_cmp, ordering_then}
use Rattle.gql_base.specs.declared.parts.trees.Value.{Value}
use Rattle.gql_base.specs.parts.Trees.{value_tree}
use Rattle.gql_base.specs.parts.Values.{ValueTree}
use Rattle.input_values.specs.values.Coerced.{CoercedTree, coerced_tree}
use Rattle.input_values.specs.declared.values.coerced.Coerced.{Coerced}
use Rattle.input_values.specs.declared.defaults.filled.FilledTypes.{FilledTypes}
use Rattle.input_values.specs.inputs.Shapes.{ShapeTree, shape_tree}
use Rattle.input_values.specs.coercion.Forms.{Absence, takes_default, is_required, absence_of, FieldForm, InputForm, enum_form, object_form, no_form}
use Rattle.input_values.specs.coercion.Kinds.{scalar_form_of}
use Rattle.input_values.specs.defaults.Drafts.{FieldDraft, Draft, settled, drafted}
use Rattle.input_values.specs.declared.defaults.drafts.DraftField.{DraftField}
use Rattle.input_values.specs.declared.defaults.drafts.DraftType.{DraftType}
use Rattle.input_values.specs.declared.defaults.drafts.DraftType.TheVariants.{Simple, Enum as EnumDraft, Object as ObjectDraft}

abbrev pub literal_seen : Option (Bor Value) → Option ValueTree
literal_seen None = None
literal_seen (Some v) = Some (value_tree v.now)

abbrev pub field_draft : DraftField → FieldDraft
field_draft f = record { name = f.name.now; shape = shape_tree f.shape; default = literal_seen f.default }

abbrev pub type_draft : DraftType → Draft
type_draft (Simple kind) = settled (scalar_form_of kind)
type_draft (EnumDraft names) = settled (enum_form (map (λ n. n.now) names.items.items))
type_draft (ObjectDraft fields) = drafted (map field_draft fields.items.items)

abbrev pub draft_or : Option DraftType → Draft
draft_or None = settled no_form
draft_or (Some t) = type_draft t

-- the drafts of types, by their numbers
abbrev pub drafts : List DraftType → ℕ → Draft
drafts types of = draft_or (slice_get types of)

-- the values of defaults, by the number of the type and the place of the field
abbrev pub Table : Type 0
Table = ℕ → ℕ → Option CoercedTree

abbrev pub table_absence : Option ValueTree → Option CoercedTree → ShapeTree → Absence
table_absence None value shape = absence_of shape
table_absence (Some literal) (Some t) shape = takes_default t
table_absence (Some literal) None shape = is_required

abbrev pub table_field : Option CoercedTree → FieldDraft → FieldForm
table_field value f = record { name = f.name; shape = f.shape; absence = table_absence f.default value f.shape }

-- the fields from the n-th on, beside the values of their defaults
abbrev pub table_fields : (ℕ → Option CoercedTree) → ℕ → List FieldDraft → List FieldForm
table_fields values n [] = []
table_fields values n (f ∷ fs) = table_field (values n) f ∷ table_fields values (suc n) fs

abbrev pub table_form : (ℕ → Option CoercedTree) → Draft → InputForm
table_form values (settled form) = form
table_form values (drafted fields) = object_form (table_fields values 0 fields)

abbrev pub table_forms : (ℕ → Draft) → Table → ℕ → InputForm
table_forms draft table of = table_form (table of) (draft of)

-- the order of places
abbrev pub pair_cmp : ℕ × ℕ → ℕ × ℕ → Ordering
pair_cmp = λ x y. ordering_then (nat_cmp x.0 y.0) (nat_cmp x.1 y.1)

-- the values that a map of places holds
abbrev pub table_of : BTreeMap (ℕ × ℕ) Coerced → Table
table_of values of at = option_map coerced_tree (get pair_cmp values (of, at))

abbrev pub filled_forms : FilledTypes → ℕ → InputForm
filled_forms t = table_forms (drafts t.types.items) (table_of t.values)

-- a list that may be left out
abbrev pub listed : {A : Type 0} → Option (List A) → List A
listed None = []
listed (Some xs) = xs
