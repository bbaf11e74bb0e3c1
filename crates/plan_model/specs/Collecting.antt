-- The fields that selections have for objects of an object type (CollectFields; GraphQL October 2021, 6.3.2), in the order of
-- the document. A fragment that is spread again gives its fields again.
use Rattle.std.specs.Prelude.{ℕ, ◌+◌, zero, suc, Bool, true, false, not, List, [], ◌∷◌, ◌++◌, flat_map, length, codes, option_and_then, Option, None, Some, if◌then◌else◌}
use Rattle.std.specs.List.{list_any}
use Rattle.std.specs.Str.{bytes_eq}
use Rattle.gql_base.specs.ways.Reading.{Identifier}
use Rattle.gql_base.specs.names.Names.{first_of_name}
use Rattle.gql_base.specs.parts.Values.{ValueTree, variable_value, boolean_value}
use Rattle.gql_base.specs.parts.Arguments.{DirectiveTree}
use Rattle.document_reader.specs.Documents.{SelectionTree, field_selection, fragment_spread, inline_fragment, SelectionTrees, no_selection, selection_then}
use Rattle.input_values.specs.values.Coerced.{CoercedTree, coerced_boolean}
use Rattle.input_values.specs.coercion.Literals.{Environment}
use Rattle.schema_model.specs.SchemaData.{SchemaData, type_named, applies}
use Rattle.document_rules.specs.Parts.{FragmentData, fragment_name}
use Rattle.document_rules.specs.Sites.{name_of_field, composite_named, below_inline}
use Rattle.plan_model.specs.SelectedFields.{Setting, FieldCall, argument_name}

-- ---- `@skip` and `@include`

abbrev pub truth_held : Option CoercedTree → Option Bool
truth_held (Some (coerced_boolean b)) = Some b
truth_held value = None

-- a truth value, or that of a variable; null is neither
abbrev pub truth_in : Environment → ValueTree → Option Bool
truth_in values (boolean_value b) = Some b
truth_in values (variable_value name at) = truth_held (values name)
truth_in values value = None

abbrev pub condition_of : Environment → DirectiveTree → Option Bool
condition_of values d = option_and_then (λ a. truth_in values a.1) (first_of_name argument_name d.1 (codes "if"))

abbrev pub is_true : Option Bool → Bool
is_true (Some b) = b
is_true None = false

abbrev pub is_false : Option Bool → Bool
is_false (Some b) = not b
is_false None = false

-- A selection is left out where `@skip` is true or `@include` is false.
abbrev pub leaves_out : Environment → DirectiveTree → Bool
leaves_out values d =
    if bytes_eq d.0.0 (codes "skip") then is_true (condition_of values d)
    else if bytes_eq d.0.0 (codes "include") then is_false (condition_of values d)
    else false

abbrev pub directives_of : SelectionTree → List DirectiveTree
directives_of (field_selection names arguments directives below) = directives
directives_of (fragment_spread name directives) = directives
directives_of (inline_fragment on directives below) = directives

unfoldable pub is_included : Environment → SelectionTree → Bool
is_included values s = not (list_any (leaves_out values) (directives_of s))

-- ---- fragments

abbrev pub applies_where : SchemaData → ℕ → Option ℕ → Bool
applies_where s T None = false
applies_where s T (Some on) = applies s on T

-- whether a fragment on the type of this name applies to objects of the type T
unfoldable pub applies_by_name : SchemaData → ℕ → List ℕ → Bool
applies_by_name s T on = applies_where s T (type_named s on)

-- without a condition it applies
abbrev pub applies_if_named : SchemaData → ℕ → Option Identifier → Bool
applies_if_named s T None = true
applies_if_named s T (Some on) = applies_by_name s T on.0

unfoldable pub fragment_named : Setting → List ℕ → Option FragmentData
fragment_named e name = first_of_name fragment_name e.fragments name

-- As no fragment comes back to itself, fragments nest less deep than this.
abbrev pub nesting : Setting → ℕ
nesting e = length e.fragments + 2

-- ---- fields

-- A field that is collected: the type on which it is written, its response key, the field, and its selections.
pub record CollectedField : Type 0 where
  pub parent : Option ℕ
  pub key : List ℕ
  pub call : FieldCall
  pub below : SelectionTrees

-- selections with the type on which they are written
abbrev pub WrittenSelections : Type 0
WrittenSelections = Option ℕ × SelectionTrees

-- those of a fragment
abbrev pub written_in : SchemaData → FragmentData → WrittenSelections
written_in s f = (composite_named s f.on.0, f.below)

module _ (e : Setting) (T : ℕ) where
  -- In these `spread` says what the fragment of a name gives.
  abbrev mutual
    pub fields_of : (List ℕ → List CollectedField) → Option ℕ → SelectionTree → List CollectedField
    fields_of spread parent (field_selection names arguments directives below) = record { parent = parent; key = names.0.0; call = record { name = (name_of_field names).0; arguments = arguments }; below = below } ∷ []
    fields_of spread parent (fragment_spread name directives) = spread name.0
    fields_of spread parent (inline_fragment on directives below) = if applies_if_named e.schema T on then fields_in spread (below_inline e.schema parent on) below else []

    pub fields_in : (List ℕ → List CollectedField) → Option ℕ → SelectionTrees → List CollectedField
    fields_in spread parent no_selection = []
    fields_in spread parent (selection_then s others) = (if is_included e.values s then fields_of spread parent s else []) ++ fields_in spread parent others

  abbrev pub fields_written : (List ℕ → List CollectedField) → WrittenSelections → List CollectedField
  fields_written spread written = fields_in spread written.0 written.1

  abbrev pub fields_entered : (List ℕ → List CollectedField) → Option FragmentData → List CollectedField
  fields_entered spread None = []
  fields_entered spread (Some f) = if applies_by_name e.schema T f.on.0 then fields_written spread (written_in e.schema f) else []

  -- the fields of a fragment, where fragments are entered to this depth
  unfoldable pub fields_spread : ℕ → List ℕ → List CollectedField
  fields_spread zero name = []
  fields_spread (suc depth) name = fields_entered (fields_spread depth) (fragment_named e name)

  abbrev pub collected_to : ℕ → List WrittenSelections → List CollectedField
  collected_to depth selections = flat_map (fields_written (fields_spread depth)) selections

  unfoldable pub collected : List WrittenSelections → List CollectedField
  collected selections = collected_to (nesting e) selections
