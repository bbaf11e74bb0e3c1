-- What rules look at, one thing at a time: the parts of an operation and of the fragments that it reaches, in the order of
-- the text, the operation first and then the fragments in the order in which they are met.
use Rattle.std.specs.Prelude.{ℕ, ◌+◌, Bool, true, false, List, [], ◌∷◌, ◌++◌, map, slice_get, codes, Option, None, Some, if◌then◌else◌}
use Rattle.std.specs.Str.{bytes_eq}
use Rattle.gql_base.specs.declared.parts.trees.OperationKind.{OperationKind}
use Rattle.gql_base.specs.declared.parts.trees.OperationKind.TheVariants.{Query, Mutation, Subscription}
use Rattle.gql_base.specs.ways.Reading.{Identifier}
use Rattle.gql_base.specs.parts.Values.{NamedValue}
use Rattle.gql_base.specs.parts.Arguments.{DirectiveTree}
use Rattle.gql_base.specs.parts.Trees.{directive_tree}
use Rattle.document_reader.specs.declared.trees.Operation.{Operation}
use Rattle.document_reader.specs.Documents.{FieldNames, SelectionTree, field_selection, fragment_spread, inline_fragment, SelectionTrees, no_selection, selection_then, VariableTree}
use Rattle.document_reader.specs.Trees.{variable_tree, set_tree}
use Rattle.input_values.specs.coercion.Places.{innermost}
use Rattle.schema_rules.specs.Kinds.{is_output_only}
use Rattle.schema_model.specs.SchemaData.{SchemaData, type_at, field_at, type_named, field_named, root_of}
use Rattle.document_rules.specs.Parts.{FragmentData}
use Rattle.document_rules.specs.Met.{Met}

-- what the name of a field means where it is written
pub data Meaning : Type 0 where
  -- it isn't written on a composite type that is known
  no_position : Meaning
  -- the type has no such field
  no_such_field : Meaning
  -- the name of the object's type, which every composite type has (GraphQL October 2021, 4.4)
  name_of_type : Meaning
  -- the field of this number
  known_field : ℕ → Meaning

-- A part that rules look at. A field's selections, a fragment's and an operation's are parts of their own.
pub data Site : Type 0 where
  variable_site : VariableTree → Site
  -- an operation after its variables
  operation_site : (variables : List VariableTree) (directives : List DirectiveTree) → Site
  fragment_site : (on : Identifier) (directives : List DirectiveTree) → Site
  field_site : (meaning : Meaning) (name : Identifier) (arguments : List NamedValue) (directives : List DirectiveTree) (has_selections : Bool) → Site
  -- a spread, and the place among the fragments that were met of the one in which it stands
  spread_site : (within : Option ℕ) (name : Identifier) (directives : List DirectiveTree) → Site
  inline_site : (on : Option Identifier) (directives : List DirectiveTree) → Site

-- a field's name: the second of its names where the first is an alias
abbrev pub name_of_field : FieldNames → Identifier
name_of_field (name, None) = name
name_of_field (alias, Some name) = name

abbrev pub typename : List ℕ
typename = codes "__typename"

abbrev pub has_selections : SelectionTrees → Bool
has_selections no_selection = false
has_selections (selection_then s others) = true

-- the type of operations of a kind, those of subscriptions aside
abbrev pub type_of_kind : SchemaData → OperationKind → Option ℕ
type_of_kind s Query = root_of s false
type_of_kind s Mutation = root_of s true
type_of_kind s Subscription = None

module _ (s : SchemaData) where
  -- whether a type is an object, interface or union type
  abbrev pub is_composite : ℕ → Bool
  is_composite number = is_output_only (type_at s number).kind

  abbrev pub when_composite : Option ℕ → Option ℕ
  when_composite None = None
  when_composite (Some number) = if is_composite number then Some number else None

  -- the composite type of this name
  abbrev pub composite_named : List ℕ → Option ℕ
  composite_named name = when_composite (type_named s name)

  abbrev pub field_or_none : Option ℕ → Meaning
  field_or_none None = no_such_field
  field_or_none (Some field) = known_field field

  -- what a field's name means on a composite type
  abbrev pub meaning_on : Option ℕ → List ℕ → Meaning
  meaning_on None name = no_position
  meaning_on (Some parent) name = if bytes_eq name typename then name_of_type else field_or_none (field_named s parent name)

  -- the named type of a field
  abbrev pub type_of_field : ℕ → ℕ
  type_of_field field = innermost (field_at s field).shape

  -- the composite type on which a field's selections are written
  abbrev pub below_field : Meaning → Option ℕ
  below_field no_position = None
  below_field no_such_field = None
  below_field name_of_type = None
  below_field (known_field field) = when_composite (Some (type_of_field field))

  -- the composite type on which an inline fragment's selections are written
  abbrev pub below_inline : Option ℕ → Option Identifier → Option ℕ
  below_inline None on = None
  below_inline (Some parent) None = Some parent
  below_inline (Some parent) (Some on) = composite_named on.0

  -- the parts of selections that stand in a fragment that was met, on a type
  unfoldable mutual
    pub sites_in_one : Option ℕ → Option ℕ → SelectionTree → List Site
    sites_in_one within parent (field_selection names arguments directives below) =
        field_site (meaning_on parent (name_of_field names).0) (name_of_field names) arguments directives (has_selections below)
        ∷ sites_in within (below_field (meaning_on parent (name_of_field names).0)) below
    sites_in_one within parent (fragment_spread name directives) = spread_site within name directives ∷ []
    sites_in_one within parent (inline_fragment on directives below) = inline_site on directives ∷ sites_in within (below_inline parent on) below

    pub sites_in : Option ℕ → Option ℕ → SelectionTrees → List Site
    sites_in within parent no_selection = []
    sites_in within parent (selection_then x others) = sites_in_one within parent x ++ sites_in within parent others

  -- the parts of an operation whose selections are written on a type
  abbrev pub sites_of_operation : Option ℕ → Operation → List Site
  sites_of_operation root o =
      map variable_site (map variable_tree o.variables.items)
      ++ (operation_site (map variable_tree o.variables.items) (map directive_tree o.directives.items) ∷ sites_in None root (set_tree o.selections.items))

  -- the parts of a fragment at a place among those that were met
  abbrev pub sites_of_fragment : ℕ → Option FragmentData → List Site
  sites_of_fragment place None = []
  sites_of_fragment place (Some f) = fragment_site f.on f.directives ∷ sites_in (Some place) (composite_named f.on.0) f.below

  -- the parts of the fragments that were met, where the first has this place
  abbrev pub sites_of_met : List FragmentData → ℕ → List Met → List Site
  sites_of_met fragments place [] = []
  sites_of_met fragments place (m ∷ met) = sites_of_fragment place (slice_get fragments m.fragment) ++ sites_of_met fragments (place + 1) met

  -- all that is looked at
  abbrev pub all_sites : Option ℕ → List FragmentData → List Met → Operation → List Site
  all_sites root fragments met o = sites_of_operation root o ++ sites_of_met fragments 0 met

-- the directives that stand at a part
abbrev pub directives_at : Site → List DirectiveTree
directives_at (variable_site v) = v.3
directives_at (operation_site variables directives) = directives
directives_at (fragment_site on directives) = directives
directives_at (field_site meaning name arguments directives below) = directives
directives_at (spread_site within name directives) = directives
directives_at (inline_site on directives) = directives

-- the arguments of a field
abbrev pub arguments_at : Site → List NamedValue
arguments_at (variable_site v) = []
arguments_at (operation_site variables directives) = []
arguments_at (fragment_site on directives) = []
arguments_at (field_site meaning name arguments directives below) = arguments
arguments_at (spread_site within name directives) = []
arguments_at (inline_site on directives) = []
