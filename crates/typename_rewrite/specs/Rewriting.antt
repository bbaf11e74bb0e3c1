-- The document that is sent in place of an operation's own: the operation, and behind it the fragments that it reaches. Where a
-- field's type is an interface or a union, its selections end with the name of the object's type, under an alias.
use Rattle.std.specs.Prelude.{ℕ, Bool, List, [], ◌∷◌, map, Option, Some, if◌then◌else◌}
use Rattle.gql_base.specs.parts.Values.{NamedValue}
use Rattle.gql_base.specs.parts.Trees.{directive_tree}
use Rattle.document_reader.specs.declared.trees.Operation.{Operation}
use Rattle.document_reader.specs.Documents.{FieldNames, SelectionTree, field_selection, fragment_spread, inline_fragment, SelectionTrees, no_selection, selection_then, DefinitionTree, operation_tree, fragment_tree}
use Rattle.document_reader.specs.Trees.{maybe_identifier, variable_tree, set_tree}
use Rattle.schema_model.specs.SchemaData.{SchemaData}
use Rattle.document_rules.specs.Parts.{FragmentData}
use Rattle.document_rules.specs.Sites.{name_of_field, typename, composite_named, below_inline}
use Rattle.plan_model.specs.SelectedFields.{FieldCall, written_below, is_asked}

-- the name of an object's type under an alias: `alias: __typename`
abbrev pub typename_under : List ℕ → SelectionTree
typename_under alias = field_selection ((alias, 0), Some (typename, 0)) [] [] no_selection

-- selections with one more at their end
unfoldable pub and_then : SelectionTrees → SelectionTree → SelectionTrees
and_then no_selection last = selection_then last no_selection
and_then (selection_then x others) last = selection_then x (and_then others last)

-- A selection set with the name of the object's type at its end, where it is asked for. Where there is no selection set,
-- none is added.
abbrev pub ended : List ℕ → Bool → SelectionTrees → SelectionTrees
ended alias asked no_selection = no_selection
ended alias asked (selection_then x others) = if asked then and_then (selection_then x others) (typename_under alias) else selection_then x others

-- a field as it is written
abbrev pub call_of : FieldNames → List NamedValue → FieldCall
call_of names arguments = record { name = (name_of_field names).0; arguments = arguments }

module _ (s : SchemaData) (alias : List ℕ) where
  -- Selections by the type on which they are written. The set below a field is ended where the field's type on it is an
  -- interface or a union. Those of fragments have no end of their own.
  unfoldable mutual
    pub rewritten_selection : Option ℕ → SelectionTree → SelectionTree
    rewritten_selection parent (field_selection names arguments directives below) =
        field_selection names arguments directives (ended alias (is_asked s parent (call_of names arguments)) (rewritten_selections (written_below s parent (call_of names arguments)) below))
    rewritten_selection parent (fragment_spread name directives) = fragment_spread name directives
    rewritten_selection parent (inline_fragment on directives below) = inline_fragment on directives (rewritten_selections (below_inline s parent on) below)

    pub rewritten_selections : Option ℕ → SelectionTrees → SelectionTrees
    rewritten_selections parent no_selection = no_selection
    rewritten_selections parent (selection_then x others) = selection_then (rewritten_selection parent x) (rewritten_selections parent others)

  -- A fragment's selections are written on its own type.
  abbrev pub rewritten_fragment : FragmentData → FragmentData
  rewritten_fragment f = record { name = f.name; on = f.on; directives = f.directives; below = rewritten_selections (composite_named s f.on.0) f.below }

  -- an operation whose selections are written on the type of this number
  abbrev pub rewritten_operation : ℕ → Operation → DefinitionTree
  rewritten_operation root o = operation_tree o.kind (maybe_identifier o.name) (map variable_tree o.variables.items) (map directive_tree o.directives.items) (rewritten_selections (Some root) (set_tree o.selections.items))

  abbrev pub rewritten_definition : FragmentData → DefinitionTree
  rewritten_definition f = fragment_tree f.name f.on f.directives (rewritten_fragment f).below

  -- the operation, and behind it these fragments in their order
  unfoldable pub rewritten_document : ℕ → Operation → List FragmentData → List DefinitionTree
  rewritten_document root o fragments = rewritten_operation root o ∷ map rewritten_definition fragments
