-- The definitions of a document, as rules look at them.
use Rattle.std.specs.Prelude.{ℕ, List, [], ◌∷◌, map, get_or, slice_get, Option, None, Some}
use Rattle.gql_base.specs.ways.Reading.{Identifier}
use Rattle.gql_base.specs.parts.Arguments.{DirectiveTree}
use Rattle.gql_base.specs.parts.Trees.{identifier_of, directive_tree}
use Rattle.gql_base.specs.names.Names.{first_repeated}
use Rattle.document_reader.specs.declared.trees.Operation.{Operation}
use Rattle.document_reader.specs.declared.trees.Fragment.{Fragment}
use Rattle.document_reader.specs.declared.trees.Definition.{Definition}
use Rattle.document_reader.specs.declared.trees.Definition.TheVariants.{Op, Frag}
use Rattle.document_reader.specs.Documents.{SelectionTrees}
use Rattle.document_reader.specs.Trees.{set_tree}

-- a fragment's name, the type that it is on, its directives and its selections
pub record FragmentData : Type 0 where
  pub name : Identifier
  pub on : Identifier
  pub directives : List DirectiveTree
  pub below : SelectionTrees

abbrev pub fragment_data : Fragment → FragmentData
fragment_data f = record { name = identifier_of f.name; on = identifier_of f.on; directives = map directive_tree f.directives.items; below = set_tree f.selections.items }

abbrev pub fragment_name : FragmentData → List ℕ
fragment_name f = f.name.0

abbrev pub before_operations : Definition → List Operation → List Operation
before_operations (Op o) others = o ∷ others
before_operations (Frag f) others = others

-- the operations of a document, in their order
abbrev pub operations_of : List Definition → List Operation
operations_of [] = []
operations_of (d ∷ definitions) = before_operations d (operations_of definitions)

abbrev pub before_fragments : Definition → List Fragment → List Fragment
before_fragments (Op o) others = others
before_fragments (Frag f) others = f ∷ others

-- the fragments of a document, in their order; they have numbers from 0 on
abbrev pub fragments_of : List Definition → List Fragment
fragments_of [] = []
fragments_of (d ∷ definitions) = before_fragments d (fragments_of definitions)

abbrev pub operation_in : Option Definition → Option Operation
operation_in None = None
operation_in (Some (Op o)) = Some o
operation_in (Some (Frag f)) = None

-- the operation at a place among the definitions
abbrev pub operation_at : List Definition → ℕ → Option Operation
operation_at definitions place = operation_in (slice_get definitions place)

-- ---- names with their offsets

abbrev pub name_text : Identifier → List ℕ
name_text name = name.0

abbrev pub offset_at : List Identifier → Option ℕ → Option ℕ
offset_at names None = None
offset_at names (Some place) = Some (get_or names place ([], 0)).1

-- the offset of the first name that stands before it
abbrev pub repeated_at : List Identifier → Option ℕ
repeated_at names = offset_at names (first_repeated (map name_text names))
