-- What stands at the root of a selection set: fields by their names, and spreads of fragments by the fragments'. What stands
-- in an inline fragment stands where that fragment does.
use Rattle.std.specs.Prelude.{ℕ, List, [], ◌∷◌, ◌++◌, map, reverse}
use Rattle.gql_base.specs.ways.Reading.{Identifier}
use Rattle.gql_base.specs.parts.Trees.{identifier_of}
use Rattle.document_reader.specs.Documents.{SelectionTree, field_selection, fragment_spread, inline_fragment, SelectionTrees, no_selection, selection_then}
use Rattle.document_rules.specs.Sites.{name_of_field}
use Rattle.operation_class.specs.declared.root_parts.Part.{Part}
use Rattle.operation_class.specs.declared.root_parts.Part.TheVariants.{Field, Spread}

pub data RootPart : Type 0 where
  field_part : (name : Identifier) → RootPart
  spread_part : (fragment : List ℕ) → RootPart

unfoldable mutual
  pub parts_of_one : SelectionTree → List RootPart
  parts_of_one (field_selection names arguments directives below) = field_part (name_of_field names) ∷ []
  parts_of_one (fragment_spread name directives) = spread_part name.0 ∷ []
  parts_of_one (inline_fragment on directives below) = root_parts below

  pub root_parts : SelectionTrees → List RootPart
  root_parts no_selection = []
  root_parts (selection_then s others) = parts_of_one s ++ root_parts others

-- ---- the program's parts

abbrev pub part_data : Part → RootPart
part_data (Field name) = field_part (identifier_of name.now)
part_data (Spread fragment) = spread_part fragment.now

-- the parts that wait, of which the next one stands last
abbrev pub waiting : List Part → List RootPart
waiting parts = map part_data (reverse parts)
