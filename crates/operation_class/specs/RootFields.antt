-- The fields at the root of an operation: those of its selection set and of the fragments that are spread there, in the order
-- in which a walk comes to them that enters each fragment where it is spread first (GraphQL October 2021, 6.3.2). Directives
-- and type conditions aren't looked at. Of several fragments of one name the first is entered, and a spread of an unknown one
-- is passed over.
use Rattle.std.specs.Prelude.{ℕ, zero, suc, ◌+◌, Bool, true, false, List, [], ◌∷◌, ◌++◌, length, replicate, set, get_or, slice_get, Option, None, Some, if◌then◌else◌}
use Rattle.gql_base.specs.names.Names.{place_of_name}
use Rattle.gql_base.specs.ways.Reading.{Identifier}
use Rattle.document_reader.specs.Documents.{SelectionTrees}
use Rattle.document_rules.specs.Parts.{FragmentData, fragment_data, fragment_name}
use Rattle.operation_class.specs.declared.root_fields.Defined.{Defined}
use Rattle.operation_class.specs.RootParts.{RootPart, field_part, spread_part, root_parts}

abbrev pub defined_data : Defined → FragmentData
defined_data d = fragment_data d.fragment.now

abbrev pub parts_in : Option FragmentData → List RootPart
parts_in None = []
parts_in (Some f) = root_parts f.below

module _ (fragments : List FragmentData) where
  -- In these `go` is the rest of the walk, from the marks of the fragments that were visited and the parts that wait.

  abbrev pub after_visit : (List Bool → List RootPart → List Identifier) → List Bool → ℕ → List RootPart → List Identifier
  after_visit go visited number parts =
      if get_or visited number false then go visited parts else go (set visited number true) (parts_in (slice_get fragments number) ++ parts)

  abbrev pub after_spread : (List Bool → List RootPart → List Identifier) → List Bool → List RootPart → Option ℕ → List Identifier
  after_spread go visited parts None = go visited parts
  after_spread go visited parts (Some number) = after_visit go visited number parts

  -- the fields to which the walk comes in at most so many steps
  unfoldable pub fields_within : ℕ → List Bool → List RootPart → List Identifier
  fields_within zero visited parts = []
  fields_within (suc steps) visited [] = []
  fields_within (suc steps) visited (field_part name ∷ parts) = name ∷ fields_within steps visited parts
  fields_within (suc steps) visited (spread_part fragment ∷ parts) = after_spread (fields_within steps) visited parts (place_of_name fragment_name fragments fragment)

-- how many parts stand in fragments
abbrev pub count_parts : List FragmentData → ℕ
count_parts [] = 0
count_parts (f ∷ fragments) = length (root_parts f.below) + count_parts fragments

-- The walk comes to each part once at most, so it ends within these steps.
abbrev pub root_fields : List FragmentData → SelectionTrees → List Identifier
root_fields fragments selections =
    fields_within fragments (length (root_parts selections) + count_parts fragments) (replicate (length fragments) false) (root_parts selections)
