-- What serves proofs: the walk over root fields, step after step.
use Rattle.std.specs.Prelude.{◌≡◌, ◌≤◌, ℕ, suc, ◌+◌, Bool, true, false, List, [], ◌∷◌, ◌++◌, map, length}
use Rattle.std.specs.Borrow.{Bor}
use Rattle.gql_base.specs.declared.parts.trees.Name.{Name}
use Rattle.document_rules.specs.Parts.{FragmentData}
use Rattle.document_rules.specs.Views.{seen_name}
use Rattle.operation_class.specs.declared.root_fields.Defined.{Defined}
use Rattle.operation_class.specs.declared.root_parts.Part.{Part}
use Rattle.operation_class.specs.RootParts.{RootPart, root_parts, waiting}
use Rattle.operation_class.specs.RootFields.{defined_data, after_visit, fields_within}

abbrev pub data_of : List Defined → List FragmentData
data_of defined = map defined_data defined

-- how many parts stand in fragments that weren't visited
abbrev pub unvisited : List Bool → List FragmentData → ℕ
unvisited [] fragments = 0
unvisited (mark ∷ marks) [] = 0
unvisited (true ∷ marks) (f ∷ fragments) = unvisited marks fragments
unvisited (false ∷ marks) (f ∷ fragments) = length (root_parts f.below) + unvisited marks fragments

-- no more parts may still come than before
abbrev pub LeavesFewer : List Defined → List Bool → List Part → List Bool → List Part → Type 0
LeavesFewer defined visited parts later_visited later_parts =
    length later_parts + unvisited later_visited (data_of defined) ≤ length parts + unvisited visited (data_of defined)

-- the walk goes on from here as it does where it comes to a fragment there
abbrev pub Enters : List Defined → ℕ → List Bool → List Part → List Bool → List Part → Type 0
Enters defined number visited parts later_visited later_parts =
    (n : ℕ) → after_visit (data_of defined) (fields_within (data_of defined) n) visited number (waiting parts) ≡ fields_within (data_of defined) n later_visited (waiting later_parts)

-- the names that were found, with those that the walk still comes to, are what they were before the step
abbrev pub Steps : List Defined → RootPart → List (Bor Name) → List Bool → List Part → List (Bor Name) → List Bool → List Part → Type 0
Steps defined part names visited parts later_names later_visited later_parts =
    (n : ℕ) → map seen_name names ++ fields_within (data_of defined) (suc n) visited (part ∷ waiting parts) ≡ map seen_name later_names ++ fields_within (data_of defined) n later_visited (waiting later_parts)
