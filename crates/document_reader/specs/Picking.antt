-- Which operation of a document is picked.
use Rattle.std.specs.Prelude.{ℕ, suc, ◌+◌, ◌==◌, Bool, true, false, List, [], ◌∷◌, Option, None, Some, Result, Ok, Err, if◌then◌else◌}
use Rattle.std.specs.Str.{bytes_eq}
use Rattle.std.specs.Borrow.{Bor}
use Rattle.gql_base.specs.declared.parts.trees.Name.{Name}
use Rattle.document_reader.specs.declared.trees.Definition.{Definition}
use Rattle.document_reader.specs.declared.trees.Definition.TheVariants.{Op, Frag}
use Rattle.document_reader.specs.declared.picking.PickFault.{PickFault}
use Rattle.document_reader.specs.declared.picking.PickFault.TheVariants.{NoOperation, Several, NotThere}

abbrev pub is_operation : Definition → Bool
is_operation (Op o) = true
is_operation (Frag f) = false

abbrev pub same_name : List ℕ → Option Name → Bool
same_name bytes None = false
same_name bytes (Some n) = bytes_eq n.text bytes

-- an operation with this name
abbrev pub is_named : List ℕ → Definition → Bool
is_named bytes (Op o) = same_name bytes o.name
is_named bytes (Frag f) = false

-- the place of the first definition that passes the test, where the first of all has this place
unfoldable pub first_where : (Definition → Bool) → ℕ → List Definition → Option ℕ
first_where test at [] = None
first_where test at (d ∷ ds) = if test d then Some at else first_where test (suc at) ds

-- the number of definitions that pass the test
unfoldable pub count_where : (Definition → Bool) → List Definition → ℕ
count_where test [] = 0
count_where test (d ∷ ds) = (if test d then 1 else 0) + count_where test ds

-- the one operation, whose place is the first
abbrev pub alone : ℕ → ℕ → Result ℕ PickFault
alone first count = if count == 1 then Ok first else Err (Several count)

abbrev pub there : Option ℕ → Result ℕ PickFault
there None = Err NotThere
there (Some place) = Ok place

abbrev pub picked_with : Option (List ℕ) → List Definition → Option ℕ → Result ℕ PickFault
picked_with name definitions None = Err NoOperation
picked_with None definitions (Some first) = alone first (count_where is_operation definitions)
picked_with (Some bytes) definitions (Some first) = there (first_where (is_named bytes) 0 definitions)

-- The place of the operation that is picked. A document without operations has none. With a name it is the first
-- operation of that name; without one it is the one operation, if there aren't several.
abbrev pub picked : Option (List ℕ) → List Definition → Result ℕ PickFault
picked name definitions = picked_with name definitions (first_where is_operation 0 definitions)

-- the bytes of the name that is asked for
abbrev pub asked : Option (Bor (List ℕ)) → Option (List ℕ)
asked None = None
asked (Some name) = Some name.now
