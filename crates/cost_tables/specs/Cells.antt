-- What the cells of a node's line say.
use Rattle.std.specs.Prelude.{ℕ, ◌-◌, nat_le, nat_eq, nat_abs, List, [], ◌∷◌, ◌++◌, map, take, get_or, codes, Option, None, Some, if◌then◌else◌}
use Rattle.std.specs.Fmt.{decimal}
use Rattle.cost_num.specs.declared.TheConstants.{CAP}
use Rattle.cost_num.specs.CostText.{amount_text}
use Rattle.schema_model.specs.declared.entries.FieldId.{FieldId}
use Rattle.schema_model.specs.SchemaData.{SchemaData, type_at, field_at, input_name}
use Rattle.schema_model.specs.SchemaViews.{schema_data}
use Rattle.cost_directives.specs.declared.sources.SizeSource.{SizeSource}
use Rattle.cost_directives.specs.declared.sources.SizeSource.TheVariants.{Handed, Sliced, Assumed, Free, Undeclared}
use Rattle.plan_table.specs.declared.rows.NodeRow.{NodeRow}
use Rattle.plan_table.specs.declared.table.Plan.{Plan}
use Rattle.plan_table.specs.Tables.{row_in}
use Rattle.cost_shares.specs.declared.share.Share.{Share}
use Rattle.cost_tables.specs.declared.above.Above.{Above}

-- ---- numbers; one that stopped above the cap is only said to be greater

abbrev pub told_amount : ℕ → List ℕ
told_amount n = if nat_le n CAP then amount_text n else codes "over 1000000000000"

abbrev pub told_count : ℕ → List ℕ
told_count n = if nat_le n CAP then decimal n else codes "over 1000000000000000000"

-- a count for each part of the cost, those of types first; once where they are the same
abbrev pub told_counts : ℕ → ℕ → List ℕ
told_counts types fields = if nat_eq types fields then told_count types else told_count types ++ (47 ∷ told_count fields)

-- ---- places

-- above a node at the root: no field
abbrev pub at_root : Above
at_root = record { path = codes "data"; field = [] }

-- what stands above a node, by what stands above nodes of each depth, from the root on
abbrev pub above_of : List Above → NodeRow → Above
above_of stack n = get_or stack (n.depth - 1) at_root

-- the path of what stands above a node, a full stop, and its response key
abbrev pub path_of : List Above → NodeRow → List ℕ
path_of stack n = (above_of stack n).path ++ (46 ∷ n.key)

-- what stands above the nodes behind it
abbrev pub stack_behind : List Above → NodeRow → List Above
stack_behind stack n = take n.depth stack ++ (record { path = path_of stack n; field = n.name } ∷ [])

-- ---- sizes

-- the name of the argument at this place of a field
abbrev pub argument_name : SchemaData → Option FieldId → ℕ → List ℕ
argument_name s None place = []
argument_name s (Some field) place = get_or (map input_name (field_at s field.number).arguments) place []

-- where a size comes from, and the size, where the field that hands it down, and the names of arguments, are these
abbrev pub source_text : List ℕ → (ℕ → List ℕ) → SizeSource → List ℕ
source_text above argument (Handed n) = codes "handed by " ++ (above ++ (codes ": " ++ decimal n))
source_text above argument (Sliced place z) = argument place ++ (codes ": " ++ decimal (nat_abs z))
source_text above argument (Assumed z) = codes "assumedSize: " ++ decimal (nat_abs z)
source_text above argument Free = codes "any"
source_text above argument (Undeclared n) = codes "default: " ++ decimal n

-- nothing where a node's values are no lists
abbrev pub size_text : List ℕ → (ℕ → List ℕ) → Option SizeSource → List ℕ
size_text above argument None = []
size_text above argument (Some source) = source_text above argument source

-- ---- a node's line

module _ (p : Plan) where
  abbrev pub schema_in : SchemaData
  schema_in = schema_data p.schema.now

  -- its path, the type in whose objects it stands, how often it does, its size, what its field weighs, what its arguments cost, and
  -- what it adds to the types and to the fields of the price
  abbrev pub node_cells : List Above → NodeRow → Share → Share → List (List ℕ)
  node_cells stack n types fields =
      path_of stack n
      ∷ (type_at schema_in n.on.number).name
      ∷ told_counts types.times fields.times
      ∷ size_text (above_of stack n).field (argument_name schema_in n.field) n.source
      ∷ told_amount (row_in p n).selected.weight
      ∷ told_amount n.arguments
      ∷ told_amount types.adds
      ∷ told_amount fields.adds
      ∷ []
