-- A plan as rows, one for each node, in depth-first order: the nodes of a type in their order, and behind a node those that
-- stand below it.
use Rattle.std.specs.Prelude.{ℕ, suc, List, [], ◌∷◌, ◌++◌, Bool, true, false}
use Rattle.serde_json.specs.Data.{Data}
use Rattle.response_model.specs.Plan.{Selected, LeafType, Plan, leaf_plan, position, ObjectTypes, no_type, object_type, Nodes, no_node, node}

-- An object type that is possible at a position, and its weight.
pub record PossibleType : Type 0 where
  pub number : ℕ
  pub weight : ℕ

-- What a row says of what stands below its node: a leaf, or objects of these types.
pub data Below : Type 0 where
  leaf_below : (type : LeafType) → (weight : ℕ) → (fill : Data) → Below
  objects_below : (possible : List PossibleType) → Below

pub record Row : Type 0 where
  -- how many fields are on the path down to the node
  pub depth : ℕ
  -- the object type of the node, and its weight
  pub type : ℕ
  pub weight : ℕ
  -- whether it is the first node of its type at its position
  pub first : Bool
  pub selected : Selected
  pub below : Below

abbrev pub types_in : ObjectTypes → List PossibleType
types_in no_type = []
types_in (object_type T weight nodes others) = record { number = T; weight = weight } ∷ types_in others

abbrev pub below_in : Plan → Below
below_in (leaf_plan type weight fill) = leaf_below type weight fill
below_in (position possible) = objects_below (types_in possible)

unfoldable mutual
  -- the rows of what stands below a node
  pub rows_below : ℕ → Plan → List Row
  rows_below depth (leaf_plan type weight fill) = []
  rows_below depth (position possible) = rows_of_types depth possible

  -- the rows of the nodes of these types, whose depth this is
  pub rows_of_types : ℕ → ObjectTypes → List Row
  rows_of_types depth no_type = []
  rows_of_types depth (object_type T weight nodes others) = rows_of_nodes depth T weight true nodes ++ rows_of_types depth others

  -- the rows of these nodes of a type, where the first of them is the first of the type or not
  pub rows_of_nodes : ℕ → ℕ → ℕ → Bool → Nodes → List Row
  rows_of_nodes depth T weight first no_node = []
  rows_of_nodes depth T weight first (node s below others) =
      record { depth = depth; type = T; weight = weight; first = first; selected = s; below = below_in below }
      ∷ (rows_below (suc depth) below ++ rows_of_nodes depth T weight false others)
