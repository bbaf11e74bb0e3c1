-- A small schema and selections on it, on which the definitions are computed.
use Rattle.std.specs.Prelude.{ℕ, pos, Bool, true, false, List, [], ◌∷◌, map, codes, None, Some}
use Rattle.gql_base.specs.ways.Reading.{Identifier}
use Rattle.gql_base.specs.parts.Values.{integer_value, boolean_value}
use Rattle.document_reader.specs.Documents.{SelectionTree, field_selection, fragment_spread, inline_fragment, no_selection}
use Rattle.document_reader.specs.DocumentReading.{selections_from}
use Rattle.input_values.specs.inputs.Shapes.{ShapeTree, named_shape, list_shape}
use Rattle.input_values.specs.inputs.Definitions.{InputData}
use Rattle.input_values.specs.coercion.Literals.{no_variables}
use Rattle.response_model.specs.Plan.{Plan}
use Rattle.schema_rules.specs.declared.kind.Kind.{Kind}
use Rattle.schema_rules.specs.declared.kind.Kind.TheVariants.{Scalar, Object, Union}
use Rattle.schema_model.specs.SchemaData.{SizeData, FieldData, TypeData, SchemaData}
use Rattle.schema_model.specs.Schemas.{no_type, no_field}
use Rattle.cost_directives.specs.Weights.{weights_of}
use Rattle.document_rules.specs.Parts.{FragmentData}
use Rattle.plan_model.specs.SelectedFields.{Setting, FieldCall, object_place}
use Rattle.plan_model.specs.Collecting.{WrittenSelections}
use Rattle.plan_model.specs.Merging.{Position}
use Rattle.plan_model.specs.Visits.{Visit, visits, PlanAnswer, answer_of, level_limit, node_limit, planned}

-- ---- type Query { me: User  search: [Result] }  type User { id: ID!  friends(first: Int): [User] }  type Post { id: ID! }
-- union Result = User | Post; the list of friends is sliced by `first`, and that of `search` declares no size.

abbrev pub plain_type : List ℕ → Kind → List (List ℕ) → List ℕ → List ℕ → TypeData
plain_type name kind names fields members = record { name = name; kind = kind; names = names; fields = fields; interfaces = []; members = members; values = []; inputs = []; cost = None; lax = false }

abbrev pub plain_field : List ℕ → ℕ → ShapeTree → FieldData
plain_field name owner shape = record { name = name; owner = owner; shape = shape; arguments = []; cost = None; size = None }

abbrev pub first_argument : InputData
first_argument = record { name = codes "first"; shape = named_shape 4 true; default = None; cost = None }

abbrev pub sliced : SizeData
sliced = record { assumed = None; slicing = codes "first" ∷ []; sized = []; require_one = true }

abbrev pub friends_field : FieldData
friends_field = record { name = codes "friends"; owner = 1; shape = list_shape (named_shape 1 true) true; arguments = first_argument ∷ []; cost = None; size = Some sliced }

abbrev pub small_schema : SchemaData
small_schema = record {
  types =
      plain_type (codes "Query") Object (codes "me" ∷ codes "search" ∷ []) (0 ∷ 1 ∷ []) []
      ∷ plain_type (codes "User") Object (codes "id" ∷ codes "friends" ∷ []) (2 ∷ 3 ∷ []) []
      ∷ plain_type (codes "Post") Object (codes "id" ∷ []) (4 ∷ []) []
      ∷ plain_type (codes "Result") Union [] [] (1 ∷ 2 ∷ [])
      ∷ plain_type (codes "Int") Scalar [] [] []
      ∷ plain_type (codes "ID") Scalar [] [] []
      ∷ [];
  fields =
      plain_field (codes "me") 0 (named_shape 1 true)
      ∷ plain_field (codes "search") 0 (list_shape (named_shape 3 true) true)
      ∷ plain_field (codes "id") 1 (named_shape 5 false)
      ∷ friends_field
      ∷ plain_field (codes "id") 2 (named_shape 5 false)
      ∷ [];
  other_type = no_type;
  other_field = no_field;
  directives = [];
  defined = 4;
  query = 0;
  mutation = None;
  subscription = None;
}

-- ---- selections

abbrev pub name_of : List ℕ → Identifier
name_of text = (text, 0)

abbrev pub field : List ℕ → List SelectionTree → SelectionTree
field name below = field_selection (name_of name, None) [] [] (selections_from below)

abbrev pub aliased : List ℕ → List ℕ → List SelectionTree → SelectionTree
aliased key name below = field_selection (name_of key, Some (name_of name)) [] [] (selections_from below)

-- friends(first: n)
abbrev pub friends : ℕ → List SelectionTree → SelectionTree
friends n below = field_selection (name_of (codes "friends"), None) ((name_of (codes "first"), integer_value (pos n)) ∷ []) [] (selections_from below)

abbrev pub on_type : List ℕ → List SelectionTree → SelectionTree
on_type name below = inline_fragment (Some (name_of name)) [] (selections_from below)

-- a field with `@skip` or `@include`
abbrev pub marked : List ℕ → Bool → List ℕ → SelectionTree
marked directive condition name = field_selection (name_of name, None) [] ((name_of directive, (name_of (codes "if"), boolean_value condition) ∷ []) ∷ []) no_selection

abbrev pub spread : List ℕ → SelectionTree
spread name = fragment_spread (name_of name) []

-- fragment Names on User { id }
abbrev pub names_fragment : FragmentData
names_fragment = record { name = name_of (codes "Names"); on = name_of (codes "User"); directives = []; below = selections_from (field (codes "id") [] ∷ []) }

abbrev pub small_setting : Setting
small_setting = record { schema = small_schema; weights = weights_of small_schema 10; values = no_variables; fragments = names_fragment ∷ [] }

-- selections on Query
abbrev pub on_query : List SelectionTree → Position
on_query ss = record { selections = (Some 0, selections_from ss) ∷ []; handed = None }

abbrev pub visited : List SelectionTree → List Visit
visited ss = visits small_setting level_limit (0 ∷ []) (on_query ss)

abbrev pub answered : List SelectionTree → PlanAnswer
answered ss = answer_of node_limit (visited ss)

abbrev pub path_of : Visit → List (List ℕ)
path_of v = v.path

abbrev pub id_only : List SelectionTree
id_only = field (codes "id") [] ∷ []

-- { me { .. } }
abbrev pub of_me : List SelectionTree → List SelectionTree
of_me below = field (codes "me") below ∷ []

-- { me { friends(first: n) { id } friends(first: m) { other: id } } }
abbrev pub friends_twice : ℕ → ℕ → List SelectionTree
friends_twice n m = of_me (friends n id_only ∷ friends m (aliased (codes "other") (codes "id") [] ∷ []) ∷ [])

-- { me { friends(first: 2) { id } friends: id } }
abbrev pub friends_and_id : List SelectionTree
friends_and_id = of_me (friends 2 id_only ∷ aliased (codes "friends") (codes "id") [] ∷ [])

-- { search { ... on Post { id } ... on User { user: id } } }
abbrev pub search_both : List SelectionTree
search_both = field (codes "search") (on_type (codes "Post") id_only ∷ on_type (codes "User") (aliased (codes "user") (codes "id") [] ∷ []) ∷ []) ∷ []

-- { me { id @skip(if: true) id @include(if: false) __typename @include(if: true) } }
abbrev pub left_out : List SelectionTree
left_out = of_me (marked (codes "skip") true (codes "id") ∷ marked (codes "include") false (codes "id") ∷ marked (codes "include") true (codes "__typename") ∷ [])

-- { ...Names ...Names } on User
abbrev pub names_twice : List WrittenSelections
names_twice = (Some 1, selections_from (spread (codes "Names") ∷ spread (codes "Names") ∷ [])) ∷ []

abbrev pub friends_path : List (List ℕ)
friends_path = codes "me" ∷ codes "friends" ∷ []

abbrev pub paths_of_friends : List (List (List ℕ))
paths_of_friends = (codes "me" ∷ []) ∷ friends_path ∷ (codes "me" ∷ codes "friends" ∷ codes "id" ∷ []) ∷ (codes "me" ∷ codes "friends" ∷ codes "other" ∷ []) ∷ []

abbrev pub paths_of_search : List (List (List ℕ))
paths_of_search = (codes "search" ∷ []) ∷ (codes "search" ∷ codes "user" ∷ []) ∷ (codes "search" ∷ codes "id" ∷ []) ∷ []

-- friends(first: n), and search, as they are written
abbrev pub friends_call : ℕ → FieldCall
friends_call n = record { name = codes "friends"; arguments = (name_of (codes "first"), integer_value (pos n)) ∷ [] }

abbrev pub search_call : FieldCall
search_call = record { name = codes "search"; arguments = [] }

abbrev pub planned_query : List SelectionTree → Plan
planned_query ss = planned small_setting level_limit (object_place (0 ∷ [])) (on_query ss)

-- the paths of all nodes
abbrev pub paths : List SelectionTree → List (List (List ℕ))
paths ss = map path_of (visited ss)
