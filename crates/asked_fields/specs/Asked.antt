-- What selections ask of objects, node by node: what a plan says of each node, and beside it what its arguments come to
-- (CoerceArgumentValues; GraphQL October 2021, 6.4.1). Of the objects at a place those of the first possible type are asked.
use Rattle.std.specs.Prelude.{◌≡◌, ◌↔◌, ℕ, zero, suc, List, [], ◌∷◌}
use Rattle.serde_json.specs.Data.{Data}
use Rattle.response_model.specs.Plan.{Form, Selected, LeafType, Plan, leaf_plan, position, no_type, object_type, Nodes, no_node, node}
use Rattle.response_model.specs.Response.{Tree, Fits}
use Rattle.response_model.specs.Cost.{Part}
use Rattle.schema_model.specs.Arguments.{ArgData}
use Rattle.document_reader.specs.declared.trees.Operation.{Operation}
use Rattle.plan_model.specs.SelectedFields.{Setting, FieldCall, HandedSize, Place, leaf_place, object_place, holds, place_at, hands_at, arguments_at, if_coerced}
use Rattle.plan_model.specs.Collecting.{CollectedField}
use Rattle.plan_model.specs.Merging.{Position, keys_at, first_call, call_under, selected_by, selected_under, below_key}
use Rattle.plan_model.specs.Plans.{with_capped, type_weight}
use Rattle.plan_model.specs.Visits.{level_limit}
use Rattle.plan_model.specs.Responses.{FitsSelections}
use Rattle.plan_model.specs.Operations.{root_place, root_position, IsPlannedWell}
use Rattle.plan_model.specs.PlanLaws.{CostsAsPlanned}
use Rattle.collected_fields.specs.Groups.{GroupData}

mutual
  -- nodes, one after another
  pub data Asked : Type 0 where
    no_field : Asked
    field_then : (selected : Selected) → (arguments : List ArgData) → (below : AskedBelow) → (others : Asked) → Asked

  -- what is asked below a node
  pub data AskedBelow : Type 0 where
    of_leaf : (type : LeafType) → (weight : ℕ) → (fill : Data) → AskedBelow
    of_objects : (type : ℕ) → (weight : ℕ) → (fields : Asked) → AskedBelow
    of_nothing : AskedBelow

abbrev pub nothing_below : Place → Position → AskedBelow
nothing_below place p = of_nothing

module _ (e : Setting) where
  -- In these `deeper` says what is asked below a node.
  abbrev pub fields_asked : (Place → Position → AskedBelow) → ℕ → Position → List (List ℕ) → Asked
  fields_asked deeper T p [] = no_field
  fields_asked deeper T p (k ∷ ks) =
      field_then (with_capped (selected_under e T k p)) (if_coerced (arguments_at e T (call_under e T k p))) (deeper (place_at e T (call_under e T k p)) (below_key e T k p)) (fields_asked deeper T p ks)

  abbrev pub asked_at : (Place → Position → AskedBelow) → Place → Position → AskedBelow
  asked_at deeper (leaf_place type weight fill) p = of_leaf type weight fill
  asked_at deeper (object_place []) p = of_nothing
  asked_at deeper (object_place (T ∷ Ts)) p = of_objects T (type_weight e T) (fields_asked deeper T p (keys_at e T p))

  -- what is asked at a place, where so many levels of nodes may stand below the first
  unfoldable pub asked : ℕ → Place → Position → AskedBelow
  asked zero place p = asked_at nothing_below place p
  asked (suc levels) place p = asked_at (asked levels) place p

  abbrev pub asked_operation : ℕ → Operation → AskedBelow
  asked_operation root o = asked level_limit (root_place root) (root_position root o)

-- ---- the same without arguments is a plan

abbrev mutual
  pub nodes_in : Asked → Nodes
  nodes_in no_field = no_node
  nodes_in (field_then s arguments below others) = node s (plan_in below) (nodes_in others)

  pub plan_in : AskedBelow → Plan
  plan_in (of_leaf type weight fill) = leaf_plan type weight fill
  plan_in (of_objects T weight fields) = position (object_type T weight (nodes_in fields) no_type)
  plan_in of_nothing = position no_type

-- No more than one type of objects may stand at a place.
abbrev pub IsOfOneType : Place → Type 0
IsOfOneType (leaf_place type weight fill) = Unit {0}
IsOfOneType (object_place []) = Unit {0}
IsOfOneType (object_place (T ∷ [])) = Unit {0}
IsOfOneType (object_place (T ∷ (U ∷ Us))) = ⊥

-- So it is wherever a field may stand.
abbrev pub HasOneType : Setting → Type 0
HasOneType e = (T : ℕ) (c : FieldCall) → IsOfOneType (place_at e T c)

-- Where objects of one type may stand at each place, an operation that is planned well and what it asks: a tree that fits the one
-- fits the other, and it costs the same by both.
abbrev pub FitsAsAsked : Setting → ℕ → Operation → Form → Tree → Type 0
FitsAsAsked e root o form t = HasOneType e → IsPlannedWell e root o → FitsSelections e form (root_place root) (root_position root o) t ↔ Fits (holds e.schema) form (plan_in (asked_operation e root o)) t

abbrev pub CostsAsAsked : Setting → ℕ → Operation → Part → Form → Tree → Type 0
CostsAsAsked e root o part form t = HasOneType e → IsPlannedWell e root o → CostsAsPlanned e part form (root_place root) (root_position root o) (plan_in (asked_operation e root o)) t

-- ---- by the fields of each key

abbrev pub key_of_fields : List CollectedField → List ℕ
key_of_fields [] = []
key_of_fields (f ∷ fields) = f.key

-- what stands below them
abbrev pub group_position : Setting → ℕ → GroupData → Position
group_position e T g = record { selections = g.below; handed = hands_at e T (first_call g.fields) }

module _ (e : Setting) (deeper : Place → Position → AskedBelow) (T : ℕ) (handed : HandedSize) where
  -- their node, in front of others
  abbrev pub group_then : GroupData → Asked → Asked
  group_then g others =
      field_then (with_capped (selected_by e T (key_of_fields g.fields) handed g.fields)) (if_coerced (arguments_at e T (first_call g.fields))) (deeper (place_at e T (first_call g.fields)) (group_position e T g)) others

  abbrev pub groups_asked : List GroupData → Asked
  groups_asked [] = no_field
  groups_asked (g ∷ groups) = group_then g (groups_asked groups)

-- Groups that are gathered at a position ask what the position asks.
abbrev pub AskTheSame : Setting → ℕ → ℕ → Position → List GroupData → Type 0
AskTheSame e levels T p groups = groups_asked e (asked e levels) T p.handed groups ≡ fields_asked e (asked e levels) T p (keys_at e T p)
