-- The nodes of a plan in depth-first order, each with its path and its fault; the first fault among them; and the plan.
use Rattle.std.specs.Prelude.{ℕ, zero, suc, Bool, true, false, not, List, [], ◌∷◌, map, flat_map, take, length, ltb, option_map, Option, None, Some}
use Rattle.std.specs.List.{list_any}
use Rattle.std.specs.Str.{bytes_eq}
use Rattle.response_model.specs.Plan.{Plan, leaf_plan, position, ObjectTypes, no_type, object_type, Nodes, no_node, node}
use Rattle.schema_rules.specs.First.{or_else, fault_where, first_of}
use Rattle.cost_directives.specs.declared.sizes.SizeFault.{SizeFault}
use Rattle.variable_coercion.specs.Refusals.{Refusal}
use Rattle.plan_model.specs.SelectedFields.{Setting, FieldCall, HandedSize, Place, leaf_place, object_place, types_of, lacks_types, place_at, arguments_at, size_answer_at, if_coerced, refusal_of, fault_in}
use Rattle.plan_model.specs.Collecting.{CollectedField}
use Rattle.plan_model.specs.SameArguments.{same_arguments}
use Rattle.plan_model.specs.Merging.{Position, keys_at, first_call, fields_under, selected_under, call_under, below_key}
use Rattle.plan_model.specs.Plans.{with_capped, type_weight}

-- What a node may be at fault with.
pub data NodeFault : Type 0 where
  too_deep : NodeFault
  -- its fields don't merge
  conflict : NodeFault
  refused_argument : Refusal → NodeFault
  refused_size : SizeFault → NodeFault
  no_possible_type : NodeFault

-- ---- the fault of one node, whose fields are these, for objects of the type T

abbrev pub names_differ : List CollectedField → Bool
names_differ fields = list_any (λ f. not (bytes_eq f.call.name (first_call fields).name)) fields

module _ (e : Setting) (T : ℕ) where
  abbrev pub argument_fault : CollectedField → Option NodeFault
  argument_fault f = option_map refused_argument (refusal_of (arguments_at e T f.call))

  abbrev pub arguments_differ : List CollectedField → Bool
  arguments_differ fields = list_any (λ f. not (same_arguments (if_coerced (arguments_at e T (first_call fields))) (if_coerced (arguments_at e T f.call)))) fields

  abbrev pub size_fault : HandedSize → FieldCall → Option NodeFault
  size_fault handed c = option_map refused_size (fault_in (size_answer_at e T c handed))

  -- Their names are equal; their arguments are coerced, one field after another, and are equal; the size is found; and some
  -- object can stand there.
  abbrev pub fault_of : HandedSize → List CollectedField → Option NodeFault
  fault_of handed fields =
      or_else (fault_where (names_differ fields) conflict)
      (or_else (first_of argument_fault fields)
      (or_else (fault_where (arguments_differ fields) conflict)
      (or_else (size_fault handed (first_call fields))
      (fault_where (lacks_types (place_at e T (first_call fields))) no_possible_type))))

-- ---- all nodes

-- A node by the response keys from its position down to it, and its fault.
pub record Visit : Type 0 where
  pub path : List (List ℕ)
  pub fault : Option NodeFault

abbrev pub visit_of : List ℕ → Option NodeFault → Visit
visit_of key fault = record { path = key ∷ []; fault = fault }

abbrev pub under_key : List ℕ → Visit → Visit
under_key key v = record v { path = key ∷ v.path }

-- a node before those below it, which are left out where it is at fault
abbrev pub visits_of : List ℕ → Option NodeFault → List Visit → List Visit
visits_of key None below = visit_of key None ∷ map (under_key key) below
visits_of key (Some fault) below = visit_of key (Some fault) ∷ []

abbrev pub too_deep_at : List ℕ → Visit
too_deep_at key = visit_of key (Some too_deep)

module _ (e : Setting) where
  -- In these `deeper` says what is visited at the position below a node.
  abbrev pub visits_of_key : (List ℕ → Position → List Visit) → Position → ℕ → List ℕ → List Visit
  visits_of_key deeper p T key =
      visits_of key (fault_of e T p.handed (fields_under e T key p)) (deeper (types_of (place_at e T (call_under e T key p))) (below_key e T key p))

  abbrev pub visits_of_type : (List ℕ → Position → List Visit) → Position → ℕ → List Visit
  visits_of_type deeper p T = flat_map (visits_of_key deeper p T) (keys_at e T p)

  abbrev pub deepest_visits : Position → ℕ → List Visit
  deepest_visits p T = map too_deep_at (keys_at e T p)

  -- the nodes at a position and below it, type by type and key by key, where so many levels of them may stand
  unfoldable pub visits : ℕ → List ℕ → Position → List Visit
  visits zero Ts p = flat_map (deepest_visits p) Ts
  visits (suc levels) Ts p = flat_map (visits_of_type (visits levels) p) Ts

-- ---- the first fault

abbrev pub level_limit : ℕ
level_limit = 50

abbrev pub node_limit : ℕ
node_limit = 20000

-- the path of a node and its fault
abbrev pub PlacedFault : Type 0
PlacedFault = List (List ℕ) × NodeFault

abbrev pub placed : List (List ℕ) → Option NodeFault → Option PlacedFault
placed path None = None
placed path (Some fault) = Some (path, fault)

abbrev pub fault_at : Visit → Option PlacedFault
fault_at v = placed v.path v.fault

pub data PlanAnswer : Type 0 where
  planned_well : PlanAnswer
  faulty : PlacedFault → PlanAnswer
  too_large : PlanAnswer

abbrev pub answer_by : Bool → Option PlacedFault → PlanAnswer
answer_by larger (Some fault) = faulty fault
answer_by true None = too_large
answer_by false None = planned_well

-- The first fault among the first nodes up to the limit. Where they have none, whether there are more.
abbrev pub answer_of : ℕ → List Visit → PlanAnswer
answer_of limit vs = answer_by (ltb limit (length vs)) (first_of fault_at (take limit vs))

-- ---- the plan

abbrev pub nothing_planned : Place → Position → Plan
nothing_planned place p = position no_type

module _ (e : Setting) where
  -- In these `deeper` says what is planned below a node.
  abbrev pub planned_nodes : (Place → Position → Plan) → Position → ℕ → List (List ℕ) → Nodes
  planned_nodes deeper p T [] = no_node
  planned_nodes deeper p T (k ∷ ks) = node (with_capped (selected_under e T k p)) (deeper (place_at e T (call_under e T k p)) (below_key e T k p)) (planned_nodes deeper p T ks)

  abbrev pub planned_types : (Place → Position → Plan) → Position → List ℕ → ObjectTypes
  planned_types deeper p [] = no_type
  planned_types deeper p (T ∷ Ts) = object_type T (type_weight e T) (planned_nodes deeper p T (keys_at e T p)) (planned_types deeper p Ts)

  abbrev pub planned_at : (Place → Position → Plan) → Place → Position → Plan
  planned_at deeper (leaf_place type weight fill) p = leaf_plan type weight fill
  planned_at deeper (object_place Ts) p = position (planned_types deeper p Ts)

  -- the plan of a place, where so many levels of nodes may stand
  unfoldable pub planned : ℕ → Place → Position → Plan
  planned zero place p = planned_at nothing_planned place p
  planned (suc levels) place p = planned_at (planned levels) place p
