-- What is asked by the time that it is found: for a type, for the fields of one key, below a node.
use Rattle.std.specs.Prelude.{◌≡◌, ◌<◌, ℕ, zero, suc, List, [], ◌∷◌, ◌++◌, map, flat_map, length, All, Option, None, Some, Result}
use Rattle.schema_model.specs.declared.schema.Schema.{Schema}
use Rattle.schema_model.specs.SchemaViews.{schema_data}
use Rattle.cost_directives.specs.declared.weights.Weights.{Weights}
use Rattle.cost_directives.specs.WeightViews.{weights_data}
use Rattle.variable_coercion.specs.declared.variables.Variables.{Variables}
use Rattle.variable_coercion.specs.Calls.{environment}
use Rattle.document_rules.specs.declared.checking.Checked.{Checked}
use Rattle.schema_model.specs.Arguments.{ArgData}
use Rattle.variable_coercion.specs.Refusals.{Refusal}
use Rattle.plan_model.specs.Operations.{setting_of}
use Rattle.plan_model.specs.SelectedFields.{Setting, Place, leaf_place, object_place, place_at, coerced_arguments, arguments_at, if_coerced}
use Rattle.plan_model.specs.Collecting.{CollectedField, WrittenSelections}
use Rattle.plan_model.specs.Merging.{Position, keys_at, first_call}
use Rattle.plan_model.specs.MergingWalk.{IsAcyclic}
use Rattle.collected_fields.specs.declared.planning.Planning.{Planning}
use Rattle.collected_fields.specs.declared.collected.Collected.{Collected}
use Rattle.collected_fields.specs.declared.collected.Group.{Group}
use Rattle.collected_fields.specs.declared.collector.Collector.{Collector}
use Rattle.collected_fields.specs.Views.{collected_field}
use Rattle.collected_fields.specs.Groups.{GroupData}
use Rattle.collected_fields.specs.Gathering.{planning_of, setting_at, written_at, IsNumber, meaning_at, position_at, group_seen, groups_seen}
use Rattle.asked_fields.specs.declared.asked.Argument.{Argument}
use Rattle.asked_fields.specs.declared.asked.AskedNode.{AskedNode}
use Rattle.asked_fields.specs.AskedNodes.{AskedNodes, nothing_asked, asked_then, AskedOne, asked_node, asked_nodes}
use Rattle.asked_fields.specs.Asked.{Asked, no_field, field_then, AskedBelow, of_leaf, of_objects, of_nothing, nothing_below, fields_asked, group_position, asked, asked_operation, key_of_fields}
use Rattle.asked_fields.specs.Arguments.{argument_kept}

abbrev pub first_type : Place → Option ℕ
first_type (leaf_place type weight fill) = None
first_type (object_place []) = None
first_type (object_place (T ∷ Ts)) = Some T

-- ---- what is kept of what is asked, where `place` says where a name stands

-- what the arguments of a field come to, if its name means the field of a number
abbrev pub coerced_in : Setting → ℕ → CollectedField → Result (List ArgData) Refusal
coerced_in e field f = coerced_arguments e.schema field f.call.arguments e.values

-- what is kept of a field's arguments, for objects of a type
abbrev pub kept_at : (List ℕ → Option ℕ) → Setting → ℕ → CollectedField → Argument
kept_at place e T f = argument_kept place (if_coerced (arguments_at e T f.call))

module _ (place : List ℕ → Option ℕ) where
  abbrev mutual
    pub kept_of : Asked → AskedNodes
    kept_of no_field = nothing_asked
    kept_of (field_then s arguments below others) = asked_then s.key s.field (argument_kept place arguments) (kept_below below) (kept_of others)

    pub kept_below : AskedBelow → AskedNodes
    kept_below (of_leaf type weight fill) = nothing_asked
    kept_below (of_objects T weight fields) = kept_of fields
    kept_below of_nothing = nothing_asked

  module _ (e : Setting) where
    -- what is asked below a node, where so many levels may stand there
    abbrev pub deeper : ℕ → Place → Position → AskedBelow
    deeper zero = nothing_below
    deeper (suc levels) = asked e levels

    -- at a position for objects of a type
    abbrev pub asked_for_type : ℕ → ℕ → Position → AskedNodes
    asked_for_type levels T p = kept_of (fields_asked e (deeper levels) T p (keys_at e T p))

    -- below a node
    abbrev pub asked_below : ℕ → Option ℕ → Position → AskedNodes
    asked_below zero of p = nothing_asked
    asked_below (suc levels) None p = nothing_asked
    asked_below (suc levels) (Some T) p = asked_for_type levels T p

    -- the node of the fields of one key
    abbrev pub asked_by : ℕ → ℕ → GroupData → AskedOne
    asked_by levels T g = record {
      key = key_of_fields g.fields;
      name = (first_call g.fields).name;
      argument = argument_kept place (if_coerced (arguments_at e T (first_call g.fields)));
      below = kept_below (deeper levels (place_at e T (first_call g.fields)) (group_position e T g));
    }

-- ---- what a collector keeps

-- what an operation is planned by, and its selection sets by their numbers
abbrev pub Frame : Type 0
Frame = Planning × (ℕ → WrittenSelections)

abbrev pub frame : Collector → Frame
frame c = (planning_of c, written_at c)

-- The numbers are those of the collector, and their selections are acyclic.
abbrev pub CanAsk : Collector → List ℕ → Type 0
CanAsk c lists = All (IsNumber c) lists × IsAcyclic (setting_at c) (position_at c lists)

-- The group has a field, and what stands below may be asked.
pub record CanAskGroup (c : Collector) (g : Group) : Type 0 where
  pub filled : 0 < length g.fields.items
  pub below : CanAsk c g.below.items

-- ---- what the calls say

module _ (place : List ℕ → Option ℕ) (c : Collector) (levels T : ℕ) where
  abbrev pub AsksType : List ℕ → List AskedNode → Type 0
  AsksType lists nodes = CanAsk c lists → asked_nodes nodes ≡ asked_for_type place (setting_at c) levels T (position_at c lists)

  abbrev pub AsksGroups : List Group → List AskedNode → Type 0
  AsksGroups groups nodes = All (CanAskGroup c) groups → map asked_node nodes ≡ map (asked_by place (setting_at c) levels T) (groups_seen c groups)

  -- a node behind others
  abbrev pub AsksGroup : Group → List AskedNode → List AskedNode → Type 0
  AsksGroup g before after = CanAskGroup c g → map asked_node after ≡ map asked_node before ++ (asked_by place (setting_at c) levels T (group_seen c g) ∷ [])

  -- the node of a field and of what stands below it
  abbrev pub AsksNode : Collected → List ℕ → AskedNode → Type 0
  AsksNode first below node = CanAsk c below → asked_node node ≡ asked_by place (setting_at c) levels T (record { fields = collected_field first ∷ []; below = flat_map (meaning_at c) below })

abbrev pub AsksBelow : (List ℕ → Option ℕ) → Collector → ℕ → Option ℕ → List ℕ → List AskedNode → Type 0
AsksBelow place c levels of lists nodes = CanAsk c lists → asked_nodes nodes ≡ asked_below place (setting_at c) levels of (position_at c lists)

-- ---- an operation that was checked

abbrev pub setting_for : Schema → Weights → Checked → Variables → Setting
setting_for schema weights checked variables = setting_of (schema_data schema) (weights_data weights) (environment variables) checked.document.now.definitions.items checked.operation.now

-- what it asks
abbrev pub asked_for : Schema → Weights → Checked → Variables → AskedBelow
asked_for schema weights checked variables = asked_operation (setting_for schema weights checked variables) checked.root.number checked.operation.now
