-- What the parts of the walk over a reply's data do: each tests a value, counts it, and writes its text.
use Rattle.std.specs.Prelude.{◌≡◌, ◌+◌, ℕ, List, [], ◌∷◌, ◌++◌, Bool, codes, Option, Some, None, option_map, Result, Ok, Err, ⊤}
use Rattle.cost_num.specs.Capped.{capped}
use Rattle.cost_num.specs.declared.Cost.{Cost}
use Rattle.serde_json.specs.Data.{Data, Items, Members, object}
use Rattle.serde_json.specs.Find.{get_member}
use Rattle.response_model.specs.Plan.{Form, single, listed, Plan, position, Nodes}
use Rattle.response_model.specs.Response.{Tree, Elements, Entries}
use Rattle.response_model.specs.Cost.{Part, types, fields, value_cost, entry_cost, cost, entries_cost, elements_cost}
use Rattle.response_model.specs.Errors.{ResponseError, errors_of, has_errors}
use Rattle.response_model.specs.ResponseText.{key_text, errors_part}
use Rattle.response_model.specs.WrittenJson.{Appends}
use Rattle.plan_model.specs.SelectedFields.{Setting}
use Rattle.plan_model.specs.Plans.{type_weight}
use Rattle.plan_table.specs.Tables.{setting_in, row_in, weighed}
use Rattle.plan_table.specs.TableBounds.{holds_in}
use Rattle.response_meter.specs.declared.fault.MeterFault.{MeterFault}
use Rattle.response_meter.specs.declared.fault.Why.TheVariants.{BadErrors, MissingKey, ExtraKey}
use Rattle.response_meter.specs.declared.forms.ValueForm.{ValueForm}
use Rattle.response_meter.specs.declared.forms.ValueForm.TheVariants.{Single, Listed}
use Rattle.response_meter.specs.declared.metered.Metered.{Metered}
use Rattle.response_meter.specs.declared.nested.Node.{Node}
use Rattle.response_meter.specs.declared.nested.Node.TheViews.{out-Node}
use Rattle.response_meter.specs.declared.nested.Types.{Types}
use Rattle.response_meter.specs.declared.readings.Reading.{Reading}
use Rattle.response_model.specs.AnswerTexts.{Behind, IsTreeText, AreElementsText, AreEntriesText, IsDataPart, IsAnswerText}
use Rattle.response_meter.specs.Faults.{Fault, Tells, tested, given, at_step, key_step}
use Rattle.response_meter.specs.FirstFault as tests
use Rattle.response_meter.specs.FirstFault.{keys_known}
use Rattle.response_meter.specs.Metered.{name_in}
use Rattle.response_meter.specs.Nested.{types_with, OneNode, node_of, types_of, nodes_in as nodes_by}
use Rattle.response_meter.specs.Reply as reply
use Rattle.response_meter.specs.Reply.{json_of, errors_entry, data_entry, reply_cost}
use Rattle.response_meter.specs.Trees as trees
use Rattle.response_meter.specs.Types.{possible_below}

abbrev pub form_seen : ValueForm → Form
form_seen (Single nullable) = single nullable
form_seen (Listed nullable item_nullable) = listed nullable item_nullable

-- Nothing is wrong, the cost so far is capped, and a text of which this holds was appended. Or a fault is told.
abbrev pub Measures : List ℕ → List ℕ → Result Cost MeterFault → Option Fault → (Part → ℕ) → (List ℕ → Type 0) → Type 0
Measures before after (Ok c) fault costs Is = (fault ≡ None) × (c.types ≡ capped (costs types)) × (c.fields ≡ capped (costs fields)) × Appends Is before after
Measures before after (Err f) fault costs Is = Tells f fault

-- A value with its plan, and the entries of an object and the elements of a list with what stands before the first.
abbrev pub MeasuresTree : List ℕ → List ℕ → Result Cost MeterFault → Option Fault → Plan → Tree → Type 0
MeasuresTree before after result fault plan t = Measures before after result fault (λ part. cost part plan t) (IsTreeText t)

abbrev pub MeasuresElements : List ℕ → List ℕ → Result Cost MeterFault → Option Fault → Plan → Elements → Type 0
MeasuresElements before after result fault plan ts = Measures before after result fault (λ part. elements_cost part plan ts) (AreElementsText [] ts)

module _ (by : Reading) where
  abbrev pub setting : Setting
  setting = setting_in by.of.now

  -- The tests and the trees beside the plan.
  abbrev pub value_fault : Bool → Plan → Data → Option Fault
  value_fault asked plan json = tests.value_fault (holds_in by.of.now) (name_in by.of.now) by.alias.now asked plan json

  abbrev pub value_tree : Bool → Plan → Data → Tree
  value_tree asked plan json = trees.value_tree (name_in by.of.now) by.alias.now asked plan json

  abbrev pub entries_fault : Nodes → Members → Option Fault
  entries_fault nodes ms = tests.entries_fault (holds_in by.of.now) (name_in by.of.now) by.alias.now nodes ms

  abbrev pub member_entries : Nodes → Members → Entries
  member_entries nodes ms = trees.member_entries (name_in by.of.now) by.alias.now nodes ms

  -- A node, with what stands below it.
  abbrev pub one_node : Node → OneNode
  one_node n = node_of setting n

  abbrev pub nodes_in : List Node → Nodes
  nodes_in ns = nodes_by setting ns

  -- One value of a node.
  abbrev pub one_fault : OneNode → Data → Option Fault
  one_fault f json = value_fault f.0.asked f.1 json

  abbrev pub one_tree : OneNode → Data → Tree
  one_tree f json = value_tree f.0.asked f.1 json

  -- A field's value, as a whole.
  abbrev pub field_fault : OneNode → Data → Option Fault
  field_fault f json = tests.place_fault (λ v. one_fault f v) f.0.form f.0.size json

  abbrev pub field_tree : OneNode → Data → Tree
  field_tree f json = trees.place_tree (λ v. one_tree f v) f.0.form json

  -- A field's entry in an object.
  abbrev pub entry_fault : OneNode → Members → Option Fault
  entry_fault f ms = at_step (key_step f.0.key) (given (get_member f.0.key ms) MissingKey (λ d. field_fault f d))

  abbrev pub entry_tree : OneNode → Members → Tree
  entry_tree f ms = trees.tree_of (get_member f.0.key ms) (λ d. field_tree f d)

  -- An object of a type with these nodes.
  abbrev pub object_fault : Bool → Nodes → Members → Option Fault
  object_fault asked nodes ms = tested (keys_known by.alias.now asked nodes ms) ExtraKey (entries_fault nodes ms)

  abbrev pub object_cost : ℕ → Nodes → Members → Part → ℕ
  object_cost T nodes ms part = value_cost part (type_weight setting T) + entries_cost part nodes (member_entries nodes ms)

  -- The plan of objects below a node.
  abbrev pub objects_of : Node → Plan
  objects_of n = position (types_with (types_of setting (out-Node n).below) (possible_below (row_in by.of.now (out-Node n).row.now).below))

  -- The plan of the whole, with these types at its root.
  abbrev pub root_plan : Types → Plan
  root_plan ts = position (types_with (types_of setting ts) (weighed setting by.of.now.root.number ∷ []))

  module _ (before after : List ℕ) (result : Result Cost MeterFault) where
    abbrev pub MeasuresValue : OneNode → Data → Type 0
    MeasuresValue f json = MeasuresTree before after result (one_fault f json) f.1 (one_tree f json)

    abbrev pub MeasuresPlace : OneNode → Data → Type 0
    MeasuresPlace f json = MeasuresTree before after result (field_fault f json) f.1 (field_tree f json)

    abbrev pub MeasuresPosition : Bool → Plan → Data → Type 0
    MeasuresPosition asked plan json = MeasuresTree before after result (value_fault asked plan json) plan (value_tree asked plan json)

    abbrev pub MeasuresObject : Bool → ℕ → Nodes → Members → Type 0
    MeasuresObject asked T nodes ms = Measures before after result (object_fault asked nodes ms) (object_cost T nodes ms) (Behind (codes "{") (AreEntriesText [] (member_entries nodes ms)))

    abbrev pub MeasuresEntry : OneNode → Members → Type 0
    MeasuresEntry f ms = Measures before after result (entry_fault f ms) (λ part. entry_cost part f.0 + cost part f.1 (entry_tree f ms)) (Behind (key_text f.0.key) (IsTreeText (entry_tree f ms)))

    abbrev pub MeasuresEntries : Nodes → Members → Type 0
    MeasuresEntries nodes ms = Measures before after result (entries_fault nodes ms) (λ part. entries_cost part nodes (member_entries nodes ms)) (AreEntriesText [] (member_entries nodes ms))

    abbrev pub MeasuresList : Bool → OneNode → Data → Type 0
    MeasuresList nullable f json = MeasuresTree before after result (tests.list_fault (λ v. one_fault f v) nullable f.0.size json) f.1 (trees.list_tree (λ v. one_tree f v) json)

    abbrev pub MeasuresItems : Bool → OneNode → Items → Type 0
    MeasuresItems nullable f ds = MeasuresElements before after result (tests.items_fault (λ v. one_fault f v) nullable 0 ds) f.1 (trees.items_tree (λ v. one_tree f v) ds)

    abbrev pub MeasuresItem : Bool → OneNode → Data → Type 0
    MeasuresItem nullable f json = MeasuresTree before after result (tests.null_fault nullable (one_fault f json) json) f.1 (trees.null_tree (one_tree f json) json)

  -- The data of a reply, where it has any.
  abbrev pub content_tree : Plan → Option Data → Option Tree
  content_tree plan json = option_map (trees.data_tree (name_in by.of.now) by.alias.now plan) json

  abbrev pub content_fault : Plan → List ResponseError → Option Data → Option Fault
  content_fault plan errors json = reply.content_fault (holds_in by.of.now) (name_in by.of.now) by.alias.now plan errors json

  abbrev pub MeasuresData : List ℕ → List ℕ → Result Cost MeterFault → Plan → Data → Type 0
  MeasuresData before after result plan json =
      MeasuresTree before after result (tests.data_fault (holds_in by.of.now) (name_in by.of.now) by.alias.now plan json) plan (trees.data_tree (name_in by.of.now) by.alias.now plan json)

  abbrev pub MeasuresContent : List ℕ → List ℕ → Result Cost MeterFault → Plan → List ResponseError → Option Data → Type 0
  MeasuresContent before after result plan errors json =
      Measures before after result (content_fault plan errors json) (λ part. reply_cost part plan (content_tree plan json)) (IsDataPart errors (content_tree plan json))

  -- What was found in a reply that passes every test.
  pub record Found (plan : Plan) (bytes : List ℕ) (metered : Metered) : Type 0 where
    pub members : Members
    pub errors : List ResponseError
    pub is_json : json_of bytes ≡ Some (object members)
    pub errors_read : errors_of (errors_entry members) ≡ Some errors
    pub no_fault : content_fault plan errors (data_entry members) ≡ None
    pub types_cost : metered.cost.types ≡ capped (reply_cost types plan (content_tree plan (data_entry members)))
    pub fields_cost : metered.cost.fields ≡ capped (reply_cost fields plan (content_tree plan (data_entry members)))
    pub text : IsAnswerText (content_tree plan (data_entry members)) errors metered.text

  abbrev pub MeasuresReply : Result Metered MeterFault → Plan → List ℕ → Type 0
  MeasuresReply (Ok metered) plan bytes = Found plan bytes metered
  MeasuresReply (Err f) plan bytes = Tells f (reply.reply_fault (holds_in by.of.now) (name_in by.of.now) by.alias.now plan bytes)

-- The errors are well formed, and their part of the answer was appended; the result says whether there are any.
abbrev pub WritesErrors : List ℕ → List ℕ → Result Bool MeterFault → Option (List ResponseError) → Type 0
WritesErrors before after (Ok some) errors = (es : List ResponseError) × (errors ≡ Some es) × (some ≡ has_errors es) × (after ≡ before ++ errors_part es)
WritesErrors before after (Err f) errors = Tells f (given errors BadErrors (λ es. None))

-- What is well formed was appended as this text. Or it is told that it is not.
abbrev pub Writes : {A : Type 0} → List ℕ → List ℕ → Result ⊤ MeterFault → Option A → (A → List ℕ) → Type 0
Writes {A = A} before after (Ok u) read text = (x : A) × (read ≡ Some x) × (after ≡ before ++ text x)
Writes before after (Err f) read text = Tells f (given read BadErrors (λ x. None))
