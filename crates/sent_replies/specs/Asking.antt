-- Where the name of an object's type is asked for, and the plans that can be read by it.
use Rattle.std.specs.Prelude.{◌≡◌, ℕ, List, [], ◌∷◌, map, Bool, true, false, Option, None, Some}
use Rattle.std.specs.List.{list_any}
use Rattle.serde_json.specs.Data.{Data}
use Rattle.response_model.specs.Plan.{Form, Plan, leaf_plan, position, ObjectTypes, no_type, object_type, Nodes, no_node, node}
use Rattle.response_model.specs.Response.{Tree}
use Rattle.response_model.specs.Reading.{Reads, ReadsReply}
use Rattle.document_reader.specs.Documents.{SelectionTree, field_selection, fragment_spread, inline_fragment, SelectionTrees, no_selection, selection_then}
use Rattle.document_rules.specs.Parts.{FragmentData}
use Rattle.document_rules.specs.Sites.{has_selections, composite_named, below_inline, type_of_kind}
use Rattle.document_rules.specs.Checking.{first_broken}
use Rattle.schema_model.specs.SchemaData.{SchemaData, type_at}
use Rattle.plan_model.specs.SelectedFields.{Setting, Place, written_below, is_asked}
use Rattle.plan_model.specs.Collecting.{WrittenSelections}
use Rattle.plan_model.specs.Merging.{Position}
use Rattle.plan_model.specs.Plans.{IsPlan}
use Rattle.plan_model.specs.Operations.{operation_answer, planned_operation}
use Rattle.plan_model.specs.Visits.{planned_well}
use Rattle.typename_rewrite.specs.Rewriting.{call_of, ended, rewritten_selections}
use Rattle.stripped_responses.specs.Stripping.{stripped, HasNoAlias, FitsSent, SentOperation, own_setting}
use Rattle.sent_replies.specs.Saying.{SaysTree}
use Rattle.sent_replies.specs.Interfaces.{KeepsInterfaces}

-- ---- selections that can be ended

module _ (s : SchemaData) where
  abbrev mutual
    -- Each field whose type is an interface or a union has selections.
    pub HasSelections : Option ℕ → SelectionTree → Type 0
    HasSelections parent (field_selection names arguments directives below) =
        (is_asked s parent (call_of names arguments) ≡ true → has_selections below ≡ true) × HaveSelections (written_below s parent (call_of names arguments)) below
    HasSelections parent (fragment_spread name directives) = Unit {0}
    HasSelections parent (inline_fragment on directives below) = HaveSelections (below_inline s parent on) below

    pub HaveSelections : Option ℕ → SelectionTrees → Type 0
    HaveSelections parent no_selection = Unit {0}
    HaveSelections parent (selection_then x others) = HasSelections parent x × HaveSelections parent others

  abbrev pub AllHaveSelections : List WrittenSelections → Type 0
  AllHaveSelections [] = Unit {0}
  AllHaveSelections (w ∷ ws) = HaveSelections w.0 w.1 × AllHaveSelections ws

  abbrev pub FragmentsHaveSelections : List FragmentData → Type 0
  FragmentsHaveSelections [] = Unit {0}
  FragmentsHaveSelections (f ∷ fs) = HaveSelections (composite_named s f.on.0) f.below × FragmentsHaveSelections fs

-- ---- selections that are ended, each by its own mark

-- selections, and whether the name of the type is asked for at their end
abbrev pub MarkedSelections : Type 0
MarkedSelections = Bool × WrittenSelections

abbrev pub is_marked : MarkedSelections → Bool
is_marked m = m.0

abbrev pub written_of : MarkedSelections → WrittenSelections
written_of m = m.1

-- Where the name is asked for, there are selections.
abbrev pub CanBeEnded : List MarkedSelections → Type 0
CanBeEnded [] = Unit {0}
CanBeEnded (m ∷ ms) = (m.0 ≡ true → has_selections m.1.1 ≡ true) × CanBeEnded ms

module _ (alias : List ℕ) where
  -- as they are sent
  abbrev pub sent_of : SchemaData → MarkedSelections → WrittenSelections
  sent_of s m = (m.1.0, ended alias m.0 (rewritten_selections s alias m.1.0 m.1.1))

  -- A position, and what is sent in its place, where the name of the type is asked for by one of its lists of selections or
  -- by none.
  pub record IsSentAsking (e : Setting) (asked : Bool) (p q : Position) : Type 0 where
    pub marked : List MarkedSelections
    pub own : p.selections ≡ map written_of marked
    pub sent : q.selections ≡ map (sent_of e.schema) marked
    pub asks : list_any is_marked marked ≡ asked
    pub can_be_ended : CanBeEnded marked
    pub handed : q.handed ≡ p.handed

-- ---- plans

-- There is no second type.
abbrev pub HasOneType : ObjectTypes → Type 0
HasOneType no_type = Unit {0}
HasOneType (object_type T weight nodes no_type) = Unit {0}
HasOneType (object_type T weight nodes (object_type U weight' nodes' others)) = ⊥

abbrev pub TellsType : Bool → ObjectTypes → Type 0
TellsType true possible = Unit {0}
TellsType false possible = HasOneType possible

abbrev mutual
  -- Where objects of several types may stand, the name of the type is asked for.
  pub TellsTypes : Bool → Plan → Type 0
  TellsTypes asked (leaf_plan type weight fill) = Unit {0}
  TellsTypes asked (position possible) = TellsType asked possible × BelowTypesTell possible

  pub BelowTypesTell : ObjectTypes → Type 0
  BelowTypesTell no_type = Unit {0}
  BelowTypesTell (object_type T weight nodes others) = BelowNodesTell nodes × BelowTypesTell others

  pub BelowNodesTell : Nodes → Type 0
  BelowNodesTell no_node = Unit {0}
  BelowNodesTell (node s below others) = TellsTypes s.asked below × BelowNodesTell others

-- ---- readings by the client's plan

-- the names of a schema's types
abbrev pub type_names : SchemaData → ℕ → List ℕ
type_names s T = (type_at s T).name

module _ (alias : List ℕ) where
  -- A position with its plan, and what is sent in its place: no key is the alias, each field whose type is an interface or a
  -- union has selections, and where several types are possible their names are asked for.
  pub record IsSentBy (e : Setting) (asked : Bool) (place : Place) (p q : Position) (plan : Plan) : Type 0 where
    pub has_none : HasNoAlias alias e p
    pub own_selections : AllHaveSelections e.schema p.selections
    pub fragments : FragmentsHaveSelections e.schema e.fragments
    pub is_sent : IsSentAsking alias e asked p q
    pub is_plan : IsPlan e place p plan
    pub tells : TellsTypes asked plan

  -- how a JSON value is read by a plan of this schema
  abbrev pub ReadsIn : SchemaData → Form → Bool → Plan → Data → Tree → Type 0
  ReadsIn s form asked plan json t = Reads (type_names s) alias form asked plan json t

  -- Each response to what is sent: its JSON reads by the plan as the response without the names of types that were added.
  abbrev pub ReadsAllSent : Setting → Form → Bool → Place → Position → Plan → Type 0
  ReadsAllSent e form asked place q plan = (t : Tree) (json : Data) → FitsSent alias e form place q t → SaysTree json t → ReadsIn e.schema form asked plan json (stripped alias t)

  -- An operation that is sent, of a schema whose types keep their interfaces: it breaks no rule and is planned well.
  pub record IsPlannedWell (x : SentOperation alias) : Type 0 where
    pub keeps : KeepsInterfaces x.schema
    pub kept : first_broken x.schema x.document x.operation ≡ None
    pub root : type_of_kind x.schema x.operation.kind ≡ Some x.root
    pub well : operation_answer (own_setting alias x) x.root x.operation ≡ planned_well

  -- the client's own plan of it
  abbrev pub own_plan : SentOperation alias → Plan
  own_plan x = planned_operation (own_setting alias x) x.root x.operation

  -- A JSON value reads by it as a tree.
  abbrev pub ReadsReplyTo : SentOperation alias → Data → Tree → Type 0
  ReadsReplyTo x json t = ReadsReply (type_names x.schema) alias (own_plan x) json t
