-- Responses to a rewritten operation, without the entries of the names of types that were added.
use Rattle.std.specs.Prelude.{◌≡◌, ℕ, List, [], ◌∷◌, map, Bool, false, Option, None, Some, if◌then◌else◌}
use Rattle.std.specs.Str.{bytes_eq}
use Rattle.input_values.specs.coercion.Literals.{Environment}
use Rattle.cost_directives.specs.Weights.{WeightsData}
use Rattle.response_model.specs.Plan.{Form}
use Rattle.response_model.specs.Cost.{Part}
use Rattle.response_model.specs.Response.{Tree, null, leaf, list_of, object, Elements, no_element, element, Entries, no_entry, entry}
use Rattle.document_reader.specs.declared.trees.Definition.{Definition}
use Rattle.document_reader.specs.declared.trees.Operation.{Operation}
use Rattle.document_reader.specs.Trees.{definition_tree, set_tree}
use Rattle.document_reader.specs.Documents.{SelectionTree, field_selection, fragment_spread, inline_fragment, SelectionTrees, no_selection, selection_then}
use Rattle.document_rules.specs.Parts.{FragmentData, operation_at}
use Rattle.schema_model.specs.SchemaData.{SchemaData}
use Rattle.plan_model.specs.SelectedFields.{Setting, Place}
use Rattle.plan_model.specs.Collecting.{WrittenSelections}
use Rattle.plan_model.specs.Merging.{Position}
use Rattle.plan_model.specs.Responses.{FitsSelections, KeepsSizes, response_cost, IsResponseTo}
use Rattle.plan_model.specs.Operations.{setting_of, root_place, root_position}
use Rattle.typename_rewrite.specs.Rewriting.{rewritten_selections, rewritten_fragment, ended}
use Rattle.typename_rewrite.specs.AddedNames.{names_of_document, is_taken}

module _ (alias : List ℕ) where
  abbrev mutual
    -- A response without the entries under the alias.
    pub stripped : Tree → Tree
    stripped null = null
    stripped (leaf json) = leaf json
    stripped (list_of ts) = list_of (stripped_elements ts)
    stripped (object T es) = object T (stripped_entries es)

    pub stripped_entries : Entries → Entries
    stripped_entries no_entry = no_entry
    stripped_entries (entry key t es) = if bytes_eq key alias then stripped_entries es else entry key (stripped t) (stripped_entries es)

    pub stripped_elements : Elements → Elements
    stripped_elements no_element = no_element
    stripped_elements (element t ts) = element (stripped t) (stripped_elements ts)

  -- ---- selections in which no response key is the alias

  abbrev mutual
    pub IsFreeOne : SelectionTree → Type 0
    IsFreeOne (field_selection names arguments directives below) = (bytes_eq names.0.0 alias ≡ false) × IsFree below
    IsFreeOne (fragment_spread name directives) = Unit {0}
    IsFreeOne (inline_fragment on directives below) = IsFree below

    pub IsFree : SelectionTrees → Type 0
    IsFree no_selection = Unit {0}
    IsFree (selection_then x others) = IsFreeOne x × IsFree others

  abbrev pub AreFree : List WrittenSelections → Type 0
  AreFree [] = Unit {0}
  AreFree (w ∷ ws) = IsFree w.1 × AreFree ws

  abbrev pub AreFragmentsFree : List FragmentData → Type 0
  AreFragmentsFree [] = Unit {0}
  AreFragmentsFree (f ∷ fs) = IsFree f.below × AreFragmentsFree fs

  -- ---- what is rewritten

  -- by what the rewritten operation is answered
  abbrev pub rewritten_setting : Setting → Setting
  rewritten_setting e = record e { fragments = map (rewritten_fragment e.schema alias) e.fragments }

  -- Selections that are rewritten one by one, each with an end of its own or without.
  abbrev pub AreRewritten : SchemaData → List WrittenSelections → List WrittenSelections → Type 0
  AreRewritten s [] [] = Unit {0}
  AreRewritten s [] (v ∷ vs) = ⊥
  AreRewritten s (w ∷ ws) [] = ⊥
  AreRewritten s (w ∷ ws) (v ∷ vs) = ((asked : Bool) × (v ≡ (w.0, ended alias asked (rewritten_selections s alias w.0 w.1)))) × AreRewritten s ws vs

  -- A position whose selections are rewritten, and the size that is handed down stays.
  pub record IsRewritten (s : SchemaData) (p q : Position) : Type 0 where
    pub selections : AreRewritten s p.selections q.selections
    pub handed : q.handed ≡ p.handed

  -- No response key at a position, and none in a fragment, is the alias.
  pub record HasNoAlias (e : Setting) (p : Position) : Type 0 where
    pub own : AreFree p.selections
    pub fragments : AreFragmentsFree e.fragments

  -- the position of a rewritten operation's own selections
  abbrev pub rewritten_root : SchemaData → ℕ → Operation → Position
  rewritten_root s root o = record { selections = (Some root, rewritten_selections s alias (Some root) (set_tree o.selections.items)) ∷ []; handed = None }

  -- A position, and what is sent in its place: no key is the alias, and its selections are rewritten.
  pub record IsSentFor (e : Setting) (p q : Position) : Type 0 where
    pub has_none : HasNoAlias e p
    pub is_rewritten : IsRewritten e.schema p q

  -- responses to what is sent, and what they cost
  abbrev pub FitsSent : Setting → Form → Place → Position → Tree → Type 0
  FitsSent e form place q t = FitsSelections (rewritten_setting e) form place q t

  abbrev pub KeepsSent : Setting → Option ℕ → Place → Position → Tree → Type 0
  KeepsSent e size place q t = KeepsSizes (rewritten_setting e) size place q t

  abbrev pub cost_sent : Setting → Part → Place → Position → Tree → ℕ
  cost_sent e part place q t = response_cost (rewritten_setting e) part place q t

  -- This is a response to what is sent, without the names of types that were added.
  abbrev pub ComesFromSent : Setting → Form → Option ℕ → Place → Position → Tree → Type 0
  ComesFromSent e form size place q s = (t : Tree) × FitsSent e form place q t × KeepsSent e size place q t × (stripped t ≡ s)

  -- Where a response fits what is sent, it fits the own selections without the names of types that were added.
  abbrev pub FitsStripped : Setting → Form → Place → Position → Position → Tree → Type 0
  FitsStripped e form place p q t = FitsSent e form place q t → FitsSelections e form place p (stripped t)

  -- Where it keeps their sizes too, it keeps those of the own selections.
  abbrev pub KeepsStripped : Setting → Form → Option ℕ → Place → Position → Position → Tree → Type 0
  KeepsStripped e form size place p q t = FitsSent e form place q t → KeepsSent e size place q t → KeepsSizes e size place p (stripped t)

  -- It costs the same by both.
  abbrev pub CostsStripped : Setting → Form → Part → Place → Position → Position → Tree → Type 0
  CostsStripped e form part place p q t = FitsSent e form place q t → cost_sent e part place q t ≡ response_cost e part place p (stripped t)

  -- Where a response fits the own selections and keeps their sizes, it comes from one to what is sent.
  abbrev pub IsStrippedOne : Setting → Form → Option ℕ → Place → Position → Position → Tree → Type 0
  IsStrippedOne e form size place p q s = FitsSelections e form place p s → KeepsSizes e size place p s → ComesFromSent e form size place q s

  -- ---- whole operations

  -- The alias is no name of the document, and the operation stands in it.
  pub record IsFreeFor (ds : List Definition) (o : Operation) : Type 0 where
    pub place : ℕ
    pub stands : operation_at ds place ≡ Some o
    pub free : is_taken (names_of_document (map definition_tree ds)) alias ≡ false

  -- An operation that is sent, with what it is answered by.
  pub record SentOperation : Type 0 where
    pub schema : SchemaData
    pub weights : WeightsData
    pub values : Environment
    pub document : List Definition
    pub root : ℕ
    pub operation : Operation
    pub free : IsFreeFor document operation

  abbrev pub own_setting : SentOperation → Setting
  own_setting x = setting_of x.schema x.weights x.values x.document x.operation

  -- A response to the operation itself, and what it costs.
  abbrev pub IsOwnResponse : SentOperation → Tree → Type 0
  IsOwnResponse x t = IsResponseTo (own_setting x) (root_place x.root) (root_position x.root x.operation) t

  abbrev pub own_cost : SentOperation → Part → Tree → ℕ
  own_cost x part t = response_cost (own_setting x) part (root_place x.root) (root_position x.root x.operation) t

  -- A response to what is sent in its place.
  abbrev pub IsSentResponse : SentOperation → Tree → Type 0
  IsSentResponse x t = IsResponseTo (rewritten_setting (own_setting x)) (root_place x.root) (rewritten_root x.schema x.root x.operation) t

  abbrev pub sent_cost : SentOperation → Part → Tree → ℕ
  sent_cost x part t = cost_sent (own_setting x) part (root_place x.root) (rewritten_root x.schema x.root x.operation) t
