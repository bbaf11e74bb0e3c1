-- The tests of a node, one after another, and what is found of it where it passes them.
use Rattle.std.specs.Prelude.{◌≡◌, ◌≤◌, ℕ, Bool, true, false, not, List, ◌∷◌, map, length, get_or, option_map, ◌++◌, All, IfSome, slice_get, Option, None, Some, Result, Ok, Err, ◌||◌}
use Rattle.std.specs.List.{list_any}
use Rattle.std.specs.Str.{bytes_eq}
use Rattle.cost_num.specs.Capped.{capped}
use Rattle.schema_rules.specs.First.{or_else, fault_where, first_of}
use Rattle.input_values.specs.values.Coerced.{CoercedTree}
use Rattle.schema_model.specs.declared.args.Args.{Args}
use Rattle.schema_model.specs.Arguments.{ArgData, args_data}
use Rattle.cost_directives.specs.Weights.{argument_cost_in, declared_size_in}
use Rattle.cost_directives.specs.declared.sizes.Size.{Size}
use Rattle.cost_directives.specs.declared.sizes.SizeFault.{SizeFault}
use Rattle.cost_directives.specs.declared.sources.SizeSource.{SizeSource}
use Rattle.cost_directives.specs.SizeSources.{size_source_in}
use Rattle.variable_coercion.specs.declared.faults.ArgFault.{ArgFault}
use Rattle.variable_coercion.specs.Refusals.{Refusal}
use Rattle.variable_coercion.specs.Calls.{argument_told, IsTold}
use Rattle.schema_model.specs.declared.entries.FieldId.{FieldId}
use Rattle.document_rules.specs.Sites.{known_field}
use Rattle.plan_model.specs.SelectedFields.{Setting, FieldCall, HandedSize, form_of, handed_in, coerced_arguments, refusal_of, if_coerced, size_answer, size_in, length_in, fault_in, sized_by, meaning_at, size_at, hands_at, cost_at}
use Rattle.plan_model.specs.Collecting.{CollectedField}
use Rattle.plan_model.specs.SameArguments.{value_of, same_arguments}
use Rattle.plan_model.specs.Merging.{first_call}
use Rattle.plan_model.specs.Visits.{NodeFault, too_deep, conflict, refused_argument, refused_size, no_possible_type, fault_of}
use Rattle.collected_fields.specs.declared.planning.Planning.{Planning}
use Rattle.collected_fields.specs.declared.collected.Collected.{Collected}
use Rattle.collected_fields.specs.Views.{setting_of_planning, collected_field}
use Rattle.plan_table.specs.ListSizes.{size_from}
use Rattle.plan_table.specs.Tables.{meaning_of}
use Rattle.literal_loads.specs.Loads.{Scale}
use Rattle.literal_loads.specs.KnownInputs.{scale_of, AreRight}
use Rattle.literal_loads.specs.declared.loads.Loads.{Loads}
use Rattle.merged_selections.specs.declared.call.Call.{Call}
use Rattle.merged_selections.specs.declared.calls.Calls.{Calls}
use Rattle.merged_selections.specs.declared.calls.BuiltAt.{BuiltAt}
use Rattle.merged_selections.specs.declared.lookups.Handed.{Handed}
use Rattle.merged_selections.specs.declared.node.Looked.{Looked}
use Rattle.merged_selections.specs.declared.why.Why.{Why}
use Rattle.merged_selections.specs.declared.why.Why.TheVariants.{TooDeep, Conflict, Argument, Size as SizeWhy, NoPossibleType}
use Rattle.merged_selections.specs.NodeParts.{handed_data, has_lists, lacks_types_below}
use Rattle.plan_model.specs.GivenAlike.{AreGivenAlike}

-- ---- what a refusal tells; want of memory tells nothing

abbrev pub fault_told : Why → Option NodeFault
fault_told TooDeep = Some too_deep
fault_told Conflict = Some conflict
fault_told (Argument fault) = option_map refused_argument (argument_told fault)
fault_told (SizeWhy fault) = Some (refused_size fault)
fault_told NoPossibleType = Some no_possible_type

-- What is told is there.
abbrev pub IsThere : {A : Type 0} → Option A → Option A → Type 0
IsThere (Some told) there = there ≡ Some told
IsThere None there = Unit {0}

-- A node with this fault, or with none: what is found of it, or what is told.
abbrev pub Looks : {X : Type 0} → (X → Type 0) → Result X Why → Option NodeFault → Type 0
Looks IsFound (Ok x) fault = (fault ≡ None) × IsFound x
Looks IsFound (Err why) fault = IsThere (fault_told why) fault

-- Arguments of which this one is refused first, or none.
abbrev pub Compares : Result Bool ArgFault → Option Refusal → Bool → Type 0
Compares (Ok differ) refused differs = (refused ≡ None) × (differ ≡ differs)
Compares (Err fault) refused differs = IsThere (argument_told fault) refused

-- what a field hands down
abbrev pub handed_by : Setting → ℕ → List ArgData → HandedSize
handed_by e field args = option_map (λ n. (sized_by e (known_field field), n)) (length_in (size_answer e (known_field field) args None))

-- ---- the fields of a node, where their name means this field

module _ (e : Setting) (field : ℕ) where
  abbrev pub coerced_of : CollectedField → Result (List ArgData) Refusal
  coerced_of f = coerced_arguments e.schema field f.call.arguments e.values

  -- its arguments, or none where one is refused
  abbrev pub args_given : CollectedField → List ArgData
  args_given f = if_coerced (coerced_of f)

  -- All of them are coerced.
  abbrev pub IsCoerced : CollectedField → Type 0
  IsCoerced f = coerced_of f ≡ Ok (args_given f)

  -- What they cost, or what they are refused for.
  abbrev pub Costs : CollectedField → Result ℕ ArgFault → Type 0
  Costs f (Ok cost) = IsCoerced f × (cost ≡ capped (argument_cost_in e.weights field (args_given f)))
  Costs f (Err fault) = IsTold (argument_told fault) (coerced_of f)

  abbrev pub refused_in : CollectedField → Option Refusal
  refused_in f = refusal_of (coerced_of f)

  abbrev pub first_refused : List CollectedField → Option Refusal
  first_refused fields = first_of refused_in fields

  abbrev pub differs_from : List ArgData → CollectedField → Bool
  differs_from args f = not (same_arguments args (if_coerced (coerced_of f)))

  abbrev pub differ_from : List ArgData → List CollectedField → Bool
  differ_from args fields = list_any (differs_from args) fields

  -- ---- the tests that are left

  module _ (handed : HandedSize) (name : List ℕ) (args : List ArgData) where
    abbrev pub own_size : Result Size SizeFault
    own_size = size_answer e (known_field field) args (handed_in (form_of e.schema (known_field field)) handed name)

    abbrev pub fault_after_size : Option NodeFault
    fault_after_size = fault_where (lacks_types_below e.schema field) no_possible_type

    abbrev pub fault_after_arguments : Option NodeFault
    fault_after_arguments = or_else (option_map refused_size (fault_in own_size)) fault_after_size

    -- behind the first of the fields, whose arguments these are
    abbrev pub fault_of_others : List CollectedField → Option NodeFault
    fault_of_others others = or_else (option_map refused_argument (first_refused others)) (or_else (fault_where (differ_from args others) conflict) fault_after_arguments)

    -- what is found of it
    pub record IsFoundOf (looked : Looked) : Type 0 where
      pub meaning : meaning_of looked.field ≡ known_field field
      pub size : size_from looked.source ≡ size_in (form_of e.schema (known_field field)) own_size
      pub arguments : looked.arguments ≡ capped (argument_cost_in e.weights field args)
      pub hands : handed_data looked.hands ≡ handed_by e field args

  -- What is found behind the first of the fields, or the first test that isn't passed.
  module _ {X : Type 0} (IsIt : List ArgData → X → Type 0) (handed : HandedSize) (name : List ℕ) (others : List CollectedField) (result : Result X Why) where
    abbrev pub LooksBehind : Result (List ArgData) Refusal → Type 0
    LooksBehind (Ok args) = Looks (IsIt args) result (fault_of_others handed name args others)
    LooksBehind (Err refusal) = Looks (λ x. ⊥) result (Some (refused_argument refusal))

-- ---- a field's call

-- The arguments of the field that a call was made of.
abbrev pub args_in : Setting → Call → List ArgData
args_in e call = args_given e call.of.number (collected_field call.field)

-- A field's size and its source, and the size that it hands down, are the same by these arguments as by others.
pub record SizesAlike (e : Setting) (field : ℕ) (args others : List ArgData) : Type 0 where
  pub sizes : (handed : Option ℕ) → declared_size_in e.weights field args handed ≡ declared_size_in e.weights field others handed
  pub sources : (handed : Option ℕ) → size_source_in e.weights field args handed ≡ size_source_in e.weights field others handed

-- The arguments of the field of this number, where it is written so, are those of the call; what its size is found by, what they
-- cost, and the size that it hands down.
pub record IsCall (e : Setting) (field : ℕ) (f : CollectedField) (call : Call) : Type 0 where
  pub coerced : coerced_of e field f ≡ Ok (args_in e call)
  pub sized : SizesAlike e field (args_data call.sizes) (args_in e call)
  pub cost : call.cost ≡ capped (argument_cost_in e.weights field (args_in e call))
  pub hands : handed_data call.hands ≡ handed_by e field (args_in e call)

-- A call that is kept is that of its own field.
abbrev pub IsKept : Setting → Call → Type 0
IsKept e call = IsCall e call.of.number (collected_field call.field) call

-- One stands at this place, of which this holds.
abbrev pub IsThereWith : (Call → Type 0) → Option Call → Type 0
IsThereWith Holds None = ⊥
IsThereWith Holds (Some call) = Holds call

-- Literals are weighed by the schema, the weights and the variables of the setting, and what is kept of them is right.
abbrev pub scale_at : Setting → Scale
scale_at e = record { schema = e.schema; weights = e.weights; values = e.values }

pub record IsScaled (e : Setting) (loads : Loads) : Type 0 where
  pub scale : scale_of loads.of ≡ scale_at e
  pub right : AreRight loads

module _ (e : Setting) where
  -- whether the arguments of two calls are equal
  abbrev pub same_calls : Call → Call → Bool
  same_calls call other = same_arguments (args_in e call) (args_in e other)

  -- whether these arguments are those of a field; of one whose arguments are coerced it isn't told for want of memory alone
  abbrev pub ComparesArgs : List ArgData → ℕ → CollectedField → Result Bool ArgFault → Type 0
  ComparesArgs args field f (Ok same) = same ≡ same_arguments args (args_given e field f)
  ComparesArgs args field f (Err fault) = IsCoerced e field f → argument_told fault ≡ None

  -- the values of a call's arguments, and those of the call at a place
  abbrev pub values_in : Call → List (Option CoercedTree)
  values_in call = map value_of (args_in e call)

  module _ (calls : List Call) where
    abbrev pub values_at : ℕ → Option (List (Option CoercedTree))
    values_at at = option_map values_in (slice_get calls at)

    -- For each call one is noted whose arguments are equal, or itself.
    pub record AreEqual (equal : List ℕ) : Type 0 where
      pub short : length equal ≤ length calls
      pub values : (at : ℕ) → values_at (get_or equal at at) ≡ values_at at

    -- The call at a place is equal to this one.
    abbrev pub IsSameAsAt : ℕ → Call → Type 0
    IsSameAsAt at other = IsThereWith (λ call. same_calls call other ≡ true) (slice_get calls at)

    -- The arguments of a field are those of the call at a place.
    abbrev pub IsSameField : ℕ → ℕ → CollectedField → Type 0
    IsSameField at field f = IfSome (slice_get calls at) (λ call. same_arguments (args_in e call) (args_given e field f) ≡ true)

    -- whether they are
    abbrev pub ComparesField : ℕ → ℕ → CollectedField → Result Bool ArgFault → Type 0
    ComparesField at field f result = IfSome (slice_get calls at) (λ call. ComparesArgs (args_in e call) field f result)

    -- whether the calls at two places are equal
    module _ (at place : ℕ) where
      abbrev pub AreSameAt : Bool → Type 0
      AreSameAt same = IfSome (slice_get calls at) (λ call. IfSome (slice_get calls place) (λ other. same ≡ same_calls call other))

      abbrev pub ComparesPlaces : Result Bool ArgFault → Type 0
      ComparesPlaces (Ok same) = AreSameAt same
      ComparesPlaces (Err fault) = argument_told fault ≡ None

    -- These are the arguments of the call at a place, or memory was wanting.
    abbrev pub GivesAt : ℕ → Result Args ArgFault → Type 0
    GivesAt at (Ok args) = IsThereWith (λ call. coerced_of e call.of.number (collected_field call.field) ≡ Ok (args_data args)) (slice_get calls at)
    GivesAt at (Err fault) = argument_told fault ≡ None

    abbrev pub IsBuiltAt : BuiltAt → Type 0
    IsBuiltAt b = GivesAt b.at (Ok b.args)

  -- Calls are those of their fields, those that are noted are equal, literals are weighed rightly, and what was built last are the
  -- arguments of the call at its place.
  abbrev pub AreKept : Calls → Type 0
  AreKept calls = All (IsKept e) calls.made.items × AreEqual calls.made.items calls.equal.items × IsScaled e calls.loads × IfSome calls.built (IsBuiltAt calls.made.items)

-- The call is of the field of this number, whose arguments are given alike.
abbrev pub IsAlike : Call → ℕ → CollectedField → Type 0
IsAlike call field f = (call.of.number ≡ field) × AreGivenAlike (collected_field call.field).call.arguments f.call.arguments

-- The field's size is found by these as by all its arguments; where they aren't found, memory was wanting.
abbrev pub FindsSizes : Setting → ℕ → CollectedField → Result Args ArgFault → Type 0
FindsSizes e field f (Ok sizes) = SizesAlike e field (args_data sizes) (args_given e field f)
FindsSizes e field f (Err fault) = argument_told fault ≡ None

-- The arguments of the field are coerced, or this is what they are refused for.
abbrev pub TellsRefusal : Setting → ℕ → CollectedField → Result (Unit {0}) ArgFault → Type 0
TellsRefusal e field f (Ok done) = refused_in e field f ≡ None
TellsRefusal e field f (Err fault) = IsThere (argument_told fault) (refused_in e field f)

-- A call by what its size is found by and what its arguments cost, where they are coerced.
abbrev pub MakesBy : Setting → ℕ → CollectedField → List ArgData → ℕ → Call → Type 0
MakesBy e field f sizes cost call =
    SizesAlike e field sizes (args_given e field f) → Costs e field f (Ok cost) → IsCall e field f call × IsKept e call

-- A call of a field that may be kept, or what its arguments are refused for.
abbrev pub MakesCall : Setting → ℕ → CollectedField → Result Call ArgFault → Type 0
MakesCall e field f (Ok call) = IsCall e field f call × IsKept e call
MakesCall e field f (Err fault) = IsTold (argument_told fault) (coerced_of e field f)

-- ---- calls at their places

abbrev pub IsAlikeAt : List Call → ℕ → ℕ → CollectedField → Type 0
IsAlikeAt calls at field f = IsThereWith (λ call. IsAlike call field f) (slice_get calls at)

abbrev pub IsCallAt : Setting → List Call → ℕ → ℕ → CollectedField → Type 0
IsCallAt e calls at field f = IsThereWith (IsCall e field f) (slice_get calls at)

-- The place of a call of a field, or what its arguments are refused for.
abbrev pub FindsCall : Setting → ℕ → CollectedField → List Call → Result ℕ ArgFault → Type 0
FindsCall e field f calls (Ok at) = IsCallAt e calls at field f
FindsCall e field f calls (Err fault) = IsTold (argument_told fault) (coerced_of e field f)

-- Some stand behind these now, or none.
abbrev pub Grows : List Call → List Call → Type 0
Grows calls now = (more : List Call) × (now ≡ calls ++ more)

-- ---- what the calls on a field say

module _ (p : Planning) (of : FieldId) where
  abbrev pub setting_seen : Setting
  setting_seen = setting_of_planning p

  -- the call at a place
  module _ (calls : List Call) (at : ℕ) where
    abbrev pub ForCallAt : (Call → Type 0) → Type 0
    ForCallAt Holds = IfSome (slice_get calls at) Holds

    -- whether another field's arguments differ from those of the call
    abbrev pub ComparesAt : Collected → Result Bool ArgFault → Type 0
    ComparesAt other result =
        ForCallAt (λ call. Compares result (refused_in setting_seen of.number (collected_field other)) (differs_from setting_seen of.number (args_in setting_seen call) (collected_field other)))

    -- where some differ already
    abbrev pub ComparesWith : Bool → Collected → Result Bool ArgFault → Type 0
    ComparesWith differ other result =
        ForCallAt (λ call. Compares result (refused_in setting_seen of.number (collected_field other)) (differ || differs_from setting_seen of.number (args_in setting_seen call) (collected_field other)))

    abbrev pub ComparesAll : List Collected → Result Bool ArgFault → Type 0
    ComparesAll others result =
        ForCallAt (λ call. Compares result (first_refused setting_seen of.number (map collected_field others)) (differ_from setting_seen of.number (args_in setting_seen call) (map collected_field others)))

  abbrev pub name_seen : Collected → List ℕ
  name_seen first = (collected_field first).call.name

  module _ (handed : Option Handed) (first : Collected) (call : Call) where
    abbrev pub IsCallHere : Type 0
    IsCallHere = IsCall setting_seen of.number (collected_field first) call

    abbrev pub IsFoundHere : Looked → Type 0
    IsFoundHere looked = IsFoundOf setting_seen of.number (handed_data handed) (name_seen first) (args_in setting_seen call) looked

    -- where the source is that of its size
    abbrev pub LooksAfterSize : Option SizeSource → Result Looked Why → Type 0
    LooksAfterSize source result =
        IsCallHere → size_from source ≡ size_in (form_of setting_seen.schema (known_field of.number)) (own_size setting_seen of.number (handed_data handed) (name_seen first) (args_in setting_seen call))
        → Looks IsFoundHere result (fault_after_size setting_seen of.number (handed_data handed) (name_seen first) (args_in setting_seen call))

    abbrev pub LooksAfterArguments : Result Looked Why → Type 0
    LooksAfterArguments result = IsCallHere → Looks IsFoundHere result (fault_after_arguments setting_seen of.number (handed_data handed) (name_seen first) (args_in setting_seen call))

    abbrev pub LooksBeforeOthers : List Collected → Result Looked Why → Type 0
    LooksBeforeOthers others result = IsCallHere → Looks IsFoundHere result (fault_of_others setting_seen of.number (handed_data handed) (name_seen first) (args_in setting_seen call) (map collected_field others))

  abbrev pub LooksAfterFirst : Option Handed → Collected → List Call → ℕ → List Collected → Result Looked Why → Type 0
  LooksAfterFirst handed first calls at others result = ForCallAt calls at (λ call. LooksBeforeOthers handed first call others result)

  abbrev pub LooksAfterNames : Option Handed → Collected → List Collected → Result Looked Why → Type 0
  LooksAfterNames handed first others result =
      LooksBehind setting_seen of.number (IsFoundOf setting_seen of.number (handed_data handed) (name_seen first)) (handed_data handed) (name_seen first) (map collected_field others) result (coerced_of setting_seen of.number (collected_field first))

-- ---- a node for objects of the type T

abbrev pub names_not : List ℕ → List CollectedField → Bool
names_not name fields = list_any (λ f. not (bytes_eq f.call.name name)) fields

-- What is found of a node that passes the tests.
pub record IsFound (e : Setting) (T : ℕ) (handed : HandedSize) (c : FieldCall) (looked : Looked) : Type 0 where
  pub meaning : meaning_of looked.field ≡ meaning_at e T c
  pub size : size_from looked.source ≡ size_at e T c handed
  pub arguments : looked.arguments ≡ capped (cost_at e T c)
  pub hands : handed_data looked.hands ≡ hands_at e T c

-- the fields of a node, the first and the others
abbrev pub fields_seen : Collected → List Collected → List CollectedField
fields_seen first others = collected_field first ∷ map collected_field others

-- What is found of a node, or the first test that it doesn't pass.
abbrev pub LooksAt : Setting → ℕ → Option Handed → List CollectedField → Result Looked Why → Type 0
LooksAt e T handed fields result = Looks (IsFound e T (handed_data handed) (first_call fields)) result (fault_of e T (handed_data handed) fields)

-- This was found of a node of these fields, which has no fault.
abbrev pub IsLookedAt : Setting → ℕ → HandedSize → List CollectedField → Looked → Type 0
IsLookedAt e T handed fields looked = (fault_of e T handed fields ≡ None) × IsFound e T handed (first_call fields) looked

-- ---- the source of its size

abbrev pub where_listed : Bool → SizeSource → Option SizeSource
where_listed true source = Some source
where_listed false source = None

-- where the declared size of a field's list comes from; none where it is no list
abbrev pub source_at : Setting → ℕ → List ArgData → Option ℕ → Option SizeSource
source_at e field args taken = where_listed (has_lists e.schema field) (size_source_in e.weights field args taken)
