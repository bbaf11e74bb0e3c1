-- The first fault of a schema text, by the order of the tests, and within a test by the order of the text; and the schema
-- that a text says.
use Rattle.std.specs.Prelude.{◌≡◌, ℕ, Bool, true, false, List, Option, None, Some, Result, Ok, Err, option_map}
use Rattle.schema_reader.specs.Schemas.{DefinitionTree}
use Rattle.schema_rules.specs.Places.{PlaceTree, place_text}
use Rattle.schema_rules.specs.Items.{ItemTree, items_of}
use Rattle.schema_rules.specs.TypeNames.{NamedKind, types_of}
use Rattle.schema_rules.specs.First.{or_else, fault_where}
use Rattle.schema_rules.specs.TooMany.{too_many}
use Rattle.schema_rules.specs.Repeated.{repeated}
use Rattle.schema_rules.specs.Reserved.{reserved_if}
use Rattle.schema_rules.specs.UnknownType.{unknown_type}
use Rattle.schema_rules.specs.NoQuery.{has_no_query}
use Rattle.schema_rules.specs.WrongKind.{wrong_kind}
use Rattle.schema_rules.specs.FloatScalar.{float_scalar}
use Rattle.schema_rules.specs.NestedList.{nested_list}
use Rattle.schema_rules.specs.EmptyType.{empty_type}
use Rattle.schema_rules.specs.BadDirective.{bad_directive}
use Rattle.input_values.specs.coercion.Forms.{InputForm}
use Rattle.input_values.specs.defaults.Drafts.{AreFilled}
use Rattle.schema_model.specs.Drafts.{TypeDraft, drafts_of}
use Rattle.schema_model.specs.Implementing.{not_implemented}
use Rattle.schema_model.specs.Defaults.{all_asked}
use Rattle.schema_model.specs.BadDefault.{bad_default}
use Rattle.schema_model.specs.declared.fault.SchemaFault.{SchemaFault}
use Rattle.schema_model.specs.declared.fault.SchemaFault.TheVariants.{TooMany, Repeated, Reserved, UnknownType, NoQuery, WrongKind, FloatScalar, NestedList, EmptyType, NotImplemented, BadDirective, BadDefault, Memory}
use Rattle.schema_model.specs.declared.schema.Schema.{Schema}
use Rattle.schema_model.specs.SchemaViews.{schema_data}
use Rattle.schema_model.specs.SchemaData.{SchemaData}
use Rattle.schema_model.specs.Schemas.{schema_with}

pub data FaultTree : Type 0 where
  has_too_many : (counted : ℕ) → FaultTree
  is_repeated : (place : List ℕ) → FaultTree
  is_reserved : (place : List ℕ) → FaultTree
  is_unknown : (name : List ℕ) → FaultTree
  lacks_query : FaultTree
  has_wrong_kind : (place : List ℕ) → FaultTree
  is_float : (place : List ℕ) → FaultTree
  is_nested : (place : List ℕ) → FaultTree
  is_empty : (name : List ℕ) → FaultTree
  is_not_implemented : (place : List ℕ) → FaultTree
  has_bad_directive : (place : List ℕ) → FaultTree

-- a fault at a place
abbrev pub at_place : (List ℕ → FaultTree) → Option PlaceTree → Option FaultTree
at_place fault place = option_map (λ p. fault (place_text p)) place

-- the tests before the numbers of types are known, where reserved names are refused or aren't
abbrev pub fault_of_items_if : Bool → List ItemTree → Option FaultTree
fault_of_items_if refused items = or_else (option_map has_too_many (too_many items)) (or_else (at_place is_repeated (repeated items)) (at_place is_reserved (reserved_if refused items)))

abbrev pub fault_of_items : List ItemTree → Option FaultTree
fault_of_items items = fault_of_items_if true items

-- the tests that ask for types by their names
abbrev pub fault_of_names : List NamedKind → List ItemTree → Option FaultTree
fault_of_names types items = or_else (option_map is_unknown (unknown_type types items)) (or_else (fault_where (has_no_query types items) lacks_query) (at_place has_wrong_kind (wrong_kind types items)))

abbrev pub fault_of_types : List ItemTree → Option FaultTree
fault_of_types items = or_else (at_place is_float (float_scalar items)) (or_else (at_place is_nested (nested_list items)) (option_map is_empty (empty_type items)))

abbrev pub fault_of_drafts : List TypeDraft → List ItemTree → Option FaultTree
fault_of_drafts drafts items = or_else (at_place is_not_implemented (not_implemented drafts)) (at_place has_bad_directive (bad_directive items))

abbrev pub fault_from_types : List TypeDraft → List ItemTree → Option FaultTree
fault_from_types drafts items = or_else (fault_of_types items) (fault_of_drafts drafts items)

abbrev pub fault_from_names : List NamedKind → List TypeDraft → List ItemTree → Option FaultTree
fault_from_names types drafts items = or_else (fault_of_names types items) (fault_from_types drafts items)

-- all tests but that of defaults in their order, where these are the names and the drafts of the types
abbrev pub fault_if : Bool → List NamedKind → List TypeDraft → List ItemTree → Option FaultTree
fault_if refused types drafts items = or_else (fault_of_items_if refused items) (fault_from_names types drafts items)

abbrev pub fault_with : List NamedKind → List TypeDraft → List ItemTree → Option FaultTree
fault_with types drafts items = fault_if true types drafts items

-- the first fault of a text, but for its defaults
abbrev pub first_schema_fault : List DefinitionTree → Option FaultTree
first_schema_fault text = fault_with (types_of (items_of text)) (drafts_of (types_of (items_of text)) text) (items_of text)

-- A fault of the program says this one of the tests before that of defaults. Want of memory may come instead of any answer.
abbrev pub IsFault : SchemaFault → Option FaultTree → Type 0
IsFault (TooMany counted) f = f ≡ Some (has_too_many counted)
IsFault (Repeated place) f = f ≡ Some (is_repeated place)
IsFault (Reserved place) f = f ≡ Some (is_reserved place)
IsFault (UnknownType name) f = f ≡ Some (is_unknown name)
IsFault NoQuery f = f ≡ Some lacks_query
IsFault (WrongKind place) f = f ≡ Some (has_wrong_kind place)
IsFault (FloatScalar place) f = f ≡ Some (is_float place)
IsFault (NestedList place) f = f ≡ Some (is_nested place)
IsFault (EmptyType name) f = f ≡ Some (is_empty name)
IsFault (NotImplemented place) f = f ≡ Some (is_not_implemented place)
IsFault (BadDirective place) f = f ≡ Some (has_bad_directive place)
-- no fault of these tests
IsFault (BadDefault place) f = ⊥
IsFault Memory f = Unit {0}

-- Nothing is at fault, or this is.
abbrev pub PassesTests : {A : Type 0} → Result A SchemaFault → Option FaultTree → Type 0
PassesTests (Ok x) f = f ≡ None
PassesTests (Err fault) f = IsFault fault f

-- The forms of these types, whose defaults are filled beside one another, have this.
abbrev pub OfForms : List TypeDraft → ((ℕ → InputForm) → Type 0) → Type 0
OfForms drafts Has = (form : ℕ → InputForm) × AreFilled (all_asked drafts) form × Has form

-- the text of a place, if there is one
abbrev pub maybe_text : Option PlaceTree → Option (List ℕ)
maybe_text place = option_map place_text place

-- A bad default, where these are the forms of types; want of memory is free.
abbrev pub IsBadDefault : SchemaFault → Option (List ℕ) → Type 0
IsBadDefault (BadDefault place) bad = bad ≡ Some place
IsBadDefault Memory bad = Unit {0}
IsBadDefault fault bad = ⊥

-- What is left once the other tests have found nothing, where these are the forms of types.
abbrev pub EndsWith : (ℕ → InputForm) → List NamedKind → List TypeDraft → List ItemTree → Result Schema SchemaFault → Type 0
EndsWith form types drafts items (Ok s) = (bad_default form types items ≡ None) × (schema_data s ≡ schema_with form items types drafts)
EndsWith form types drafts items (Err fault) = IsBadDefault fault (maybe_text (bad_default form types items))

-- A bad default comes after all other faults.
abbrev pub FailsIf : Bool → List NamedKind → List TypeDraft → List ItemTree → SchemaFault → Type 0
FailsIf refused types drafts items (BadDefault place) = (fault_if refused types drafts items ≡ None) × OfForms drafts (λ form. maybe_text (bad_default form types items) ≡ Some place)
FailsIf refused types drafts items fault = IsFault fault (fault_if refused types drafts items)

-- Nothing is at fault, and this is the schema.
abbrev pub SaysIf : Bool → List NamedKind → List TypeDraft → List ItemTree → SchemaData → Type 0
SaysIf refused types drafts items s = (fault_if refused types drafts items ≡ None) × OfForms drafts (λ form. (bad_default form types items ≡ None) × (s ≡ schema_with form items types drafts))

-- A schema, where nothing is at fault; else the first fault.
abbrev pub BuildsIf : Bool → List NamedKind → List TypeDraft → List ItemTree → Result Schema SchemaFault → Type 0
BuildsIf refused types drafts items (Ok s) = SaysIf refused types drafts items (schema_data s)
BuildsIf refused types drafts items (Err fault) = FailsIf refused types drafts items fault

abbrev pub TextBuildsIf : Bool → List DefinitionTree → Result Schema SchemaFault → Type 0
TextBuildsIf refused text result = BuildsIf refused (types_of (items_of text)) (drafts_of (types_of (items_of text)) text) (items_of text) result

-- The schema that the text says, where it has no fault; else its first fault.
unfoldable pub SchemaBuilds : List DefinitionTree → Result Schema SchemaFault → Type 0
SchemaBuilds text result = TextBuildsIf true text result

-- The same of the text of a schema of schemas, in which reserved names stand by right.
unfoldable pub MetaSchemaBuilds : List DefinitionTree → Result Schema SchemaFault → Type 0
MetaSchemaBuilds text result = TextBuildsIf false text result

-- The text has no fault and says this schema, however much memory there is for it.
unfoldable pub SaysSchema : List DefinitionTree → SchemaData → Type 0
SaysSchema text s = SaysIf true (types_of (items_of text)) (drafts_of (types_of (items_of text)) text) (items_of text) s

-- The text has this first fault; want of memory is none of its own.
abbrev pub HasTestFault : List DefinitionTree → SchemaFault → Type 0
HasTestFault text fault = SchemaBuilds text (Err fault) × (fault ≡ Memory → ⊥)
