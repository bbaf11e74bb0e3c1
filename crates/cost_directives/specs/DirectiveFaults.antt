-- The first fault of the cost directives of a schema, by the order of the tests, and within a test by the order of the text;
-- and the weights of a schema without a fault.
use Rattle.std.specs.Prelude.{◌≡◌, ℕ, List, Option, None, Some, Result, Ok, Err, option_map}
use Rattle.cost_num.specs.declared.weights.WeightFault.{WeightFault}
use Rattle.schema_rules.specs.Places.{place_text}
use Rattle.schema_rules.specs.First.{or_else}
use Rattle.schema_model.specs.SchemaData.{SchemaData}
use Rattle.cost_directives.specs.declared.fault.DirectiveFault.{DirectiveFault}
use Rattle.cost_directives.specs.declared.fault.DirectiveFault.TheVariants.{Weight, NotAList, Dotted, SlicingUnknown, SlicingNotInt, SizedOnList, SizedUnknown, NegativeSize, Disagree, Memory}
use Rattle.cost_directives.specs.declared.weights.Weights.{Weights}
use Rattle.cost_directives.specs.Weights.{weights_of}
use Rattle.cost_directives.specs.WeightViews.{weights_data}
use Rattle.cost_directives.specs.BadWeight.{BadWeightData, bad_weight}
use Rattle.cost_directives.specs.FieldPlaces.{NameAt}
use Rattle.cost_directives.specs.NotAList.{not_a_list}
use Rattle.cost_directives.specs.Dotted.{dotted}
use Rattle.cost_directives.specs.SlicingUnknown.{slicing_unknown}
use Rattle.cost_directives.specs.SlicingNotInt.{slicing_not_int}
use Rattle.cost_directives.specs.SizedOnList.{sized_on_list}
use Rattle.cost_directives.specs.SizedUnknown.{sized_unknown}
use Rattle.cost_directives.specs.NegativeSize.{negative_size}
use Rattle.cost_directives.specs.Disagree.{disagree}

pub data FaultTree : Type 0 where
  is_no_weight : (place : List ℕ) (fault : WeightFault) → FaultTree
  is_no_list : (place : List ℕ) → FaultTree
  is_dotted : (place : List ℕ) → FaultTree
  slices_unknown : (found : NameAt) → FaultTree
  slices_no_int : (found : NameAt) → FaultTree
  sizes_from_list : (place : List ℕ) → FaultTree
  sizes_unknown : (found : NameAt) → FaultTree
  is_negative : (place : List ℕ) → FaultTree
  is_at_odds : (place : List ℕ) → FaultTree

abbrev pub no_weight : BadWeightData → FaultTree
no_weight bad = is_no_weight (place_text bad.place) bad.fault

-- the tests up to those of slicing arguments
abbrev pub fault_of_slicing : SchemaData → Option FaultTree
fault_of_slicing s = or_else (option_map is_dotted (dotted s)) (or_else (option_map slices_unknown (slicing_unknown s)) (option_map slices_no_int (slicing_not_int s)))

abbrev pub fault_of_weights : SchemaData → Option FaultTree
fault_of_weights s = or_else (option_map no_weight (bad_weight s)) (or_else (option_map is_no_list (not_a_list s)) (fault_of_slicing s))

-- the tests behind them
abbrev pub fault_of_sizes : SchemaData → Option FaultTree
fault_of_sizes s = or_else (option_map sizes_from_list (sized_on_list s)) (or_else (option_map sizes_unknown (sized_unknown s)) (or_else (option_map is_negative (negative_size s)) (option_map is_at_odds (disagree s))))

-- the first fault of the cost directives of a schema
abbrev pub first_directive_fault : SchemaData → Option FaultTree
first_directive_fault s = or_else (fault_of_weights s) (fault_of_sizes s)

-- A fault of the program says this one. Want of memory may come instead of any answer.
abbrev pub IsFault : DirectiveFault → Option FaultTree → Type 0
IsFault (Weight place fault) f = f ≡ Some (is_no_weight place fault)
IsFault (NotAList place) f = f ≡ Some (is_no_list place)
IsFault (Dotted place) f = f ≡ Some (is_dotted place)
IsFault (SlicingUnknown place name) f = f ≡ Some (slices_unknown record { place = place; name = name })
IsFault (SlicingNotInt place name) f = f ≡ Some (slices_no_int record { place = place; name = name })
IsFault (SizedOnList place) f = f ≡ Some (sizes_from_list place)
IsFault (SizedUnknown place name) f = f ≡ Some (sizes_unknown record { place = place; name = name })
IsFault (NegativeSize place) f = f ≡ Some (is_negative place)
IsFault (Disagree place) f = f ≡ Some (is_at_odds place)
IsFault Memory f = Unit {0}

-- Nothing is at fault, or this is.
abbrev pub PassesDirectiveTests : {A : Type 0} → Result A DirectiveFault → Option FaultTree → Type 0
PassesDirectiveTests (Ok x) f = f ≡ None
PassesDirectiveTests (Err fault) f = IsFault fault f

-- The weights of a schema, where its directives have no fault; else their first fault.
abbrev pub Weighs : SchemaData → ℕ → Result Weights DirectiveFault → Type 0
Weighs s undeclared (Ok w) = (first_directive_fault s ≡ None) × (weights_data w ≡ weights_of s undeclared)
Weighs s undeclared (Err fault) = IsFault fault (first_directive_fault s)
