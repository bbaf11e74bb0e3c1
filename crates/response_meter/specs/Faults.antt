-- What is wrong with a reply, and where.
use Rattle.std.specs.Prelude.{ℕ, ◌≡◌, List, [], ◌∷◌, ◌++◌, Bool, true, false, decimal, Option, Some, None, option_map, codes}
use Rattle.response_meter.specs.declared.fault.Why.{Why}
use Rattle.response_meter.specs.declared.fault.Why.TheVariants.{NotJson, NotObject, NoData, BadErrors, MissingKey, ExtraKey, NullHere, NotList, BadLeaf, BadType, BadObject}
use Rattle.response_meter.specs.declared.fault.MeterFault.{MeterFault}
use Rattle.response_meter.specs.declared.fault.MeterFault.TheVariants.{NotResponse, SizeBroken, Memory}

-- the name of a test that a reply doesn't pass
abbrev pub why_name : Why → List ℕ
why_name NotJson = codes "NotJson"
why_name NotObject = codes "NotObject"
why_name NoData = codes "NoData"
why_name BadErrors = codes "BadErrors"
why_name MissingKey = codes "MissingKey"
why_name ExtraKey = codes "ExtraKey"
why_name NullHere = codes "NullHere"
why_name NotList = codes "NotList"
why_name BadLeaf = codes "BadLeaf"
why_name BadType = codes "BadType"
why_name BadObject = codes "BadObject"

-- A fault has a path: the place that the test stood at, seen from the place that is spoken of.
-- Either the value is no response there, or the list there has more items than its declared size.
pub data Fault : Type 0 where
  not_response : (path : List ℕ) → (why : Why) → Fault
  size_broken : (path : List ℕ) → (size : ℕ) → (length : ℕ) → Fault

-- A step down, to a response key or to an item by its number.
abbrev pub key_step : List ℕ → List ℕ
key_step key = 46 ∷ key

abbrev pub item_step : ℕ → List ℕ
item_step n = 46 ∷ decimal n

-- The fault with a step before its path.
abbrev pub stepped : List ℕ → Fault → Fault
stepped step (not_response path why) = not_response (step ++ path) why
stepped step (size_broken path size length) = size_broken (step ++ path) size length

-- What the tests of the place one step down find.
abbrev pub at_step : List ℕ → Option Fault → Option Fault
at_step step fault = option_map (stepped step) fault

-- A test of the place itself has to hold, and then the later tests follow.
abbrev pub tested : Bool → Why → Option Fault → Option Fault
tested false why later = Some (not_response [] why)
tested true why later = later

-- Something has to be there, and then tests follow of what is there.
abbrev pub given : {A : Type 0} → Option A → Why → (A → Option Fault) → Option Fault
given None why later = Some (not_response [] why)
given (Some x) why later = later x

-- The answer of a call tells this fault. Want of memory is free.
abbrev pub Tells : MeterFault → Option Fault → Type 0
Tells (NotResponse path why) fault = fault ≡ Some (not_response path why)
Tells (SizeBroken path size length) fault = fault ≡ Some (size_broken path size length)
Tells Memory fault = Unit {0}
