-- What the calls answer: what a definition says, or a fault that tells the first refusal. Want of memory tells nothing.
use Rattle.std.specs.Prelude.{◌≡◌, ℕ, List, map, All, slice_get, Option, Some, None, option_map, Result, Ok, Err}
use Rattle.input_values.specs.values.Coerced.{CoercedTree, coerced_tree}
use Rattle.input_values.specs.declared.values.coerced.Coerced.{Coerced}
use Rattle.input_values.specs.declared.coercion.variables.VariableValue.{VariableValue}
use Rattle.input_values.specs.coercion.Literals.{Environment, values_of}
use Rattle.schema_model.specs.Arguments.{ArgData, arg_data, args_data}
use Rattle.schema_model.specs.declared.args.Args.{Args}
use Rattle.schema_model.specs.declared.args.Arg.{Arg}
use Rattle.variable_coercion.specs.declared.values.ValueFault.{ValueFault}
use Rattle.variable_coercion.specs.declared.values.ValueFault.TheVariants.{BadValue as UnfitValue, TooLarge as UnfitSize, Memory as NoMemory}
use Rattle.variable_coercion.specs.declared.faults.CoerceFault.{CoerceFault}
use Rattle.variable_coercion.specs.declared.faults.CoerceFault.TheVariants.{Missing, BadValue, TooLarge, Memory}
use Rattle.variable_coercion.specs.declared.faults.ArgFault.{ArgFault}
use Rattle.variable_coercion.specs.declared.faults.ArgFault.TheVariants.{Missing as MissingArgument, BadValue as BadArgument, TooLarge as LargeArgument, Memory as NoMemoryLeft}
use Rattle.variable_coercion.specs.declared.variables.Variables.{Variables}
use Rattle.variable_coercion.specs.Refusals.{Unfit, unfit_at, unfit_size, Refusal, missing, bad_value, too_large}
use Rattle.variable_coercion.specs.Variables.{VariableData}

-- `told` is what a fault tells.
abbrev pub IsTold : {A R : Type 0} → Option R → Result A R → Type 0
IsTold (Some refusal) answer = answer ≡ Err refusal
IsTold None answer = Unit {0}

-- `view` is how a result is seen, `told` what a fault tells.
abbrev pub AnswersRefusal : {X A F R : Type 0} → (X → A) → (F → Option R) → Result X F → Result A R → Type 0
AnswersRefusal view told (Ok x) answer = answer ≡ Ok (view x)
AnswersRefusal view told (Err fault) answer = IsTold (told fault) answer

abbrev pub unfit_told : ValueFault → Option Unfit
unfit_told (UnfitValue path) = Some (unfit_at path)
unfit_told UnfitSize = Some unfit_size
unfit_told NoMemory = None

abbrev pub variable_told : CoerceFault → Option Refusal
variable_told (Missing name) = Some (missing name)
variable_told (BadValue path) = Some (bad_value path)
variable_told (TooLarge name) = Some (too_large name)
variable_told Memory = None

abbrev pub argument_told : ArgFault → Option Refusal
argument_told (MissingArgument name) = Some (missing name)
argument_told (BadArgument name) = Some (bad_value name)
argument_told (LargeArgument name) = Some (too_large name)
argument_told NoMemoryLeft = None

-- At a place two lists have the same argument, or both have none.
abbrev pub AgreeAt : List ArgData → List ArgData → ℕ → Type 0
AgreeAt some args place = slice_get some place ≡ slice_get args place

-- At some places these are the arguments; where they aren't given, memory was wanting.
abbrev pub AreSomeOf : List ℕ → List ArgData → Result Args ArgFault → Type 0
AreSomeOf places args (Ok some) = All (AgreeAt (args_data some) args) places
AreSomeOf places args (Err fault) = argument_told fault ≡ None

-- The argument at a place is put among some, and those that agree still do.
abbrev pub PutsAt : List ArgData → List ArgData → List ArgData → ℕ → Result (Unit {0}) ArgFault → Type 0
PutsAt old new args place (Ok done) = AgreeAt new args place × ((other : ℕ) → AgreeAt old args other → AgreeAt new args other)
PutsAt old new args place (Err fault) = argument_told fault ≡ None

-- what a value comes to
abbrev pub AnswersValue : Result Coerced ValueFault → Result CoercedTree Unfit → Type 0
AnswersValue result answer = AnswersRefusal coerced_tree unfit_told result answer

-- what an argument comes to
abbrev pub AnswersArgument : Result Arg ArgFault → Result ArgData Refusal → Type 0
AnswersArgument result answer = AnswersRefusal arg_data argument_told result answer

abbrev pub value_data : Option Coerced → Option CoercedTree
value_data value = option_map coerced_tree value

abbrev pub variable_data : VariableValue → VariableData
variable_data v = record { name = v.name; value = option_map coerced_tree v.value }

-- the variables of an operation, in their order
abbrev pub variables_data : Variables → List VariableData
variables_data vs = map variable_data vs.values.items.items

-- their values, by their names
abbrev pub environment : Variables → Environment
environment vs = values_of vs.values.items.items
