-- What the parts of coercion answer: a fault, or the count of nodes and the value that was built.
use Rattle.std.specs.Prelude.{ℕ, ◌+◌, ◌≤◌, ◌≡◌, [], ◌++◌, Option, Some, None, option_map, Result, Ok, Err}
use Rattle.input_values.specs.declared.values.coerced.Coerced.{Coerced}
use Rattle.input_values.specs.declared.coercion.faults.CoercionFault.{CoercionFault}
use Rattle.input_values.specs.declared.coercion.faults.CoercionFault.TheVariants.{BadValue, Memory}
use Rattle.input_values.specs.values.Coerced.{CoercedTree, coerced_tree, nodes}
use Rattle.input_values.specs.values.Counting.{counted}
use Rattle.input_values.specs.inputs.Shapes.{ShapeTree}
use Rattle.input_values.specs.coercion.Answers.{Path, Answer}
use Rattle.input_values.specs.coercion.Places.{single_at, innermost}

-- a fault tells the first place that is refused; want of memory is free
abbrev pub Tells : {A : Type 0} → CoercionFault → Answer A → Type 0
Tells (BadValue path) answer = answer ≡ Err path
Tells Memory answer = Unit {0}

-- a fault of the place itself
abbrev pub TellsHere : CoercionFault → Type 0
TellsHere (BadValue path) = path ≡ []
TellsHere Memory = Unit {0}

abbrev pub TellsPath : Path → CoercionFault → Type 0
TellsPath path (BadValue told) = told ≡ path
TellsPath path Memory = Unit {0}

-- the same fault, seen from one step further up
abbrev pub TellsAfter : Path → CoercionFault → CoercionFault → Type 0
TellsAfter step (BadValue path) fault = TellsPath (step ++ path) fault
TellsAfter step Memory fault = fault ≡ Memory

abbrev pub tree_in : Option Coerced → Option CoercedTree
tree_in built = option_map coerced_tree built

abbrev pub nodes_in : Option CoercedTree → ℕ
nodes_in None = 0
nodes_in (Some t) = nodes t

-- The nodes were counted, up to one above the limit. What was coerced was built, as long as the count is within the limit.
abbrev pub BuildsCounted : ℕ → ℕ → ℕ → Option Coerced → Option CoercedTree → Type 0
BuildsCounted limit before after built t = (after ≡ counted limit (before + nodes_in t)) × (after ≤ limit → tree_in built ≡ t)

-- a value
abbrev pub Coerces : ℕ → ℕ → ℕ → Result (Option Coerced) CoercionFault → Answer CoercedTree → Type 0
Coerces limit before after (Ok built) answer = (t : CoercedTree) × (answer ≡ Ok t) × BuildsCounted limit before after built (Some t)
Coerces limit before after (Err fault) answer = Tells fault answer

-- a value, or none
abbrev pub CoercesField : ℕ → ℕ → ℕ → Result (Option Coerced) CoercionFault → Answer (Option CoercedTree) → Type 0
CoercesField limit before after (Ok built) answer = (t : Option CoercedTree) × (answer ≡ Ok t) × BuildsCounted limit before after built t
CoercesField limit before after (Err fault) answer = Tells fault answer

-- A value that came to this at the innermost type is in a list of one for each list of the shape.
abbrev pub Wraps : ℕ → ℕ → ℕ → ShapeTree → Result (Option Coerced) CoercionFault → Result (Option Coerced) CoercionFault → Type 0
Wraps limit now after shape inner result = (before : ℕ) (named : ℕ → Answer CoercedTree) → Coerces limit before now inner (named (innermost shape)) → Coerces limit before after result (single_at named shape)
