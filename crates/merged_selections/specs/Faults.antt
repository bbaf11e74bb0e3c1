-- The faults of the program, and which answer each of them tells.
use Rattle.std.specs.Prelude.{◌≡◌, ℕ, List, ◌∷◌, ◌++◌, flat_map, codes, Option, None, Some, Result, Ok, Err}
use Rattle.merged_selections.specs.declared.fault.PlanFault.{PlanFault}
use Rattle.merged_selections.specs.declared.fault.PlanFault.TheVariants.{Argument, Conflict, Size, NoPossibleType, TooLarge, TooDeep, Memory}
use Rattle.variable_coercion.specs.Refusals.{Refusal}
use Rattle.variable_coercion.specs.Calls.{argument_told}
use Rattle.plan_model.specs.Visits.{NodeFault, too_deep, conflict, refused_argument, refused_size, no_possible_type, PlanAnswer, planned_well, faulty, too_large}

abbrev pub fault_number : PlanFault → ℕ
fault_number (Argument at fault) = 1
fault_number (Conflict at) = 2
fault_number (Size at fault) = 3
fault_number (NoPossibleType at) = 4
fault_number TooLarge = 5
fault_number (TooDeep at) = 6
fault_number Memory = 7

-- a point and a response key
abbrev pub step_text : List ℕ → List ℕ
step_text key = 46 ∷ key

-- the text of a path: `data.me.friends`
unfoldable pub path_text : List (List ℕ) → List ℕ
path_text path = codes "data" ++ flat_map step_text path

-- The answer is this fault of the node whose path has this text.
abbrev pub IsFaultAt : PlanAnswer → List ℕ → NodeFault → Type 0
IsFaultAt answer at fault = (path : List (List ℕ)) × (at ≡ path_text path) × (answer ≡ faulty (path, fault))

-- The answer is a refused argument of the node there. Want of memory refuses none.
abbrev pub IsArgumentAt : PlanAnswer → List ℕ → Option Refusal → Type 0
IsArgumentAt answer at (Some refusal) = IsFaultAt answer at (refused_argument refusal)
IsArgumentAt answer at None = ⊥

-- What a fault tells is the answer. Want of memory tells nothing.
abbrev pub IsTold : PlanAnswer → PlanFault → Type 0
IsTold answer (Argument at fault) = IsArgumentAt answer at (argument_told fault)
IsTold answer (Conflict at) = IsFaultAt answer at conflict
IsTold answer (Size at fault) = IsFaultAt answer at (refused_size fault)
IsTold answer (NoPossibleType at) = IsFaultAt answer at no_possible_type
IsTold answer TooLarge = answer ≡ too_large
IsTold answer (TooDeep at) = IsFaultAt answer at too_deep
IsTold answer Memory = Unit {0}

-- What is given where an operation is planned well, or a fault that tells the answer.
abbrev pub AnswersPlan : {X : Type 0} → (X → Type 0) → Result X PlanFault → PlanAnswer → Type 0
AnswersPlan IsGiven (Ok x) answer = (answer ≡ planned_well) × IsGiven x
AnswersPlan IsGiven (Err fault) answer = IsTold answer fault
