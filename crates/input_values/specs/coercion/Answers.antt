-- What coercion answers: a value, or the path of the first place that is refused, seen from the place that is spoken of.
use Rattle.std.specs.Prelude.{ℕ, List, [], ◌∷◌, ◌++◌, decimal, Option, Some, None, Result, Ok, Err}

abbrev pub Path : Type 0
Path = List ℕ

abbrev pub Answer : Type 0 → Type 0
Answer A = Result A Path

-- the place itself is refused
abbrev pub refused : {A : Type 0} → Answer A
refused = Err []

-- a `.`, and the name of a field or the number of an item
abbrev pub key_step : List ℕ → Path
key_step name = 46 ∷ name

abbrev pub item_step : ℕ → Path
item_step n = 46 ∷ decimal n

-- seen from one step further up
abbrev pub at_step : {A : Type 0} → Path → Answer A → Answer A
at_step step (Ok x) = Ok x
at_step step (Err path) = Err (step ++ path)

abbrev pub mapped : {A B : Type 0} → (A → B) → Answer A → Answer B
mapped f (Ok x) = Ok (f x)
mapped f (Err path) = Err path

-- of two that are refused the first is told
abbrev pub both : {A B C : Type 0} → (A → B → C) → Answer A → Answer B → Answer C
both f (Err path) b = Err path
both f (Ok x) b = mapped (f x) b

-- the path that is told
abbrev pub refusal : {A : Type 0} → Answer A → Option Path
refusal (Ok x) = None
refusal (Err path) = Some path
