-- Why a variable or an argument is refused, and which of several that are refused is told: the first in order.
use Rattle.std.specs.Prelude.{ℕ, List, [], ◌∷◌, Bool, leb, Option, Some, None, Result, Ok, Err, if◌then◌else◌}
use Rattle.input_values.specs.values.Coerced.{CoercedTree, nodes}
use Rattle.input_values.specs.coercion.Answers.{Path, Answer}

-- the greatest number of nodes of a value
abbrev pub value_limit : ℕ
value_limit = 20000

-- a value may be refused at a place inside of it, or since it is too large
pub data Unfit : Type 0 where
  unfit_at : (path : Path) → Unfit
  unfit_size : Unfit

-- What was coerced, where it isn't too large. A place that is refused is told before the size.
abbrev pub fitting : Answer CoercedTree → Result CoercedTree Unfit
fitting (Ok t) = if leb (nodes t) value_limit then Ok t else Err unfit_size
fitting (Err path) = Err (unfit_at path)

pub data Refusal : Type 0 where
  -- nothing is given for what must be given
  missing : (name : List ℕ) → Refusal
  -- the value at this path doesn't coerce
  bad_value : (path : Path) → Refusal
  -- the value has more nodes than a value may have
  too_large : (name : List ℕ) → Refusal

-- a value that is there; `refusal` says how it is refused
abbrev pub given_value : (Unfit → Refusal) → Result CoercedTree Unfit → Result (Option CoercedTree) Refusal
given_value refusal (Ok t) = Ok (Some t)
given_value refusal (Err unfit) = Err (refusal unfit)

-- without a value
abbrev pub no_value : List ℕ → Bool → Result (Option CoercedTree) Refusal
no_value name nullable = if nullable then Ok None else Err (missing name)

-- one in front of others; of two that are refused the first is told
abbrev pub and_then : {A : Type 0} → Result A Refusal → Result (List A) Refusal → Result (List A) Refusal
and_then (Ok x) (Ok others) = Ok (x ∷ others)
and_then (Ok x) (Err refusal) = Err refusal
and_then (Err refusal) others = Err refusal

-- all of them, or the first that is refused
abbrev pub all_in_order : {A B : Type 0} → (A → Result B Refusal) → List A → Result (List B) Refusal
all_in_order answer [] = Ok []
all_in_order answer (x ∷ others) = and_then (answer x) (all_in_order answer others)
