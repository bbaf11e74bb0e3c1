-- The numbers of calls, and calls whose grants are settled.
use Rattle.std.specs.Prelude.{◌≡◌, ◌⊎◌, ℕ, ◌+◌, ◌<◌, not, List, [], ◌∷◌, length, Option, Some, None}
use Rattle.std.specs.List.{filter}
use Rattle.cost_num.specs.declared.Cost.{Cost}
use Rattle.account_core.specs.Machine.{reservation, settlement, granted, short, done}
use Rattle.account_core.specs.History.{is_refusal}
use Rattle.account_shared.specs.Gains.{ClientCall, client_call}

-- ---- numbers

-- How many numbers calls take. Each takes one; but where numbers are slots of a journal a refusal takes none, since it isn't kept.
abbrev pub numbers_taken : Option ℕ → List ClientCall → ℕ
numbers_taken None calls = length calls
numbers_taken (Some slots) calls = length (filter (λ c. not (is_refusal c.reply)) calls)

-- Behind so many numbers there are too few slots for a grant and its settlement.
abbrev pub IsFullAt : Option ℕ → ℕ → Type 0
IsFullAt None made = ⊥
IsFullAt (Some slots) made = slots < made + 2

-- ---- the calls of a request that began and finished

-- one reservation was refused
abbrev pub IsRefusal : List ClientCall → Type 0
IsRefusal calls = (client : ℕ) × (window : ℕ) × (bound : Cost) × (left : Cost) × (calls ≡ client_call client (reservation window bound) (short left) ∷ [])

-- a reservation was granted under this number, and settled by the next call
abbrev pub IsGrantSettled : ℕ → List ClientCall → Type 0
IsGrantSettled made calls = (client : ℕ) × (window : ℕ) × (at : ℕ) × (bound : Cost) × (measured : Cost)
    × (calls ≡ client_call client (reservation window bound) (granted at) ∷ client_call client (settlement made at bound measured) done ∷ [])

-- no call was made, or one that was refused, or a grant is settled
abbrev pub AreSettled : ℕ → List ClientCall → Type 0
AreSettled made calls = (calls ≡ []) ⊎ IsRefusal calls ⊎ IsGrantSettled made calls
