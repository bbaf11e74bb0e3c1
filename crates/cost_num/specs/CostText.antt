-- The text of a cost.
use Rattle.std.specs.Prelude.{ℕ, zero, suc, Bool, ◌+◌, ◌-◌, ◌/◌, ◌%◌, ◌==◌, List, [], ◌∷◌, ◌++◌, length, take, drop}
use Rattle.std.specs.Fmt.{decimal}
use Rattle.std.specs.List.{suffix_len}
use Rattle.cost_num.specs.declared.TheConstants.{LEAST_PLACES, PLACES, UNIT}
use Rattle.cost_num.specs.declared.Cost.{Cost}

-- the last `places` decimal digits of n, with zeros in front where n has fewer
unfoldable pub last_digits : ℕ → ℕ → List ℕ
last_digits zero n = []
last_digits (suc places) n = last_digits places (n / 10) ++ ((48 + n % 10) ∷ [])

-- the digit 0
abbrev pub is_nought : ℕ → Bool
is_nought digit = digit == 48

-- digits up to the last that isn't 0
abbrev pub without_last_noughts : List ℕ → List ℕ
without_last_noughts digits = take (length digits - suffix_len is_nought digits) digits

-- decimal places as they are shown: the first three, and the further ones up to the last that isn't 0
unfoldable pub shown : List ℕ → List ℕ
shown places = take LEAST_PLACES places ++ without_last_noughts (drop LEAST_PLACES places)

-- the whole part of an amount of millionths, a dot, and the six places as they are shown
abbrev pub amount_text : ℕ → List ℕ
amount_text n = decimal (n / UNIT) ++ (46 ∷ shown (last_digits PLACES (n % UNIT)))

-- the type cost, a space, and the field cost
abbrev pub cost_text : Cost → List ℕ
cost_text cost = amount_text cost.types ++ (32 ∷ amount_text cost.fields)
