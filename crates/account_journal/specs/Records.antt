-- What the bodies of slots say. Each has 63 bytes: its kind, then its fields with the highest byte of a number first, then 0.
use Rattle.std.specs.Prelude.{ℕ, ◌==◌, Bool, List, ◌∷◌, ◌++◌, take, drop, get_or, replicate, if◌then◌else◌, Option, Some, None}
use Rattle.std.specs.Int.{w32, w64, to_be_bytes, from_be_bytes}
use Rattle.std.specs.List.{list_all}
use Rattle.cost_num.specs.declared.Cost.{Cost}
use Rattle.account_core.specs.Costs.{cost}

-- a number of 8 bytes and the two of a cost
abbrev pub number_bytes : ℕ → Cost → List ℕ
number_bytes number c = to_be_bytes w64 number ++ (to_be_bytes w64 c.types ++ to_be_bytes w64 c.fields)

-- a body of this kind with a client of 4 bytes
abbrev pub record_bytes : ℕ → ℕ → ℕ → Cost → List ℕ
record_bytes kind client number c = kind ∷ (to_be_bytes w32 client ++ (number_bytes number c ++ replicate 34 0))

-- what a slot behind the first says: a client's grant in a window, or the settlement of the client's grant of a slot
pub data Record : Type 0 where
  grant_record : (client window : ℕ) (bound : Cost) → Record
  settlement_record : (client slot : ℕ) (measured : Cost) → Record

abbrev pub client_in : List ℕ → ℕ
client_in body = from_be_bytes w32 (take 4 (drop 1 body))

abbrev pub number_in : List ℕ → ℕ
number_in body = from_be_bytes w64 (take 8 (drop 5 body))

abbrev pub cost_in : List ℕ → Cost
cost_in body = cost (from_be_bytes w64 (take 8 (drop 13 body))) (from_be_bytes w64 (take 8 (drop 21 body)))

abbrev pub rest_is_zero : List ℕ → Bool
rest_is_zero body = list_all (λ b. b == 0) (drop 29 body)

-- the record that a body says: a grant's kind is 1, a settlement's 2
unfoldable pub record_of : List ℕ → Option Record
record_of body = if rest_is_zero body
    then (if get_or body 0 0 == 1 then Some (grant_record (client_in body) (number_in body) (cost_in body))
    else (if get_or body 0 0 == 2 then Some (settlement_record (client_in body) (number_in body) (cost_in body)) else None))
    else None

-- a record as it is written
abbrev pub spelling_of : Record → List ℕ
spelling_of (grant_record client window bound) = record_bytes 1 client window bound
spelling_of (settlement_record client slot measured) = record_bytes 2 client slot measured

-- the body of the first slot, whose kind is 0, with a mark of 32 bytes
abbrev pub header_bytes : List ℕ → List ℕ
header_bytes mark = 0 ∷ (mark ++ replicate 30 0)
