-- The history that a file has, and what accounts and a disk have to do with one.
use Rattle.std.specs.Prelude.{◌≡◌, ◌⊎◌, ℕ, suc, ◌+◌, ◌<◌, ◌≤◌, List, [], ◌∷◌, ◌++◌, length, get_or, false, Option, Some, None}
use Rattle.std.specs.List.{AllByRecursion}
use Rattle.cost_num.specs.declared.Cost.{Cost}
use Rattle.account_core.specs.declared.Limit.{Limit}
use Rattle.account_core.specs.declared.Account.{Account}
use Rattle.account_core.specs.Costs.{cost, nothing}
use Rattle.account_core.specs.Machine.{State, Grant, Entry, entry, reservation, settlement, granted, done, open_grant}
use Rattle.account_core.specs.History.{entries_by, NumbersBelow}
use Rattle.account_core.specs.Numbers.{StandsFor, StepsTo, FollowsHistory, FitsCap, KeepsLimit}
use Rattle.account_core.specs.Sums.{open_grants}
use Rattle.journal_disk.specs.Images.{IsDurable}
use Rattle.account_journal.specs.Records.{Record, grant_record, settlement_record, record_of}
use Rattle.account_journal.specs.Slots.{bodies, IsAtRest}

-- One list has the entries of all clients. The caller of an entry is its client's number, and a call's number is its slot; so
-- a client's history is the entries by that caller. Refusals aren't kept, since they change nothing.

-- a grant, which is written with the window in which it stands, as if it had asked for that one
abbrev pub grant_entry : ℕ → ℕ → ℕ → Cost → Entry
grant_entry client slot window bound = entry client slot (reservation window bound) (granted window)

-- the settlement of a grant
abbrev pub settlement_entry : ℕ → Grant → Cost → Entry
settlement_entry slot g measured = entry g.caller slot (settlement g.number g.window g.bound measured) done

-- from a state that an account stands for and that has a grant open, its settlement is a step to the next account
abbrev pub SettlesTo : Account → Grant → ℕ → Cost → Account → Limit → State → Type 0
SettlesTo account g slot measured next limit s =
    StandsFor account s → open_grant g.caller g.number s.grants ≡ Some g → StepsTo limit s (settlement_entry slot g measured) next

abbrev pub settlement_if_open : ℕ → Cost → Option Grant → List Entry
settlement_if_open slot measured None = []
settlement_if_open slot measured (Some g) = settlement_entry slot g measured ∷ []

-- the entries that the record of a slot adds to those before it
abbrev pub entries_of : List Entry → ℕ → Option Record → List Entry
entries_of so_far slot None = []
entries_of so_far slot (Some (grant_record client window bound)) = grant_entry client slot window bound ∷ []
entries_of so_far slot (Some (settlement_record client of measured)) = settlement_if_open slot measured (open_grant client of (open_grants so_far))

-- the entries of these slots, from a slot on, behind those so far
unfoldable pub replayed : List Entry → ℕ → List (List ℕ) → List Entry
replayed so_far slot [] = so_far
replayed so_far slot (body ∷ more) = replayed (so_far ++ entries_of so_far slot (record_of body)) (suc slot) more

-- the history of a file: the grants and settlements of its present slots
abbrev pub history_in : List ℕ → List Entry
history_in file = replayed [] 0 (bodies file)

abbrev pub no_limit : Limit
no_limit = record { allowance = nothing; carry = false }

abbrev pub no_account : Account
no_account = record { window = 0; settled = nothing; held = nothing; carried = nothing }

-- each account follows its client's entries, all of slots that are used, and as many grants are open as are counted
pub record AccountsFollow (limits : List Limit) (accounts : List Account) (used opened : ℕ) (entries : List Entry) : Type 0 where
  pub each : (k : ℕ) → k < length limits → FollowsHistory (get_or limits k no_limit) (entries_by k entries) (get_or accounts k no_account)
  pub below : (k : ℕ) → NumbersBelow used (entries_by k entries)
  pub counted : opened ≡ length (open_grants entries)
  pub known : AllByRecursion (λ g. g.caller < length limits) (open_grants entries)

-- what the calls on a journal need of its numbers: an account for each limit, limits and accounts that no sum overflows, and a
-- free slot for each open grant
pub record AreSound (limits : List Limit) (accounts : List Account) (used opened : ℕ) : Type 0 where
  pub clients : length accounts ≡ length limits
  pub limits_are : (k : ℕ) → k < length limits → FitsCap (cost 1000000000000000000 1000000000000000000) (get_or limits k no_limit)
  pub keep : (k : ℕ) → k < length limits → KeepsLimit (get_or limits k no_limit) (get_or accounts k no_account)
  pub room : used + opened ≤ 4194304

-- a disk that tells has a file at rest with this history, and the file is durable
pub record IsStored (reads : Option (List ℕ)) (image : List ℕ → Type 0) (used : ℕ) (entries : List Entry) : Type 0 where
  pub rest : (b : List ℕ) → reads ≡ Some b → IsAtRest used b
  pub same : (b : List ℕ) → reads ≡ Some b → history_in b ≡ entries
  pub durable : (b : List ℕ) → reads ≡ Some b → IsDurable b image

-- the history of a file is this one, or this one and an entry more
abbrev pub HasEntryOrNot : List Entry → Entry → List ℕ → Type 0
HasEntryOrNot entries e file = (history_in file ≡ entries) ⊎ (history_in file ≡ entries ++ e ∷ [])
