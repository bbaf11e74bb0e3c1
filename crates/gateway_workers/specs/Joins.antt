-- Passes that are split off and joined again.
use Rattle.std.specs.Prelude.{◌≡◌, ℕ, ◌+◌, ◌<◌, List, [], ◌∷◌, ◌++◌, map, length}
use Rattle.account_core.specs.History.{StartsWith}
use Rattle.account_cells.specs.Views.{View, EndedCaller, after_split, split_off}
use Rattle.account_shared.specs.Views.{PassesView, client_at, label_after_split, label_split_off, label_after_join, IsKept, JoinsTo}
use Rattle.account_shared.specs.Gains.{entries_for}
use Rattle.gateway_workers.specs.Tours.{Tour, calls_in}

-- For each door, under a name of its own, the entries that its connections made in the history of this client.
unfoldable pub ended_by : ℕ → ℕ → List Tour → List EndedCaller
ended_by client splits [] = []
ended_by client splits (tour ∷ tours) =
    record { name = splits + 1; entries = entries_for client (splits + 1) 0 (calls_in tour.runs) } ∷ ended_by client (splits + 1) tours

-- What the first passes know of a client once the passes of all doors are joined: its history goes on from what was seen, and is
-- legal and within the allowance; and of each door just the entries of its connections are kept, under a name of its own.
pub record HasJoined (client splits : ℕ) (tours : List Tour) (before now : View) : Type 0 where
  pub begins : StartsWith now.seen before.seen
  pub kept : IsKept now
  pub own : now.own ≡ before.own
  pub ended : now.ended ≡ ended_by client splits tours ++ before.ended

-- the same of all clients
pub record JoinTours (splits : ℕ) (tours : List Tour) (before now : PassesView) : Type 0 where
  pub made : now.made ≡ before.made
  pub name : now.label.name ≡ before.label.name
  pub out : now.label.out ≡ before.label.out
  pub splits_are : now.label.splits ≡ before.label.splits + length tours
  pub count : length now.clients ≡ length before.clients
  pub clients : (client : ℕ) → client < length before.clients → HasJoined client splits tours (client_at before client) (client_at now client)

-- what the first passes know of a client goes on, with calls of their own as before
pub record HasKept (before now : View) : Type 0 where
  pub begins : StartsWith now.seen before.seen
  pub kept : IsKept now
  pub own : now.own ≡ before.own

-- No memory was had: the doors come back as they were, and no calls were made through the passes.
pub record GivesBack {D : Type 0} (doors back : List D) (before now : PassesView) : Type 0 where
  pub same : back ≡ doors
  pub made : now.made ≡ before.made
  pub name : now.label.name ≡ before.label.name
  pub out : now.label.out ≡ before.label.out
  pub count : length now.clients ≡ length before.clients
  pub clients : (client : ℕ) → client < length before.clients → HasKept (client_at before client) (client_at now client)

-- ---- what serves proofs

pub record IsSplitOff (before p : PassesView) : Type 0 where
  pub made : p.made ≡ 0
  pub clients : p.clients ≡ map split_off before.clients
  pub label : p.label ≡ label_split_off before.label

pub record IsAfterSplit (before now : PassesView) : Type 0 where
  pub made : now.made ≡ before.made
  pub clients : now.clients ≡ map after_split before.clients
  pub label : now.label ≡ label_after_split before.label

pub record IsJoined (before other now : PassesView) : Type 0 where
  pub made : now.made ≡ before.made
  pub label : now.label ≡ label_after_join before.label other.label
  pub count : length now.clients ≡ length before.clients
  pub joined : (k : ℕ) → k < length before.clients → JoinsTo (client_at other k) (client_at before k) (client_at now k)

-- passes that are split off, the first of them first
unfoldable pub SplitsTo : PassesView → List PassesView → PassesView → Type 0
SplitsTo before [] now = (now.made ≡ before.made) × (now.clients ≡ before.clients) × (now.label ≡ before.label)
SplitsTo before (p ∷ ps) now = IsSplitOff before p × ((next : PassesView) × IsAfterSplit before next × SplitsTo next ps now)

-- passes that are joined, the last of them first
unfoldable pub JoinsAll : PassesView → List PassesView → PassesView → Type 0
JoinsAll before [] now = now ≡ before
JoinsAll before (p ∷ ps) now = (next : PassesView) × JoinsAll before ps next × IsJoined next p now
