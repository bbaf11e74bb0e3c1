-- What contracts see of the accounts of all clients, and of a worker's passes to them.
use Rattle.std.specs.Prelude.{◌≡◌, ℕ, ◌+◌, ◌<◌, List, [], ◌∷◌, map, length, get_or, Some}
use Rattle.atomic_table.specs.Seated.{TableId}
use Rattle.cost_num.specs.declared.Cost.{Cost}
use Rattle.account_core.specs.declared.Account.{Account}
use Rattle.account_core.specs.declared.Limit.{Limit}
use Rattle.account_core.specs.declared.Reply.{Reply}
use Rattle.account_core.specs.declared.Reply.TheVariants.{Granted, Short}
use Rattle.account_core.specs.Costs.{nothing}
use Rattle.account_core.specs.Machine.{Grant, grant, open_grant, account_of}
use Rattle.account_core.specs.History.{IsLegal, StartsWith, state_after, entries_by}
use Rattle.account_core.specs.Sums.{open_grants, KeepsAllowance}
use Rattle.account_cells.specs.Views.{View, no_view, ended_names, without_name, after_join, longer_of, shorter_of}
use Rattle.account_cells.specs.Outcomes.{IsNew, KnowsCallers}

-- Who a worker is to all clients alike: the name of its passes and, of the first ones, how often they were split, the names
-- split off and not joined, and those that were joined.
pub record Label : Type 0 where
  pub name : ℕ
  pub splits : ℕ
  pub out : List ℕ
  pub ended : List ℕ

abbrev pub label_of : View → Label
label_of v = record { name = v.name; splits = v.splits; out = v.out; ended = ended_names v.ended }

abbrev pub first_label : Label
first_label = record { name = 0; splits = 0; out = []; ended = [] }

abbrev pub label_after_split : Label → Label
label_after_split l = record l { splits = l.splits + 1; out = (l.splits + 1) ∷ l.out }

abbrev pub label_split_off : Label → Label
label_split_off l = record first_label { name = l.splits + 1 }

abbrev pub label_after_join : Label → Label → Label
label_after_join l other = record l { out = without_name other.name l.out; ended = other.name ∷ l.ended }

-- Passes: the number of calls made through them, the cells that they are passes to, and a view of each client's account.
pub record PassesView : Type 0 where
  pub made : ℕ
  pub label : Label
  pub cells : List TableId
  pub clients : List View

pub record AccountsView : Type 0 where
  pub cells : List TableId
  pub limits : List Limit

abbrev pub limit_of : View → Limit
limit_of v = v.limit

abbrev pub client_at : PassesView → ℕ → View
client_at p client = get_or p.clients client no_view

-- What is known of a client: it is the view of these passes, what it has seen is legal, its own entries are those of its name
-- there, with numbers below the count of calls, and the first passes know who is a caller there.
pub record KnowsClient (label : Label) (made : ℕ) (v : View) : Type 0 where
  pub same_label : label_of v ≡ label
  pub callers : KnowsCallers v
  pub legal : IsLegal v.limit v.seen
  pub own : entries_by v.name v.seen ≡ v.own
  pub numbers : IsNew v made

abbrev pub KnowsClients : Label → ℕ → List View → Type 0
KnowsClients label made clients = (k : ℕ) → k < length clients → KnowsClient label made (get_or clients k no_view)

-- these are passes to just these accounts
pub record Belongs (p : PassesView) (accounts : AccountsView) : Type 0 where
  pub cells : p.cells ≡ accounts.cells
  pub limits : map limit_of p.clients ≡ accounts.limits
  pub known : KnowsClients p.label p.made p.clients

-- a client's grants that were made through these passes and aren't settled
abbrev pub open_at : PassesView → ℕ → List Grant
open_at p client = open_grants (client_at p client).own

-- such a grant is open
abbrev pub IsOpen : PassesView → ℕ → ℕ → ℕ → Cost → Type 0
IsOpen p client seq window bound =
    open_grant p.label.name seq (open_at p client) ≡ Some (grant p.label.name seq window bound)

abbrev pub OpensIfGranted : PassesView → ℕ → Reply → Type 0
OpensIfGranted p client (Granted ticket) = IsOpen p client ticket.seq ticket.window ticket.bound
OpensIfGranted p client (Short left) = Unit {0}

-- no grant is open
abbrev pub IsIdle : PassesView → Type 0
IsIdle p = (client : ℕ) → client < length p.clients → open_at p client ≡ []

-- what a client's history shows, as seen by these passes: it is legal, and keeps to the allowance at every moment and in
-- every window
pub record IsKept (v : View) : Type 0 where
  pub legal : IsLegal v.limit v.seen
  pub kept : KeepsAllowance v.limit v.seen

-- a join, client by client: the longer of the two histories is seen, and the shorter is a beginning of it
pub record JoinsTo (other v w : View) : Type 0 where
  pub same : w ≡ after_join v other
  pub nested : StartsWith (longer_of v.seen other.seen) (shorter_of v.seen other.seen)

-- the account after all that was seen, with nothing held
abbrev pub account_seen : View → Account
account_seen v = account_of (state_after v.limit v.seen)

pub record ClosesTo (v : View) (account : Account) : Type 0 where
  pub legal : IsLegal v.limit v.seen
  pub same : account ≡ account_seen v
  pub idle : account.held ≡ nothing
