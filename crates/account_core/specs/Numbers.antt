-- The seven numbers of an account, and the calls on them.
use Rattle.std.specs.Prelude.{◌≡◌, ℕ, ◌≤◌, max, true, false, if◌then◌else◌, List, Some}
use Rattle.std.specs.List.{AllByRecursion}
use Rattle.cost_num.specs.Within.{Within}
use Rattle.cost_num.specs.declared.Cost.{Cost}
use Rattle.account_core.specs.declared.Account.{Account}
use Rattle.account_core.specs.declared.Ticket.{Ticket}
use Rattle.account_core.specs.declared.Reply.{Reply}
use Rattle.account_core.specs.declared.Reply.TheVariants.{Granted, Short}
use Rattle.account_core.specs.Costs.{nothing, together, remaining, is_within, counted_in}
use Rattle.account_core.specs.declared.Limit.{Limit}
use Rattle.account_core.specs.History.{state_after, IsLegal}
use Rattle.account_core.specs.Machine.{Grant, State, Entry, entry, Call, reservation, settlement, CallReply, granted, short, grant, open_grant, account_of, used_of, carried_into, room, IsStep, state_past}

-- no grant stands in a window past this one
abbrev pub NoneLater : ℕ → List Grant → Type 0
NoneLater window gs = AllByRecursion (λ g. g.window ≤ window) gs

-- an account stands for a state: it has the state's numbers, and no open grant is of a window to come
abbrev pub StandsFor : Account → State → Type 0
StandsFor account s = (account ≡ account_of s) × NoneLater s.window s.grants

-- an account follows a legal history
abbrev pub FollowsHistory : Limit → List Entry → Account → Type 0
FollowsHistory limit history account = IsLegal limit history × StandsFor account (state_after limit history)

-- an entry is a step from a state, and an account stands for what it leaves
abbrev pub StepsTo : Limit → State → Entry → Account → Type 0
StepsTo limit s e account = IsStep limit s e × StandsFor account (state_past limit s e)

-- a caller has the grant of a ticket open
abbrev pub HasOpen : ℕ → Ticket → State → Type 0
HasOpen caller ticket s = open_grant caller ticket.seq s.grants ≡ Some (grant caller ticket.seq ticket.window ticket.bound)

-- the settlement of a ticket
abbrev pub settlement_of : Ticket → Cost → Call
settlement_of ticket measured = settlement ticket.seq ticket.window ticket.bound measured

-- a reply as a history keeps it
abbrev pub reply_of : Reply → CallReply
reply_of (Granted ticket) = granted ticket.window
reply_of (Short left) = short left

abbrev pub ticket_for : ℕ → ℕ → ℕ → Cost → Ticket
ticket_for client seq window bound = record { client = client; seq = seq; window = window; bound = bound }

-- a granted reply has this ticket
abbrev pub HasTicket : Reply → Ticket → Type 0
HasTicket (Granted ticket) wanted = ticket ≡ wanted
HasTicket (Short left) wanted = Unit {0}

-- a short reply has left the account as it was
abbrev pub UnchangedIfShort : Reply → Account → Account → Type 0
UnchangedIfShort (Granted ticket) old new = Unit {0}
UnchangedIfShort (Short left) old new = new ≡ old

-- a limit fits a cap: an allowance is within it, and two allowances are where one may be carried
pub record FitsCap (cap : Cost) (limit : Limit) : Type 0 where
  pub one : Within cap limit.allowance
  pub two : limit.carry ≡ true → Within cap (together limit.allowance limit.allowance)

-- the account once it has come to a window: what was settled and held counts in its own window alone
abbrev pub moved_to : Limit → Account → ℕ → Account
moved_to limit account window =
    record {
      window = window;
      settled = counted_in window account.window account.settled;
      held = counted_in window account.window account.held;
      carried = carried_into limit account window;
    }

-- an account keeps to its limit: it uses no more than an allowance and what it carries, and it carries at most an allowance,
-- and without carry nothing
pub record KeepsLimit (limit : Limit) (account : Account) : Type 0 where
  pub used : Within (together limit.allowance account.carried) (used_of account)
  pub carried : Within limit.allowance account.carried
  pub plain : limit.carry ≡ false → account.carried ≡ nothing

-- what an account has left in a window that it has come to, or comes to
abbrev pub left_at : Limit → Account → ℕ → Cost
left_at limit account window = remaining (room limit account window) (used_of (moved_to limit account window))

abbrev pub account_holding : Account → Cost → Account
account_holding account bound = record { window = account.window; settled = account.settled; held = together account.held bound; carried = account.carried }

-- the reply to a reservation that stands in a window, and the account after it
abbrev pub reply_at : Limit → Account → ℕ → Cost → CallReply
reply_at limit account at bound = if is_within (left_at limit account at) bound then granted at else short (left_at limit account at)

abbrev pub account_at : Limit → Account → ℕ → Cost → Account
account_at limit account at bound =
    if is_within (left_at limit account at) bound then account_holding (moved_to limit account at) bound else account

-- the same for a reservation that asks for a window
abbrev pub reservation_reply : Limit → Account → ℕ → Cost → CallReply
reservation_reply limit account window bound = reply_at limit account (max account.window window) bound

-- the entry that a reservation makes
abbrev pub reservation_entry : Limit → Account → ℕ → ℕ → ℕ → Cost → Entry
reservation_entry limit account caller number window bound =
    entry caller number (reservation window bound) (reservation_reply limit account window bound)

abbrev pub reserved_account : Limit → Account → ℕ → Cost → Account
reserved_account limit account window bound = account_at limit account (max account.window window) bound

-- the account after a settlement: in its own window the bound is no longer held and the measured cost is settled
abbrev pub settled_account : Account → ℕ → Cost → Cost → Account
settled_account account window bound measured =
    record {
      window = account.window;
      settled = together account.settled (counted_in account.window window measured);
      held = remaining account.held (counted_in account.window window bound);
      carried = account.carried;
    }
