-- The budget machine of one client: its states, the calls on it with their replies, and its steps.
use Rattle.std.specs.Prelude.{◌≡◌, ℕ, ◌+◌, ◌==◌, ◌&&◌, if◌then◌else◌, max, Bool, List, [], ◌∷◌, ◌++◌, Option, Some}
use Rattle.std.specs.List.{find}
use Rattle.cost_num.specs.Within.{Within}
use Rattle.cost_num.specs.declared.Cost.{Cost}
use Rattle.account_core.specs.declared.Account.{Account}
use Rattle.account_core.specs.declared.Limit.{Limit}
use Rattle.account_core.specs.Costs.{nothing, together, remaining, smaller, counted_in}

-- A granted reservation: its caller, that caller's own number of the call, the window in which it stands, and the most
-- that it may come to.
pub record Grant : Type 0 where
  pub caller : ℕ
  pub number : ℕ
  pub window : ℕ
  pub bound : Cost

-- The window that the machine has come to, the cost settled in it, what was carried into it from windows before, and the
-- open grants: those that aren't settled yet, of this window or an earlier one.
pub record State : Type 0 where
  pub window : ℕ
  pub settled : Cost
  pub carried : Cost
  pub grants : List Grant

-- A reservation asks for a bound in a window. A settlement gives back the caller's own grant of a number, which stands
-- in the given window with the given bound, at a measured cost.
pub data Call : Type 0 where
  reservation : (window : ℕ) (bound : Cost) → Call
  settlement : (number window : ℕ) (bound measured : Cost) → Call

-- A reservation is granted in a window, or is short and hears what is left. A settlement is done.
pub data CallReply : Type 0 where
  granted : (window : ℕ) → CallReply
  short : (left : Cost) → CallReply
  done : CallReply

-- what a history is made of: a call with its reply, by a caller, under that caller's own number of the call
pub record Entry : Type 0 where
  pub caller : ℕ
  pub number : ℕ
  pub call : Call
  pub reply : CallReply

abbrev pub grant : ℕ → ℕ → ℕ → Cost → Grant
grant caller number window bound = record { caller = caller; number = number; window = window; bound = bound }

abbrev pub entry : ℕ → ℕ → Call → CallReply → Entry
entry caller number call reply = record { caller = caller; number = number; call = call; reply = reply }

-- window 0, with nothing settled, nothing carried and nothing open
abbrev pub first : State
first = record { window = 0; settled = nothing; carried = nothing; grants = [] }

-- the bounds of the grants of one window, added up
abbrev pub held_in : ℕ → List Grant → Cost
held_in window [] = nothing
held_in window (g ∷ gs) = together (counted_in window g.window g.bound) (held_in window gs)

abbrev pub is_grant : ℕ → ℕ → Grant → Bool
is_grant caller number g = (g.caller == caller) && (g.number == number)

-- a caller's grant of a number
abbrev pub open_grant : ℕ → ℕ → List Grant → Option Grant
open_grant caller number gs = find (is_grant caller number) gs

-- the grants but that one
abbrev pub grants_without : ℕ → ℕ → List Grant → List Grant
grants_without caller number [] = []
grants_without caller number (g ∷ gs) = if is_grant caller number g then gs else g ∷ grants_without caller number gs

-- The seven numbers of a state: its window and three costs, which are what is settled, what the open grants of the window
-- hold, and what is carried.
abbrev pub account_of : State → Account
account_of s = record { window = s.window; settled = s.settled; held = held_in s.window s.grants; carried = s.carried }

-- what counts against a window's budget: what is settled and what is held
abbrev pub used_of : Account → Cost
used_of account = together account.settled account.held

-- What a window hands on to the next one, by what was carried into it and what is used of it: all that it has left, but
-- never more than one allowance.
abbrev pub surplus : Limit → Cost → Cost → Cost
surplus limit carried used = smaller limit.allowance (remaining (together limit.allowance carried) used)

-- What is carried into a later window. Without carry it is nothing. With carry it is the surplus of the account's window
-- where that comes just before. Where windows lie between, nobody used them, and it is a whole allowance.
abbrev pub carried_past : Limit → Account → ℕ → Cost
carried_past limit account window =
    if limit.carry then (if window == account.window + 1 then surplus limit account.carried (used_of account) else limit.allowance)
    else nothing

-- what is carried into a window that the account has come to, or comes to
abbrev pub carried_into : Limit → Account → ℕ → Cost
carried_into limit account window = if window == account.window then account.carried else carried_past limit account window

-- what a window may take in all, by the numbers before it: an allowance and what is carried into it
abbrev pub room : Limit → Account → ℕ → Cost
room limit before window = together limit.allowance (carried_into limit before window)

-- a reservation stands in the window that it asks for, or in the machine's if that is later
abbrev pub standing_window : State → ℕ → ℕ
standing_window s window = max s.window window

-- what is settled and held in a window; nothing is settled yet in a window that the machine hasn't come to
abbrev pub used_in : State → ℕ → Cost
used_in s window = together (counted_in window s.window s.settled) (held_in window s.grants)

abbrev pub left_in : Limit → State → ℕ → Cost
left_in limit s window = remaining (room limit (account_of s) window) (used_in s window)

-- the window has room for this bound besides what is used
abbrev pub HasRoom : Limit → State → ℕ → Cost → Type 0
HasRoom limit s window bound = Within (room limit (account_of s) window) (together (used_in s window) bound)

-- Which reply a call gets: a reservation is granted exactly where its window has room in both components, and else is
-- short by what is left there; a settlement is done where the caller has that grant open and the measured cost is
-- within its bound. Nothing else is a call with its reply.
abbrev pub IsReplied : Limit → State → ℕ → Call → CallReply → Type 0
IsReplied limit s caller (reservation window bound) (granted at) =
    (at ≡ standing_window s window) × HasRoom limit s at bound
IsReplied limit s caller (reservation window bound) (short left) =
    (HasRoom limit s (standing_window s window) bound → ⊥) × (left ≡ left_in limit s (standing_window s window))
IsReplied limit s caller (settlement number window bound measured) done =
    (open_grant caller number s.grants ≡ Some (grant caller number window bound)) × Within bound measured
IsReplied limit s caller _ _ = ⊥

-- What a call leaves. A grant brings the machine to its window, with what is carried into it, and opens. A refusal changes
-- nothing. A settlement closes its grant, and adds the measured cost to what is settled, unless it is late: the grant's
-- window is over.
abbrev pub state_after_call : Limit → State → ℕ → ℕ → Call → CallReply → State
state_after_call limit s caller number (reservation window bound) (granted at) =
    record {
      window = at;
      settled = counted_in at s.window s.settled;
      carried = carried_into limit (account_of s) at;
      grants = s.grants ++ grant caller number at bound ∷ [];
    }
state_after_call limit s caller number (settlement of window bound measured) done =
    record {
      window = s.window;
      settled = together s.settled (counted_in s.window window measured);
      carried = s.carried;
      grants = grants_without caller of s.grants;
    }
state_after_call limit s caller number _ _ = s

-- an entry is a step from a state, and what it leaves
abbrev pub IsStep : Limit → State → Entry → Type 0
IsStep limit s e = IsReplied limit s e.caller e.call e.reply

abbrev pub state_past : Limit → State → Entry → State
state_past limit s e = state_after_call limit s e.caller e.number e.call e.reply
