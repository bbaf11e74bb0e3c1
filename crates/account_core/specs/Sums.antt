-- What a history has spent, left open and carried in each window, and that what is spent and open keeps to what is carried
-- and the allowance.
use Rattle.std.specs.Prelude.{◌≡◌, ℕ, zero, suc, ◌==◌, if◌then◌else◌, not, Bool, false, List, [], ◌∷◌, ◌++◌, Some}
use Rattle.std.specs.List.{filter, flat_map, list_any}
use Rattle.cost_num.specs.Within.{Within}
use Rattle.cost_num.specs.declared.Cost.{Cost}
use Rattle.account_core.specs.Costs.{nothing, together, counted_in}
use Rattle.account_core.specs.declared.Limit.{Limit}
use Rattle.account_core.specs.Machine.{Grant, Call, reservation, settlement, CallReply, granted, done, Entry, entry, grant, is_grant, open_grant, held_in, surplus}

-- the grant that a call made, or none
abbrev pub grants_of_call : ℕ → ℕ → Call → CallReply → List Grant
grants_of_call caller number (reservation window bound) (granted at) = grant caller number at bound ∷ []
grants_of_call caller number _ _ = []

-- all grants that a history made, in their order
abbrev pub grants_made : List Entry → List Grant
grants_made history = flat_map (λ e. grants_of_call e.caller e.number e.call e.reply) history

-- whether a caller's call settles a grant
abbrev pub settles_grant : ℕ → Call → CallReply → Grant → Bool
settles_grant caller (settlement of window bound measured) done g = is_grant caller of g
settles_grant caller _ _ g = false

abbrev pub is_settled : List Entry → Grant → Bool
is_settled history g = list_any (λ e. settles_grant e.caller e.call e.reply g) history

-- the grants that a history made and that none of its entries settles
abbrev pub open_grants : List Entry → List Grant
open_grants history = filter (λ g. not (is_settled history g)) (grants_made history)

-- the entry that opens a grant, by a reservation that asked for a window, and one that settles it
abbrev pub opening_entry : ℕ → Grant → Entry
opening_entry asked g = entry g.caller g.number (reservation asked g.bound) (granted g.window)

abbrev pub settling_entry : ℕ → Cost → Grant → Entry
settling_entry number measured g = entry g.caller number (settlement g.number g.window g.bound measured) done

-- a list has this grant open
abbrev pub HasGrant : Grant → List Grant → Type 0
HasGrant g gs = open_grant g.caller g.number gs ≡ Some g

-- the measured cost of a settlement, in the window of its grant, which a legal settlement names
abbrev pub spent_by : ℕ → Call → CallReply → Cost
spent_by window (settlement of own bound measured) done = counted_in window own measured
spent_by window _ _ = nothing

-- the measured costs of all settlements of a window's grants, added up
abbrev pub spent_in : ℕ → List Entry → Cost
spent_in window [] = nothing
spent_in window (e ∷ es) = together (spent_by window e.call e.reply) (spent_in window es)

-- the bounds of a window's grants that aren't settled, added up
abbrev pub open_in : ℕ → List Entry → Cost
open_in window history = held_in window (open_grants history)

-- whether a call is granted in a window
abbrev pub opens_window : ℕ → Call → CallReply → Bool
opens_window window (reservation asked bound) (granted at) = at == window
opens_window window _ _ = false

-- whether a history has a grant of a window: the first one opens it
abbrev pub is_opened : ℕ → List Entry → Bool
is_opened window history = list_any (λ e. opens_window window e.call e.reply) history

-- a history up to the entry that opens a window, without this one; all of it where none does
abbrev pub before_opened : ℕ → List Entry → List Entry
before_opened window [] = []
before_opened window (e ∷ es) = if opens_window window e.call e.reply then [] else e ∷ before_opened window es

-- What a window hands on to the next one, by a history: a whole allowance where nobody opened it, else its surplus.
abbrev pub handed_on : Limit → Bool → Cost → Cost → Cost
handed_on limit opened carried used = if opened then surplus limit carried used else limit.allowance

-- What is carried into a window: nothing into window 0, and nothing without carry. Else it is what the window before hands
-- on, by the history before the window's first grant; nothing that comes later changes it.
abbrev pub carried_in : Limit → ℕ → List Entry → Cost
carried_in limit zero history = nothing
carried_in limit (suc last) history =
    if limit.carry then handed_on limit (is_opened last (before_opened (suc last) history))
    (carried_in limit last (before_opened (suc last) history))
    (together (spent_in last (before_opened (suc last) history)) (open_in last (before_opened (suc last) history)))
    else nothing

-- what a window may take in all, by a history: an allowance and what is carried into it
abbrev pub allowance_in : Limit → List Entry → ℕ → Cost
allowance_in limit history window = together limit.allowance (carried_in limit window history)

-- at every moment of a history and in every window, what is spent and what is open are together at most the allowance
abbrev pub KeepsAllowance : Limit → List Entry → Type 0
KeepsAllowance limit history = (front rest : List Entry) → history ≡ front ++ rest → (window : ℕ)
    → Within (allowance_in limit front window) (together (spent_in window front) (open_in window front))
