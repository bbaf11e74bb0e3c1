-- The legal histories of one client's machine.
use Rattle.std.specs.Prelude.{◌≡◌, ℕ, ◌<◌, ◌==◌, not, Bool, true, false, List, [], ◌∷◌, ◌++◌}
use Rattle.std.specs.List.{filter, AllByRecursion}
use Rattle.account_core.specs.declared.Limit.{Limit}
use Rattle.account_core.specs.Machine.{Grant, CallReply, short, State, Entry, first, IsStep, state_past}

abbrev pub state_from : Limit → State → List Entry → State
state_from limit s [] = s
state_from limit s (e ∷ es) = state_from limit (state_past limit s e) es

-- entries that are steps one after the other, from a state on
abbrev pub AreSteps : Limit → State → List Entry → Type 0
AreSteps limit s [] = Unit {0}
AreSteps limit s (e ∷ es) = IsStep limit s e × AreSteps limit (state_past limit s e) es

-- the state that a history leads to
abbrev pub state_after : Limit → List Entry → State
state_after limit history = state_from limit first history

-- the entries, and the grants, of one caller
abbrev pub entries_by : ℕ → List Entry → List Entry
entries_by caller history = filter (λ e. e.caller == caller) history

abbrev pub grants_by : ℕ → List Grant → List Grant
grants_by caller gs = filter (λ g. g.caller == caller) gs

abbrev pub NumbersBelow : ℕ → List Entry → Type 0
NumbersBelow top entries = AllByRecursion (λ e. e.number < top) entries

-- after a history, each of these entries has a number past all that its caller had before it
abbrev pub NumbersRise : List Entry → List Entry → Type 0
NumbersRise history [] = Unit {0}
NumbersRise history (e ∷ es) = NumbersBelow e.number (entries_by e.caller history) × NumbersRise (history ++ e ∷ []) es

-- an entry is a step from the state after a history, under a number past all that its caller had there
abbrev pub IsNext : Limit → List Entry → Entry → Type 0
IsNext limit history e = IsStep limit (state_after limit history) e × NumbersBelow e.number (entries_by e.caller history)

-- a history is legal if each of its entries comes next after those before it, from the first state on
abbrev pub IsLegal : Limit → List Entry → Type 0
IsLegal limit history = (front rest : List Entry) (e : Entry) → history ≡ front ++ e ∷ rest → IsNext limit front e

-- a history has this beginning
abbrev pub StartsWith : List Entry → List Entry → Type 0
StartsWith history front = (rest : List Entry) × (history ≡ front ++ rest)

abbrev pub is_refusal : CallReply → Bool
is_refusal (short left) = true
is_refusal _ = false

-- a history without the reservations that were short
abbrev pub without_refusals : List Entry → List Entry
without_refusals history = filter (λ e. not (is_refusal e.reply)) history
