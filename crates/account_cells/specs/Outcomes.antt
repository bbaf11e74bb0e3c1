-- What the holder of a pass learns by one step on the cell of an account.
use Rattle.std.specs.Prelude.{◌≡◌, ℕ, ◌≤◌, ◌<◌, List, [], ◌∷◌, ◌++◌, true, false, Some}
use Rattle.cost_num.specs.Within.{Within}
use Rattle.cost_num.specs.declared.Cost.{Cost}
use Rattle.account_core.specs.declared.Limit.{Limit}
use Rattle.account_core.specs.declared.Reply.{Reply}
use Rattle.account_core.specs.declared.Reply.TheVariants.{Granted, Short}
use Rattle.account_core.specs.Costs.{nothing}
use Rattle.account_core.specs.Machine.{Entry, entry, Call, reservation, settlement, CallReply, granted, short, done, grant, open_grant, account_of}
use Rattle.account_core.specs.Numbers.{KeepsLimit, reservation_reply, reserved_account}
use Rattle.account_core.specs.History.{state_after, entries_by, NumbersBelow, StartsWith, IsLegal}
use Rattle.account_core.specs.Sums.{open_grants}
use Rattle.account_cells.specs.declared.Decision.{Decision}
use Rattle.account_cells.specs.Views.{View, EndedCaller, having_seen}
use Rattle.account_cells.specs.Rule.{words_of, account_from, times_split_off}

-- ---- conditions on a view

-- it is live, for this limit, and has been shown nothing that it hasn't compared
abbrev pub IsFor : Limit → View → Type 0
IsFor limit v = (v.live ≡ true) × (v.limit ≡ limit) × (v.shown ≡ [])

-- the number is past all that its own calls have
abbrev pub IsNew : View → ℕ → Type 0
IsNew v number = NumbersBelow number v.own

-- its own calls have opened a grant of this number, window and bound and not settled it
abbrev pub Owes : View → ℕ → ℕ → Cost → Type 0
Owes v of window bound = open_grant v.name of (open_grants v.own) ≡ Some (grant v.name of window bound)

-- the entries of each ended caller in what was seen are just those that are kept for it
abbrev pub SeesEnded : List Entry → List EndedCaller → Type 0
SeesEnded seen [] = Unit {0}
SeesEnded seen (x ∷ xs) = (entries_by x.name seen ≡ x.entries) × SeesEnded seen xs

-- who is a caller in what the first view has seen: 0, those that are out, and those that ended, with their entries
pub record SeesCallers (v : View) : Type 0 where
  pub none_past : (name : ℕ) → v.splits < name → entries_by name v.seen ≡ []
  pub ended : SeesEnded v.seen v.ended
  pub once : (name : ℕ) → 1 ≤ name → name ≤ v.splits → times_split_off name v ≡ 1
  pub no_other : (name : ℕ) → v.splits < name → times_split_off name v ≡ 0

abbrev pub KnowsCallers : View → Type 0
KnowsCallers v = v.name ≡ 0 → SeesCallers v

-- ---- what a step has made of a view

-- A step found the account after a legal history that begins with what was seen.
pub record Finds (v : View) (words : List ℕ) (history : List Entry) : Type 0 where
  pub begins : StartsWith history v.seen
  pub same_words : words ≡ words_of (account_of (state_after v.limit history))
  pub all_own : entries_by v.name history ≡ v.own

-- a look: now all of the history is seen
abbrev pub Looked : View → List ℕ → View → Type 0
Looked v words w =
    (history : List Entry) × Finds v words history × IsLegal v.limit history × (w ≡ having_seen v history v.own) × KnowsCallers w

-- a call: after the history that the step found this entry came, and it is one more of its own
abbrev pub Called : View → Entry → List ℕ → View → Type 0
Called v e words w =
    (history : List Entry) × Finds v words history × IsLegal v.limit (history ++ e ∷ [])
    × (w ≡ having_seen v (history ++ e ∷ []) (v.own ++ e ∷ [])) × KnowsCallers w

-- the one call that was made, whatever words were found
abbrev pub CallsOnce : View → Entry → View → Type 0
CallsOnce v e w = (words : List ℕ) × Called v e words w

-- nothing but looks
abbrev pub OnlyLooks : View → View → Type 0
OnlyLooks v w = StartsWith w.seen v.seen × (w ≡ having_seen v w.seen v.own)

-- ---- the outcomes of the steps

-- a look is the refusal of a reservation where the words refuse it
abbrev pub RefusedOrLooked : ℕ → ℕ → Cost → View → List ℕ → View → CallReply → Type 0
RefusedOrLooked number window bound v words w (short left) =
    Called v (entry v.name number (reservation window bound) (short left)) words w
RefusedOrLooked number window bound v words w _ = Looked v words w

abbrev pub LooksFor : ℕ → ℕ → Cost → View → List ℕ → List ℕ → View → Type 0
LooksFor number window bound v before now w =
    KeepsLimit v.limit (account_from before)
    × RefusedOrLooked number window bound v before w (reservation_reply v.limit (account_from before) window bound)

-- an exchange is the call where it found the words that it was made for, and else a look
abbrev pub Exchanges : Call → CallReply → ℕ → List ℕ → View → List ℕ → List ℕ → View → Type 0
Exchanges call reply number found v before now w =
    (before ≡ found → Called v (entry v.name number call reply) before w)
    × ((before ≡ found → ⊥) → Looked v before w)

-- a look is the late settlement of a grant whose window is over
abbrev pub SettlesLate : ℕ → ℕ → ℕ → Cost → Cost → View → List ℕ → List ℕ → View → Type 0
SettlesLate number of window bound measured v before now w =
    (window ≤ (account_from before).window)
    × (window ≡ (account_from before).window
    → Looked v before w × Within (account_from before).held bound × KeepsLimit v.limit (account_from before))
    × ((window ≡ (account_from before).window → ⊥) → Called v (entry v.name number (settlement of window bound measured) done) before w)

-- of the two histories at a join the shorter one is a beginning of the other, and the longer one has all own entries
abbrev pub ComparesShown : View → List ℕ → List ℕ → View → Type 0
ComparesShown v before now w =
    StartsWith v.seen v.shown × (w ≡ record v { shown = [] }) × KnowsCallers w × (entries_by w.name w.seen ≡ w.own)

-- the account after all that a view has seen, with nothing held
pub record HoldsNothing (v : View) (words : List ℕ) : Type 0 where
  pub legal : IsLegal v.limit v.seen
  pub same_words : words ≡ words_of (account_of (state_after v.limit v.seen))
  pub idle : (account_from words).held ≡ nothing

-- where the first view has nobody out and no grant open, it has seen the whole history
abbrev pub SeesWhole : View → List ℕ → List ℕ → View → Type 0
SeesWhole v before now w =
    (v.live ≡ true → v.name ≡ 0 → v.out ≡ [] → open_grants v.own ≡ [] → HoldsNothing v before) × (w ≡ v)

-- ---- what is decided on the words that were found

abbrev pub IsDecision : Limit → ℕ → Cost → List ℕ → Decision → Type 0
IsDecision limit window bound found d =
    (d.granted ≡ true → (reservation_reply limit (account_from found) window bound ≡ granted d.at)
    × (d.next ≡ words_of (reserved_account limit (account_from found) window bound)))
    × (d.granted ≡ false → reservation_reply limit (account_from found) window bound ≡ short d.left)

-- a granted reply has a ticket of this client, number and bound
abbrev pub HasTicketFor : ℕ → ℕ → Cost → Reply → Type 0
HasTicketFor client seq bound (Granted ticket) = (ticket.client ≡ client) × (ticket.seq ≡ seq) × (ticket.bound ≡ bound)
HasTicketFor client seq bound (Short left) = Unit {0}
