-- A journal as its calls see it.
use Rattle.std.specs.Prelude.{◌≡◌, ℕ, ◌+◌, ◌-◌, ◌<◌, ◌≤◌, List, [], ◌∷◌, length, get_or, set, max, nat_lt, if◌then◌else◌, Option, Some, None}
use Rattle.cost_num.specs.Within.{Within}
use Rattle.cost_num.specs.declared.Cost.{Cost}
use Rattle.account_core.specs.declared.Limit.{Limit}
use Rattle.account_core.specs.declared.Account.{Account}
use Rattle.account_core.specs.Machine.{Grant, Entry, granted, short, CallReply, grant, open_grant}
use Rattle.account_core.specs.Numbers.{reservation_reply, reserved_account, settled_account}
use Rattle.account_core.specs.Sums.{open_grants}
use Rattle.journal_disk.specs.Images.{CrashesLeave}
use Rattle.account_journal.specs.declared.journal.Journal.{Journal}
use Rattle.account_journal.specs.declared.journal.KeptReply.{KeptReply}
use Rattle.account_journal.specs.declared.journal.KeptReply.TheVariants.{Granted, Short, Full}
use Rattle.account_journal.specs.declared.journal.KeptTicket.{KeptTicket}
use Rattle.account_journal.specs.Slots.{IsAtRest}
use Rattle.account_journal.specs.Histories.{AccountsFollow, AreSound, IsStored, HasEntryOrNot, grant_entry, settlement_entry, no_limit, no_account}

-- the accounts follow these entries, which take the slots that are used
abbrev pub Follows : {D : Type 0} → Journal D → List Entry → Type 0
Follows j entries = AccountsFollow j.limits.items j.accounts.items j.used j.opened entries

abbrev pub IsSound : {D : Type 0} → Journal D → Type 0
IsSound j = AreSound j.limits.items j.accounts.items j.used j.opened

-- the disk has these entries, and a crash leaves them
abbrev pub Stores : {D : Type 0} → (D → Option (List ℕ)) → (D → List ℕ → Type 0) → Journal D → List Entry → Type 0
Stores reads image j entries = IsStored (reads j.disk) (image j.disk) j.used entries

-- where the disk tells, its file may take the next slot
abbrev pub Rests : {D : Type 0} → (D → Option (List ℕ)) → Journal D → Type 0
Rests reads j = (b : List ℕ) → reads j.disk ≡ Some b → IsAtRest j.used b

abbrev pub IsTold : {D : Type 0} → (D → Option (List ℕ)) → Journal D → Type 0
IsTold reads j = (b : List ℕ) × (reads j.disk ≡ Some b)

abbrev pub limit_in : {D : Type 0} → Journal D → ℕ → Limit
limit_in j client = get_or j.limits.items client no_limit

abbrev pub account_in : {D : Type 0} → Journal D → ℕ → Account
account_in j client = get_or j.accounts.items client no_account

-- Behind a call of one entry: where the disk tells and stored these entries, a crash at any moment of the call leaves a file with
-- them, or with them and that one.
abbrev pub KeepsHistory : {D : Type 0} → (D → Option (List ℕ)) → (D → List ℕ → Type 0) → (D → ℕ) → (D → ℕ → List ℕ → Type 0) → Journal D → D → Entry → List Entry → Type 0
KeepsHistory reads image moment image_since j new e entries =
    IsTold reads j → Stores reads image j entries → CrashesLeave moment image_since j.disk new (HasEntryOrNot entries e)

-- How a reservation is answered. Where fewer slots are free than the open grants, this one and its settlement need, it is
-- not even asked for; else the machine answers.
abbrev pub answer_in : {D : Type 0} → Journal D → ℕ → ℕ → Cost → Option CallReply
answer_in j client window bound =
    if nat_lt (4194304 - j.used) (j.opened + 2) then None else Some (reservation_reply (limit_in j client) (account_in j client) window bound)

-- a reply says that answer, with a ticket of the slot where the answer is a grant
abbrev pub IsAnswered : KeptReply → ℕ → ℕ → Cost → Option CallReply → Type 0
IsAnswered (Granted ticket) client slot bound (Some (granted at)) = ticket ≡ record { client = client; slot = slot; window = at; bound = bound }
IsAnswered (Short left) client slot bound (Some (short left_then)) = left ≡ left_then
IsAnswered Full client slot bound None = Unit {0}
IsAnswered _ _ _ _ _ = ⊥

-- the entry of a reservation where it is granted: it stands in the window that it asks for, or in the account's if that is
-- later
abbrev pub entry_in : {D : Type 0} → Journal D → ℕ → ℕ → Cost → Entry
entry_in j client window bound = grant_entry client j.used (max window (account_in j client).window) bound

-- the entries that a reply adds
abbrev pub gained_by : KeptReply → List Entry
gained_by (Granted ticket) = grant_entry ticket.client ticket.slot ticket.window ticket.bound ∷ []
gained_by (Short left) = []
gained_by Full = []

-- what a reservation changes of the numbers: a grant takes a slot, opens one grant more and changes its client's account as
-- the machine does; nothing else changes anything
abbrev pub IsReserved : {D : Type 0} → KeptReply → Journal D → Journal D → ℕ → ℕ → Cost → Type 0
IsReserved (Granted ticket) old new client window bound =
    (new.used ≡ old.used + 1) × (new.opened ≡ old.opened + 1) × (new.accounts.items ≡ set old.accounts.items client (reserved_account (limit_in old client) (account_in old client) window bound))
IsReserved (Short left) old new client window bound = new ≡ old
IsReserved Full old new client window bound = new ≡ old

-- what a settlement changes of the numbers
pub record IsSettled {D : Type 0} (old new : Journal D) (ticket : KeptTicket) (measured : Cost) : Type 0 where
  pub used : new.used ≡ old.used + 1
  pub opened : new.opened + 1 ≡ old.opened
  pub accounts : new.accounts.items ≡ set old.accounts.items ticket.client (settled_account (account_in old ticket.client) ticket.window ticket.bound measured)

-- all numbers are as before
pub record HasSameNumbers {D : Type 0} (old new : Journal D) : Type 0 where
  pub accounts : new.accounts.items ≡ old.accounts.items
  pub used : new.used ≡ old.used
  pub opened : new.opened ≡ old.opened

abbrev pub grant_of : KeptTicket → Grant
grant_of ticket = grant ticket.client ticket.slot ticket.window ticket.bound

-- these entries leave the ticket's grant open
abbrev pub HoldsTicket : List Entry → KeptTicket → Type 0
HoldsTicket entries ticket = open_grant ticket.client ticket.slot (open_grants entries) ≡ Some (grant_of ticket)

-- What the numbers have to say so that a ticket may be settled at a cost: some grant is open, the client is known, the cost is
-- within the bound, and the client's account has come to the ticket's window, where it holds the bound if it still is in it. Of a
-- ticket whose grant is open all but the cost follows.
pub record MaySettle {D : Type 0} (j : Journal D) (ticket : KeptTicket) (measured : Cost) : Type 0 where
  pub opened : 0 < j.opened
  pub client : ticket.client < length j.limits.items
  pub within : Within ticket.bound measured
  pub window : ticket.window ≤ (account_in j ticket.client).window
  pub held : ticket.window ≡ (account_in j ticket.client).window → Within (account_in j ticket.client).held ticket.bound

-- a journal follows entries that leave open the grant of a ticket of one of its clients
pub record IsOpenIn {D : Type 0} (j : Journal D) (entries : List Entry) (ticket : KeptTicket) : Type 0 where
  pub follows : Follows j entries
  pub holds : HoldsTicket entries ticket
  pub client : ticket.client < length j.limits.items

-- where a reply is a grant, these entries leave it open
abbrev pub HoldsReply : List Entry → KeptReply → Type 0
HoldsReply entries (Granted ticket) = HoldsTicket entries ticket
HoldsReply entries (Short left) = Unit {0}
HoldsReply entries Full = Unit {0}

abbrev pub ticket_settlement : ℕ → KeptTicket → Cost → Entry
ticket_settlement slot ticket measured = settlement_entry slot (grant_of ticket) measured
