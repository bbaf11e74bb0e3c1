-- What calls add to the history of a journal.
use Rattle.std.specs.Prelude.{◌≡◌, ℕ, ◌+◌, ◌<◌, ◌≤◌, List, [], ◌∷◌, ◌++◌, length, Option, Some, is_some, ⊤}
use Rattle.std.specs.List.{AllByRecursion}
use Rattle.account_core.specs.Machine.{Call, reservation, settlement, CallReply, granted, short, Entry, entry, grant, open_grant}
use Rattle.account_core.specs.History.{state_after, AreSteps, entries_by, without_refusals}
use Rattle.account_core.specs.Sums.{open_grants}
use Rattle.account_core.specs.declared.Ticket.{Ticket}
use Rattle.account_core.specs.Numbers.{ticket_for}
use Rattle.account_shared.specs.Gains.{ClientCall}
use Rattle.account_journal.specs.declared.slots.TheConstants.{SLOTS}
use Rattle.account_journal.specs.declared.journal.Journal.{Journal}
use Rattle.account_journal.specs.declared.journal.KeptTicket.{KeptTicket}
use Rattle.account_journal.specs.Journals.{Follows, IsSound, Rests, Stores, KeepsHistory, HoldsTicket, limit_in, entry_in, ticket_settlement, IsOpenIn}
use Rattle.gateway_workers.specs.PassedOn.{Gate, limits_of, numbers_taken}

-- ---- entries of calls

-- A grant is kept as if it had asked for the window in which it stands.
abbrev pub call_kept : Call → CallReply → Call
call_kept (reservation window bound) (granted at) = reservation at bound
call_kept call reply = call

-- a refusal takes no number
abbrev pub taken_by : CallReply → ℕ
taken_by (short left) = 0
taken_by other = 1

abbrev pub entry_of : ℕ → ClientCall → Entry
entry_of number c = entry c.client number (call_kept c.call c.reply) c.reply

-- The entries of calls from a number on, refusals included. The caller is the client's number.
unfoldable pub entries_of_calls : ℕ → List ClientCall → List Entry
entries_of_calls number [] = []
entries_of_calls number (c ∷ cs) = entry_of number c ∷ entries_of_calls (number + taken_by c.reply) cs

-- those of them that the journal keeps
abbrev pub kept_of_calls : ℕ → List ClientCall → List Entry
kept_of_calls number calls = without_refusals (entries_of_calls number calls)

-- The same of calls as they were made: a grant asked for the window of its request.
unfoldable pub entries_made : ℕ → List ClientCall → List Entry
entries_made number [] = []
entries_made number (c ∷ cs) = entry c.client number c.call c.reply ∷ entries_made (number + taken_by c.reply) cs

-- a settlement is of a grant that these entries leave open
abbrev pub IsHeld : List Entry → ℕ → Call → Type 0
IsHeld hs client (settlement of window bound measured) = open_grant client of (open_grants hs) ≡ Some (grant client of window bound)
IsHeld hs client (reservation window bound) = ⊤

-- Behind these entries each settlement is of a grant that is open at its turn.
unfoldable pub AreHeld : List Entry → ℕ → List ClientCall → Type 0
AreHeld hs number [] = ⊤
AreHeld hs number (c ∷ cs) = IsHeld hs c.client c.call × AreHeld (hs ++ without_refusals (entry_of number c ∷ [])) (number + taken_by c.reply) cs

-- how many grants calls open, and how many they settle
abbrev pub opened_by : CallReply → ℕ
opened_by (granted at) = 1
opened_by other = 0

abbrev pub settled_by : Call → ℕ
settled_by (settlement of window bound measured) = 1
settled_by other = 0

unfoldable pub opened_in : List ClientCall → ℕ
opened_in [] = 0
opened_in (c ∷ cs) = opened_by c.reply + opened_in cs

unfoldable pub settled_in : List ClientCall → ℕ
settled_in [] = 0
settled_in (c ∷ cs) = settled_by c.call + settled_in cs

-- ---- journals

-- Numbers of calls are slots of a journal, which has so many.
abbrev pub kept_slots : Option ℕ
kept_slots = Some SLOTS

-- From a history on: the calls, as they were made, are the machine's steps, client by client, and just those that aren't refusals were
-- added. Where the disk had the history, it has what was added, and a crash leaves all of it.
pub record GoesOnFrom {D : Type 0} (reads : D → Option (List ℕ)) (image : D → List ℕ → Type 0) (a b : Journal D) (hs : List Entry) (calls : List ClientCall) : Type 0 where
  pub steps : (k : ℕ) → k < length a.limits.items
      → AreSteps (limit_in a k) (state_after (limit_in a k) (entries_by k hs)) (entries_by k (entries_made a.used calls))
  pub follows : Follows b (hs ++ kept_of_calls a.used calls)
  pub stores : Stores reads image a hs → Stores reads image b (hs ++ kept_of_calls a.used calls)

-- From one moment of a journal to another just these calls were made, each on the account of a client that it knows.
pub record HasGained {D : Type 0} (reads : D → Option (List ℕ)) (image : D → List ℕ → Type 0) (faults : D → ℕ) (a b : Journal D) (calls : List ClientCall) : Type 0 where
  pub limits : b.limits ≡ a.limits
  pub known : AllByRecursion (λ c. c.client < length a.limits.items) calls
  pub used : b.used ≡ a.used + numbers_taken kept_slots calls
  pub opened : b.opened + settled_in calls ≡ a.opened + opened_in calls
  pub tells : is_some (reads b.disk) ≡ is_some (reads a.disk)
  pub count : faults a.disk ≤ faults b.disk
  pub goes : (hs : List Entry) → Follows a hs → AreHeld hs a.used calls → GoesOnFrom reads image a b hs calls

-- So it was where each grant that calls settle was open at its turn: from each history that the journal follows.
pub record HasKept {D : Type 0} (reads : D → Option (List ℕ)) (image : D → List ℕ → Type 0) (faults : D → ℕ) (a b : Journal D) (calls : List ClientCall) : Type 0 where
  pub limits : b.limits ≡ a.limits
  pub known : AllByRecursion (λ c. c.client < length a.limits.items) calls
  pub used : b.used ≡ a.used + numbers_taken kept_slots calls
  pub opened : b.opened + settled_in calls ≡ a.opened + opened_in calls
  pub tells : is_some (reads b.disk) ≡ is_some (reads a.disk)
  pub count : faults a.disk ≤ faults b.disk
  pub goes : (hs : List Entry) → Follows a hs → GoesOnFrom reads image a b hs calls

-- the ticket of a grant, as the journal has it
abbrev pub kept_ticket : Ticket → KeptTicket
kept_ticket t = record { client = t.client; slot = t.seq; window = t.window; bound = t.bound }

-- the grant of the ticket is open in some history that the journal follows
abbrev pub IsOpenHere : {D : Type 0} → Journal D → Ticket → Type 0
IsOpenHere j ticket = (hs : List Entry) × IsOpenIn j hs (kept_ticket ticket)

-- The journal has the accounts of the clients of the gate: its numbers are sound, its disk is at rest, and it follows some history.
pub record IsKeptFor {D : Type 0} (reads : D → Option (List ℕ)) (j : Journal D) (gate : Gate) : Type 0 where
  pub sound : IsSound j
  pub rests : Rests reads j
  pub limits : j.limits.items ≡ limits_of gate
  pub history : List Entry
  pub follows : Follows j history

-- A crash at any moment of this call, where the disk tells, leaves a file with the history from before it, or with that and the entry
-- of the call.
abbrev pub LeavesCall : {D : Type 0} → (D → Option (List ℕ)) → (D → List ℕ → Type 0) → (D → ℕ) → (D → ℕ → List ℕ → Type 0) → Journal D → D → ℕ → Call → Type 0
LeavesCall reads image moment image_since j disk client (reservation window bound) =
    (hs : List Entry) → KeepsHistory reads image moment image_since j disk (entry_in j client window bound) hs
LeavesCall reads image moment image_since j disk client (settlement of window bound measured) =
    (hs : List Entry) → HoldsTicket hs (kept_ticket (ticket_for client of window bound))
    → KeepsHistory reads image moment image_since j disk (ticket_settlement j.used (kept_ticket (ticket_for client of window bound)) measured) hs

-- In this call the disk failed. It tells what it holds if it did before.
pub record IsLostIn {D : Type 0} (reads : D → Option (List ℕ)) (image : D → List ℕ → Type 0) (moment : D → ℕ) (image_since : D → ℕ → List ℕ → Type 0) (j : Journal D) (disk : D) (client : ℕ) (call : Call) : Type 0 where
  pub tells : is_some (reads disk) ≡ is_some (reads j.disk)
  pub leaves : LeavesCall reads image moment image_since j disk client call
