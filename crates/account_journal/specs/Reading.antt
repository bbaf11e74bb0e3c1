-- When a journal opens: what each present slot has to say, and why slots are refused.
use Rattle.std.specs.Prelude.{◌≡◌, ℕ, zero, suc, ◌+◌, ◌<◌, ◌≤◌, ◌==◌, ◌&&◌, Bool, true, false, List, [], length, take, drop, get_or, map, Option, Some, None}
use Rattle.std.specs.List.{list_all}
use Rattle.cost_num.specs.declared.Cost.{Cost}
use Rattle.account_core.specs.declared.Limit.{Limit}
use Rattle.account_core.specs.declared.Account.{Account}
use Rattle.account_core.specs.Machine.{Entry, entry, settlement, done, IsStep}
use Rattle.account_core.specs.History.{state_after, entries_by}
use Rattle.account_core.specs.Sums.{open_grants}
use Rattle.account_journal.specs.declared.reading.OpenGrant.{OpenGrant}
use Rattle.account_journal.specs.declared.records.SlotRecord.{SlotRecord}
use Rattle.account_journal.specs.declared.records.SlotRecord.TheVariants.{Grant, Settlement}
use Rattle.account_journal.specs.declared.reading.OpenFault.{OpenFault}
use Rattle.account_journal.specs.declared.reading.OpenFault.TheVariants.{Failed, OtherClients, Damaged, Memory}
use Rattle.account_journal.specs.declared.reading.Reading.{Reading}
use Rattle.account_journal.specs.Records.{Record, grant_record, settlement_record, record_of}
use Rattle.account_journal.specs.Histories.{AccountsFollow, AreSound, no_limit, grant_entry, replayed, history_in, IsStored}
use Rattle.account_journal.specs.Recovery.{grant_view, free_slot}
use Rattle.account_journal.specs.Slots.{bodies}
use Rattle.outside.specs.Faults.{Rose}

abbrev pub record_seen : SlotRecord → Record
record_seen (Grant client window bound) = grant_record client window bound
record_seen (Settlement client slot measured) = settlement_record client slot measured

-- a body is a header: its kind is 0, a mark of any 32 bytes follows, and the rest is 0
abbrev pub is_header : List ℕ → Bool
is_header body = (get_or body 0 0 == 0) && list_all (λ b. b == 0) (drop 33 body)

abbrev pub mark_in : List ℕ → List ℕ
mark_in body = take 32 (drop 1 body)

-- A grant may come next after these entries: its client is known, the machine grants it in just the window that it is written
-- with, and after it as many slots are free as grants are open then.
pub record IsGrantNext (limits : List Limit) (entries : List Entry) (slot client window : ℕ) (bound : Cost) : Type 0 where
  pub known : client < length limits
  pub step : IsStep (get_or limits client no_limit) (state_after (get_or limits client no_limit) (entries_by client entries)) (grant_entry client slot window bound)
  pub room : slot + length (open_grants entries) + 2 ≤ 4194304

-- A settlement may come next after these entries: its client is known and has that slot's grant open, and the machine settles it
-- so.
pub record IsSettlementNext (limits : List Limit) (entries : List Entry) (slot client of : ℕ) (measured : Cost) : Type 0 where
  pub known : client < length limits
  pub window : ℕ
  pub bound : Cost
  pub step : IsStep (get_or limits client no_limit) (state_after (get_or limits client no_limit) (entries_by client entries)) (entry client slot (settlement of window bound measured) done)

-- a record may come next
abbrev pub IsRecordNext : List Limit → List Entry → ℕ → Option Record → Type 0
IsRecordNext limits entries slot None = ⊥
IsRecordNext limits entries slot (Some (grant_record client window bound)) = IsGrantNext limits entries slot client window bound
IsRecordNext limits entries slot (Some (settlement_record client of measured)) = IsSettlementNext limits entries slot client of measured

-- A body may stand in a slot after these entries. In the first slot it is a header, in each other it says a record that may come
-- next.
abbrev pub IsBodyNext : List Limit → List Entry → ℕ → List ℕ → Type 0
IsBodyNext limits entries zero body = is_header body ≡ true
IsBodyNext limits entries (suc last) body = IsRecordNext limits entries (suc last) (record_of body)

-- the history of the first so many slots
abbrev pub history_to : List (List ℕ) → ℕ → List Entry
history_to slots n = replayed [] 0 (take n slots)

-- a slot is valid: its body may stand there after the slots before it
abbrev pub IsValidSlot : List Limit → List (List ℕ) → ℕ → Type 0
IsValidSlot limits slots n = IsBodyNext limits (history_to slots n) n (get_or slots n [])

-- so many first slots are valid
abbrev pub AreValidSlots : List Limit → List (List ℕ) → ℕ → Type 0
AreValidSlots limits slots n = (k : ℕ) → k < n → IsValidSlot limits slots k

-- the first slot, if one is present, has this mark
abbrev pub HasMark : List ℕ → List (List ℕ) → Type 0
HasMark mark slots = 0 < length slots → mark_in (get_or slots 0 []) ≡ mark

-- The first slot that isn't valid. A header of another mark is told before it.
pub record IsDamaged (limits : List Limit) (mark : List ℕ) (slots : List (List ℕ)) (n : ℕ) : Type 0 where
  pub present : n < length slots
  pub before : AreValidSlots limits slots n
  pub bad : IsValidSlot limits slots n → ⊥
  pub marked : 0 < n → HasMark mark slots

-- the journal is of other clients: its header has another mark
pub record HasOtherMark (mark : List ℕ) (slots : List (List ℕ)) : Type 0 where
  pub present : 0 < length slots
  pub header : is_header (get_or slots 0 []) ≡ true
  pub other : mark_in (get_or slots 0 []) ≡ mark → ⊥

-- each present slot is valid, and the header has this mark
pub record IsIntact (limits : List Limit) (mark : List ℕ) (slots : List (List ℕ)) : Type 0 where
  pub good : AreValidSlots limits slots (length slots)
  pub marked : HasMark mark slots

-- what a refusal says of the present slots; a fault of the disk and want of memory say nothing of them
abbrev pub IsFaultOf : OpenFault → List Limit → List ℕ → List (List ℕ) → Type 0
IsFaultOf Failed limits mark slots = Unit {0}
IsFaultOf OtherClients limits mark slots = HasOtherMark mark slots
IsFaultOf (Damaged slot) limits mark slots = IsDamaged limits mark slots slot
IsFaultOf Memory limits mark slots = Unit {0}

-- accounts, so many slots and these open grants come of these entries
pub record AreEntries (limits : List Limit) (accounts : List Account) (used : ℕ) (opens : List OpenGrant) (entries : List Entry) : Type 0 where
  pub stands : AccountsFollow limits accounts used (length opens) entries
  pub leaves : open_grants entries ≡ map grant_view opens

abbrev pub HasEntries : List Limit → Reading → List Entry → Type 0
HasEntries limits r entries = AreEntries limits r.accounts.items r.used r.opens.items entries

-- what a reading's numbers keep to; at most as many grants are open as slots were read
pub record IsReading (limits : List Limit) (r : Reading) : Type 0 where
  pub sound : AreSound limits r.accounts.items r.used (length r.opens.items)
  pub fewer : length r.opens.items ≤ r.used

-- a reading has come of some entries
pub record HasSomeEntries (limits : List Limit) (r : Reading) : Type 0 where
  pub list : List Entry
  pub lists : HasEntries limits r list

-- after whatever entries a reading has come of, something doesn't hold
abbrev pub NeverAfter : List Limit → Reading → (List Entry → Type 0) → Type 0
NeverAfter limits r P = (hs : List Entry) → HasEntries limits r hs → P hs → ⊥

-- a header with another mark
abbrev pub IsOtherHeader : List ℕ → List ℕ → Type 0
IsOtherHeader mark body = (is_header body ≡ true) × (mark_in body ≡ mark → ⊥)

-- why the next body is refused: it may not stand in its slot, or the first one has another mark
abbrev pub RefusesBody : OpenFault → ℕ → Type 0 → Type 0 → Type 0
RefusesBody (Damaged n) slot bad other = (n ≡ slot) × bad
RefusesBody OtherClients slot bad other = (slot ≡ 0) × other
RefusesBody Memory slot bad other = Unit {0}
RefusesBody Failed slot bad other = ⊥

-- So many first slots were read: these are their entries, the slots are valid, and the header has this mark.
pub record HasReadSlots (limits : List Limit) (mark : List ℕ) (slots : List (List ℕ)) (used : ℕ) (list : List Entry) : Type 0 where
  pub within : used ≤ length slots
  pub same : list ≡ history_to slots used
  pub good : AreValidSlots limits slots used
  pub marked : 0 < used → HasMark mark slots

-- A reading has come of some entries; where the file is told, they are those of the slots that were read.
pub record HasRead (reads : Option (List ℕ)) (limits : List Limit) (mark : List ℕ) (r : Reading) : Type 0 where
  pub list : List Entry
  pub lists : HasEntries limits r list
  pub told : (b : List ℕ) → reads ≡ Some b → HasReadSlots limits mark (bodies b) r.used list

-- a slot more was read, or all of them were before
abbrev pub GoesOnOrEnds : Bool → ℕ → ℕ → Type 0 → Type 0
GoesOnOrEnds true before after ended = after ≡ before + 1
GoesOnOrEnds false before after ended = ended

-- the count of faults rose, or stands at its last value, where the disk failed
abbrev pub RoseIfFailed : OpenFault → ℕ → ℕ → Type 0
RoseIfFailed Failed before after = Rose before after
RoseIfFailed OtherClients before after = Unit {0}
RoseIfFailed (Damaged slot) before after = Unit {0}
RoseIfFailed Memory before after = Unit {0}

-- All slots are read, and the disk may take the next one: the reading has come of some entries; where the file was told before,
-- they are its history and its slots are intact; where it is told now, it is at rest with this history and durable.
pub record IsPrepared (before after : Option (List ℕ)) (image : List ℕ → Type 0) (limits : List Limit) (mark : List ℕ) (r : Reading) : Type 0 where
  pub list : List Entry
  pub lists : HasEntries limits r list
  pub told : (b : List ℕ) → before ≡ Some b → (list ≡ history_in b) × (r.used ≡ free_slot b) × IsIntact limits mark (bodies b)
  pub kept : IsStored after image r.used list
