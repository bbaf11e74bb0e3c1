-- What an opening makes of a file: each grant that it leaves open is settled at its bound.
use Rattle.std.specs.Prelude.{◌≡◌, ◌⊎◌, ℕ, ◌+◌, List, [], ◌∷◌, ◌++◌, length, take, drop, map, max, Option, Some}
use Rattle.account_core.specs.Machine.{Grant, Entry, grant}
use Rattle.account_core.specs.Sums.{open_grants}
use Rattle.journal_disk.specs.Images.{IsDurable, CrashesLeave}
use Rattle.account_journal.specs.declared.journal.Journal.{Journal}
use Rattle.account_journal.specs.declared.reading.OpenGrant.{OpenGrant}
use Rattle.account_journal.specs.declared.reading.OpenFault.{OpenFault}
use Rattle.account_journal.specs.declared.reading.OpenFault.TheVariants.{Failed}
use Rattle.account_journal.specs.Slots.{bodies}
use Rattle.account_journal.specs.Histories.{HasEntryOrNot, history_in, settlement_entry}
use Rattle.account_journal.specs.Journals.{Follows, IsTold, Stores}

-- an open grant as the machine lists it
abbrev pub grant_view : OpenGrant → Grant
grant_view o = grant o.client o.slot o.window o.bound

-- its settlement at its bound
abbrev pub bound_settlement : ℕ → OpenGrant → Entry
bound_settlement slot o = settlement_entry slot (grant_view o) o.bound

-- the settlements of these grants at their bounds, one a slot
unfoldable pub settlements : ℕ → List OpenGrant → List Entry
settlements slot [] = []
settlements slot (o ∷ os) = bound_settlement slot o ∷ settlements (slot + 1) os

-- a journal follows and stores entries that leave these grants open
pub record IsReady {D : Type 0} (reads : D → Option (List ℕ)) (image : D → List ℕ → Type 0) (j : Journal D) (opens : List OpenGrant) (entries : List Entry) : Type 0 where
  pub stands : Follows j entries
  pub kept : Stores reads image j entries
  pub leaves : open_grants entries ≡ map grant_view opens

-- the history of a file is these entries and some first ones of the settlements
abbrev pub HasSomeSettlements : List Entry → ℕ → List OpenGrant → List ℕ → Type 0
HasSomeSettlements entries slot opens file = (n : ℕ) × (history_in file ≡ entries ++ take n (settlements slot opens))

-- the same at any moment of a run, where the disk tells
abbrev pub LeavesSettlements : {D : Type 0} → (D → Option (List ℕ)) → (D → List ℕ → Type 0) → (D → ℕ) → (D → ℕ → List ℕ → Type 0) → Journal D → D → List OpenGrant → List Entry → Type 0
LeavesSettlements reads image moment image_since j new opens entries =
    IsTold reads j → IsReady reads image j opens entries → CrashesLeave moment image_since j.disk new (HasSomeSettlements entries j.used opens)

-- the first of the grants is settled at its bound or not, at any moment of a run
abbrev pub LeavesFirst : {D : Type 0} → (D → Option (List ℕ)) → (D → List ℕ → Type 0) → (D → ℕ) → (D → ℕ → List ℕ → Type 0) → Journal D → D → OpenGrant → List OpenGrant → List Entry → Type 0
LeavesFirst reads image moment image_since j new first rest entries =
    IsTold reads j → IsReady reads image j (first ∷ rest) entries → CrashesLeave moment image_since j.disk new (HasEntryOrNot entries (bound_settlement j.used first))

-- So many of the grants are settled and the others are open, and the run so far has left no other images.
pub record HasSettled {D : Type 0} (reads : D → Option (List ℕ)) (image : D → List ℕ → Type 0) (moment : D → ℕ) (image_since : D → ℕ → List ℕ → Type 0) (old now : Journal D) (opens : List OpenGrant) (at : ℕ) (entries : List Entry) : Type 0 where
  pub ready : IsReady reads image now (drop at opens) (entries ++ take at (settlements old.used opens))
  pub moments : (b : List ℕ) → reads old.disk ≡ Some b → CrashesLeave moment image_since old.disk now.disk (HasSomeSettlements entries old.used opens)

-- some entries leave this grant open first
pub record IsReadyFor {D : Type 0} (reads : D → Option (List ℕ)) (image : D → List ℕ → Type 0) (j : Journal D) (first : OpenGrant) : Type 0 where
  pub others : List OpenGrant
  pub entries : List Entry
  pub ready : IsReady reads image j (first ∷ others) entries

-- some entries leave just these grants open
pub record IsReadyForAll {D : Type 0} (reads : D → Option (List ℕ)) (image : D → List ℕ → Type 0) (j : Journal D) (opens : List OpenGrant) : Type 0 where
  pub entries : List Entry
  pub ready : IsReady reads image j opens entries

-- the same of grants as the machine lists them
abbrev pub settlements_at_bound : ℕ → List Grant → List Entry
settlements_at_bound slot [] = []
settlements_at_bound slot (g ∷ gs) = settlement_entry slot g g.bound ∷ settlements_at_bound (slot + 1) gs

-- the first slot that is free once there is a header
abbrev pub free_slot : List ℕ → ℕ
free_slot file = max 1 (length (bodies file))

-- the settlements that a file owes: one for each grant that its history leaves open, at its bound, in the order of the grants
abbrev pub settlements_due : List ℕ → List Entry
settlements_due file = settlements_at_bound (free_slot file) (open_grants (history_in file))

-- entries, and from a slot on a settlement at its bound of each grant that they leave open
abbrev pub settled_from : ℕ → List Entry → List Entry
settled_from slot entries = entries ++ settlements_at_bound slot (open_grants entries)

-- the history of a file once it is recovered
abbrev pub recovered_history : List ℕ → List Entry
recovered_history file = settled_from (free_slot file) (history_in file)

-- the history of a file is that of another and some first ones of the settlements that it owes
abbrev pub IsPartlyRecovered : List ℕ → List ℕ → Type 0
IsPartlyRecovered file c = (n : ℕ) × (history_in c ≡ history_in file ++ take n (settlements_due file))

-- A crash at any moment of a run whose disk reads as a file at first and is synced before all else: until the sync it leaves what it
-- left before the run. Behind the sync the disk still reads as that file, which is durable; from there on a crash leaves a file with P.
pub record CrashesLeaveSince {D : Type 0} (reads : D → Option (List ℕ)) (image : D → List ℕ → Type 0) (moment : D → ℕ) (image_since : D → ℕ → List ℕ → Type 0) (old new : D) (file : List ℕ) (P : List ℕ → Type 0) : Type 0 where
  pub synced : D
  pub before : CrashesLeave moment image_since old synced (image old)
  pub told : reads synced ≡ Some file
  pub durable : IsDurable file (image synced)
  pub behind : CrashesLeave moment image_since synced new P

-- the sync failed, and so did the run; or it went on behind the sync
abbrev pub FailsOrLeavesSince : {D : Type 0} → (D → Option (List ℕ)) → (D → List ℕ → Type 0) → (D → ℕ) → (D → ℕ → List ℕ → Type 0) → D → D → OpenFault → List ℕ → (List ℕ → Type 0) → Type 0
FailsOrLeavesSince reads image moment image_since old new fault file P =
    ((fault ≡ Failed) × CrashesLeave moment image_since old new (image old)) ⊎ CrashesLeaveSince reads image moment image_since old new file P

-- a journal follows and stores some entries that leave nothing open
pub record HasNoneOpen {D : Type 0} (reads : D → Option (List ℕ)) (image : D → List ℕ → Type 0) (j : Journal D) : Type 0 where
  pub list : List Entry
  pub stands : Follows j list
  pub kept : Stores reads image j list
  pub none : open_grants list ≡ []

-- a journal follows and stores the recovered history of a file, which leaves nothing open
pub record IsRecoveredFrom {D : Type 0} (reads : D → Option (List ℕ)) (image : D → List ℕ → Type 0) (j : Journal D) (file : List ℕ) : Type 0 where
  pub stands : Follows j (recovered_history file)
  pub kept : Stores reads image j (recovered_history file)
  pub none : open_grants (recovered_history file) ≡ []

-- a journal follows entries and a settlement of what they leave open, each from the first free slot of a file on
abbrev pub FollowsSettled : {D : Type 0} → Journal D → List ℕ → List Entry → Type 0
FollowsSettled j file entries = Follows j (settled_from (free_slot file) entries)

-- the same of the history of a first file and some first ones of the settlements that it owes
abbrev pub FollowsPartly : {D : Type 0} → Journal D → List ℕ → List ℕ → Type 0
FollowsPartly j first file = (n : ℕ) × FollowsSettled j file (history_in first ++ take n (settlements_due first))
