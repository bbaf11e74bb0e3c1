-- What went over a wire.
use Rattle.std.specs.Prelude.{◌≡◌, ℕ, ◌≤◌, ◌⊎◌, List, [], ◌∷◌, ◌++◌, flat_map, replicate, length, take, Option, Some, None, Result, Ok, Err, Bool, true, false, ◌||◌, ◌&&◌, nat_eq, nat_lt, Vec}
use Rattle.std.specs.declared.alloc.Global.{Global}
use Rattle.outside.specs.declared.mem_wire.WireDial.{WireDial}
use Rattle.outside.specs.Faults.{last_count}

-- One dial: whether it was answered, what was sent and taken on it so far, whether its end was met, and whether
-- a transfer failed.
pub record Dial : Type 0 where
  pub answered : Bool
  pub sent : List ℕ
  pub taken : List ℕ
  pub ended : Bool
  pub failed : Bool

-- a dial that was answered, on which nothing went yet
abbrev pub fresh_dial : Dial
fresh_dial = record { answered = true; sent = []; taken = []; ended = false; failed = false }

-- a dial that nobody answered
abbrev pub missed_dial : Dial
missed_dial = record { answered = false; sent = []; taken = []; ended = false; failed = false }

-- the log, where it is told, has grown by these dials
abbrev pub Logged : Option (List Dial) → List Dial → Option (List Dial) → Type 0
Logged None dials after = after ≡ None
Logged (Some log) dials after = after ≡ Some (log ++ dials)

-- the same dials, but for some that nobody answered
unfoldable pub LacksMissed : List Dial → List Dial → Type 0
LacksMissed [] shown = shown ≡ []
LacksMissed (d ∷ dials) shown =
    ((rest : List Dial) × (shown ≡ d ∷ rest) × LacksMissed dials rest) ⊎ ((d ≡ missed_dial) × LacksMissed dials shown)

-- The log has grown by these dials. Where the count of dials that nobody answered stands at its last value afterwards, it
-- may lack some of those, and of those alone.
abbrev pub LoggedBy : ℕ → Option (List Dial) → List Dial → Option (List Dial) → Type 0
LoggedBy missed before dials after =
    Logged before dials after ⊎ ((last_count ≤ missed) × (shown : List Dial) × LacksMissed dials shown × Logged before shown after)

-- the list with its last item changed
unfoldable pub with_last : {A : Type 0} → (A → A) → List A → List A
with_last change [] = []
with_last change (x ∷ []) = change x ∷ []
with_last change (x ∷ y ∷ rest) = x ∷ with_last change (y ∷ rest)

-- the last dial of the log, where it is told, was changed so
abbrev pub LastBecomes : (Dial → Dial) → Option (List Dial) → Option (List Dial) → Type 0
LastBecomes change None after = after ≡ None
LastBecomes change (Some log) after = after ≡ Some (with_last change log)

-- bytes more were sent
abbrev pub sends : List ℕ → Dial → Dial
sends bytes d = record { answered = d.answered; sent = d.sent ++ bytes; taken = d.taken; ended = d.ended; failed = d.failed }

-- bytes more were taken, and perhaps the end was met after them
abbrev pub takes : List ℕ → Bool → Dial → Dial
takes bytes ended d = record { answered = d.answered; sent = d.sent; taken = d.taken ++ bytes; ended = d.ended || ended; failed = d.failed }

-- a transfer failed
abbrev pub fails : Dial → Dial
fails d = record { answered = d.answered; sent = d.sent; taken = d.taken; ended = d.ended; failed = true }

-- what a write does to the dial
abbrev pub written_by : {E : Type 0} → Result ℕ E → List ℕ → Dial → Dial
written_by (Ok count) piece = sends (take count piece)
written_by (Err fault) piece = fails

-- what a read does to the dial
abbrev pub read_by : {E : Type 0} → Result ℕ E → List ℕ → Dial → Dial
read_by (Ok count) into = takes (take count into) (nat_eq count 0 && nat_lt 0 (length into))
read_by (Err fault) into = fails

-- ---- a wire in memory

-- a dial that was answered, as a wire in memory keeps it
abbrev pub dial_of : WireDial → Dial
dial_of d = record { answered = true; sent = d.sent.items; taken = d.taken.items; ended = d.ended; failed = d.failed }

-- so many dials that nobody answered
abbrev pub missed_dials : ℕ → List Dial
missed_dials count = replicate count missed_dial

-- those that nobody answered, and then this one
abbrev pub dials_to : WireDial → List Dial
dials_to d = missed_dials d.missed ++ dial_of d ∷ []

-- the earlier dials, then the latest, and then so many that nobody answered
abbrev pub dials_of : List WireDial → Option WireDial → ℕ → List Dial
dials_of past None missed = flat_map dials_to past ++ missed_dials missed
dials_of past (Some latest) missed = flat_map dials_to past ++ (dials_to latest ++ missed_dials missed)

-- the log that it tells
abbrev pub log_of : List WireDial → Option WireDial → ℕ → Option (List Dial)
log_of past latest missed = Some (dials_of past latest missed)

-- the wire is up: its latest dial was answered, and is not hung up
abbrev pub is_up : Bool → Option WireDial → ℕ → Bool
is_up dialled None missed = false
is_up dialled (Some latest) missed = dialled && nat_eq missed 0

-- The reply to the next dial is the last of those to come, and empty where there is none.
abbrev pub NextReply : List (Vec ℕ Global) → List ℕ → List (Vec ℕ Global) → Type 0
NextReply before reply after =
    ((next : Vec ℕ Global) × (before ≡ after ++ next ∷ []) × (reply ≡ next.items)) ⊎ ((before ≡ []) × (after ≡ []) × (reply ≡ []))
