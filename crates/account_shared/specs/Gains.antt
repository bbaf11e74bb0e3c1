-- What a stretch of calls through passes has added to what is known of each client. It is the one word that is said of calls
-- above this crate.
use Rattle.std.specs.Prelude.{◌≡◌, ℕ, ◌+◌, ◌==◌, if◌then◌else◌, not, List, [], ◌∷◌, ◌++◌, length, map}
use Rattle.std.specs.List.{filter}
use Rattle.account_core.specs.Machine.{Call, reservation, settlement, CallReply, granted, done, Entry, entry, Grant, grant, is_grant}
use Rattle.account_core.specs.History.{entries_by, IsLegal}
use Rattle.account_core.specs.Sums.{open_grants}
use Rattle.account_cells.specs.Views.{View}
use Rattle.account_shared.specs.Views.{PassesView, limit_of, client_at}

-- a call at a client's account, with its reply
pub record ClientCall : Type 0 where
  pub client : ℕ
  pub call : Call
  pub reply : CallReply

abbrev pub client_call : ℕ → Call → CallReply → ClientCall
client_call client call reply = record { client = client; call = call; reply = reply }

-- what a list of calls, made under a name from a number on, adds to one client's history: every call counts one number
abbrev pub entries_for : ℕ → ℕ → ℕ → List ClientCall → List Entry
entries_for client name made [] = []
entries_for client name made (c ∷ cs) =
    if c.client == client then entry name made c.call c.reply ∷ entries_for client name (made + 1) cs
    else entries_for client name (made + 1) cs

-- Between what was seen and what is seen now these entries came, each after some entries of other callers, and nothing else.
abbrev pub SeenBy : ℕ → List Entry → List Entry → List Entry → Type 0
SeenBy name before now [] = now ≡ before
SeenBy name before now (e ∷ es) =
    (others : List Entry) × (entries_by name others ≡ []) × SeenBy name ((before ++ others) ++ e ∷ []) now es

-- a caller's open grants past its entries: a granted reservation opens a grant, and a settlement closes its own
abbrev pub grants_past_call : ℕ → ℕ → Call → CallReply → List Grant → List Grant
grants_past_call caller number (reservation window bound) (granted at) gs = gs ++ grant caller number at bound ∷ []
grants_past_call caller number (settlement of window bound measured) done gs = filter (λ g. not (is_grant caller of g)) gs
grants_past_call caller number _ _ gs = gs

abbrev pub grants_past : List Grant → List Entry → List Grant
grants_past gs [] = gs
grants_past gs (e ∷ es) = grants_past (grants_past_call e.caller e.number e.call e.reply gs) es

-- one client's part: these are just the entries that its own have gained
pub record GoesOn (name : ℕ) (before now : View) (entries : List Entry) : Type 0 where
  pub seen : SeenBy name before.seen now.seen entries
  pub own : now.own ≡ before.own ++ entries
  pub grants : open_grants now.own ≡ grants_past (open_grants before.own) entries
  pub legal : IsLegal before.limit before.seen → IsLegal now.limit now.seen
  pub limit : now.limit ≡ before.limit
  pub splits : now.splits ≡ before.splits
  pub ended : now.ended ≡ before.ended
  -- through the first passes, where they were never split, nobody else's entries came between
  pub alone : name ≡ 0 → before.splits ≡ 0 → now.seen ≡ before.seen ++ entries

-- From one moment of passes to another, just these calls were made through them, in this order, with these replies.
pub record Gains (before now : PassesView) (calls : List ClientCall) : Type 0 where
  pub label : now.label ≡ before.label
  pub cells : now.cells ≡ before.cells
  pub limits : map limit_of now.clients ≡ map limit_of before.clients
  pub made : now.made ≡ before.made + length calls
  pub clients : (client : ℕ) → GoesOn before.label.name (client_at before client) (client_at now client)
      (entries_for client before.label.name before.made calls)

-- Just one call was made: its client has gone on by its entry, and all else is as it was.
pub record IsOneCall (before now : PassesView) (client : ℕ) (call : Call) (reply : CallReply) : Type 0 where
  pub label : now.label ≡ before.label
  pub cells : now.cells ≡ before.cells
  pub limits : map limit_of now.clients ≡ map limit_of before.clients
  pub made : now.made ≡ before.made + 1
  pub others : (k : ℕ) → (k ≡ client → ⊥) → client_at now k ≡ client_at before k
  pub goes_on : GoesOn before.label.name (client_at before client) (client_at now client)
      (entry before.label.name before.made call reply ∷ [])

-- each grant that one of the calls opens is settled by a later one
abbrev pub LeavesNoneOpen : PassesView → List ClientCall → Type 0
LeavesNoneOpen before calls = (client : ℕ) → grants_past [] (entries_for client before.label.name before.made calls) ≡ []
