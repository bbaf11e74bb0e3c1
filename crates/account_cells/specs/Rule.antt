-- The rule of one client's account, which every step on its cell keeps.
use Rattle.std.specs.Prelude.{◌≡◌, ◌⊎◌, ℕ, ◌+◌, ◌≤◌, ◌<◌, true, List, [], ◌∷◌, length, slice_index}
use mathlib.Core.Option.{some}
use lib.ListN.{get_elem?}
use Rattle.account_core.specs.declared.Account.{Account}
use Rattle.account_core.specs.declared.Limit.{Limit}
use Rattle.account_core.specs.Costs.{cost}
use Rattle.account_core.specs.Machine.{Entry, account_of}
use Rattle.account_core.specs.History.{state_after, entries_by, StartsWith, IsLegal}
use Rattle.account_core.specs.Sums.{open_grants}
use Rattle.account_cells.specs.Views.{View, EndedCaller, times_in, ended_names}

-- the seven words of a cell are the numbers of an account
abbrev pub words_of : Account → List ℕ
words_of a =
    a.window ∷ a.settled.types ∷ a.settled.fields ∷ a.held.types ∷ a.held.fields ∷ a.carried.types ∷ a.carried.fields ∷ []

abbrev pub account_from : List ℕ → Account
account_from words =
    record {
      window = slice_index words 0;
      settled = cost (slice_index words 1) (slice_index words 2);
      held = cost (slice_index words 3) (slice_index words 4);
      carried = cost (slice_index words 5) (slice_index words 6);
    }

-- the view of the pass with this place
abbrev pub IsAt : List View → ℕ → View → Type 0
IsAt views place v = get_elem? views place ≡ some v

-- a live view: it holds the limit, has seen a beginning of the history, and its own entries are those of its name, which it
-- has all seen
pub record FitsHistory (limit : Limit) (history : List Entry) (v : View) : Type 0 where
  pub same_limit : v.limit ≡ limit
  pub begins : StartsWith history v.seen
  pub all_own : entries_by v.name history ≡ v.own
  pub own_seen : entries_by v.name v.seen ≡ v.own
  pub shown_begins : StartsWith history v.shown
  pub shown_shorter : length v.shown ≤ length v.seen

-- the entries of each ended caller are just those that are kept for it, in the history and in what was seen of it
abbrev pub KeepsEnded : List Entry → List Entry → List EndedCaller → Type 0
KeepsEnded history seen [] = Unit {0}
KeepsEnded history seen (x ∷ xs) =
    (entries_by x.name history ≡ x.entries) × (entries_by x.name seen ≡ x.entries) × KeepsEnded history seen xs

-- how often a name stands in the first view's `out` and `ended` together
abbrev pub times_split_off : ℕ → View → ℕ
times_split_off name f = times_in name f.out + times_in name (ended_names f.ended)

-- the first view: each number from 1 to its count of splits was split off once and is out or ended, and no other is
pub record IsFounder (history : List Entry) (views : List View) (f : View) : Type 0 where
  pub once : (name : ℕ) → 1 ≤ name → name ≤ f.splits → times_split_off name f ≡ 1
  pub none_past : (name : ℕ) → f.splits < name → times_split_off name f ≡ 0
  pub none_zero : times_split_off 0 f ≡ 0
  -- the live names are 0 and those that are out
  pub live_is_out : (i : ℕ) (v : View) → IsAt views i v → v.live ≡ true → (v.name ≡ 0) ⊎ (1 ≤ times_in v.name f.out)
  pub out_is_live : (name : ℕ) → 1 ≤ times_in name f.out → (i : ℕ) × (v : View) × IsAt views i v × (v.live ≡ true) × (v.name ≡ name)
  -- each caller in the history is 0 or was split off
  pub callers : (name : ℕ) → f.splits < name → entries_by name history ≡ []
  pub ended : KeepsEnded history f.seen f.ended

-- no live view has this name
abbrev pub IsFree : List View → ℕ → Type 0
IsFree views name = (i : ℕ) (v : View) → IsAt views i v → v.live ≡ true → v.name ≡ name → ⊥

abbrev pub HasUnset : List View → Type 0
HasUnset views = (i : ℕ) × (v : View) × IsAt views i v × (v.unset ≡ true)

abbrev pub HasFirst : List View → Type 0
HasFirst views = (i : ℕ) × (v : View) × IsAt views i v × (v.live ≡ true) × (v.name ≡ 0)

abbrev pub HasWhole : List Entry → List View → Type 0
HasWhole history views = (i : ℕ) × (v : View) × IsAt views i v × (v.live ≡ true) × (v.seen ≡ history)

-- where a view is unset, nothing has happened yet, no view is live and no other is unset
abbrev pub IsBlank : List Entry → List View → ℕ → Type 0
IsBlank history views i =
    (history ≡ []) × ((j : ℕ) (u : View) → IsAt views j u → u.live ≡ true → ⊥)
    × ((j : ℕ) (u : View) → IsAt views j u → u.unset ≡ true → j ≡ i)

-- The rule. There is one legal history, and the words are the numbers of the state that it leads to.
pub record KeepsRule (words : List ℕ) (views : List View) : Type 0 where
  pub limit : Limit
  pub history : List Entry
  pub legal : IsLegal limit history
  pub same_words : words ≡ words_of (account_of (state_after limit history))
  pub each : (i : ℕ) (v : View) → IsAt views i v → v.live ≡ true → FitsHistory limit history v
  pub first : (i : ℕ) (v : View) → IsAt views i v → v.live ≡ true → v.name ≡ 0 → IsFounder history views v
  -- once the limit is set, the first view is live, and some live view has seen the whole history
  pub has_first : HasUnset views ⊎ HasFirst views
  pub has_whole : HasUnset views ⊎ HasWhole history views
  -- no two live views have one name
  pub apart : (i j : ℕ) (v w : View) → IsAt views i v → IsAt views j w → v.live ≡ true → w.live ≡ true → v.name ≡ w.name → i ≡ j
  -- every open grant belongs to a live view
  pub owned : (name : ℕ) → IsFree views name → open_grants (entries_by name history) ≡ []
  pub blank : (i : ℕ) (v : View) → IsAt views i v → v.unset ≡ true → IsBlank history views i
