-- What the holder of a pass knows of one client's account.
use Rattle.std.specs.Prelude.{ℕ, ◌+◌, nat_le, ◌==◌, if◌then◌else◌, Bool, true, false, List, [], ◌∷◌, length}
use Rattle.account_core.specs.declared.Limit.{Limit}
use Rattle.account_core.specs.Costs.{nothing}
use Rattle.account_core.specs.Machine.{Entry}

-- a caller whose pass was joined, with all its entries
pub record EndedCaller : Type 0 where
  pub name : ℕ
  pub entries : List Entry

-- One history is made on an account. A view has seen a beginning of it, and has as its own the entries that its name made
-- there. The rule of the account speaks of live views alone. Until the limit is set, the only view is unset and not live.
pub record View : Type 0 where
  pub live : Bool
  pub unset : Bool
  pub name : ℕ
  pub limit : Limit
  pub seen : List Entry
  pub own : List Entry
  -- at a join, the shorter of the two histories that were seen
  pub shown : List Entry
  -- kept by the first view alone: how often it was split, the names split off and not joined, and the callers that were joined
  pub splits : ℕ
  pub out : List ℕ
  pub ended : List EndedCaller

abbrev pub no_limit : Limit
no_limit = record { allowance = nothing; carry = false }

abbrev pub no_view : View
no_view = record {
  live = false;
  unset = false;
  name = 0;
  limit = no_limit;
  seen = [];
  own = [];
  shown = [];
  splits = 0;
  out = [];
  ended = [];
}

abbrev pub unset_view : View
unset_view = record no_view { unset = true }

-- the view of the first caller once the limit is set: it has seen nothing
abbrev pub first_view : Limit → View
first_view limit = record no_view { live = true; limit = limit }

-- how often a name stands in a list
abbrev pub times_in : ℕ → List ℕ → ℕ
times_in name [] = 0
times_in name (x ∷ xs) = (if x == name then 1 else 0) + times_in name xs

-- a list without the first place of a name
abbrev pub without_name : ℕ → List ℕ → List ℕ
without_name name [] = []
without_name name (x ∷ xs) = if x == name then xs else x ∷ without_name name xs

abbrev pub ended_names : List EndedCaller → List ℕ
ended_names [] = []
ended_names (x ∷ xs) = x.name ∷ ended_names xs

-- a split: the new view has the next name, has seen as much and has made no calls
abbrev pub after_split : View → View
after_split v = record v { splits = v.splits + 1; out = (v.splits + 1) ∷ v.out }

abbrev pub split_off : View → View
split_off v = record (first_view v.limit) { name = v.splits + 1; seen = v.seen }

-- of two histories the longer one, and the other
abbrev pub longer_of : List Entry → List Entry → List Entry
longer_of xs ys = if nat_le (length ys) (length xs) then xs else ys

abbrev pub shorter_of : List Entry → List Entry → List Entry
shorter_of xs ys = if nat_le (length ys) (length xs) then ys else xs

-- a join: the other's name leaves `out`, its entries are kept, and the longer history is seen
abbrev pub at_join : View → View → View
at_join v other = record v {
  seen = longer_of v.seen other.seen;
  shown = shorter_of v.seen other.seen;
  out = without_name other.name v.out;
  ended = record { name = other.name; entries = other.own } ∷ v.ended;
}

abbrev pub after_join : View → View → View
after_join v other = record (at_join v other) { shown = [] }

-- the view once it has seen so much, with these entries of its own
abbrev pub having_seen : View → List Entry → List Entry → View
having_seen v seen own = record v { seen = seen; own = own; shown = [] }
