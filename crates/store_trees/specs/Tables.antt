-- The tables of accounts and of open grants as trees of a database: their rows, and what steps make of them.
use Rattle.std.specs.Prelude.{ℕ, pos, List, [], ◌∷◌, ◌++◌, map, ◌≡◌}
use Rattle.sqlite_value.specs.declared.value.Value.TheVariants.{Null, Int}
use Rattle.sqlite_value.specs.Order.{Row}
use Rattle.sqlite_trees.specs.Tree.{Trees, put_row, without_rowid, with_tree}
use Rattle.account_store.specs.declared.step.AccountRow.{AccountRow}
use Rattle.account_store.specs.declared.step.GrantRow.{GrantRow}
use Rattle.account_core.specs.Machine.{Grant}
use Rattle.account_store.specs.Steps.{grant_of}
use Rattle.account_store.specs.declared.step.Step.{Step}
use Rattle.account_store.specs.declared.step.Step.TheVariants.{Accounted, Opened, Closed}

-- the trees by their numbers, in the order in which the tables were made
abbrev pub meta_tree : ℕ
meta_tree = 0

abbrev pub client_tree : ℕ
client_tree = 1

abbrev pub account_tree : ℕ
account_tree = 2

abbrev pub grant_tree : ℕ
grant_tree = 3

-- A row begins with its rowid, and the column that is the INTEGER PRIMARY KEY is stored as NULL.
abbrev pub meta_entry : ℕ → ℕ → Row
meta_entry number value = Int (pos number) ∷ Null ∷ Int (pos value) ∷ []

abbrev pub account_entry : ℕ → AccountRow → Row
account_entry number a =
    Int (pos number) ∷ Null ∷ Int (pos a.window) ∷ Int (pos a.settled.types) ∷ Int (pos a.settled.fields) ∷ Int (pos a.carried.types) ∷ Int (pos a.carried.fields) ∷ []

abbrev pub grant_entry : Grant → Row
grant_entry g = Int (pos g.number) ∷ Null ∷ Int (pos g.caller) ∷ Int (pos g.window) ∷ Int (pos g.bound.types) ∷ Int (pos g.bound.fields) ∷ []

-- what a step makes of the trees
abbrev pub entered : Trees → Step → Trees
entered trees (Accounted number a) = with_tree trees account_tree (put_row (account_entry number a) (trees account_tree))
entered trees (Opened g) = with_tree trees grant_tree (put_row (grant_entry (grant_of g)) (trees grant_tree))
entered trees (Closed number of) = with_tree trees grant_tree (without_rowid (pos of) (trees grant_tree))

-- what steps make of them, one after the other
abbrev pub entered_by : Trees → List Step → Trees
entered_by trees [] = trees
entered_by trees (s ∷ ss) = entered_by (entered trees s) ss

-- the same accounts and open grants; of other tables nothing is said
pub record AgreeOnRows (trees others : Trees) : Type 0 where
  pub accounts : trees account_tree ≡ others account_tree
  pub grants : trees grant_tree ≡ others grant_tree

-- an account as the database has it: its client's number and its row
abbrev pub account_row : ℕ × AccountRow → Row
account_row found = account_entry found.0 found.1

abbrev pub grant_row : GrantRow → Row
grant_row found = grant_entry (grant_of found)

-- the steps that leave what was found: each account, and then each open grant
abbrev pub steps_found : List (ℕ × AccountRow) → List GrantRow → List Step
steps_found accounts grants = map (λ a. Accounted a.0 a.1) accounts ++ map (λ g. Opened g) grants

-- what a database of accounts says of itself: its format, and how many seconds a window is long
abbrev pub meta_rows : ℕ → ℕ → List Row
meta_rows format seconds = meta_entry 1 format ∷ meta_entry 2 seconds ∷ []
