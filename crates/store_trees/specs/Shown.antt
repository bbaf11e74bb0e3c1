-- The rows of accounts and open grants as the two tables show them.
use Rattle.std.specs.Prelude.{ℕ, pos, ◌≡◌, ◌⊎◌, List, [], ◌∷◌, map, filter}
use Rattle.sqlite_value.specs.Order.{Row}
use Rattle.sqlite_trees.specs.Tree.{Trees, has_rowid}
use Rattle.account_store.specs.declared.step.AccountRow.{AccountRow}
use Rattle.account_store.specs.Steps.{Rows, no_row}
use Rattle.store_trees.specs.Tables.{account_tree, grant_tree, account_entry, grant_entry}

-- Under a client's number stands its account's row, or nothing where it has no account yet.
abbrev pub IsAccountIn : List Row → ℕ → AccountRow → Type 0
IsAccountIn entries client row =
    (filter (has_rowid (pos client)) entries ≡ account_entry client row ∷ []) ⊎ ((filter (has_rowid (pos client)) entries ≡ []) × (row ≡ no_row))

pub record AreShown (rows : Rows) (trees : Trees) : Type 0 where
  pub accounts : (client : ℕ) → IsAccountIn (trees account_tree) client (rows.accounts client)
  pub grants : trees grant_tree ≡ map grant_entry rows.grants
