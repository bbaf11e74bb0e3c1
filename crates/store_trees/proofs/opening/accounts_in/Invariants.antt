use Rattle.std.proofs.Common.{◌≡◌, ◌++◌, drop, map}
use Rattle.store_trees.specs.Tables.{account_row}
use Rattle.store_trees.proofs.opening.accounts_in.Given as goal

abbrev pub invariant-rows : goal.invariant-rows
invariant-rows l = l.rows ≡ map account_row l.found.items ++ drop l.row-index l.rows
