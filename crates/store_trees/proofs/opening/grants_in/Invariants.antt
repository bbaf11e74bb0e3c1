use Rattle.std.proofs.Common.{◌≡◌, ◌++◌, drop, map}
use Rattle.store_trees.specs.Tables.{grant_row}
use Rattle.store_trees.proofs.opening.grants_in.Given as goal

abbrev pub invariant-rows : goal.invariant-rows
invariant-rows l = l.rows ≡ map grant_row l.found.items ++ drop l.row-index l.rows
