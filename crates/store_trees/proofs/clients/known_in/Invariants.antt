use Rattle.std.proofs.Common.{◌≡◌, ◌++◌, ℕ, List, drop, map}
use Rattle.std.specs.BTreeMap as tree
use Rattle.std.specs.Cmp.Lexicographic.{slice_cmp}
use Rattle.std.specs.Ordering.{nat_cmp}
use Rattle.store_trees.specs.Clients.{client_row, number_of, AreKnown}
use Rattle.store_trees.proofs.clients.known_in.Given as goal

abbrev pub invariant-rows : goal.invariant-rows
invariant-rows l =
    (l.rows ≡ map client_row l.known.clients.items ++ drop l.row-index l.rows) × AreKnown l.known.clients.items l.known.next
    × ((sum : List ℕ) → tree.get (slice_cmp nat_cmp) l.known.index sum ≡ number_of l.known.clients.items sum)
