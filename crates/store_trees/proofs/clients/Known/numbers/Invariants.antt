use Rattle.std.proofs.Common.{◌≡◌, ◌≤◌, ◌+◌, ℕ, List, take}
use Rattle.std.specs.BTreeMap as tree
use Rattle.std.specs.Cmp.Lexicographic.{slice_cmp}
use Rattle.std.specs.Ordering.{nat_cmp}
use Rattle.store_trees.specs.Clients.{number_of, AreKnown, HaveNumbers, Grows}
use Rattle.store_trees.proofs.clients.Known.numbers.Given as goal

abbrev pub invariant-sums : goal.invariant-sums
invariant-sums l =
    AreKnown l.self.clients.items l.self.next × ((sum : List ℕ) → tree.get (slice_cmp nat_cmp) l.self.index sum ≡ number_of l.self.clients.items sum)
    × HaveNumbers l.self.clients.items (take l.sum-index l.sums) l.numbers.items × Grows l.initial.self.clients.items l.initial.self.next l.sums l.self.clients.items l.self.next
    × (l.self.next ≤ l.initial.self.next + l.sum-index)
