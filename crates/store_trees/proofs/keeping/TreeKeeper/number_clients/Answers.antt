use Rattle.std.proofs.Common.{inl, inr}
use Rattle.sqlite_trees.specs.Tree.{no_trees}
use Rattle.store_trees.specs.Tables.{entered_by}
use Rattle.store_trees.proofs.Sequences.{was_clean, agree_both, agree_through}
use Rattle.store_trees.proofs.Numberings.{agree_entered}
use Rattle.store_trees.proofs.Showing.{comes_to}
use Rattle.store_trees.proofs.keeping.TreeKeeper.number_clients.Goals as goal

pub returns-clause-finds : goal.returns-clause-finds
returns-clause-finds g c before found holds finds = elim (c.enter.ensures.crash finds.2 finds.3) [
  | inl made ↦ inr (comes_to found before finds.1 (agree_both finds.2 (entered_by no_trees found) (entered_by no_trees before) finds.4 (agree_through finds.2 _ (entered_by no_trees before) (agree_entered _ finds.2 c.args.sums.now made.1.0 made.1.1) (holds made.0))))
  | inr earlier ↦ inl (was_clean (g.S.Store.view c.args.self.now.store) (g.S.Store.view c.enter.new.store) c.enter.ensures.clean finds.0, finds.1, finds.2, earlier, finds.4)
]
