use Rattle.std.proofs.Common.{take}
use Rattle.sqlite_trees.specs.View.{IsClean, IsQuiet, KeepsSchema}
use Rattle.store_trees.specs.Keeping.{AreTables, Makes, Stands}
use Rattle.store_trees.proofs.batches.make_all.Given as goal

abbrev pub invariant-steps : goal.invariant-steps
invariant-steps g l =
    AreTables (g.S.Store.view l.store) × (IsClean (g.S.Store.view l.store) → Makes (g.S.Store.view l.initial.store) (g.S.Store.view l.store) (take l.step-index l.steps))
    × IsQuiet g.S.Store.view g.S.Store.faults g.S.Store.recovers g.S.Store.is_shielded l.initial.store l.store
    × Stands (g.S.Store.view l.initial.store) (g.S.Store.view l.store) × KeepsSchema (g.S.Store.view l.initial.store) (g.S.Store.view l.store)
