use Rattle.std.proofs.Common.{IsSome}
use Rattle.sqlite_trees.specs.View.{IsClean, IsQuiet, KeepsSchema}
use Rattle.store_trees.proofs.Scans.{IsScanning}
use Rattle.store_trees.proofs.reading.read_all.Given as goal

abbrev pub invariant-rows : goal.invariant-rows
invariant-rows g l =
    (IsClean (g.S.Store.view l.store) → IsScanning (g.S.Store.view l.fn.store) (g.S.Store.view l.store) l.tree l.rows.items)
    × IsSome ((g.S.Store.view l.store).cursors 0)
    × IsQuiet g.S.Store.view g.S.Store.faults g.S.Store.recovers g.S.Store.is_shielded l.fn.store l.store
    × KeepsSchema (g.S.Store.view l.fn.store) (g.S.Store.view l.store)
