use Rattle.std.proofs.Common.{take}
use Rattle.sqlite_trees.specs.View.{IsClean, IsQuiet, KeepsSchema}
use Rattle.store_trees.specs.Keeping.{AreTables}
use Rattle.store_trees.specs.Clients.{PutsClients}
use Rattle.store_trees.proofs.clients.put_clients.Given as goal

abbrev pub invariant-clients : goal.invariant-clients
invariant-clients g l =
    AreTables (g.S.Store.view l.store) × (IsClean (g.S.Store.view l.store) → PutsClients (g.S.Store.view l.initial.store) (g.S.Store.view l.store) (take l.client-index l.clients))
    × IsQuiet g.S.Store.view g.S.Store.faults g.S.Store.recovers g.S.Store.is_shielded l.initial.store l.store × KeepsSchema (g.S.Store.view l.initial.store) (g.S.Store.view l.store)
