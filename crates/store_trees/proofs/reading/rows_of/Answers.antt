use Rattle.std.proofs.Common.{sym, subst}
use Rattle.std.specs.Prelude.{⊤}
use Rattle.store_trees.specs.Opening.{FailsOn, HasFailed}
use Rattle.store_trees.proofs.Refusals.{told}
use Rattle.store_trees.proofs.reading.rows_of.Goals as goal

pub returns-in-Err-clause-refused : goal.returns-in-Err-clause-refused
returns-in-Err-clause-refused g c clean =
    let failed = HasFailed g.S.Store.view g.S.Store.faults c.args.store.now c.read_all.new.store in
    subst (FailsOn ⊤ failed) (sym c.read_fault.ensures) (told failed c.in-Err.error (c.in-Err.ensures.cause clean))
