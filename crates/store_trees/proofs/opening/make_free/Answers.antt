use Rattle.std.proofs.Common.{refl, sym, subst, inl, inr}
use Rattle.std.specs.Prelude.{⊤}
use Rattle.store_trees.specs.Opening.{FailsOn, HasFailed}
use Rattle.store_trees.proofs.Refusals.{told}
use Rattle.store_trees.proofs.opening.make_free.Goals as goal

pub returns-then-not-is_free-clause-refused : goal.returns-then-not-is_free-clause-refused
returns-then-not-is_free-clause-refused g c clean = inl (refl, λ free. (let e = c.if-not-is_free.ensures.all free in cc))

pub returns-in-Err-clause-refused : goal.returns-in-Err-clause-refused
returns-in-Err-clause-refused g c clean =
    let failed = HasFailed g.S.Store.view g.S.Store.faults c.args.store.now c.make_tables.new.store in
    inr (subst (FailsOn ⊤ failed) (sym c.read_fault.ensures) (told failed c.in-Err.error (c.in-Err.ensures.cause clean)))
