use Rattle.std.proofs.lemmas.Result.{err_from_is_err_and}
use Rattle.store_trees.proofs.Sequences.{was_clean}
use Rattle.store_trees.proofs.Tablings.{making_on}
use Rattle.store_trees.proofs.MadeRows.{is_listed_well}
use Rattle.store_trees.proofs.Refusals.{caused_not}
use Rattle.store_trees.proofs.making.make_table.Goals as goal

pub returns-clause-making : goal.returns-clause-making
returns-clause-making g c clean =
    let old = g.S.Store.view c.args.store.now in
    let new = g.S.Store.view c.create.new.self in
    making_on old new c.args.tree c.object_for.result c.requires.below (c.requires.making (was_clean old new c.create.ensures.quiet.clean clean)) c.object_for.ensures.row c.object_for.ensures.shape c.object_for.ensures.reals
    (c.in_ok-create.ensures.ok clean)

pub returns-in_err-create-clause-cause : goal.returns-in_err-create-clause-cause
returns-in_err-create-clause-cause g c =
    let p = err_from_is_err_and c.from_residual.result c.from_residual.ensures.1 in
    rw (p.1, p.2) (λ clean.
    let old = g.S.Store.view c.args.store.now in
    let was = was_clean old (g.S.Store.view c.create.new.self) c.in_err-create.ensures.quiet.clean clean in
    caused_not old _ _ _ _ (is_listed_well old c.args.tree c.object_for.result c.requires.below (c.requires.making was) c.object_for.ensures.row) (c.in_err-create.ensures.cause clean))
