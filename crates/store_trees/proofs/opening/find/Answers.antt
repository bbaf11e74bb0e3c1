use Rattle.std.proofs.Common.{sym, ap, ◌∙◌}
use Rattle.std.proofs.lemmas.Result.{err_from_is_err_and}
use Rattle.sqlite_trees.specs.View.{View}
use Rattle.store_trees.specs.Opening.{HasFailed, HasShut}
use Rattle.store_trees.proofs.Sequences.{was_clean}
use Rattle.store_trees.proofs.Resting.{open_if_sound}
use Rattle.store_trees.proofs.Rebuilding.{has_found}
use Rattle.store_trees.proofs.Refusals.{found_or_made, refused_at_rest, shut_on}
use Rattle.store_trees.proofs.opening.find.Goals as goal

pub returns-clause-found : goal.returns-clause-found
returns-clause-found g c clean =
    let rested = c.prepare.new.store in
    let store = c.read_tables.new.store in
    let mid = g.S.Store.view rested in
    let v = g.S.Store.view store in
    let found = c.in_ok-found.found in
    let same = c.in_ok-found.ensures.same clean in
    let was = was_clean mid v c.read_tables.ensures.quiet.clean clean in
    let sound = c.in_ok-prepare.ensures.sound was in
    let live = open_if_sound mid (g.met.S.Store.broken_if_shut rested) sound in
    has_found v (g.S.Store.recovers store) found.accounts.items found.grants.items (record {
      ordered = g.met.S.Store.ordered store (ap (λ (x : View). x.is_broken) same ∙ sound);
      accounts = c.in_ok-found.ensures.tables.accounts clean;
      grants = c.in_ok-found.ensures.tables.grants clean;
      rows = c.in_ok-found.ensures.found clean;
      rests = ap (λ (x : View). x.trees) same ∙ (c.in_ok-prepare.ensures.rests was live ∙ sym (ap (λ (x : View). x.committed) same));
      settled = λ db left. g.met.S.Store.settled store db (ap (λ (x : View). x.is_open) same ∙ live) left;
    })

pub returns-clause-stands : goal.returns-clause-stands
returns-clause-stands g c clean =
    let mid = g.S.Store.view c.prepare.new.store in
    let v = g.S.Store.view c.read_tables.new.store in
    found_or_made (g.S.Store.view c.args.store.now) mid v c.args.seconds (c.in_ok-prepare.ensures.prepared (was_clean mid v c.read_tables.ensures.quiet.clean clean))
    (ap (λ (x : View). x.trees) (c.in_ok-found.ensures.same clean))

pub returns-in_err-prepare-clause-refused : goal.returns-in_err-prepare-clause-refused
returns-in_err-prepare-clause-refused g c =
    let p = err_from_is_err_and c.from_residual.result c.from_residual.ensures.1 in
    rw (p.1, p.2) (λ clean. c.in_err-prepare.ensures.refused clean)

pub returns-in_err-found-clause-refused : goal.returns-in_err-found-clause-refused
returns-in_err-found-clause-refused g c =
    let p = err_from_is_err_and c.from_residual-in_err-found.result c.from_residual-in_err-found.ensures.1 in
    rw (p.1, p.2) (λ clean.
    let mid = g.S.Store.view c.prepare.new.store in
    let v = g.S.Store.view c.read_tables.new.store in
    let was = was_clean mid v c.read_tables.ensures.quiet.clean clean in
    refused_at_rest (g.S.Store.view c.args.store.now) mid c.args.seconds (HasFailed g.S.Store.view g.S.Store.faults c.prepare.new.store c.read_tables.new.store)
    (HasShut g.S.Store.view g.S.Store.faults c.args.store.now c.read_tables.new.store) (c.in_ok-prepare.ensures.prepared was)
    (shut_on g.S.Store.view g.S.Store.faults c.args.store.now c.prepare.new.store c.read_tables.new.store (c.in_ok-prepare.ensures.sound was) c.prepare.ensures.changes.counts)
    c.in_err-found.field-0.0 (c.in_err-found.ensures.refused clean))
