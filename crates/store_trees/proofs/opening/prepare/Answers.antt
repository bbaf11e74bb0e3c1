use Rattle.std.proofs.Common.{Ok, refl, ap}
use Rattle.std.proofs.lemmas.Result.{err_from_is_err_and}
use Rattle.sqlite_disk.specs.Disk.{MoreFaults}
use Rattle.store_trees.specs.Opening.{HasFailed, HasShut}
use Rattle.store_trees.proofs.Sequences.{was_clean}
use Rattle.store_trees.proofs.Refusals.{shut_on, shut_or_failed, others_refused, shapeless_refused, making_refused, ours_prepared, made_prepared}
use Rattle.store_trees.proofs.opening.prepare.Goals as goal

pub returns-then-not-come_to_rest-clause-refused : goal.returns-then-not-come_to_rest-clause-refused
returns-then-not-come_to_rest-clause-refused g c clean =
    let old = c.args.store.now in
    let failed = MoreFaults (g.S.Store.faults old) (g.S.Store.faults c.come_to_rest.new.store) in
    shut_or_failed (g.S.Store.view old) failed (λ up. c.if-not-come_to_rest.ensures.closed refl clean up)

pub returns-in_err-read_listing-clause-refused : goal.returns-in_err-read_listing-clause-refused
returns-in_err-read_listing-clause-refused g c =
    let p = err_from_is_err_and c.from_residual.result c.from_residual.ensures.1 in
    rw (p.1, p.2) (λ clean. tt)

pub returns-in_err-make_free-in-Nothing-clause-refused : goal.returns-in_err-make_free-in-Nothing-clause-refused
returns-in_err-make_free-in-Nothing-clause-refused g c =
    let p = err_from_is_err_and c.from_residual-in_err-make_free-in-Nothing.result c.from_residual-in_err-make_free-in-Nothing.ensures.1 in
    rw (p.1, p.2) (λ clean.
    let old = c.args.store.now in
    let mid = c.come_to_rest.new.store in
    let new = c.make_free.new.store in
    let was = was_clean (g.S.Store.view mid) (g.S.Store.view new) c.make_free.ensures.clean clean in
    let rest = c.if-not-come_to_rest.ensures.rests refl was in
    let none = c.in_ok-read_listing.ensures.nothing was (ap Ok c.in-Nothing.is) in
    let view = g.S.Store.view in
    let faults = g.S.Store.faults in
    making_refused (view old) (view mid) c.args.seconds (HasFailed view faults mid new) (HasShut view faults old new) rest none (shut_on view faults old mid new rest.sound c.if-not-come_to_rest.ensures.quiet.counts)
    c.in_err-make_free-in-Nothing.field-0.0 (c.in_err-make_free-in-Nothing.ensures.refused clean))

pub returns-in_ok-make_free-in-Nothing-clause-prepared : goal.returns-in_ok-make_free-in-Nothing-clause-prepared
returns-in_ok-make_free-in-Nothing-clause-prepared g c clean =
    let mid = g.S.Store.view c.come_to_rest.new.store in
    let new = g.S.Store.view c.make_free.new.store in
    let was = was_clean mid new c.make_free.ensures.clean clean in
    made_prepared (g.S.Store.view c.args.store.now) mid new c.args.seconds (c.if-not-come_to_rest.ensures.rests refl was)
    (c.in_ok-read_listing.ensures.nothing was (ap Ok c.in-Nothing.is)) (c.in_ok-make_free-in-Nothing.ensures.made clean)

pub returns-in_err-has_shapes-in-Ours-clause-refused : goal.returns-in_err-has_shapes-in-Ours-clause-refused
returns-in_err-has_shapes-in-Ours-clause-refused g c =
    let p = err_from_is_err_and c.from_residual-in_err-has_shapes-in-Ours.result c.from_residual-in_err-has_shapes-in-Ours.ensures.1 in
    let told = c.in_err-has_shapes-in-Ours.ensures.foreign in
    rw (p.1, p.2, told.0) (λ clean.
    let old = c.args.store.now in
    let mid = c.come_to_rest.new.store in
    shapeless_refused (g.S.Store.view old) (g.S.Store.view mid) c.args.seconds (HasShut g.S.Store.view g.S.Store.faults old mid) (c.if-not-come_to_rest.ensures.rests refl clean)
    (c.in_ok-read_listing.ensures.ours clean (ap Ok c.in-Ours.is)) told.1)

pub returns-in_ok-has_shapes-in-Ours-clause-prepared : goal.returns-in_ok-has_shapes-in-Ours-clause-prepared
returns-in_ok-has_shapes-in-Ours-clause-prepared g c clean =
    ours_prepared (g.S.Store.view c.args.store.now) (g.S.Store.view c.come_to_rest.new.store) c.args.seconds (c.if-not-come_to_rest.ensures.rests refl clean)
    (c.in_ok-read_listing.ensures.ours clean (ap Ok c.in-Ours.is)) c.in_ok-has_shapes-in-Ours.ensures.has

pub returns-in-Others-clause-refused : goal.returns-in-Others-clause-refused
returns-in-Others-clause-refused g c clean =
    let old = c.args.store.now in
    let mid = c.come_to_rest.new.store in
    let others = c.in_ok-read_listing.ensures.others clean (ap Ok c.in-Others.is) in
    others_refused (g.S.Store.view old) (g.S.Store.view mid) c.args.seconds (HasShut g.S.Store.view g.S.Store.faults old mid) (c.if-not-come_to_rest.ensures.rests refl clean) others.0 others.1
