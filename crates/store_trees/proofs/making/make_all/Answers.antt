use Rattle.std.proofs.Common.{arith}
use Rattle.std.proofs.lemmas.Result.{on_ok_weaker, err_from_is_err_and}
use Rattle.sqlite_disk.specs.Disk.{MoreFaults}
use Rattle.sqlite_trees.specs.View.{IsClean, HasCause}
use Rattle.store_trees.specs.Opening.{HasFailed, FailsFor}
use Rattle.store_trees.proofs.Sequences.{was_clean}
use Rattle.store_trees.proofs.Tablings.{set_sound}
use Rattle.store_trees.proofs.Refusals.{caused, fails_since, if_clean}
use Rattle.store_trees.proofs.making.make_all.Goals as goal

pub returns-clause-sound : goal.returns-clause-sound
returns-clause-sound g c = on_ok_weaker c.set_version.result (λ ok clean. set_sound _ _ _ _ (ok clean)) c.set_version.ensures.ok

pub returns-in_err-make_table-clause-cause : goal.returns-in_err-make_table-clause-cause
returns-in_err-make_table-clause-cause g c =
    let p = err_from_is_err_and c.from_residual.result c.from_residual.ensures.1 in
    rw (p.1, p.2) c.in_err-make_table.ensures.cause

pub returns-in_err-make_table-2-clause-cause : goal.returns-in_err-make_table-2-clause-cause
returns-in_err-make_table-2-clause-cause g c =
    let p = err_from_is_err_and c.from_residual-in_err-make_table-2.result c.from_residual-in_err-make_table-2.ensures.1 in
    rw (p.1, p.2) (λ clean.
    let view = g.S.Store.view in
    let faults = g.S.Store.faults in
    let start = c.args.store.now in
    let one = c.make_table.new.store in
    let new = c.make_table-2.new.store in
    let is_one = was_clean (view one) (view new) c.in_err-make_table-2.ensures.quiet.clean clean in
    let was = was_clean (view start) (view one) c.in_ok-make_table.ensures.quiet.clean is_one in
    fails_since view faults start one new _ (c.requires.blank was).sound (c.in_ok-make_table.ensures.making is_one).sound c.in_ok-make_table.ensures.quiet.counts (c.in_err-make_table-2.ensures.cause clean))

pub returns-in_err-make_table-3-clause-cause : goal.returns-in_err-make_table-3-clause-cause
returns-in_err-make_table-3-clause-cause g c =
    let p = err_from_is_err_and c.from_residual-in_err-make_table-3.result c.from_residual-in_err-make_table-3.ensures.1 in
    rw (p.1, p.2) (λ clean.
    let view = g.S.Store.view in
    let faults = g.S.Store.faults in
    let start = c.args.store.now in
    let one = c.make_table.new.store in
    let two = c.make_table-2.new.store in
    let new = c.make_table-3.new.store in
    let is_two = was_clean (view two) (view new) c.in_err-make_table-3.ensures.quiet.clean clean in
    let is_one = was_clean (view one) (view two) c.in_ok-make_table-2.ensures.quiet.clean is_two in
    let was = was_clean (view start) (view one) c.in_ok-make_table.ensures.quiet.clean is_one in
    fails_since view faults start two new _ (c.requires.blank was).sound (c.in_ok-make_table-2.ensures.making is_two).sound (omega (arith, c.in_ok-make_table.ensures.quiet.counts, c.in_ok-make_table-2.ensures.quiet.counts)) (c.in_err-make_table-3.ensures.cause clean))

pub returns-in_err-make_table-4-clause-cause : goal.returns-in_err-make_table-4-clause-cause
returns-in_err-make_table-4-clause-cause g c =
    let p = err_from_is_err_and c.from_residual-in_err-make_table-4.result c.from_residual-in_err-make_table-4.ensures.1 in
    rw (p.1, p.2) (λ clean.
    let view = g.S.Store.view in
    let faults = g.S.Store.faults in
    let start = c.args.store.now in
    let one = c.make_table.new.store in
    let two = c.make_table-2.new.store in
    let three = c.make_table-3.new.store in
    let new = c.make_table-4.new.store in
    let is_three = was_clean (view three) (view new) c.in_err-make_table-4.ensures.quiet.clean clean in
    let is_two = was_clean (view two) (view three) c.in_ok-make_table-3.ensures.quiet.clean is_three in
    let is_one = was_clean (view one) (view two) c.in_ok-make_table-2.ensures.quiet.clean is_two in
    let was = was_clean (view start) (view one) c.in_ok-make_table.ensures.quiet.clean is_one in
    fails_since view faults start three new _ (c.requires.blank was).sound (c.in_ok-make_table-3.ensures.making is_three).sound (omega (arith, c.in_ok-make_table.ensures.quiet.counts, c.in_ok-make_table-2.ensures.quiet.counts, c.in_ok-make_table-3.ensures.quiet.counts)) (c.in_err-make_table-4.ensures.cause clean))

pub returns-in_err-say_meta-clause-cause : goal.returns-in_err-say_meta-clause-cause
returns-in_err-say_meta-clause-cause g c =
    let p = err_from_is_err_and c.from_residual-in_err-say_meta.result c.from_residual-in_err-say_meta.ensures.1 in
    rw (p.1, p.2) (λ clean.
    let view = g.S.Store.view in
    let faults = g.S.Store.faults in
    let start = c.args.store.now in
    let one = c.make_table.new.store in
    let two = c.make_table-2.new.store in
    let three = c.make_table-3.new.store in
    let four = c.make_table-4.new.store in
    let new = c.say_meta.new.store in
    let is_four = was_clean (view four) (view new) c.in_err-say_meta.ensures.quiet.clean clean in
    let is_three = was_clean (view three) (view four) c.in_ok-make_table-4.ensures.quiet.clean is_four in
    let is_two = was_clean (view two) (view three) c.in_ok-make_table-3.ensures.quiet.clean is_three in
    let is_one = was_clean (view one) (view two) c.in_ok-make_table-2.ensures.quiet.clean is_two in
    let was = was_clean (view start) (view one) c.in_ok-make_table.ensures.quiet.clean is_one in
    fails_since view faults start four new _ (c.requires.blank was).sound (c.in_ok-make_table-4.ensures.making is_four).sound (omega (arith, c.in_ok-make_table.ensures.quiet.counts, c.in_ok-make_table-2.ensures.quiet.counts, c.in_ok-make_table-3.ensures.quiet.counts, c.in_ok-make_table-4.ensures.quiet.counts)) (c.in_err-say_meta.ensures.cause clean))

pub returns-clause-cause : goal.returns-clause-cause
returns-clause-cause g c =
    let view = g.S.Store.view in
    let faults = g.S.Store.faults in
    let start = c.args.store.now in
    let one = c.make_table.new.store in
    let two = c.make_table-2.new.store in
    let three = c.make_table-3.new.store in
    let four = c.make_table-4.new.store in
    let five = c.say_meta.new.store in
    let new = c.set_version.new.self in
    if_clean c.set_version.result (IsClean (view new)) (HasCause (view five) (MoreFaults (faults five) (faults new)) ⊥) (FailsFor (HasFailed view faults start new))
    (λ e clean h.
    let is_five = was_clean (view five) (view new) c.set_version.ensures.quiet.clean clean in
    let is_four = was_clean (view four) (view five) c.in_ok-say_meta.ensures.quiet.clean is_five in
    let is_three = was_clean (view three) (view four) c.in_ok-make_table-4.ensures.quiet.clean is_four in
    let is_two = was_clean (view two) (view three) c.in_ok-make_table-3.ensures.quiet.clean is_three in
    let is_one = was_clean (view one) (view two) c.in_ok-make_table-2.ensures.quiet.clean is_two in
    let was = was_clean (view start) (view one) c.in_ok-make_table.ensures.quiet.clean is_one in
    fails_since view faults start five new e (c.requires.blank was).sound (c.in_ok-say_meta.ensures.sound is_five) (omega (arith, c.in_ok-make_table.ensures.quiet.counts, c.in_ok-make_table-2.ensures.quiet.counts, c.in_ok-make_table-3.ensures.quiet.counts, c.in_ok-make_table-4.ensures.quiet.counts, c.in_ok-say_meta.ensures.quiet.counts)) (caused (view five) (faults five) (faults new) e h)) c.set_version.ensures.cause
