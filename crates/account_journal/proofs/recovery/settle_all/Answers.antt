use Rattle.std.proofs.Common.{◌+◌, drop, sym, subst, ap, ◌∙◌, arith}
use Rattle.std.proofs.lemmas.List.{append-nil}
use Rattle.account_journal.specs.Histories.{history_in}
use Rattle.account_journal.specs.Recovery.{IsReady}
use Rattle.journal_disk.proofs.Moments.{weaker, then_on, started}
use Rattle.account_journal.proofs.Longer.{told_before}
use Rattle.account_journal.proofs.Opening.{begun, ended, first_left, some_more, list_more}
use Rattle.account_journal.proofs.recovery.settle_all.Goals as goal

pub loop-at-init : goal.loop-at-init
loop-at-init g c =
    begun g.D.Disk.reads g.D.Disk.image g.D.Disk.moment g.D.Disk.image_since g.D.Disk.faults c.args.journal c.args.opens.now c.requires.sound
    (λ b hs told ready. started g.D.Disk.moment g.D.Disk.image_since c.args.journal.disk _
    (λ x left. (0, ap history_in (ready.kept.durable b told x (g.met.D.Disk.since_now c.args.journal.disk x left)) ∙ ready.kept.same b told ∙ sym (append-nil hs))))

pub returns-clause-all : goal.returns-clause-all
returns-clause-all g c hs ready =
    ended g.D.Disk.reads g.D.Disk.image g.D.Disk.moment g.D.Disk.image_since g.D.Disk.faults c.args.journal c.loop-at.now c.args.opens.now c.loop-at.at hs c.loop-at.invariant c.loop-at-test.false ready

pub returns-in-Err-clause-any_moment_err : goal.returns-in-Err-clause-any_moment_err
returns-in-Err-clause-any_moment_err g c hs told ready =
    let so_far = c.loop-at.invariant.settled hs ready in
    let still = first_left g.D.Disk.reads g.D.Disk.image g.D.Disk.moment g.D.Disk.image_since g.D.Disk.faults c.loop-at.now c.args.opens.now c.loop-at.at _ _ c.loop-at-test.true so_far.ready in
    let tells = told_before _ _ told.0 (sym c.loop-at.invariant.tells) told.1 in
    then_on g.D.Disk.moment g.D.Disk.image_since _ _ _ _ (so_far.moments told.0 told.1)
    (weaker g.D.Disk.moment g.D.Disk.image_since _ _ _ _ (λ x. some_more hs c.args.journal.used c.loop-at.at c.args.opens.now _ c.loop-at.now.used x c.loop-at-test.true c.loop-at.invariant.used) (c.in-Err.ensures.any_moment_err _ _ tells still))

pub loop-at-preserved : goal.loop-at-preserved
loop-at-preserved g c = record {
  within = omega (arith, c.loop-at-test.true);
  sound = c.in-Ok.ensures.sound;
  limits = c.in-Ok.ensures.limits ∙ c.loop-at.invariant.limits;
  used = omega (arith, c.in-Ok.ensures.used, c.loop-at.invariant.used);
  tells = c.in-Ok.ensures.tells ∙ c.loop-at.invariant.tells;
  settled = λ hs ready.
      let so_far = c.loop-at.invariant.settled hs ready in
      let still = first_left g.D.Disk.reads g.D.Disk.image g.D.Disk.moment g.D.Disk.image_since g.D.Disk.faults c.loop-at.now c.args.opens.now c.loop-at.at _ _ c.loop-at-test.true so_far.ready in
      record {
        ready = subst (IsReady g.D.Disk.reads g.D.Disk.image c.in-Ok.next (drop (c.loop-at.at + 1) c.args.opens.now)) (list_more hs c.args.journal.used c.loop-at.at c.args.opens.now _ c.loop-at.now.used c.loop-at-test.true c.loop-at.invariant.used) (c.in-Ok.ensures.ready _ _ still);
        moments = λ b told.
            let tells = told_before _ _ b (sym c.loop-at.invariant.tells) told in
            then_on g.D.Disk.moment g.D.Disk.image_since _ _ _ _ (so_far.moments b told)
            (weaker g.D.Disk.moment g.D.Disk.image_since _ _ _ _ (λ x. some_more hs c.args.journal.used c.loop-at.at c.args.opens.now _ c.loop-at.now.used x c.loop-at-test.true c.loop-at.invariant.used) (c.in-Ok.ensures.any_moment _ _ tells still));
      };
  count = omega (arith, c.in-Ok.ensures.count, c.loop-at.invariant.count);
}
