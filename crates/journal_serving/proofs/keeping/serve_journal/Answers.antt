-- The disk was shut, whatever came of it.
use Rattle.std.proofs.Common.{◌≡◌, true, inl, inr, refl, ap, ◌∙◌}
use Rattle.std.specs.Prelude.{IfSome, is_some}
use Rattle.account_journal.specs.Slots.{bodies}
use Rattle.account_journal.specs.Reading.{IsFaultOf}
use Rattle.account_journal.specs.Recovery.{IsPartlyRecovered}
use Rattle.journal_disk.specs.Beginnings.{may_be_journal}
use Rattle.journal_disk.specs.Shutting.{shut_with}
use Rattle.gateway_journal.specs.PassedOn.{limits_of, telling}
use Rattle.gateway_serving.specs.PassedOn.{door_members}
use Rattle.gateway_journal.specs.DoorRuns.{disk_members}
use Rattle.journal_serving.proofs.Histories.{each_told}
use Rattle.journal_serving.proofs.Endings.{ends_shut, unopened_failed}
use Rattle.journal_serving.proofs.keeping.serve_journal.Goals as goal

pub returns-in-Ok-open_for-clause-came_to : goal.returns-in-Ok-open_for-clause-came_to
returns-in-Ok-open_for-clause-came_to g c =
    let opened = c.in-Ok-open_for.ensures in
    let held = g.J.Disks.holds c.args.disks.now c.args.name.now in
    let disk = c.serve_opened-disk.result.0 in
    inr (
      shut_with (g.J.D.Disk.reads disk) (g.J.D.Disk.faults disk),
      record {
        may_be = each_told held (λ b. may_be_journal b ≡ true) (λ b is. c.in-Ok.ensures.may_be b (c.in-Ok.ensures.told ∙ is));
        idle = c.shut.ensures.idle;
        last = c.shut.ensures.last;
        held = c.shut.ensures.held c.args.name.now c.in-Ok.ensures.named;
        others = λ other isnt. c.shut.ensures.others c.args.name.now other c.in-Ok.ensures.named isnt ∙ ap (λ f. f other) c.in-Ok.ensures.holds;
      },
      ends_shut (door_members g.D.D.Door)
          (disk_members g.J.D.Disk)
          (telling g.D.D.W.Wire)
          g.met.J.D.Disk.now_is_since g.met.J.D.Disk.reads_is_image c.args.gate.now c.args.mark held c.in-Ok-open_for.journal
          (record {
            kept = opened.kept;
            idle = opened.idle;
            tells = opened.tells ∙ ap is_some c.in-Ok.ensures.told;
            intact = λ b is. opened.intact b (c.in-Ok.ensures.told ∙ is);
            recovered = λ b is. opened.recovered b (c.in-Ok.ensures.told ∙ is);
          }) disk c.args.serving.now _ _ c.serve_opened-disk.result.1 c.serve_opened-disk.ensures.kept,
    )

pub returns-in-Err-clause-came_to : goal.returns-in-Err-clause-came_to
returns-in-Err-clause-came_to g c =
    let refused = c.in-Err.ensures in
    let held = g.J.Disks.holds c.args.disks.now c.args.name.now in
    let disk = c.in-Err.disk in
    inr (
      shut_with (g.J.D.Disk.reads disk) (g.J.D.Disk.faults disk),
      record {
        may_be = each_told held (λ b. may_be_journal b ≡ true) (λ b is. c.in-Ok.ensures.may_be b (c.in-Ok.ensures.told ∙ is));
        idle = c.shut-in-Err.ensures.idle;
        last = c.shut-in-Err.ensures.last;
        held = c.shut-in-Err.ensures.held c.args.name.now c.in-Ok.ensures.named;
        others = λ other isnt. c.shut-in-Err.ensures.others c.args.name.now other c.in-Ok.ensures.named isnt ∙ ap (λ f. f other) c.in-Ok.ensures.holds;
      },
      inl (
        record {
          reason = c.in-Err.fault;
          told = c.unopened.ensures;
          is_fault = each_told held (λ b. IsFaultOf c.in-Err.fault (limits_of c.args.gate.now) c.args.mark (bodies b)) (λ b is. refused.refused b (c.in-Ok.ensures.told ∙ is));
          failed = unopened_failed c.in-Err.fault (g.J.D.Disk.faults c.in-Ok.disk) (g.J.D.Disk.faults disk) refused.cause;
          stored = λ isnt. each_told held (λ b. IfSome (g.J.D.Disk.reads disk) (λ file. IsPartlyRecovered b file))
              (λ b is. each_told (g.J.D.Disk.reads disk) (λ file. IsPartlyRecovered b file) (λ file now. refused.left isnt b file (c.in-Ok.ensures.told ∙ is) now));
        },
        refl,
      ),
    )
