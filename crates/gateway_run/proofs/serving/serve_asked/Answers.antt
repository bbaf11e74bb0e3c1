-- It was served over a journal where one is named, and else over shared cells.
use Rattle.std.proofs.Common.{refl, sym, subst}
use Rattle.command_words.specs.Words.{ServesAlone}
use Rattle.gateway_run.specs.Serve.{doors_call, disks_call, outside_call, ServesOver}
use Rattle.gateway_run.proofs.ServedRules.{few_clients}
use Rattle.gateway_run.proofs.serving.serve_asked.Goals as goal

pub keep_by-requires-clause-one : goal.keep_by-requires-clause-one
keep_by-requires-clause-one g c κs within = subst (λ journal. ServesAlone journal c.args.asked.now.workers) c.in-Some.is c.requires.limits.4

pub told-requires : goal.told-requires
told-requires g c = record { few = few_clients c.args.asked.now c.args.inputs _ c.serve_by.result c.requires.served c.serve_by.ensures }

pub returns-in-None : goal.returns-in-None
returns-in-None g c =
    subst (λ journal. ServesOver journal c.args.asked.now c.args.inputs
    (outside_call (doors_call g.D.Doors c.args.doors.now c.serve_by.new.doors) (disks_call g.J.Disks c.args.disks.now c.args.disks.now)) c.told.result)
    (sym c.in-None.is) ((c.serve_by.result, c.serve_by.ensures, c.told.ensures), refl)

pub returns-in-Some : goal.returns-in-Some
returns-in-Some g c =
    subst (λ journal. ServesOver journal c.args.asked.now c.args.inputs
    (outside_call (doors_call g.D.Doors c.args.doors.now c.keep_by.new.doors) (disks_call g.J.Disks c.args.disks.now c.keep_by.new.disks)) c.keep_by.result)
    (sym c.in-Some.is) c.keep_by.ensures
