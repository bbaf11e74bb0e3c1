use Rattle.std.proofs.Common.{◌∙◌, map, sym}
use Rattle.std.proofs.lemmas.List.Elements.{All-get_or}
use Rattle.doors.specs.Starts.{IsNew, stopped_by}
use Rattle.gateway_workers.specs.Tours.{door_members}
use Rattle.gateway_workers.specs.Decisions.{rules_of, service_of}
use Rattle.gateway_serving.proofs.DoorsBack.{as_many}
use Rattle.gateway_serving.proofs.ClientAccounts.{is_idle}
use Rattle.gateway_serving.proofs.AllServed.{ends_serving, start_and_stop, was_unserved}
use Rattle.gateway_serving.proofs.serving.serve_started.Goals as goal

pub serve_workers-requires-clause-free : goal.serve_workers-requires-clause-free
serve_workers-requires-clause-free g c κs within k d below =
    let t = door_members g.D.D.Door in
    (All-get_or (IsNew t c.args.serving.now.connections) c.args.started.items k d below c.requires.new).free

pub stop-requires : goal.stop-requires
stop-requires g c =
    let t = door_members g.D.D.Door in
    let served = c.in-Ok.ensures.served in
    let many = as_many t (service_of c.args.gate) c.args.serving.now.connections c.args.started.items c.in-Ok.back.items served.tours served.are_tours in
    record { running = c.requires.running ∙ (sym c.requires.count ∙ sym many.0) }

pub close-totals-requires-clause-idle : goal.close-totals-requires-clause-idle
close-totals-requires-clause-idle g c =
    let served = c.in-Ok.ensures.served in
    is_idle (rules_of c.args.gate) c.args.gate.accounts served.tours c.args.passes c.serve_workers.new.passes
    (record { fresh = c.requires.fresh; belonged = c.requires.belong; belong = c.serve_workers.ensures.belong; joined = served.joined })

pub returns-in-Ok-clause-served : goal.returns-in-Ok-clause-served
returns-in-Ok-clause-served g c =
    let t = door_members g.D.D.Door in
    let served = c.in-Ok.ensures.served in (
      map (stopped_by t c.args.serving.now.connections) c.in-Ok.back.items,
      start_and_stop t c.args.serving.now _ _ c.in-Ok.back.items c.requires.asked c.stop.ensures.asked c.stop.ensures.idle c.stop.ensures.stopped,
      ends_serving t (service_of c.args.gate) c.args.gate.accounts c.args.serving.now.workers c.args.serving.now.connections c.args.passes c.serve_workers.new.passes c.args.started.items c.in-Ok.back.items
          (record { done = c.in-Ok.done; totals = c.close-totals.result }) c.requires.count c.requires.new served
          (record { fresh = c.requires.fresh; belonged = c.requires.belong; belong = c.serve_workers.ensures.belong; joined = served.joined })
          c.close-totals.ensures.clients c.close-totals.ensures.accounts c.close-totals.ensures.closed,
    )

pub returns-in-Err-clause-memory : goal.returns-in-Err-clause-memory
returns-in-Err-clause-memory g c =
    let t = door_members g.D.D.Door in
    was_unserved t c.args.serving.now _ _ c.args.started.items c.in-Err.back.items c.requires.count c.requires.new c.in-Err.ensures.memory.same
    (start_and_stop t c.args.serving.now _ _ c.in-Err.back.items c.requires.asked c.stop-in-Err.ensures.asked c.stop-in-Err.ensures.idle c.stop-in-Err.ensures.stopped)
