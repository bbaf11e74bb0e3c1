-- The one door was new, and is the one that is stopped.
use Rattle.std.proofs.Common.{◌≡◌, refl, subst, Result}
use Rattle.std.specs.Prelude.{IfOk, IfErr}
use Rattle.doors.specs.Starts.{IsNew, stopped_by}
use Rattle.account_journal.specs.declared.journal.Journal.{Journal}
use Rattle.gateway_journal.specs.PassedOn.{telling}
use Rattle.gateway_serving.specs.PassedOn.{door_members}
use Rattle.gateway_journal.specs.DoorRuns.{disk_members, ServesDoor, LosesDoor}
use Rattle.journal_serving.proofs.Endings.{one_door, stops_one}
use Rattle.journal_serving.proofs.keeping.serve_started.Goals as goal

pub serve_door-back-requires-clause-free : goal.serve_door-back-requires-clause-free
serve_door-back-requires-clause-free g c κs within =
    (one_door (IsNew (door_members g.D.D.Door) c.args.serving.now.connections) c.args.started.items c.remove-door.result c.requires.one c.remove-door.ensures.value c.requires.new).free

pub returns-in-Ok-clause-ended : goal.returns-in-Ok-clause-ended
returns-in-Ok-clause-ended g c =
    let t = door_members g.D.D.Door in
    let m = disk_members g.J.Disk in
    let connections = c.args.serving.now.connections in
    let served = c.serve_door-back.result in
    let door = served.1 in (
      stopped_by t connections door,
      stops_one t c.args.serving.now _ _ c.args.started.items c.remove-door.new.self.items c.push_reserved.new.self.items door c.requires.one c.remove-door.ensures.by_index.2 c.push_reserved.ensures.items
          c.requires.asked c.stop.ensures.asked c.stop.ensures.idle c.stop.ensures.stopped,
      record {
        door = c.remove-door.result;
        back = door;
        new = one_door (IsNew t connections) c.args.started.items c.remove-door.result c.requires.one c.remove-door.ensures.value c.requires.new;
        closed = c.in-Ok.journal;
        serves = subst (λ (r : Result _ _). IfOk r (λ j. ServesDoor t m c.args.gate.now connections c.args.journal j c.remove-door.result door served.2)) c.in-Ok.is c.serve_door-back.ensures.served;
        idle = subst (λ (r : Result (Journal _) _). IfOk r (λ j. j.opened ≡ 0)) c.in-Ok.is c.serve_door-back.ensures.idle;
        stopped_is = refl;
        accounts = c.put_accounts.ensures.items;
        disk_is = c.close.ensures;
      },
    )

pub returns-in-Err-clause-ended : goal.returns-in-Err-clause-ended
returns-in-Err-clause-ended g c =
    let t = door_members g.D.D.Door in
    let m = disk_members g.J.Disk in
    let tell = telling g.D.D.W.Wire in
    let connections = c.args.serving.now.connections in
    let served = c.serve_door-back.result in
    let door = served.1 in (
      stopped_by t connections door,
      stops_one t c.args.serving.now _ _ c.args.started.items c.remove-door.new.self.items c.push_reserved.new.self.items door c.requires.one c.remove-door.ensures.by_index.2 c.push_reserved.ensures.items
          c.requires.asked c.stop.ensures.asked c.stop.ensures.idle c.stop.ensures.stopped,
      record {
        door = c.remove-door.result;
        back = door;
        new = one_door (IsNew t connections) c.args.started.items c.remove-door.result c.requires.one c.remove-door.ensures.value c.requires.new;
        done = served.2;
        loses = subst (λ (r : Result _ _). IfErr r (λ disk. LosesDoor t m tell c.args.gate.now connections c.args.journal disk c.remove-door.result door served.2)) c.in-Err.is c.serve_door-back.ensures.lost;
        stopped_is = refl;
      },
    )
