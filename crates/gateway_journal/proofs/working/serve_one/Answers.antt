use Rattle.std.proofs.Common.{◌∙◌, arith, refl, sym}
use Rattle.gateway_workers.specs.PassedOn.{end_number}
use Rattle.gateway_workers.proofs.Turns.{some_at, none_at, one_visit}
use Rattle.gateway_journal.proofs.ServedDoors.{did_still, did_one, lost_one}
use Rattle.gateway_journal.proofs.working.serve_one.Goals as goal

pub returns-in-Ok : goal.returns-in-Ok
returns-in-Ok g c =
    let gave = some_at _ c.in-Ok-Some.field-0 c.in-Ok-Some.conn c.in-Ok-Some.field-0-is c.in-Ok-Some.ensures.some in
    let given = some_at _ c.in-Ok-Some.field-0 c.in-Ok-Some.conn c.in-Ok-Some.field-0-is c.in-Ok-Some.ensures.given in
    let served = c.in-Ok.ensures in (
      (
        _,
        did_one _ _ c.args.gate.now c.args.worker.now _ _ _ c.in-Ok.served served.serves served.read_fault served.write_fault served.kept served.idle
            (one_visit (g.D.Door.visits c.args.worker.now.door) (g.D.Door.visits c.accept.new.self) (g.D.Door.visits c.hand_back.new.self) (g.D.Door.given c.accept.new.self) _ _ c.number.result (end_number c.in-Ok.served.end)
            c.accept.ensures.visits given c.hand_back.ensures.visit c.number.ensures)
            refl (omega (arith, c.from.ensures)) (omega (arith, gave.1, c.hand_back.ensures.to_come)) c.hand_back.ensures.free served.most,
      ),
      c.hand_back.ensures.count ∙ c.in-Ok-Some.ensures.still,
      refl,
    )

pub returns-in-Err-serve_on : goal.returns-in-Err-serve_on
returns-in-Err-serve_on g c =
    let gave = some_at _ c.in-Ok-Some.field-0 c.in-Ok-Some.conn c.in-Ok-Some.field-0-is c.in-Ok-Some.ensures.some in
    let given = some_at _ c.in-Ok-Some.field-0 c.in-Ok-Some.conn c.in-Ok-Some.field-0-is c.in-Ok-Some.ensures.given in
    let lost = c.in-Err-serve_on.ensures in (
      lost_one _ _ _ c.args.gate.now c.args.worker.now _ _ _ c.serve_on.new.conn.wire c.in-Err-serve_on.replies refl refl refl lost.lost lost.cause
          (one_visit (g.D.Door.visits c.args.worker.now.door) (g.D.Door.visits c.accept.new.self) (g.D.Door.visits c.hand_back-in-Err-serve_on.new.self) (g.D.Door.given c.accept.new.self) _ _ c.number-in-Err-serve_on.result 6
          c.accept.ensures.visits given c.hand_back-in-Err-serve_on.ensures.visit c.number-in-Err-serve_on.ensures)
          (omega (arith, gave.1, c.hand_back-in-Err-serve_on.ensures.to_come)) c.hand_back-in-Err-serve_on.ensures.free refl (omega (arith, c.from-in-Err-serve_on.ensures)),
      c.hand_back-in-Err-serve_on.ensures.count ∙ c.in-Ok-Some.ensures.still,
      refl,
    )

pub returns-in-Ok-None : goal.returns-in-Ok-None
returns-in-Ok-None g c =
    let none = none_at _ c.in-Ok-None.field-0 c.in-Ok-None.field-0-is c.in-Ok-None.ensures.none in (
      did_still _ _ c.args.gate.now c.args.worker.now _ c.requires.kept c.requires.idle refl refl refl c.accept.ensures.visits (none.2 ∙ sym none.1) none.0,
      c.in-Ok-None.ensures.still,
      refl,
      none.2,
    )

pub returns-in-Err : goal.returns-in-Err
returns-in-Err g c =
    let failed = c.in-Err.ensures in
    (did_still _ _ c.args.gate.now c.args.worker.now _ c.requires.kept c.requires.idle refl refl refl c.accept.ensures.visits failed.failed.2 failed.failed.0, failed.cause, refl)
