use Rattle.std.proofs.Common.{◌∙◌, arith, refl, sym}
use Rattle.gateway_connections.specs.Exchanges.{service_of}
use Rattle.gateway_connections.specs.Connections.{end_number}
use Rattle.gateway_workers.proofs.Turns.{some_at, none_at, one_visit, did_still, did_one}
use Rattle.gateway_workers.proofs.working.serve_one.Goals as goal

pub returns-in-Ok-Some : goal.returns-in-Ok-Some
returns-in-Ok-Some g c =
    let gave = some_at _ c.in-Ok-Some.field-0 c.in-Ok-Some.conn c.in-Ok-Some.field-0-is c.in-Ok-Some.ensures.some in
    let given = some_at _ c.in-Ok-Some.field-0 c.in-Ok-Some.conn c.in-Ok-Some.field-0-is c.in-Ok-Some.ensures.given in (
      (
        _,
        did_one _ (service_of c.args.gate.now) c.args.gate.now.accounts c.args.worker.now _ _ _ c.serve_connection-served.result c.serve_connection-served.ensures.serves c.serve_connection-served.ensures.read_fault c.serve_connection-served.ensures.write_fault c.serve_connection-served.ensures.belong c.serve_connection-served.ensures.idle
            (one_visit (g.D.Door.visits c.args.worker.now.door) (g.D.Door.visits c.accept.new.self) (g.D.Door.visits c.hand_back.new.self) (g.D.Door.given c.accept.new.self) _ _ c.number.result (end_number c.serve_connection-served.result.end)
            c.accept.ensures.visits given c.hand_back.ensures.visit c.number.ensures)
            refl (omega (arith, c.from.ensures)) (omega (arith, gave.1, c.hand_back.ensures.to_come)) c.hand_back.ensures.free c.serve_connection-served.ensures.most c.serve_connection-served.ensures.few,
      ),
      c.hand_back.ensures.count ∙ c.in-Ok-Some.ensures.still,
      refl,
    )

pub returns-in-Ok-None : goal.returns-in-Ok-None
returns-in-Ok-None g c =
    let none = none_at _ c.in-Ok-None.field-0 c.in-Ok-None.field-0-is c.in-Ok-None.ensures.none in (
      did_still _ (service_of c.args.gate.now) c.args.gate.now.accounts c.args.worker.now _ c.requires.belong c.requires.idle refl refl refl c.accept.ensures.visits (none.2 ∙ sym none.1) none.0,
      c.in-Ok-None.ensures.still,
      refl,
      none.2,
    )

pub returns-in-Err : goal.returns-in-Err
returns-in-Err g c =
    let failed = c.in-Err.ensures in
    (did_still _ (service_of c.args.gate.now) c.args.gate.now.accounts c.args.worker.now _ c.requires.belong c.requires.idle refl refl refl c.accept.ensures.visits failed.failed.2 failed.failed.0, failed.cause, refl)
