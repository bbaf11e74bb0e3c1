-- The latest dial was changed.
use Rattle.std.proofs.Common.{rules}
use Rattle.outside.specs.Dials.{written_by}
use Rattle.outside.proofs.Dialling.{latest_changed, none_missed}
use Rattle.outside.proofs.mem_wire.MemWireWire.write.Goals as goal

pub returns-then-is_err-clause-sent : goal.returns-then-is_err-clause-sent
returns-then-is_err-clause-sent c =
    latest_changed (written_by c.send-sent.result c.args.piece.now) c.args.self.now.past.items c.args.self.now.latest c.args.self.now.missed c.in-Some.dial.now c.send-sent.new.self (search rules)
    (none_missed c.args.self.now.is_dialled c.args.self.now.latest c.args.self.now.missed c.requires.dialled) c.send-sent.ensures.missed c.send-sent.ensures.dial

pub returns-else-is_err-clause-sent : goal.returns-else-is_err-clause-sent
returns-else-is_err-clause-sent c =
    latest_changed (written_by c.send-sent.result c.args.piece.now) c.args.self.now.past.items c.args.self.now.latest c.args.self.now.missed c.in-Some.dial.now c.send-sent.new.self (search rules)
    (none_missed c.args.self.now.is_dialled c.args.self.now.latest c.args.self.now.missed c.requires.dialled) c.send-sent.ensures.missed c.send-sent.ensures.dial
