-- The latest dial was changed.
use Rattle.std.proofs.Common.{rules}
use Rattle.outside.specs.Dials.{read_by}
use Rattle.outside.proofs.Dialling.{latest_changed, none_missed}
use Rattle.outside.proofs.mem_wire.MemWireWire.read.Goals as goal

pub returns-then-is_err-clause-taken : goal.returns-then-is_err-clause-taken
returns-then-is_err-clause-taken c =
    latest_changed (read_by c.take-taken.result c.take-taken.new.into) c.args.self.now.past.items c.args.self.now.latest c.args.self.now.missed c.in-Some.dial.now c.take-taken.new.self (search rules)
    (none_missed c.args.self.now.is_dialled c.args.self.now.latest c.args.self.now.missed c.requires.dialled) c.take-taken.ensures.missed c.take-taken.ensures.dial

pub returns-else-is_err-clause-taken : goal.returns-else-is_err-clause-taken
returns-else-is_err-clause-taken c =
    latest_changed (read_by c.take-taken.result c.take-taken.new.into) c.args.self.now.past.items c.args.self.now.latest c.args.self.now.missed c.in-Some.dial.now c.take-taken.new.self (search rules)
    (none_missed c.args.self.now.is_dialled c.args.self.now.latest c.args.self.now.missed c.requires.dialled) c.take-taken.ensures.missed c.take-taken.ensures.dial
