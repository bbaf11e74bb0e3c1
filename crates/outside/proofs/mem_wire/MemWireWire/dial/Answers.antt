-- One dial more is kept that nobody answered, or the count stands at its last value.
use Rattle.std.proofs.Common.{rules}
use Rattle.outside.specs.Dials.{dials_of}
use Rattle.outside.proofs.Dialling.{missed_logged}
use Rattle.outside.proofs.mem_wire.MemWireWire.dial.Goals as goal

pub returns-then-fails-clause-missed : goal.returns-then-fails-clause-missed
returns-then-fails-clause-missed c =
    let old = c.args.self.now in
    missed_logged c.then-fails.self.past.items c.then-fails.self.latest old.missed c.count_missed.new.missed c.count_missed.new.faults (dials_of old.past.items old.latest old.missed)
    (search rules) (search rules)
