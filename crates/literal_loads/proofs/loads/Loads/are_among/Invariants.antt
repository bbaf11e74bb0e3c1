use Rattle.std.proofs.Common.{All, take}
use Rattle.literal_loads.specs.KnownInputs.{scale_of, placed_in}
use Rattle.literal_loads.specs.Comparing.{IsAmong}
use Rattle.literal_loads.proofs.loads.Loads.are_among.Given as goal

abbrev pub invariant-loop-other : goal.invariant-loop-other
invariant-loop-other l = All (IsAmong (scale_of l.self.of) (placed_in l.known) l.written.items.now) (take l.other-index l.others)
