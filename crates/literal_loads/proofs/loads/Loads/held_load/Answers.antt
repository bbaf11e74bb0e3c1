use Rattle.literal_loads.specs.KnownInputs.{scale_of}
use Rattle.literal_loads.proofs.loads.Loads.held_load.Goals as goal

pub returns : goal.returns
returns c = λ right. c.load_at.ensures (scale_of c.args.self.now.of) (c.in_ok-held.ensures right)
