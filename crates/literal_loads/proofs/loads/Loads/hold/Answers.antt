use Rattle.std.proofs.lemmas.List.Elements.{All-same, All-push}
use Rattle.literal_loads.specs.KnownInputs.{scale_of, IsHeld}
use Rattle.literal_loads.proofs.loads.Loads.hold.Goals as goal

pub returns-in_ok-push-in-Some-clause-right : goal.returns-in_ok-push-in-Some-clause-right
returns-in_ok-push-in-Some-clause-right c = λ right.
    let still = c.make_room.ensures.right (c.in_ok-measure.ensures.right right) in
    let P = IsHeld (scale_of c.make_room.new.self.of) in
    record { inputs = still.inputs; values = All-same P _ _ c.in_ok-push-in-Some.ensures.items (All-push P c.make_room.new.self.held.items c.in-Some.held still.values c.in-Some.ensures) }
