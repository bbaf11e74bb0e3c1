use Rattle.merged_selections.proofs.calls.Calls.make_room.Goals as goal

pub returns-then-self-ge-TURNS : goal.returns-then-self-ge-TURNS
returns-then-self-ge-TURNS c = λ e kept. c.forget.ensures.kept e kept
