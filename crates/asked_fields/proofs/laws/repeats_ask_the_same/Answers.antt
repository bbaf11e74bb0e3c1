use Rattle.asked_fields.proofs.Alike.{asked_alike}
use Rattle.asked_fields.proofs.laws.repeats_ask_the_same.Goals as goal

pub returns : goal.returns
returns c = λ e levels place p q less. asked_alike e (record { keys = c.repeats_change_nothing.ensures.keys e; call = c.repeats_change_nothing.ensures.call e; selected = c.repeats_change_nothing.ensures.selected e; below = c.repeats_change_nothing.ensures.below e }) levels place p q less
