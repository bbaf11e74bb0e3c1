use Rattle.asked_fields.specs.Asked.{asked}
use Rattle.asked_fields.proofs.Alike.{asked_alike}
use Rattle.asked_fields.proofs.Gathered.{gathered_asked}
use Rattle.asked_fields.proofs.laws.what_is_gathered_is_asked.Goals as goal

pub returns : goal.returns
returns c = λ e levels T p groups g. gathered_asked e (asked e levels) (asked_alike e (record { keys = c.repeats_change_nothing.ensures.keys e; call = c.repeats_change_nothing.ensures.call e; selected = c.repeats_change_nothing.ensures.selected e; below = c.repeats_change_nothing.ensures.below e }) levels) T p groups g
