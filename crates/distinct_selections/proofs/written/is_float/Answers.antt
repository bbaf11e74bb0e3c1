use Rattle.distinct_selections.proofs.WrittenAlike as alike
use Rattle.distinct_selections.proofs.written.is_float.Goals as goal

pub returns-in-Float : goal.returns-in-Float
returns-in-Float c = alike.is_float c.same_text.result c.args.text.now c.in-Float.other c.args.value.now c.in-Float.is c.same_text.ensures
