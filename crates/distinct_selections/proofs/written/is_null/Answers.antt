use Rattle.distinct_selections.proofs.WrittenAlike as alike
use Rattle.distinct_selections.proofs.written.is_null.Goals as goal

pub returns-in-Null : goal.returns-in-Null
returns-in-Null c = λ h. alike.is_null c.args.value.now c.in-Null.is
