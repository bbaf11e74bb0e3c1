use Rattle.distinct_selections.proofs.WrittenAlike as alike
use Rattle.distinct_selections.proofs.written.is_string.Goals as goal

pub returns-in-Str : goal.returns-in-Str
returns-in-Str c = alike.is_string c.same_text.result c.args.text.now c.in-Str.other c.args.value.now c.in-Str.is c.same_text.ensures
