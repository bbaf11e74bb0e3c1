use Rattle.distinct_selections.proofs.WrittenAlike.{equal_texts}
use Rattle.distinct_selections.proofs.AlikeSteps.{spread_alike}
use Rattle.distinct_selections.proofs.alike.alike_spread.Goals as goal

pub returns-then-is_empty : goal.returns-then-is_empty
returns-then-is_empty c = λ same directives. spread_alike c.args.name.now c.in-Spread.other c.in-Spread.directives c.args.selection.now directives c.in-Spread.is c.if-is_empty.ensures (equal_texts c.same_text.result c.args.name.now.text c.in-Spread.other.text c.same_text.ensures same)
