use Rattle.distinct_selections.proofs.WrittenAlike as alike
use Rattle.distinct_selections.proofs.written.is_variable.Goals as goal

pub returns-in-Var : goal.returns-in-Var
returns-in-Var c = alike.is_variable c.same_text.result c.args.name.now c.in-Var.other c.args.value.now c.in-Var.is c.same_text.ensures
