use Rattle.distinct_selections.proofs.WrittenAlike as alike
use Rattle.distinct_selections.proofs.written.is_truth.Goals as goal

pub returns-in-Bool : goal.returns-in-Bool
returns-in-Bool c = alike.is_truth c.same_truth.result c.args.truth c.in-Bool.other c.args.value.now c.in-Bool.is c.same_truth.ensures
