use Rattle.plan_model.proofs.Walking.{walk_leaves_out}
use Rattle.plan_model.proofs.RankedBelow.{acyclic_below}
use Rattle.plan_model.proofs.laws.walk_leaves_out_repeats.Goals as goal

pub returns-clause-fields : goal.returns-clause-fields
returns-clause-fields c = λ e p acyclic T. walk_leaves_out acyclic.rank e T acyclic.fragments p.selections acyclic.spreads

pub returns-clause-below : goal.returns-clause-below
returns-clause-below c = λ e p acyclic T fields left key. acyclic_below acyclic.rank e T acyclic.fragments p fields left acyclic.spreads key
