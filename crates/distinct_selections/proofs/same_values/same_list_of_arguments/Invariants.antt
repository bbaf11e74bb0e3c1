use Rattle.std.proofs.Common.{◌≡◌, ◌-◌, ◌≤◌, drop, map, length}
use Rattle.schema_model.specs.Arguments.{arg_data}
use Rattle.plan_model.specs.SameArguments.{same_arguments}
use Rattle.distinct_selections.proofs.same_values.same_list_of_arguments.Given as goal

abbrev pub invariant-loop-at : goal.invariant-loop-at
invariant-loop-at l = (l.at ≤ length l.args) × (l.at ≤ length l.others) × (same_arguments (map arg_data (drop l.at l.args)) (map arg_data (drop l.at l.others)) ≡ same_arguments (map arg_data l.args) (map arg_data l.others))

abbrev pub decreases-loop-at : goal.decreases-loop-at
decreases-loop-at l = length l.args - l.at
