use Rattle.std.proofs.Common.{◌+◌, ◌*◌, ◌-◌, length, map, drop}
use Rattle.collected_fields.specs.Steps.{step_data}
use Rattle.collected_fields.specs.Reaching.{Passes, Reaching, AreReached}
use Rattle.collected_fields.proofs.reaching.+reach.Given as goal

abbrev pub decreases-add_where : goal.decreases-add_where
decreases-add_where l = 6 * l.depth

abbrev pub decreases-add_inline : goal.decreases-add_inline
decreases-add_inline l = 6 * l.depth

abbrev pub decreases-add_fragment : goal.decreases-add_fragment
decreases-add_fragment l = 6 * l.depth + 1

abbrev pub decreases-add_step : goal.decreases-add_step
decreases-add_step l = 6 * l.depth + 2

abbrev pub decreases-add_steps : goal.decreases-add_steps
decreases-add_steps l = 6 * l.depth + 3

abbrev pub decreases-add_listed : goal.decreases-add_listed
decreases-add_listed l = 6 * l.depth + 4

abbrev pub decreases-find : goal.decreases-find
decreases-find l = 6 * l.depth + 5

-- What is missed collects nothing in the steps so far.
abbrev pub invariant-add_steps-steps : goal.invariant-add_steps-steps
invariant-add_steps-steps l =
    (AreReached l.tables l.fn.found → AreReached l.tables l.found)
    × (AreReached l.tables l.fn.found → Reaching l.tables l.fn.reach l.reach (λ T. Passes l.tables T (map step_data l.steps) (map step_data (drop l.at l.steps))))

abbrev pub decreases-add_steps-steps : goal.decreases-add_steps-steps
decreases-add_steps-steps l = length l.steps - l.at
