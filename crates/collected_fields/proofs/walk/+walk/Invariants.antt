use Rattle.std.proofs.Common.{◌≡◌, ◌+◌, ◌*◌, ◌-◌, length, map, drop}
use Rattle.schema_model.specs.SchemaViews.{schema_data}
use Rattle.collected_fields.specs.Steps.{step_data}
use Rattle.collected_fields.specs.Prepared.{entry_data}
use Rattle.collected_fields.specs.Walks.{walk_data, walk_steps, walk_fragment, list_steps, known_for}
use Rattle.collected_fields.proofs.walk.+walk.Given as goal

abbrev pub decreases-walk_fragment : goal.decreases-walk_fragment
decreases-walk_fragment l = 6 * l.depth

abbrev pub decreases-walk_step : goal.decreases-walk_step
decreases-walk_step l = 6 * l.depth + 1

abbrev pub decreases-walk_steps : goal.decreases-walk_steps
decreases-walk_steps l = 6 * l.depth + 2

abbrev pub decreases-walk_set : goal.decreases-walk_set
decreases-walk_set l = 6 * l.depth + 3

abbrev pub decreases-walk_list : goal.decreases-walk_list
decreases-walk_list l = 6 * l.depth + 4

abbrev pub decreases-walk_entry : goal.decreases-walk_entry
decreases-walk_entry l = 6 * l.depth + 5

abbrev pub invariant-walk_steps-loop-at : goal.invariant-walk_steps-loop-at
invariant-walk_steps-loop-at l =
    walk_steps (schema_data l.tables.planning.schema.now) l.of.number (walk_fragment (schema_data l.tables.planning.schema.now) l.of.number (list_steps l.tables l.known l.reaches l.of.number l.depth) (known_for l.known l.of.number) (map entry_data l.tables.entries.items) l.depth) 0 (map step_data (drop l.at l.steps)) (walk_data l.walk)
    ≡ walk_steps (schema_data l.tables.planning.schema.now) l.of.number (walk_fragment (schema_data l.tables.planning.schema.now) l.of.number (list_steps l.tables l.known l.reaches l.of.number l.depth) (known_for l.known l.of.number) (map entry_data l.tables.entries.items) l.depth) 0 (map step_data l.steps) (walk_data l.fn.walk)

abbrev pub decreases-walk_steps-loop-at : goal.decreases-walk_steps-loop-at
decreases-walk_steps-loop-at l = length l.steps - l.at
