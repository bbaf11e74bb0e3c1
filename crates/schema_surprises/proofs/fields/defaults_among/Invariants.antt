use Rattle.std.proofs.Common.{◌≡◌, ◌≤◌, ◌+◌, drop, map}
use Rattle.input_values.specs.inputs.Definitions.{input_data}
use Rattle.schema_surprises.specs.Surprises.{defaults_among}
use Rattle.schema_surprises.proofs.fields.defaults_among.Given as goal

-- Those so far and those of what is left are all.
abbrev pub invariant-loop-at : goal.invariant-loop-at
invariant-loop-at l = record {
  sum : l.count + defaults_among l.names (map input_data (drop l.at l.arguments)) ≡ defaults_among l.names (map input_data l.arguments);
  within : l.count ≤ l.at;
}
