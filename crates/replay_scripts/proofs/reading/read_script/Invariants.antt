use Rattle.std.proofs.Common.{length}
use Rattle.std.specs.Prelude.{map}
use denote.Text.{Utf8}
use denote.Shadow.{shadow}
use Rattle.gql_base.specs.names.Indexes.{at_name}
use Rattle.replay_scripts.specs.Steps.{step_data}
use Rattle.replay_scripts.specs.Fronts.{IsFront}
use Rattle.replay_scripts.proofs.reading.read_script.Given as goal

abbrev pub invariant-loop-rest : goal.invariant-loop-rest
invariant-loop-rest l = shadow (Utf8 l.rest) × IsFront l.text l.rest (map step_data l.steps.items) (at_name l.begun)

abbrev pub decreases-loop-rest : goal.decreases-loop-rest
decreases-loop-rest l = length l.rest
