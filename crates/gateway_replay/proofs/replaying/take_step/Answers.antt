use Rattle.replay_scripts.specs.Steps.{step_data}
use Rattle.gateway_core.specs.Gates.{rules_of}
use Rattle.gateway_replay.specs.Stretches.{requests_of}
use Rattle.gateway_replay.proofs.TakenSteps.{just_taken, count_taken, few_taken}
use Rattle.gateway_replay.proofs.replaying.take_step.Goals as goal

pub returns-clause-just : goal.returns-clause-just
returns-clause-just g c = just_taken (rules_of c.args.gate.now) c.args.passes.now c.take-line.new.passes (requests_of c.args.opens.now.items) (requests_of c.take-line.new.opens.items) (step_data c.args.step.now) c.take-line.result c.take-line.ensures.taken c.requires.just

pub returns-clause-count : goal.returns-clause-count
returns-clause-count g c = count_taken (rules_of c.args.gate.now) c.args.passes.now c.take-line.new.passes c.args.opens.now.items c.take-line.new.opens.items (step_data c.args.step.now) c.take-line.result c.take-line.ensures.taken

pub returns-clause-few : goal.returns-clause-few
returns-clause-few g c = few_taken (rules_of c.args.gate.now) c.args.passes.now c.take-line.new.passes (requests_of c.args.opens.now.items) (requests_of c.take-line.new.opens.items) (step_data c.args.step.now) c.take-line.result c.take-line.ensures.taken
