use Rattle.std.proofs.Common.{◌≤◌, sym, ◌∙◌, subst, arith, map, length}
use Rattle.std.proofs.lemmas.List.{take_all, length-map}
use Rattle.replay_scripts.specs.Steps.{step_data}
use Rattle.gateway_core.specs.Gates.{rules_of}
use Rattle.gateway_replay.specs.Turns.{abandoning}
use Rattle.gateway_replay.specs.Stretches.{requests_of, RunsTo}
use Rattle.gateway_replay.proofs.MoreTurns.{runs_next, called_then, replayed, stopped}
use Rattle.gateway_replay.proofs.replaying.replay.Goals as goal

pub loop-step-preserved : goal.loop-step-preserved
loop-step-preserved g c = record {
  belong = c.take_step-told.ensures.belong;
  just = c.take_step-told.ensures.just;
  count = omega (arith, c.take_step-told.ensures.count, c.loop-step.invariant.count);
  made = omega (arith, c.take_step-told.ensures.few, c.loop-step.invariant.made);
  steps = λ h. ((c.take_step-told.ensures.step (c.take_step-told.ensures.told h)).2 h).counts.steps ∙ c.loop-step.invariant.steps (c.take_step-told.ensures.told h);
  runs =
      runs_next c.gains_then.ensures (rules_of c.args.gate.now) c.args.passes.now c.loop-step.passes c.take_step-told.new.passes c.deref-step-items.result.now c.args.script.now.steps.items c.loop-step.step-index _
      (requests_of c.loop-step.opens.items) (requests_of c.take_step-told.new.opens.items) c.loop-step.report c.take_step-told.new.report c.loop-step.told c.take_step-told.result
      c.deref-step-items.ensures.value c.loop-step-test.true c.loop-step.invariant.runs c.take_step-told.ensures.told c.take_step-told.ensures.step c.take_step-told.ensures.kept c.take_step-told.ensures.still;
}

pub returns-then-abandon_all-clause-called : goal.returns-then-abandon_all-clause-called
returns-then-abandon_all-clause-called g c = called_then c.gains_then.ensures c.args.passes.now c.loop-step.passes c.abandon_all.new.passes (_, c.loop-step.invariant.runs.calls) (map abandoning (requests_of c.loop-step.opens.items), c.abandon_all.ensures.calls)

pub returns-else-abandon_all-clause-called : goal.returns-else-abandon_all-clause-called
returns-else-abandon_all-clause-called g c = called_then c.gains_then.ensures c.args.passes.now c.loop-step.passes c.abandon_all.new.passes (_, c.loop-step.invariant.runs.calls) (map abandoning (requests_of c.loop-step.opens.items), c.abandon_all.ensures.calls)

pub returns-then-abandon_all-clause-replayed : goal.returns-then-abandon_all-clause-replayed
returns-then-abandon_all-clause-replayed g c =
    let told = c.abandon_all.ensures.told c.if-abandon_all.true in
    replayed c.gains_then.ensures (rules_of c.args.gate.now) c.args.passes.now c.loop-step.passes c.abandon_all.new.passes (map step_data c.args.script.now.steps.items) (requests_of c.loop-step.opens.items) c.loop-step.report c.abandon_all.new.report c.loop-step.told
    (subst (λ l. RunsTo (rules_of c.args.gate.now) c.args.passes.now c.loop-step.passes (map step_data l) (requests_of c.loop-step.opens.items) c.loop-step.report c.loop-step.told) (take_all c.loop-step.step-index c.args.script.now.steps.items (subst (λ steps. length steps ≤ c.loop-step.step-index) c.deref-step-items.ensures.value c.loop-step-test.false)) c.loop-step.invariant.runs)
    told
    (c.loop-step.invariant.steps told ∙ sym (length-map c.args.script.now.steps.items step_data))
    (c.abandon_all.ensures.lines c.if-abandon_all.true) c.abandon_all.ensures.calls

pub returns-else-abandon_all-clause-stopped : goal.returns-else-abandon_all-clause-stopped
returns-else-abandon_all-clause-stopped g c =
    stopped c.gains_then.ensures (rules_of c.args.gate.now) c.args.passes.now c.loop-step.passes c.abandon_all.new.passes (map step_data c.args.script.now.steps.items) (requests_of c.loop-step.opens.items) c.loop-step.report c.loop-step.told
    (subst (λ l. RunsTo (rules_of c.args.gate.now) c.args.passes.now c.loop-step.passes (map step_data l) (requests_of c.loop-step.opens.items) c.loop-step.report c.loop-step.told) (take_all c.loop-step.step-index c.args.script.now.steps.items (subst (λ steps. length steps ≤ c.loop-step.step-index) c.deref-step-items.ensures.value c.loop-step-test.false)) c.loop-step.invariant.runs)
    c.abandon_all.ensures.calls
