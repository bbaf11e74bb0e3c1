use Rattle.std.proofs.Common.{sym, ◌∙◌, inl, rules}
use Rattle.replay_scripts.specs.Lines.{lines_of}
use Rattle.replay_scripts.specs.Faults.{HasFault}
use Rattle.replay_scripts.proofs.Fronts.{few_here, fault_here, step_here, end_here, unless_memory}
use Rattle.replay_scripts.proofs.ScriptLines.{same_steps}
use Rattle.replay_scripts.proofs.OneAnswer.{no_fault, one_fault}
use Rattle.replay_scripts.proofs.reading.read_script.Goals as goal

pub step_behind-requires : goal.step_behind-requires
step_behind-requires c = few_here c.args.text.now c.loop-rest.rest.now _ _ _ c.loop-rest.invariant.1 (c.len.ensures ∙ c.loop-rest.steps.ok.0)

pub returns-in-Err-clause-fault : goal.returns-in-Err-clause-fault
returns-in-Err-clause-fault c =
    unless_memory (HasFault c.args.text.now) c.in-Err.fault (fault_here c.args.text.now c.loop-rest.rest.now _ _ _ _ c.in-Err.fault c.loop-rest.invariant.1 (sym c.is_empty.ensures ∙ c.loop-rest-test.true) c.first_line.ensures.line (c.len.ensures ∙ c.loop-rest.steps.ok.0) c.in-Err.ensures.fault)

pub returns-in-Err-clause-only_script : goal.returns-in-Err-clause-only_script
returns-in-Err-clause-only_script c = λ steps is.
    absurd (no_fault (lines_of c.args.text.now) steps c.in-Err.fault is (fault_here c.args.text.now c.loop-rest.rest.now _ _ _ _ c.in-Err.fault c.loop-rest.invariant.1 (sym c.is_empty.ensures ∙ c.loop-rest-test.true) c.first_line.ensures.line (c.len.ensures ∙ c.loop-rest.steps.ok.0) c.in-Err.ensures.fault))

pub returns-in-Err-clause-only_fault : goal.returns-in-Err-clause-only_fault
returns-in-Err-clause-only_fault c = λ fault has.
    inl (one_fault (lines_of c.args.text.now) c.in-Err.fault fault (fault_here c.args.text.now c.loop-rest.rest.now _ _ _ _ c.in-Err.fault c.loop-rest.invariant.1 (sym c.is_empty.ensures ∙ c.loop-rest-test.true) c.first_line.ensures.line (c.len.ensures ∙ c.loop-rest.steps.ok.0) c.in-Err.ensures.fault) has)

pub returns-clause-script : goal.returns-clause-script
returns-clause-script c = end_here c.args.text.now c.loop-rest.rest.now _ _ c.loop-rest.invariant.1 (sym c.is_empty.ensures ∙ c.loop-rest-test.false)

pub returns-clause-only_script : goal.returns-clause-only_script
returns-clause-only_script c = λ steps is.
    same_steps (lines_of c.args.text.now) _ steps (end_here c.args.text.now c.loop-rest.rest.now _ _ c.loop-rest.invariant.1 (sym c.is_empty.ensures ∙ c.loop-rest-test.false)).spelled is.spelled

pub returns-clause-only_fault : goal.returns-clause-only_fault
returns-clause-only_fault c = λ fault has.
    no_fault (lines_of c.args.text.now) _ fault (end_here c.args.text.now c.loop-rest.rest.now _ _ c.loop-rest.invariant.1 (sym c.is_empty.ensures ∙ c.loop-rest-test.false)) has

pub loop-rest-preserved : goal.loop-rest-preserved
loop-rest-preserved c = (
  search rules,
  step_here c.args.text.now c.loop-rest.rest.now _ _ c.loop-rest.steps.items _ c.in-Ok.step _ _ _ c.loop-rest.invariant.1 (sym c.is_empty.ensures ∙ c.loop-rest-test.true) c.first_line.ensures.line c.first_line.ensures.rest (c.len.ensures ∙ c.loop-rest.steps.ok.0)
      c.in-Ok.ensures.step c.in_ok-note_begun.ensures.known c.in_ok-push.ensures.items,
)
