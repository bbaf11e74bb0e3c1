use Rattle.std.proofs.Common.{◌∙◌, sym, ap, arith, Some}
use Rattle.gql_base.specs.lexical.Scans.{text_step}
use Rattle.gql_base.proofs.LexicalLaws.StringScans.{text_fault_found, text_fault_later, text_fault_nowhere, zero_test, more_test}
use Rattle.gql_base.proofs.lexical.strings.text_fault.Goals as goal

pub returns-then-size-eq0-clause-first : goal.returns-then-size-eq0-clause-first
returns-then-size-eq0-clause-first c =
    ap Some c.text_fault_at.ensures.fault
    ∙ sym (text_fault_found c.args.bytes.now c.loop-at.at c.loop-at-test.true (zero_test _ (sym (c.text_step-size.ensures.size ∙ ap text_step c.after.ensures) ∙ c.if-size-eq0.true)))
    ∙ c.loop-at.invariant

pub loop-at-preserved : goal.loop-at-preserved
loop-at-preserved c =
    sym (text_fault_later c.args.bytes.now c.loop-at.at c.text_step-size.result c.loop-at-test.true (sym (c.text_step-size.ensures.size ∙ ap text_step c.after.ensures)) (more_test _ (omega (arith, c.if-size-eq0.false))) (omega (arith, c.if-size-eq0.false)))
    ∙ c.loop-at.invariant

pub returns-clause-first : goal.returns-clause-first
returns-clause-first c = sym (text_fault_nowhere c.args.bytes.now c.loop-at.at (omega (arith, c.loop-at-test.false))) ∙ c.loop-at.invariant
