use Rattle.std.proofs.Common.{◌∙◌, sym, ap, arith}
use Rattle.gql_base.specs.lexical.Strings.{begins_with_marks}
use Rattle.gql_base.proofs.LexicalLaws.StringScans.{block_closes, block_passes, block_goes_on, block_stays_open}
use Rattle.gql_base.proofs.lexical.strings.block_closing.Goals as goal

pub returns-then-begins_with_marks-clause-place : goal.returns-then-begins_with_marks-clause-place
returns-then-begins_with_marks-clause-place c =
    sym (block_closes c.args.bytes.now c.loop-at.at c.loop-at-test.true (ap begins_with_marks (sym c.after.ensures) ∙ sym c.begins_with_marks.ensures.test ∙ c.if-begins_with_marks.true)) ∙ c.loop-at.invariant

pub loop-at-preserved-then-escapes_marks : goal.loop-at-preserved-then-escapes_marks
loop-at-preserved-then-escapes_marks c =
    sym (block_passes c.args.bytes.now c.loop-at.at c.loop-at-test.true (ap begins_with_marks (sym c.after.ensures) ∙ sym c.begins_with_marks.ensures.test ∙ c.if-begins_with_marks.false) (sym c.escapes_marks.ensures.test ∙ c.if-escapes_marks.true)) ∙ c.loop-at.invariant

pub loop-at-preserved : goal.loop-at-preserved
loop-at-preserved c =
    sym (block_goes_on c.args.bytes.now c.loop-at.at c.loop-at-test.true (ap begins_with_marks (sym c.after.ensures) ∙ sym c.begins_with_marks.ensures.test ∙ c.if-begins_with_marks.false) (sym c.escapes_marks.ensures.test ∙ c.if-escapes_marks.false)) ∙ c.loop-at.invariant

pub returns-clause-place : goal.returns-clause-place
returns-clause-place c = sym (block_stays_open c.args.bytes.now c.loop-at.at (omega (arith, c.loop-at-test.false))) ∙ c.loop-at.invariant
