use Rattle.std.proofs.Common.{◌+◌, ◌∙◌, sym, ap, arith, drop}
use Rattle.gql_base.specs.lexical.Scans.{closed_at}
use Rattle.gql_base.proofs.LexicalLaws.StringScans.{string_breaks, string_goes_on, string_stays_open, closes_unescaped}
use Rattle.gql_base.proofs.lexical.strings.string_closing.Goals as goal

pub returns-then-is_unescaped-clause-place : goal.returns-then-is_unescaped-clause-place
returns-then-is_unescaped-clause-place c =
    sym (closes_unescaped c.loop-at.escaped c.args.bytes.now c.loop-at.at c.loop-at-test.true (sym c.is_unescaped.ensures ∙ c.if-is_unescaped.true)) ∙ c.loop-at.invariant

pub returns-then-is_line_end-clause-place : goal.returns-then-is_line_end-clause-place
returns-then-is_line_end-clause-place c =
    sym (string_breaks c.loop-at.escaped c.args.bytes.now c.loop-at.at c.loop-at-test.true (sym c.is_unescaped.ensures ∙ c.if-is_unescaped.false) (sym c.is_line_end.ensures ∙ c.if-is_line_end.true)) ∙ c.loop-at.invariant

pub loop-at-preserved : goal.loop-at-preserved
loop-at-preserved c =
    ap (λ e. closed_at e (c.loop-at.at + 1) (drop (c.loop-at.at + 1) c.args.bytes.now)) c.is_unescaped-escaped.ensures
    ∙ sym (string_goes_on c.loop-at.escaped c.args.bytes.now c.loop-at.at c.loop-at-test.true (sym c.is_unescaped.ensures ∙ c.if-is_unescaped.false) (sym c.is_line_end.ensures ∙ c.if-is_line_end.false)) ∙ c.loop-at.invariant

pub returns-clause-place : goal.returns-clause-place
returns-clause-place c = sym (string_stays_open c.loop-at.escaped c.args.bytes.now c.loop-at.at (omega (arith, c.loop-at-test.false))) ∙ c.loop-at.invariant
