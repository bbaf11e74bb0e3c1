use Rattle.std.proofs.Common.{Some, sym, ◌∙◌}
use Rattle.account_journal.specs.Records.{grant_record, settlement_record}
use Rattle.account_journal.proofs.Spelling.{zero_from, reads_grant, reads_settlement, reads_no_kind, reads_no_rest}
use Rattle.account_journal.proofs.records.record_of.Goals as goal

pub returns-then-not-are_zero : goal.returns-then-not-are_zero
returns-then-not-are_zero c = sym (reads_no_rest c.args.body.now (sym (zero_from c.args.body.now 29 34 c.told-body) ∙ sym c.are_zero.ensures ∙ c.if-not-are_zero.true))

pub returns-then-body-eq1 : goal.returns-then-body-eq1
returns-then-body-eq1 c =
    let rest = sym (zero_from c.args.body.now 29 34 c.told-body) ∙ sym c.are_zero.ensures ∙ c.if-not-are_zero.false in
    (λ i. Some (grant_record (c.client_of.ensures i) (c.number_at.ensures i) (c.cost_of.ensures i))) ∙ sym (reads_grant c.args.body.now rest c.if-body-eq1.true)

pub returns-then-body-eq2 : goal.returns-then-body-eq2
returns-then-body-eq2 c =
    let rest = sym (zero_from c.args.body.now 29 34 c.told-body) ∙ sym c.are_zero.ensures ∙ c.if-not-are_zero.false in
    (λ i. Some (settlement_record (c.client_of-then-body-eq2.ensures i) (c.number_at-then-body-eq2.ensures i) (c.cost_of-then-body-eq2.ensures i))) ∙ sym (reads_settlement c.args.body.now rest c.if-body-eq2.true)

pub returns-else-body-eq2 : goal.returns-else-body-eq2
returns-else-body-eq2 c = sym (reads_no_kind c.args.body.now c.if-body-eq1.false c.if-body-eq2.false)
