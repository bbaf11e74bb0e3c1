use Rattle.std.proofs.Common.{sym, ◌∙◌, subst}
use Rattle.account_shared.specs.Views.{Belongs}
use Rattle.served_rows.proofs.gates.gate_of.Goals as goal

pub returns-clause-belong : goal.returns-clause-belong
returns-clause-belong c = subst (Belongs c.in_ok-gate.passes) (sym (c.with_most_work-gate.ensures.accounts ∙ (c.with_schema.ensures ∙ c.with_list.ensures))) c.in_ok-gate.ensures.belong
