use Rattle.std.proofs.Common.{sym, ◌∙◌, subst}
use Rattle.client_files.specs.ClientLines.{Allows}
use Rattle.client_files.proofs.ClientLines.{same_read, not_read, true_not}
use Rattle.client_files.proofs.client_line.allowance_of.Goals as goal

pub returns-in_err-types-clause-none : goal.returns-in_err-types-clause-none
returns-in_err-types-clause-none c = rw (c.from_residual.ensures) (λ allowance spelled allowed. not_read c.read_allowance.result allowance.types (c.read_allowance.ensures.only _ spelled.types_spelled) (sym c.ok.ensures.value ∙ c.in_err-types.was))

pub returns-in_err-fields-clause-none : goal.returns-in_err-fields-clause-none
returns-in_err-fields-clause-none c = rw (c.from_residual-in_err-fields.ensures) (λ allowance spelled allowed. not_read c.read_allowance-2.result allowance.fields (c.read_allowance-2.ensures.only _ spelled.fields_spelled) (sym c.ok-2.ensures.value ∙ c.in_err-fields.was))

pub returns-else-allows-clause-none : goal.returns-else-allows-clause-none
returns-else-allows-clause-none c = λ allowance spelled allowed.
    let types = same_read c.read_allowance.result allowance.types c.in_ok-types.types (c.read_allowance.ensures.only _ spelled.types_spelled) (sym c.ok.ensures.value ∙ c.in_ok-types.was) in
    let fields = same_read c.read_allowance-2.result allowance.fields c.in_ok-fields.fields (c.read_allowance-2.ensures.only _ spelled.fields_spelled) (sym c.ok-2.ensures.value ∙ c.in_ok-fields.was) in
    let half = subst (λ t. Allows c.args.version (record { types = t; fields = allowance.fields }) c.args.carry) types allowed in
    true_not (c.if-allows.ensures.1 (subst (λ f. Allows c.args.version (record { types = c.in_ok-types.types; fields = f }) c.args.carry) fields half))
