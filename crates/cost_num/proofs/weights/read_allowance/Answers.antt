use Rattle.std.proofs.Common.{subst}
use Rattle.cost_num.specs.declared.TheConstants.{CAP}
use Rattle.cost_num.specs.Amount.{Reads}
use Rattle.cost_num.proofs.AmountTexts.{read_amount_in}
use Rattle.cost_num.proofs.OneReading.{reads_same}
use Rattle.cost_num.proofs.weights.read_allowance.Goals as goal

pub returns-clause-only : goal.returns-clause-only
returns-clause-only c other reads =
    let found = subst (λ text. Reads CAP text c.read_amount.result) c.as_bytes.ensures.value c.read_amount.ensures in
    reads_same CAP c.args.text.now other _ reads found

pub returns-clause-amount : goal.returns-clause-amount
returns-clause-amount c =
    let found = subst (λ text. Reads CAP text c.read_amount.result) c.as_bytes.ensures.value c.read_amount.ensures in
    read_amount_in CAP c.args.text.now _ found
