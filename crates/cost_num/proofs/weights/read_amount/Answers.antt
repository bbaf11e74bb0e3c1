use Rattle.std.proofs.Common.{◌∙◌}
use Rattle.cost_num.proofs.FirstFaults.{first_misfit, first_fine_fault, first_large_fault}
use Rattle.cost_num.proofs.weights.read_amount.Goals as goal

pub returns-in-Err : goal.returns-in-Err
returns-in-Err c =
    let head = c.in-Some.ensures.item.3 in
    first_misfit c.args.greatest c.args.text.now c.in-Err.at c.misfit.result head.0 (λ minus. c.if-first-eq45.false (head.1 0 ∙ minus)) c.in-Err.ensures.stops c.misfit.ensures

pub returns-in-Some-first_too_fine : goal.returns-in-Some-first_too_fine
returns-in-Some-first_too_fine c = first_fine_fault c.args.greatest c.args.text.now _ _ c.in-Some-first_too_fine.place c.in-Ok.ensures.parts c.in-Some-first_too_fine.ensures.found

pub returns-else-amount-greatest : goal.returns-else-amount-greatest
returns-else-amount-greatest c = first_large_fault c.args.greatest c.amount_capped-amount.result c.args.text.now _ _ c.in-Ok.ensures.parts c.in_default-first_too_fine.ensures.none c.amount_capped-amount.ensures c.if-amount-greatest.false c.requires
