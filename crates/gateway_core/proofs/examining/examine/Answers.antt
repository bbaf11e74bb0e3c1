use Rattle.gateway_core.proofs.examining.examine.Goals as goal

pub returns-in-Err-clause-unfit : goal.returns-in-Err-clause-unfit
returns-in-Err-clause-unfit c = c.told.ensures c.args.body.now c.in-Err.ensures.unfit
