use Rattle.account_journal.proofs.reading.settled_account.Goals as goal

pub returns-clause-step : goal.returns-clause-step
returns-clause-step c l number s stands is_open = c.settle.ensures.step l s c.args.of.client number stands is_open
