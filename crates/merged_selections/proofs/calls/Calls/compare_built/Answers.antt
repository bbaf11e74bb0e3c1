use Rattle.merged_selections.proofs.calls.Calls.compare_built.Goals as goal

pub returns-clause-kept : goal.returns-clause-kept
returns-clause-kept c = λ gives kept. (kept.0, kept.1, kept.2, gives)
