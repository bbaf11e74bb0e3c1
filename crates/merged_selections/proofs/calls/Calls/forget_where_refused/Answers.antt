use Rattle.merged_selections.proofs.calls.Calls.forget_where_refused.Goals as goal

pub returns-then-self-ge-REFUSED : goal.returns-then-self-ge-REFUSED
returns-then-self-ge-REFUSED c = λ e kept. c.forget.ensures.kept e kept
