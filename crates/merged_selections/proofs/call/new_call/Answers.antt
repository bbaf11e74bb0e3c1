use Rattle.merged_selections.proofs.call.new_call.Goals as goal

pub returns-in-Ok-sizes_of-clause-call : goal.returns-in-Ok-sizes_of-clause-call
returns-in-Ok-sizes_of-clause-call c = λ scaled. c.call_by.ensures (c.in-Ok-sizes_of.ensures (c.in-Ok.ensures.cost scaled).0) (c.in-Ok.ensures.cost scaled)
