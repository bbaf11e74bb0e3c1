use Rattle.local_introspection.proofs.RequestAnswers.{found_asked}
use Rattle.local_introspection.proofs.answering.asked.Goals as goal

pub returns : goal.returns
returns c = found_asked c.args.facts.now c.args.checked.now c.args.variables.now c.types-names.result.now.items.items c.types-names.ensures c.ask.result c.ask.ensures
