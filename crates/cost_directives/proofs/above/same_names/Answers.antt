use Rattle.cost_directives.proofs.NamesAgree.{other_lengths}
use Rattle.cost_directives.proofs.above.same_names.Goals as goal

pub returns-then-names-others : goal.returns-then-names-others
returns-then-names-others c = other_lengths c.args.names.now c.args.others.now c.if-names-others.true
