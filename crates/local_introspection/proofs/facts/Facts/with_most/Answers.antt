use Rattle.local_introspection.proofs.NamedFacts.{same_facts}
use Rattle.local_introspection.proofs.facts.Facts.with_most.Goals as goal

pub returns : goal.returns
returns c = same_facts c.args.self c.args.most _
