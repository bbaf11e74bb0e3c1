use Rattle.schema_facts.specs.Things.{the_root}
use Rattle.local_introspection.proofs.Most.{answer_at_most}
use Rattle.local_introspection.proofs.laws.a_value_costs_one_at_most.Goals as goal

pub returns : goal.returns
returns c = λ f nodes part. answer_at_most f part nodes the_root
