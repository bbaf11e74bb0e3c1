use Rattle.schema_facts.specs.FactsViews.{facts_data}
use Rattle.meta_schema.specs.PassedOn.{asked_nodes}
use Rattle.local_introspection.proofs.Answered.{is_count}
use Rattle.local_introspection.proofs.counting.count_answer.Goals as goal

pub returns : goal.returns
returns c = is_count (facts_data c.args.facts.now) (asked_nodes c.args.nodes.now) c.count_thing.new.left c.count_thing.result c.count_thing.ensures
