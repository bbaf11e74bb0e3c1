-- Answers that were counted, as they will be written.
use Rattle.std.specs.Prelude.{List}
use Rattle.cost_num.specs.declared.Cost.{Cost}
use Rattle.meta_schema.specs.PassedOn.{AskedNode, asked_nodes}
use Rattle.schema_facts.specs.FactsViews.{facts_data}
use Rattle.local_introspection.specs.declared.answering.Counted.{Counted}
use Rattle.local_introspection.specs.declared.facts.Facts.{Facts}
use Rattle.local_introspection.specs.declared.walk.Local.{Local}
use Rattle.local_introspection.specs.Walking.{answer_text}

-- the answer to what these nodes ask, at a cost
abbrev pub answer_at : Facts → List AskedNode → Cost → Local
answer_at facts nodes cost = record { cost = cost; text = answer_text (facts_data facts.known) (asked_nodes nodes) }

abbrev pub answer_counted : Counted → Local
answer_counted c = answer_at c.facts.now c.nodes.items c.cost
