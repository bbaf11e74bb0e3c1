use Rattle.std.proofs.Common.{◌∙◌, ap, map}
use Rattle.std.proofs.lemmas.Result.{IfOk-weaker}
use Rattle.collected_fields.specs.Grouping.{fields_grouped}
use Rattle.collected_fields.specs.Walks.{numbered, numbered_by_key}
use Rattle.collected_fields.proofs.CollectLaws.{grouped_from}
use Rattle.collected_fields.proofs.collector.Collector.fields_by_key.Goals as goal

pub returns-clause-found : goal.returns-clause-found
returns-clause-found c = IfOk-weaker c.group_by_key.result _ _ (λ groups grouped. grouped_from c.args.self.now c.args.of.number c.args.numbers.now (map numbered c.walk_over.new.self.walk.fields.items) (fields_grouped groups) c.in_ok-walk_over.ensures.come
    (grouped ∙ ap (λ fs. numbered_by_key (map numbered fs)) c.as_slice-fields.ensures.value)) c.group_by_key.ensures
