use Rattle.schema_model.specs.SchemaViews.{schema_data}
use Rattle.cost_directives.specs.WeightViews.{weights_data}
use Rattle.meta_schema.proofs.Kept.{finds_fields, is_named, is_tested, are_free}
use Rattle.meta_schema.proofs.schema.MetaSchema.make.Goals as goal

pub invariant_of-result-clause-tested : goal.invariant_of-result-clause-tested
invariant_of-result-clause-tested c =
    is_tested c.args.query.now (schema_data c.in_ok-schema.schema) (weights_data c.in_ok-weights.weights) c.in_ok-tested.ensures

pub invariant_of-result-clause-finds : goal.invariant_of-result-clause-finds
invariant_of-result-clause-finds c = finds_fields c.args.query.now c.in_ok-schema.schema c.in_ok-schema.ensures

pub invariant_of-result-clause-free : goal.invariant_of-result-clause-free
invariant_of-result-clause-free c =
    are_free c.args.query.now (schema_data c.in_ok-schema.schema) (weights_data c.in_ok-weights.weights) c.in_ok-tested.ensures c.in_ok-weights.ensures

pub returns : goal.returns
returns c = record {
  schema = c.in_ok-schema.ensures;
  weights = c.in_ok-weights.ensures;
  named = is_named c.args.query.now (schema_data c.in_ok-schema.schema) (weights_data c.in_ok-weights.weights) c.in_ok-tested.ensures;
}
