use Rattle.std.proofs.Common.{sym, ◌∙◌}
use Rattle.schema_model.specs.SchemaViews.{schema_data}
use Rattle.cost_directives.specs.WeightViews.{weights_data}
use Rattle.meta_schema.specs.MetaTests.{is_field}
use Rattle.meta_schema.proofs.Numbers.{first_passes, first_fails}
use Rattle.meta_schema.proofs.testing.are_fields.Goals as goal

pub returns-then-not-is_field : goal.returns-then-not-is_field
returns-then-not-is_field c =
    first_fails (is_field (schema_data c.args.schema.now) (weights_data c.args.weights.now)) c.fields.number c.args.count _ c.fields-test.true (sym c.is_field.ensures ∙ c.if-not-is_field.true) c.fields.invariant

pub fields-preserved : goal.fields-preserved
fields-preserved c =
    first_passes (is_field (schema_data c.args.schema.now) (weights_data c.args.weights.now)) c.fields.number c.args.count _ c.fields-test.true (sym c.is_field.ensures ∙ c.if-not-is_field.false) c.fields.invariant
