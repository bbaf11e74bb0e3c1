use Rattle.std.proofs.Common.{◌∙◌, Some, None, sym}
use Rattle.schema_model.specs.SchemaViews.{schema_data}
use Rattle.collected_fields.specs.Views.{collected_field}
use Rattle.merged_selections.proofs.SomeFields.{asks_here, asks_behind, none_asks}
use Rattle.merged_selections.proofs.known.first_asking.Goals as goal

pub returns-then-asks : goal.returns-then-asks
returns-then-asks c = c.loop-field.invariant (Some (collected_field c.field-item.result)) (asks_here (schema_data c.args.schema.now) c.args.fields.now c.loop-field.field-index c.field-item.result c.loop-field-test.true c.field-item.is (sym c.asks.ensures ∙ c.if-asks.true))

pub loop-field-preserved : goal.loop-field-preserved
loop-field-preserved c = λ one is. c.loop-field.invariant one (asks_behind (schema_data c.args.schema.now) c.args.fields.now c.loop-field.field-index c.field-item.result c.loop-field-test.true c.field-item.is one (sym c.asks.ensures ∙ c.if-asks.false) is)

pub returns : goal.returns
returns c = c.loop-field.invariant None (none_asks (schema_data c.args.schema.now) c.args.fields.now c.loop-field.field-index c.loop-field-test.false)
