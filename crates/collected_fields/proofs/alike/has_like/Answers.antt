use Rattle.schema_model.specs.SchemaViews.{schema_data}
use Rattle.collected_fields.proofs.AlikeLaws.{like_at}
use Rattle.collected_fields.proofs.alike.has_like.Goals as goal

pub returns-then-looks_like : goal.returns-then-looks_like
returns-then-looks_like c = λ is. like_at (schema_data c.args.schema.now) c.args.fields.now c.loop-at.at c.args.field.now c.index-fields-at.result c.loop-at-test.true c.index-fields-at.is (c.if-looks_like.ensures is)
