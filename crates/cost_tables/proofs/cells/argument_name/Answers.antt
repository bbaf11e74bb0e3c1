use Rattle.std.proofs.Common.{◌∙◌, sym, ap}
use Rattle.schema_model.specs.SchemaViews.{schema_data}
use Rattle.schema_model.specs.SchemaData.{field_at}
use Rattle.cost_tables.specs.Cells.{argument_name}
use Rattle.cost_tables.proofs.Written.{name_at}
use Rattle.cost_tables.proofs.cells.argument_name.Goals as goal

pub returns-in-Some-get : goal.returns-in-Some-get
returns-in-Some-get c = let h = c.in-Some-get.ensures.lookup in
    c.as_str.ensures
    ∙ (name_at c.arguments.result.now (field_at (schema_data c.args.schema.now) c.in-Some.field.number).arguments c.args.place c.in-Some-get.argument.now c.arguments.ensures h.3.0 h.1
    ∙ ap (λ field. argument_name (schema_data c.args.schema.now) field c.args.place) (sym c.in-Some.is))
