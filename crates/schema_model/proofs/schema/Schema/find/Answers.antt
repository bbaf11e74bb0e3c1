use Rattle.std.proofs.Common.{sym, ◌∙◌}
use Rattle.std.specs.Str.{bytes_eq}
use Rattle.schema_model.specs.Entries.{type_data}
use Rattle.schema_model.proofs.NamedDrafts.{position_view}
use Rattle.schema_model.proofs.schema.Schema.find.Goals as goal

pub returns-in-Some : goal.returns-in-Some
returns-in-Some c = sym c.in-Some.is ∙ (c.position.ensures.place ∙ position_view type_data (λ t. bytes_eq t.name c.args.name.now) 0 c.args.self.now.types.items.items)

pub returns-in-None : goal.returns-in-None
returns-in-None c = sym c.in-None.is ∙ (c.position.ensures.place ∙ position_view type_data (λ t. bytes_eq t.name c.args.name.now) 0 c.args.self.now.types.items.items)
