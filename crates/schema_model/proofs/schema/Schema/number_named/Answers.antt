use Rattle.std.proofs.Common.{option_map, length, sym, ap, ◌∙◌}
use Rattle.std.proofs.lemmas.List.{length-map}
use Rattle.schema_model.specs.Drafts.{or_past}
use Rattle.schema_model.specs.Entries.{type_data}
use Rattle.schema_model.specs.Numbers.{type_number}
use Rattle.schema_model.specs.SchemaViews.{schema_data}
use Rattle.schema_model.proofs.schema.Schema.number_named.Goals as goal

pub returns-in-Some : goal.returns-in-Some
returns-in-Some c = ap (or_past (schema_data c.args.self.now).types) (ap (option_map type_number) (sym c.in-Some.is) ∙ c.find.ensures)

pub returns-in-None : goal.returns-in-None
returns-in-None c = ap length c.items.ensures ∙ (sym (length-map c.args.self.now.types.items.items type_data)
    ∙ ap (or_past (schema_data c.args.self.now).types) (ap (option_map type_number) (sym c.in-None.is) ∙ c.find.ensures))
