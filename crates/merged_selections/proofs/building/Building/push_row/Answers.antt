use Rattle.std.proofs.Common.{refl, ap, ◌∙◌, map, ◌∷◌}
use Rattle.std.specs.List.{list_any}
use Rattle.schema_model.specs.SchemaViews.{schema_data}
use Rattle.collected_fields.specs.Views.{collected_field, asks_in}
use Rattle.plan_table.specs.Tables.{setting_in}
use Rattle.merged_selections.proofs.BuiltNodes.{row_alike, row_pushed}
use Rattle.merged_selections.proofs.building.Building.push_row.Goals as goal

pub returns-clause-pushed : goal.returns-clause-pushed
returns-clause-pushed c = row_pushed c.args.self.now (record { collector = c.args.self.now.collector; plan = c.push.new.self; left = c.args.self.now.left; calls = c.args.self.now.calls; keys = c.row_key-2.new.self; known = c.args.self.now.known }) c.args.depth c.args.on.number c.args.first (c.args.field.now ∷ c.args.others.now) c.args.looked.now c.push.result _ c.push.ensures.pushed
    (row_alike (setting_in c.args.self.now.plan) _ c.args.depth c.args.on.number c.args.first (map collected_field (c.args.field.now ∷ c.args.others.now)) c.args.looked.now
    (c.in_ok-key.ensures ∙ c.key_of-text.ensures) (c.in_ok-name.ensures ∙ c.name_of-called.ensures)
    (c.any_asks-asked.ensures ∙ ap (λ s. list_any (asks_in (schema_data s.now)) (map collected_field (c.args.field.now ∷ c.args.others.now))) c.schema.ensures)
    refl refl refl refl c.size_from.ensures refl)
