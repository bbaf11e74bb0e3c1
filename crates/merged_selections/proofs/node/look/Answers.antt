use Rattle.std.proofs.Common.{map, Some, sym, ap, ◌∙◌, refl}
use Rattle.schema_model.specs.SchemaViews.{schema_data}
use Rattle.document_rules.specs.Sites.{meaning_on}
use Rattle.collected_fields.specs.Views.{setting_of_planning, collected_field}
use Rattle.merged_selections.specs.NodeParts.{meaning_seen, handed_data}
use Rattle.merged_selections.specs.NodeTests.{names_not}
use Rattle.merged_selections.proofs.NodeFaults.{looks_at_field, name_is_planned, no_field_is_told}
use Rattle.merged_selections.proofs.node.look.Goals as goal

pub returns-in-Known-clause-looks : goal.returns-in-Known-clause-looks
returns-in-Known-clause-looks c = λ kept. looks_at_field (setting_of_planning c.args.planning.now) c.args.of.number c.in-Known.field.number (handed_data c.args.handed) (collected_field c.args.first.now) (map collected_field c.args.others.now)
    (ap (λ n. meaning_on (schema_data c.args.planning.now.schema.now) (Some c.args.of.number) n) (sym c.name_of-name.ensures) ∙ (sym c.meaning_on.ensures ∙ ap meaning_seen c.in-Known.is))
    (ap (λ n. names_not n (map collected_field c.args.others.now)) (sym c.name_of-name.ensures) ∙ (sym c.names_differ.ensures ∙ c.if-names_differ.false))
    c.after_names.result (c.after_names.ensures.looks kept)

pub returns-in-NameOfType-clause-looks : goal.returns-in-NameOfType-clause-looks
returns-in-NameOfType-clause-looks c = λ kept. name_is_planned (setting_of_planning c.args.planning.now) c.args.of.number (handed_data c.args.handed) (collected_field c.args.first.now) (map collected_field c.args.others.now)
    (ap (λ n. names_not n (map collected_field c.args.others.now)) (sym c.name_of-name.ensures) ∙ (sym c.names_differ.ensures ∙ c.if-names_differ.false))
    _
    (ap (λ n. meaning_on (schema_data c.args.planning.now.schema.now) (Some c.args.of.number) n) (sym c.name_of-name.ensures) ∙ (sym c.meaning_on.ensures ∙ ap meaning_seen c.in-NameOfType.is))
    refl refl refl refl

pub returns-in-NoSuchField-clause-looks : goal.returns-in-NoSuchField-clause-looks
returns-in-NoSuchField-clause-looks c = λ kept. no_field_is_told (setting_of_planning c.args.planning.now) c.args.of.number (handed_data c.args.handed) (collected_field c.args.first.now) (map collected_field c.args.others.now)
    (ap (λ n. names_not n (map collected_field c.args.others.now)) (sym c.name_of-name.ensures) ∙ (sym c.names_differ.ensures ∙ c.if-names_differ.false))
    (ap (λ n. meaning_on (schema_data c.args.planning.now.schema.now) (Some c.args.of.number) n) (sym c.name_of-name.ensures) ∙ (sym c.meaning_on.ensures ∙ ap meaning_seen c.in-NoSuchField.is))
