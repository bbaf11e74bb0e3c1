use Rattle.std.proofs.Common.{ap, ◌∙◌}
use Rattle.schema_model.specs.SchemaViews.{schema_data}
use Rattle.schema_model.specs.Arguments.{args_data}
use Rattle.document_rules.specs.Sites.{known_field}
use Rattle.plan_model.specs.SelectedFields.{form_of, handed_in}
use Rattle.collected_fields.specs.Views.{setting_of_planning}
use Rattle.merged_selections.specs.NodeParts.{handed_data}
use Rattle.merged_selections.specs.NodeTests.{IsFoundHere, args_in, name_seen}
use Rattle.merged_selections.proofs.NodeSizes.{looks_past_size, size_is_told}
use Rattle.merged_selections.proofs.node.after_arguments.Goals as goal

pub returns-in-Ok : goal.returns-in-Ok
returns-in-Ok c = λ here.
    let e = setting_of_planning c.args.planning.now in
    looks_past_size e c.args.of.number (handed_data c.args.handed) (name_seen c.args.planning.now c.args.of c.args.first.now) (args_in e c.args.call.now) (args_data c.args.call.now.sizes) here.sized c.handed_in-taken.result
    (c.handed_in-taken.ensures ∙ ap (λ n. handed_in (form_of (schema_data c.args.planning.now.schema.now) (known_field c.args.of.number)) (handed_data c.args.handed) n) c.name_of.ensures)
    c.declared_size.result c.declared_size.ensures (IsFoundHere c.args.planning.now c.args.of c.args.handed c.args.first.now c.args.call.now) c.after_size.result _ c.source_at-source.result c.in-Ok.is c.source_at-source.ensures (c.after_size.ensures here)

pub returns-in-Err : goal.returns-in-Err
returns-in-Err c = λ here.
    let e = setting_of_planning c.args.planning.now in
    size_is_told e c.args.of.number (handed_data c.args.handed) (name_seen c.args.planning.now c.args.of c.args.first.now) (args_in e c.args.call.now) (args_data c.args.call.now.sizes) here.sized c.handed_in-taken.result
    (c.handed_in-taken.ensures ∙ ap (λ n. handed_in (form_of (schema_data c.args.planning.now.schema.now) (known_field c.args.of.number)) (handed_data c.args.handed) n) c.name_of.ensures)
    c.declared_size.result c.declared_size.ensures c.in-Err.fault c.in-Err.is
