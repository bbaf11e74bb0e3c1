use Rattle.std.proofs.Common.{Some, refl, ap, ◌∙◌, subst, List}
use Rattle.gql_base.specs.names.Names.{place_of_name}
use Rattle.document_reader.specs.declared.trees.Operation.{Operation}
use Rattle.document_reader.specs.declared.trees.Selection.{Selection}
use Rattle.document_reader.specs.Trees.{set_tree}
use Rattle.input_values.specs.declared.inputs.shape.TypeId.{TypeId}
use Rattle.plan_model.specs.Collecting.{WrittenSelections}
use Rattle.collected_fields.specs.Gathering.{HasOne}
use Rattle.asked_fields.proofs.Operations.{root_may_be_asked, operation_found}
use Rattle.asked_fields.proofs.operation.ask.Goals as goal

pub returns : goal.returns
returns g c =
    let written = ap (λ (r : TypeId). (Some r.number, set_tree c.as_slice-selections.result.now)) c.root-root.ensures
    ∙ ap (λ (ss : List Selection). (Some c.args.checked.now.root.number, set_tree ss)) (c.as_slice-selections.ensures.value ∙ ap (λ (o : Operation). o.selections.items) c.operation.ensures) in
    let one = subst (λ (w : WrittenSelections). HasOne c.in_ok-collector.collector c.in_ok-collector.list w) written c.in_ok-collector.ensures.root in
    operation_found c.args.schema.now c.args.weights.now c.args.checked.now c.args.variables.now c.requires.checked _ c.in_ok-collector.collector c.in_ok-collector.list c.in_ok-collector.ensures.planning refl refl refl c.fragments.ensures one
    (place_of_name g.N.Named.name_of c.args.names.now.items.items) c.root-root.result.number c.in_ok-nodes.nodes.items (ap (λ (r : TypeId). r.number) c.root-root.ensures)
    (c.in_ok-nodes.ensures.asked c.in_ok-collector.ensures.ready (root_may_be_asked c.args.schema.now c.args.weights.now c.args.checked.now c.args.variables.now c.requires.checked _ c.in_ok-collector.collector c.in_ok-collector.list c.in_ok-collector.ensures.planning refl refl refl c.fragments.ensures one))
