use Rattle.std.proofs.Common.{ap, ◌∙◌, map}
use Rattle.document_reader.specs.declared.trees.Operation.{Operation}
use Rattle.document_rules.specs.Parts.{fragment_data}
use Rattle.input_values.specs.declared.inputs.shape.TypeId.{TypeId}
use Rattle.collected_fields.specs.Views.{fragment_seen}
use Rattle.merged_selections.proofs.BuiltPlans.{own_answers, shorter_answers}
use Rattle.merged_selections.proofs.build.build_plan.Goals as goal

pub returns-clause-answer : goal.returns-clause-answer
returns-clause-answer c = shorter_answers c.args.schema.now c.args.weights.now c.args.checked.now c.args.variables.now c.requires.checked c.fragments-reached.result.now (map fragment_seen c.as_slice-2.result.now) (map fragment_data c.in_ok-distinct.distinct.fragments.items) c.as_slice-selections.result.now c.as_slice-3.result.now c.in_ok-distinct.distinct.selections.items
    c.root-2.result.number c.build_from-2.result c.fragments-reached.ensures (c.as_slice-selections.ensures.value ∙ ap (λ (o : Operation). o.selections.items) c.operation.ensures) (ap (λ (r : TypeId). r.number) c.root-2.ensures)
    (ap (map fragment_seen) c.as_slice-2.ensures.value ∙ (c.in_ok-fragments.ensures ∙ ap (map fragment_data) c.as_slice.ensures.value)) c.as_slice-3.ensures.value c.in_ok-distinct.ensures.selections c.in_ok-distinct.ensures.fragments c.build_from-2.ensures.answer

pub returns-then-are_few-clause-answer : goal.returns-then-are_few-clause-answer
returns-then-are_few-clause-answer c = own_answers c.args.schema.now c.args.weights.now c.args.checked.now c.args.variables.now c.requires.checked c.fragments-reached.result.now c.as_slice-selections.result.now c.root.result.number c.build_from.result
    c.fragments-reached.ensures (c.as_slice-selections.ensures.value ∙ ap (λ (o : Operation). o.selections.items) c.operation.ensures) (ap (λ (r : TypeId). r.number) c.root.ensures) c.build_from.ensures.answer
