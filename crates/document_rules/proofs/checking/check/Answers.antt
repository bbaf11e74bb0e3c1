use Rattle.std.proofs.Common.{sym, ap, ◌∙◌, subst}
use Rattle.std.specs.Prelude.{option_map}
use Rattle.std.proofs.lemmas.Option.{same_Some}
use Rattle.document_reader.specs.declared.trees.Operation.{Operation}
use Rattle.schema_model.specs.SchemaViews.{schema_data}
use Rattle.document_rules.specs.Parts.{operation_at}
use Rattle.document_rules.specs.Checking.{first_broken, IsCheckOf, AnswersBreach}
use Rattle.document_rules.proofs.CheckSteps.{checked_is}
use Rattle.document_rules.proofs.checking.check.Goals as goal

pub returns-clause-answer : goal.returns-clause-answer
returns-clause-answer c = λ o is. subst (λ (x : Operation). AnswersBreach (IsCheckOf (schema_data c.args.schema.now) c.args.document.now.definitions.items x) c.check_operation.result (first_broken (schema_data c.args.schema.now) c.args.document.now.definitions.items x))
    (same_Some _ _ (ap (option_map (λ x. x.now)) (sym c.in-Some.is) ∙ (c.operation_at.ensures ∙ (ap (λ l. operation_at l c.args.picked) c.as_slice.ensures.value ∙ is)))) c.check_operation.ensures

pub returns-clause-checked : goal.returns-clause-checked
returns-clause-checked c = checked_is (schema_data c.args.schema.now) c.args.document.now.definitions.items c.in-Some.operation.now c.check_operation.result c.check_operation.ensures
