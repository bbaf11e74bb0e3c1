-- What a check answers, and where operations have a type.
use Rattle.std.proofs.Common.{◌≡◌, List, None, Result, Ok, Err, IfOk, sym, subst}
use Rattle.document_reader.specs.declared.trees.Definition.{Definition}
use Rattle.document_reader.specs.declared.trees.Operation.{Operation}
use Rattle.schema_model.specs.SchemaData.{SchemaData}
use Rattle.document_rules.specs.declared.rule.RuleFault.{RuleFault}
use Rattle.document_rules.specs.declared.checking.Checked.{Checked}
use Rattle.document_rules.specs.Checking.{first_broken, IsCheckOf, IsChecked, AnswersBreach}

pub checked_is : (s : SchemaData) (ds : List Definition) (o : Operation) (r : Result Checked RuleFault) → AnswersBreach (IsCheckOf s ds o) r (first_broken s ds o) → IfOk r (IsChecked s)
checked_is s ds o (Err fault) answer = tt
checked_is s ds o (Ok c) answer =
    let document = sym answer.1.document in
    let operation = sym answer.1.operation in
    record {
      kept = subst (λ (ps : List Definition). first_broken s ps c.operation.now ≡ None) document (subst (λ (p : Operation). first_broken s ds p ≡ None) operation answer.0);
      of = subst (λ (ps : List Definition). IsCheckOf s ps c.operation.now c) document (subst (λ (p : Operation). IsCheckOf s ds p c) operation answer.1);
    }
