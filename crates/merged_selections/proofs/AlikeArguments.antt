-- Fields that are given the same have the same arguments.
use Rattle.std.proofs.Common.{◌≡◌, ℕ, List, map, Result, sym, ap, ◌∙◌, subst}
use Rattle.gql_base.specs.declared.parts.trees.Argument.{Argument}
use Rattle.gql_base.specs.parts.Trees.{named_value}
use Rattle.schema_model.specs.declared.args.Args.{Args}
use Rattle.schema_model.specs.Arguments.{args_data}
use Rattle.variable_coercion.specs.declared.faults.ArgFault.{ArgFault}
use Rattle.variable_coercion.specs.Arguments.{arguments_answer}
use Rattle.variable_coercion.specs.Calls.{AnswersRefusal, argument_told}
use Rattle.plan_model.specs.SelectedFields.{Setting, coerced_arguments}
use Rattle.plan_model.proofs.GivenArguments.{same_arguments_written}

pub answers_coerced : (e : Setting) (field : ℕ) (written listed : List Argument) (result : Result Args ArgFault) → listed ≡ written → AnswersRefusal args_data argument_told result (arguments_answer e.schema field listed e.values) → AnswersRefusal args_data argument_told result (coerced_arguments e.schema field (map named_value written) e.values)
answers_coerced e field written listed result same h = subst (λ a. AnswersRefusal args_data argument_told result a) (ap (λ l. arguments_answer e.schema field l e.values) same ∙ sym (same_arguments_written e.schema field written e.values)) h
