-- The texts of refusals are one line: behind its first words each says what a refusal of another request says.
use Rattle.std.proofs.Common.{◌≡◌, true, refl}
use Rattle.gql_base.specs.printing.OneLine.{is_one_line}
use Rattle.document_reader.specs.declared.document.DocFault.TheVariants as document
use Rattle.document_rules.specs.declared.rule.RuleFault.{RuleFault}
use Rattle.document_rules.specs.declared.rule.RuleFault.TheVariants as rule
use Rattle.variable_coercion.specs.declared.faults.CoerceFault.{CoerceFault}
use Rattle.variable_coercion.specs.declared.faults.CoerceFault.TheVariants as variable
use Rattle.acceptance.specs.PassedOn.{PlanFault, Argument as PlanArgument, Conflict as PlanConflict, Memory as PlanMemory, NoPossibleType as PlanNoPossibleType, Size as PlanSize, TooDeep as PlanTooDeep, TooLarge as PlanTooLarge}
use Rattle.acceptance.specs.declared.fault.Refusal.{Refusal}
use Rattle.acceptance.specs.declared.fault.Refusal.TheVariants as refusal
use Rattle.acceptance.specs.Texts.{refusal_text}
use Rattle.local_introspection.specs.declared.fault.LocalFault.{LocalFault}
use Rattle.local_introspection.specs.declared.fault.LocalFault.TheVariants.{Mixed, Rule, Variable, Plan, TooLarge, Memory}
use Rattle.local_introspection.specs.LocalTexts.{local_rule_text, local_variable_text, local_plan_text, local_text}

module _ (plain : (r : Refusal) → is_one_line (refusal_text r) ≡ true) where
  rule_plain : (fault : RuleFault) → is_one_line (local_rule_text fault) ≡ true
  unfolding is_one_line
  rule_plain (rule.Broken name at) = plain (refusal.Rule (rule.Broken name at))
  rule_plain rule.Memory = refl

  variable_plain : (fault : CoerceFault) → is_one_line (local_variable_text fault) ≡ true
  unfolding is_one_line
  variable_plain (variable.Missing name) = plain (refusal.Variable (variable.Missing name))
  variable_plain (variable.BadValue path) = plain (refusal.Variable (variable.BadValue path))
  variable_plain (variable.TooLarge name) = plain (refusal.Variable (variable.TooLarge name))
  variable_plain variable.Memory = refl

  plan_plain : (fault : PlanFault) → is_one_line (local_plan_text fault) ≡ true
  unfolding is_one_line
  plan_plain (PlanArgument at fault) = plain (refusal.Plan (PlanArgument at fault))
  plan_plain (PlanConflict at) = plain (refusal.Plan (PlanConflict at))
  plan_plain (PlanSize at fault) = plain (refusal.Plan (PlanSize at fault))
  plan_plain (PlanNoPossibleType at) = plain (refusal.Plan (PlanNoPossibleType at))
  plan_plain PlanTooLarge = refl
  plan_plain (PlanTooDeep at) = plain (refusal.Plan (PlanTooDeep at))
  plan_plain PlanMemory = refl

  pub local_plain : (fault : LocalFault) → is_one_line (local_text fault) ≡ true
  unfolding is_one_line
  local_plain (Mixed at) = plain (refusal.Document (document.Unexpected at))
  local_plain (Rule fault) = rule_plain fault
  local_plain (Variable fault) = variable_plain fault
  local_plain (Plan fault) = plan_plain fault
  local_plain TooLarge = refl
  local_plain Memory = refl
