-- The texts of why an operation isn't answered from the gateway's own schema.
use Rattle.std.specs.Prelude.{ℕ, List, [], codes}
use Rattle.document_rules.specs.declared.rule.RuleFault.{RuleFault}
use Rattle.document_rules.specs.declared.rule.RuleFault.TheVariants as rule
use Rattle.document_rules.specs.Names.{rule_number, rule_name}
use Rattle.variable_coercion.specs.declared.faults.CoerceFault.{CoerceFault}
use Rattle.variable_coercion.specs.declared.faults.CoerceFault.TheVariants as variable
use Rattle.acceptance.specs.PassedOn.{PlanFault, Argument as PlanArgument, Conflict as PlanConflict, Memory as PlanMemory, NoPossibleType as PlanNoPossibleType, Size as PlanSize, TooDeep as PlanTooDeep, TooLarge as PlanTooLarge}
use Rattle.acceptance.specs.Texts.{placed, beside, naming, argument_text, size_text}
use Rattle.local_introspection.specs.declared.fault.LocalFault.{LocalFault}
use Rattle.local_introspection.specs.declared.fault.LocalFault.TheVariants.{Mixed, Rule, Variable, Plan, TooLarge, Memory}

-- want of memory has no text

abbrev pub local_rule_text : RuleFault → List ℕ
local_rule_text (rule.Broken name at) = placed (beside (placed (codes "local 2 Rule") (rule_number name)) (rule_name name)) at
local_rule_text rule.Memory = []

abbrev pub local_variable_text : CoerceFault → List ℕ
local_variable_text (variable.Missing name) = naming (codes "local 3 Variable 1 Missing") name
local_variable_text (variable.BadValue path) = naming (codes "local 3 Variable 2 BadValue") path
local_variable_text (variable.TooLarge name) = naming (codes "local 3 Variable 3 TooLarge") name
local_variable_text variable.Memory = []

abbrev pub local_plan_text : PlanFault → List ℕ
local_plan_text (PlanArgument at fault) = beside (naming (codes "local 4 Plan 1 Argument") at) (argument_text fault)
local_plan_text (PlanConflict at) = naming (codes "local 4 Plan 2 Conflict") at
local_plan_text (PlanSize at fault) = beside (naming (codes "local 4 Plan 3 Size") at) (size_text fault)
local_plan_text (PlanNoPossibleType at) = naming (codes "local 4 Plan 4 NoPossibleType") at
local_plan_text PlanTooLarge = codes "local 4 Plan 5 TooLarge"
local_plan_text (PlanTooDeep at) = naming (codes "local 4 Plan 6 TooDeep") at
local_plan_text PlanMemory = []

-- the stage, the number of the fault, its name and what it holds
abbrev pub local_text : LocalFault → List ℕ
local_text (Mixed at) = placed (codes "local 1 Mixed") at
local_text (Rule fault) = local_rule_text fault
local_text (Variable fault) = local_variable_text fault
local_text (Plan fault) = local_plan_text fault
local_text TooLarge = codes "local 5 TooLarge"
local_text Memory = []
