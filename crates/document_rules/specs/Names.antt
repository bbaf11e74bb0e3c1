-- The numbers and names of the rules.
use Rattle.std.specs.Prelude.{ℕ, List, codes}
use Rattle.document_rules.specs.declared.rule.Rule.{Rule}
use Rattle.document_rules.specs.declared.rule.Rule.TheVariants.{RepeatedName, LoneAnonymous, Subscription, NoRoot, UnknownFragment, FragmentCycle, FragmentOn, UnknownDirective, CustomDirective, DirectiveUse, Introspection, UnknownField, LeafWithSelection, CompositeWithout, RepeatedVariable, VariableType, UndefinedVariable, UnknownArgument, RepeatedArgument, VariablePlace}

abbrev pub rule_number : Rule → ℕ
rule_number RepeatedName = 1
rule_number LoneAnonymous = 2
rule_number Subscription = 3
rule_number NoRoot = 4
rule_number UnknownFragment = 5
rule_number FragmentCycle = 6
rule_number FragmentOn = 7
rule_number UnknownDirective = 8
rule_number CustomDirective = 9
rule_number DirectiveUse = 10
rule_number Introspection = 11
rule_number UnknownField = 12
rule_number LeafWithSelection = 13
rule_number CompositeWithout = 14
rule_number RepeatedVariable = 15
rule_number VariableType = 16
rule_number UndefinedVariable = 17
rule_number UnknownArgument = 18
rule_number RepeatedArgument = 19
rule_number VariablePlace = 20

abbrev pub rule_name : Rule → List ℕ
rule_name RepeatedName = codes "RepeatedName"
rule_name LoneAnonymous = codes "LoneAnonymous"
rule_name Subscription = codes "Subscription"
rule_name NoRoot = codes "NoRoot"
rule_name UnknownFragment = codes "UnknownFragment"
rule_name FragmentCycle = codes "FragmentCycle"
rule_name FragmentOn = codes "FragmentOn"
rule_name UnknownDirective = codes "UnknownDirective"
rule_name CustomDirective = codes "CustomDirective"
rule_name DirectiveUse = codes "DirectiveUse"
rule_name Introspection = codes "Introspection"
rule_name UnknownField = codes "UnknownField"
rule_name LeafWithSelection = codes "LeafWithSelection"
rule_name CompositeWithout = codes "CompositeWithout"
rule_name RepeatedVariable = codes "RepeatedVariable"
rule_name VariableType = codes "VariableType"
rule_name UndefinedVariable = codes "UndefinedVariable"
rule_name UnknownArgument = codes "UnknownArgument"
rule_name RepeatedArgument = codes "RepeatedArgument"
rule_name VariablePlace = codes "VariablePlace"
