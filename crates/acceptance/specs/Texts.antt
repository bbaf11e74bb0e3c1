-- The texts of refusals.
use Rattle.std.specs.Prelude.{ℕ, List, [], ◌∷◌, ◌++◌, codes, true, false, Bool}
use Rattle.std.specs.Fmt.{decimal, signed_decimal}
use Rattle.gql_base.specs.printing.OneLine.{shown_in_line}
use Rattle.gql_base.specs.declared.lexical.lexing.LexFault.{LexFault}
use Rattle.gql_base.specs.declared.lexical.lexing.LexFault.TheVariants as lexical
use Rattle.document_reader.specs.declared.document.DocFault.{DocFault}
use Rattle.document_reader.specs.declared.document.DocFault.TheVariants as document
use Rattle.document_reader.specs.declared.picking.PickFault.{PickFault}
use Rattle.document_reader.specs.declared.picking.PickFault.TheVariants as pick
use Rattle.document_rules.specs.declared.rule.Rule.{Rule as RuleName}
use Rattle.document_rules.specs.declared.rule.RuleFault.{RuleFault}
use Rattle.document_rules.specs.declared.rule.RuleFault.TheVariants as rule
use Rattle.document_rules.specs.Names.{rule_number, rule_name}
use Rattle.variable_coercion.specs.declared.faults.CoerceFault.{CoerceFault}
use Rattle.variable_coercion.specs.declared.faults.CoerceFault.TheVariants as variable
use Rattle.variable_coercion.specs.declared.faults.ArgFault.{ArgFault}
use Rattle.variable_coercion.specs.declared.faults.ArgFault.TheVariants as argument
use Rattle.cost_directives.specs.declared.sizes.SizeFault.{SizeFault}
use Rattle.cost_directives.specs.declared.sizes.SizeFault.TheVariants as size
use Rattle.merged_selections.specs.declared.fault.PlanFault.{PlanFault}
use Rattle.merged_selections.specs.declared.fault.PlanFault.TheVariants as plan
use Rattle.acceptance.specs.declared.fault.Refusal.{Refusal}
use Rattle.acceptance.specs.declared.fault.Refusal.TheVariants.{Document, Pick, Rule, Variable, Plan, Bound}

-- a text, a space, and a place or a number
abbrev pub placed : List ℕ → ℕ → List ℕ
placed text at = text ++ (32 ∷ decimal at)

-- a text, a space, and another
abbrev pub beside : List ℕ → List ℕ → List ℕ
beside text other = text ++ (32 ∷ other)

-- A text, a space, and the name or the place of what is at fault. A name may come from JSON: its control characters are shown by
-- their numbers, so that the text is one line.
abbrev pub naming : List ℕ → List ℕ → List ℕ
naming text name = beside text (shown_in_line name)

-- what is wrong with the tokens of a text, with its place; want of memory has no text
abbrev pub lexical_text : LexFault → List ℕ
lexical_text (lexical.BadChar at) = placed (codes "1 Lex 1 BadChar") at
lexical_text (lexical.BadNumber at) = placed (codes "1 Lex 2 BadNumber") at
lexical_text (lexical.OpenText at) = placed (codes "1 Lex 3 OpenText") at
lexical_text (lexical.BadEscape at) = placed (codes "1 Lex 4 BadEscape") at
lexical_text (lexical.FloatValue at) = placed (codes "1 Lex 5 FloatValue") at
lexical_text lexical.Memory = []

-- a fault of a document with its place; want of memory has no text
abbrev pub document_text : DocFault → List ℕ
document_text (document.Lex fault) = codes "document " ++ lexical_text fault
document_text (document.Unexpected at) = placed (codes "document 2 Unexpected") at
document_text (document.TooDeep at) = placed (codes "document 3 TooDeep") at
document_text document.Memory = []

-- why no operation is picked
abbrev pub pick_text : PickFault → List ℕ
pick_text pick.NoOperation = codes "pick 1 NoOperation"
pick_text (pick.Several count) = placed (codes "pick 2 Several") count
pick_text pick.NotThere = codes "pick 3 NotThere"

-- a rule by its number and name, and where it is broken
abbrev pub broken_text : RuleName → ℕ → List ℕ
broken_text name at = placed (beside (placed (codes "rule") (rule_number name)) (rule_name name)) at

abbrev pub rule_text : RuleFault → List ℕ
rule_text (rule.Broken name at) = broken_text name at
rule_text rule.Memory = []

-- which variable is refused
abbrev pub variable_text : CoerceFault → List ℕ
variable_text (variable.Missing name) = naming (codes "variable 1 Missing") name
variable_text (variable.BadValue path) = naming (codes "variable 2 BadValue") path
variable_text (variable.TooLarge name) = naming (codes "variable 3 TooLarge") name
variable_text variable.Memory = []

-- which argument is refused
abbrev pub argument_text : ArgFault → List ℕ
argument_text (argument.Missing name) = naming (codes "1 Missing") name
argument_text (argument.BadValue name) = naming (codes "2 BadValue") name
argument_text (argument.TooLarge name) = naming (codes "3 TooLarge") name
argument_text argument.Memory = []

-- why a list has no size
abbrev pub size_text : SizeFault → List ℕ
size_text (size.SlicingCount count) = placed (codes "1 SlicingCount") count
size_text (size.NegativeSlice value) = beside (codes "2 NegativeSlice") (signed_decimal value)

-- the first fault of a plan, with the path of its node
abbrev pub plan_text : PlanFault → List ℕ
plan_text (plan.Argument at fault) = beside (naming (codes "plan 1 Argument") at) (argument_text fault)
plan_text (plan.Conflict at) = naming (codes "plan 2 Conflict") at
plan_text (plan.Size at fault) = beside (naming (codes "plan 3 Size") at) (size_text fault)
plan_text (plan.NoPossibleType at) = naming (codes "plan 4 NoPossibleType") at
plan_text plan.TooLarge = codes "plan 5 TooLarge"
plan_text (plan.TooDeep at) = naming (codes "plan 6 TooDeep") at
plan_text plan.Memory = []

-- the parts of the cost that are too great
abbrev pub costly_text : Bool → Bool → List ℕ
costly_text true true = codes "bound 1 TooCostly both"
costly_text true false = codes "bound 1 TooCostly types"
costly_text false fields = codes "bound 1 TooCostly fields"

-- the stage, the number of the fault, its name and what it holds
abbrev pub refusal_text : Refusal → List ℕ
refusal_text (Document fault) = document_text fault
refusal_text (Pick fault) = pick_text fault
refusal_text (Rule fault) = rule_text fault
refusal_text (Variable fault) = variable_text fault
refusal_text (Plan fault) = plan_text fault
refusal_text (Bound fault) = costly_text fault.types fault.fields
