-- The texts of a check command.
use Rattle.std.specs.Prelude.{ℕ, List, [], ◌++◌, codes}
use Rattle.schema_reader.specs.declared.schema_text.SchemaTextFault.{SchemaTextFault}
use Rattle.schema_reader.specs.declared.schema_text.SchemaTextFault.TheVariants.{Lex, Unexpected, Extension, TooDeep, Memory as NoMemory}
use Rattle.schema_model.specs.declared.fault.SchemaFault.{SchemaFault}
use Rattle.schema_model.specs.declared.fault.SchemaFault.TheVariants.{TooMany, Repeated, Reserved, UnknownType, NoQuery, WrongKind, FloatScalar, NestedList, EmptyType, NotImplemented, BadDirective, BadDefault, Memory}
use Rattle.cost_num.specs.declared.weights.WeightFault.{WeightFault}
use Rattle.cost_num.specs.declared.weights.WeightFault.TheVariants as weight
use Rattle.cost_directives.specs.declared.fault.DirectiveFault.{DirectiveFault}
use Rattle.cost_directives.specs.declared.fault.DirectiveFault.TheVariants as directive
use Rattle.command_outcomes.specs.declared.checked.SchemaRefusal.{SchemaRefusal}
use Rattle.command_outcomes.specs.declared.checked.SchemaRefusal.TheVariants.{TooLarge, NotText, NoSchemaText, Fails, Misuses}
use Rattle.local_introspection.specs.PassedOn.{placed, naming, lexical_text}
use Rattle.command_outcomes.specs.Texts.{too_large_text, not_text_text}

-- how many types and fields a schema has
abbrev pub counts_text : ℕ → ℕ → List ℕ
counts_text types fields = placed (placed (codes "ok types") types ++ codes " fields") fields

-- a fault of a schema's text with its place; want of memory has no text
abbrev pub schema_text_text : SchemaTextFault → List ℕ
schema_text_text (Lex fault) = codes "text " ++ lexical_text fault
schema_text_text (Unexpected at) = placed (codes "text 2 Unexpected") at
schema_text_text (Extension at) = placed (codes "text 3 Extension") at
schema_text_text (TooDeep at) = placed (codes "text 4 TooDeep") at
schema_text_text NoMemory = []

-- a test that a schema doesn't pass, with its number and with what is at fault; want of memory has no text
abbrev pub schema_fault_text : SchemaFault → List ℕ
schema_fault_text (TooMany counted) = placed (codes "schema 1 TooMany") counted
schema_fault_text (Repeated place) = naming (codes "schema 2 Repeated") place
schema_fault_text (Reserved place) = naming (codes "schema 3 Reserved") place
schema_fault_text (UnknownType name) = naming (codes "schema 4 UnknownType") name
schema_fault_text NoQuery = codes "schema 5 NoQuery"
schema_fault_text (WrongKind place) = naming (codes "schema 6 WrongKind") place
schema_fault_text (FloatScalar place) = naming (codes "schema 7 FloatScalar") place
schema_fault_text (NestedList place) = naming (codes "schema 8 NestedList") place
schema_fault_text (EmptyType name) = naming (codes "schema 9 EmptyType") name
schema_fault_text (NotImplemented place) = naming (codes "schema 10 NotImplemented") place
schema_fault_text (BadDirective place) = naming (codes "schema 11 BadDirective") place
schema_fault_text (BadDefault place) = naming (codes "schema 12 BadDefault") place
schema_fault_text Memory = []

-- a fault of the text of a weight, with its number and its place
abbrev pub weight_fault_text : WeightFault → List ℕ
weight_fault_text weight.Empty = codes "1 Empty"
weight_fault_text weight.Negative = codes "2 Negative"
weight_fault_text weight.Exponent = codes "3 Exponent"
weight_fault_text (weight.BadDigit at) = placed (codes "4 BadDigit") at
weight_fault_text (weight.TooFine at) = placed (codes "5 TooFine") at
weight_fault_text weight.TooLarge = codes "6 TooLarge"

-- a test that cost directives don't pass, with its number and with what is at fault; want of memory has no text
abbrev pub directive_fault_text : DirectiveFault → List ℕ
directive_fault_text (directive.Weight place fault) = naming (naming (codes "directive 1 Weight") place) (weight_fault_text fault)
directive_fault_text (directive.NotAList place) = naming (codes "directive 2 NotAList") place
directive_fault_text (directive.Dotted place) = naming (codes "directive 3 Dotted") place
directive_fault_text (directive.SlicingUnknown place name) = naming (naming (codes "directive 4 SlicingUnknown") place) name
directive_fault_text (directive.SlicingNotInt place name) = naming (naming (codes "directive 5 SlicingNotInt") place) name
directive_fault_text (directive.SizedOnList place) = naming (codes "directive 6 SizedOnList") place
directive_fault_text (directive.SizedUnknown place name) = naming (naming (codes "directive 7 SizedUnknown") place) name
directive_fault_text (directive.NegativeSize place) = naming (codes "directive 8 NegativeSize") place
directive_fault_text (directive.Disagree place) = naming (codes "directive 9 Disagree") place
directive_fault_text directive.Memory = []

-- the stage, the number of the fault, its name and its fields
abbrev pub schema_refusal_text : List ℕ → SchemaRefusal → List ℕ
schema_refusal_text name TooLarge = too_large_text name
schema_refusal_text name NotText = not_text_text name
schema_refusal_text name (NoSchemaText fault) = schema_text_text fault
schema_refusal_text name (Fails fault) = schema_fault_text fault
schema_refusal_text name (Misuses fault) = directive_fault_text fault
