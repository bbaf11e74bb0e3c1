-- Where a refusal is: in which text, and at which byte.
use Rattle.std.specs.Prelude.{◌≡◌, ℕ, List, option_map, Option, None, Some}
use Rattle.gql_base.specs.declared.lexical.lexing.LexFault.{LexFault}
use Rattle.gql_base.specs.declared.lexical.lexing.LexFault.TheVariants as lexical
use Rattle.document_reader.specs.declared.document.DocFault.{DocFault}
use Rattle.document_reader.specs.declared.document.DocFault.TheVariants as document
use Rattle.schema_reader.specs.declared.schema_text.SchemaTextFault.{SchemaTextFault}
use Rattle.schema_reader.specs.declared.schema_text.SchemaTextFault.TheVariants as text
use Rattle.document_rules.specs.declared.rule.RuleFault.{RuleFault}
use Rattle.document_rules.specs.declared.rule.RuleFault.TheVariants as rule
use Rattle.acceptance.specs.declared.fault.Refusal.{Refusal}
use Rattle.acceptance.specs.declared.fault.Refusal.TheVariants.{Document, Rule}
use Rattle.command_outcomes.specs.PassedOn.{LocalFault, Mixed as OwnMixed, Rule as OwnRule}
use Rattle.command_outcomes.specs.declared.checked.SchemaRefusal.{SchemaRefusal}
use Rattle.command_outcomes.specs.declared.checked.SchemaRefusal.TheVariants.{NoSchemaText, Fails, Misuses}
use Rattle.schema_model.specs.declared.fault.SchemaFault.{SchemaFault}
use Rattle.schema_model.specs.declared.fault.SchemaFault.TheVariants as fault
use Rattle.cost_directives.specs.declared.fault.DirectiveFault.{DirectiveFault}
use Rattle.cost_directives.specs.declared.fault.DirectiveFault.TheVariants as misuse
use Rattle.definition_places.specs.Sites.{IsDefinedAt}
use Rattle.told_refusals.specs.Told.{Spot}
use Rattle.operation_commands.specs.declared.asked.AskedTexts.{AskedTexts}
use Rattle.operation_commands.specs.declared.asking.AskedRefusal.{AskedRefusal}
use Rattle.operation_commands.specs.declared.asking.AskedRefusal.TheVariants.{NoSchema, NoOperation}
use Rattle.operation_commands.specs.declared.own_answers.OwnRefusal.{OwnRefusal}
use Rattle.operation_commands.specs.declared.own_answers.OwnRefusal.TheVariants as refusal

abbrev pub lexical_at : LexFault → Option ℕ
lexical_at (lexical.BadChar at) = Some at
lexical_at (lexical.BadNumber at) = Some at
lexical_at (lexical.OpenText at) = Some at
lexical_at (lexical.BadEscape at) = Some at
lexical_at (lexical.FloatValue at) = Some at
lexical_at lexical.Memory = None

abbrev pub document_at : DocFault → Option ℕ
document_at (document.Lex fault) = lexical_at fault
document_at (document.Unexpected at) = Some at
document_at (document.TooDeep at) = Some at
document_at document.Memory = None

abbrev pub schema_text_at : SchemaTextFault → Option ℕ
schema_text_at (text.Lex fault) = lexical_at fault
schema_text_at (text.Unexpected at) = Some at
schema_text_at (text.Extension at) = Some at
schema_text_at (text.TooDeep at) = Some at
schema_text_at text.Memory = None

abbrev pub rule_at : RuleFault → Option ℕ
rule_at (rule.Broken name at) = Some at
rule_at rule.Memory = None

-- in the text of the document
abbrev pub refusal_at : Refusal → Option ℕ
refusal_at (Document fault) = document_at fault
refusal_at (Rule fault) = rule_at fault
refusal_at other = None

abbrev pub own_at : LocalFault → Option ℕ
own_at (OwnMixed at) = Some at
own_at (OwnRule fault) = rule_at fault
own_at other = None

-- What is wrong with a schema is told of this thing. Of a name that stands twice the first isn't shown.
abbrev pub fault_place : SchemaFault → Option (List ℕ)
fault_place (fault.Reserved place) = Some place
fault_place (fault.WrongKind place) = Some place
fault_place (fault.FloatScalar place) = Some place
fault_place (fault.NestedList place) = Some place
fault_place (fault.EmptyType name) = Some name
fault_place (fault.NotImplemented place) = Some place
fault_place (fault.BadDirective place) = Some place
fault_place (fault.BadDefault place) = Some place
fault_place other = None

-- what is wrong with its cost directives, of this
abbrev pub misuse_place : DirectiveFault → Option (List ℕ)
misuse_place (misuse.Weight place weight) = Some place
misuse_place (misuse.NotAList place) = Some place
misuse_place (misuse.Dotted place) = Some place
misuse_place (misuse.SlicingUnknown place name) = Some place
misuse_place (misuse.SlicingNotInt place name) = Some place
misuse_place (misuse.SizedOnList place) = Some place
misuse_place (misuse.SizedUnknown place name) = Some place
misuse_place (misuse.NegativeSize place) = Some place
misuse_place (misuse.Disagree place) = Some place
misuse_place misuse.Memory = None

abbrev pub spot_at : List ℕ → Option ℕ → Option Spot
spot_at text at = option_map (λ offset. (text, offset)) at

-- It is where the thing with this place is defined, if that is told and the text defines it.
abbrev pub IsSite : List ℕ → Option (List ℕ) → Option Spot → Type 0
IsSite text None spot = spot ≡ None
IsSite text (Some place) spot = (at : Option ℕ) × IsDefinedAt text place at × (spot ≡ spot_at text at)

-- where a refusal of a schema is in its text: the byte that it names, or the thing
abbrev pub IsSchemaSpot : List ℕ → SchemaRefusal → Option Spot → Type 0
IsSchemaSpot text (NoSchemaText fault) spot = spot ≡ spot_at text (schema_text_at fault)
IsSchemaSpot text (Fails fault) spot = IsSite text (fault_place fault) spot
IsSchemaSpot text (Misuses fault) spot = IsSite text (misuse_place fault) spot
IsSchemaSpot text other spot = spot ≡ None

abbrev pub IsAskedSpot : AskedTexts → AskedRefusal → Option Spot → Type 0
IsAskedSpot texts (NoSchema refusal) spot = IsSchemaSpot texts.schema refusal spot
IsAskedSpot texts (NoOperation refusal) spot = spot ≡ spot_at texts.document (refusal_at refusal)
IsAskedSpot texts other spot = spot ≡ None

-- where a refusal is in the texts of an operation's files, if it names a byte or a thing
abbrev pub IsSpotIn : AskedTexts → OwnRefusal → Option Spot → Type 0
IsSpotIn texts (refusal.Asked r) spot = IsAskedSpot texts r spot
IsSpotIn texts (refusal.NotAnswered fault) spot = spot ≡ spot_at texts.document (own_at fault)
IsSpotIn texts refusal.NotLocal spot = spot ≡ None
