-- What the reader of schema texts answers.
use Rattle.std.specs.Prelude.{ℕ, ◌≡◌, Bool, List, ◌∷◌, Result, Ok, Err, codes}
use Rattle.gql_base.specs.declared.lexical.token.Token.{Token}
use Rattle.gql_base.specs.lexical.Tokens.{Lexes}
use Rattle.gql_base.specs.lexical.Uses.{IsUsed}
use Rattle.gql_base.specs.ways.Symbols.{Symbols, identifier, symbols_from}
use Rattle.gql_base.specs.ways.Grammar.{Repeated}
use Rattle.gql_base.specs.ways.FirstFaults.{level_limit, IsUnexpected, IsTooDeep, IsWritten}
use Rattle.gql_base.specs.ways.TextFaults.{TextFault, lexical_fault, unexpected_at, too_deep_at, no_memory, HasTree, IsLexical}
use Rattle.gql_base.specs.ways.Sources.{offset_of}
use Rattle.schema_reader.specs.declared.schema_text.SchemaTextFault.{SchemaTextFault}
use Rattle.schema_reader.specs.declared.schema_text.SchemaTextFault.TheVariants.{Lex, Unexpected, Extension, TooDeep, Memory}
use Rattle.schema_reader.specs.declared.trees.SchemaText.{SchemaText}
use Rattle.schema_reader.specs.Schemas.{DefinitionTree, IsDefinition, IsSchema}
use Rattle.schema_reader.specs.Trees.{schema_trees}

-- whether floats may stand in the text of a schema: where `@floats` is applied in it
abbrev pub LetsFloats : List ℕ → Bool → Type 0
LetsFloats text floats = IsUsed (codes "floats") text floats

-- The text is a schema text with these trees.
abbrev pub HasSchema : List ℕ → List DefinitionTree → Type 0
HasSchema text trees = (floats : Bool) × LetsFloats text floats × HasTree floats IsSchema text trees

-- The symbols before the rest are definitions or none, nested n deep at most, and the rest begins with `extend`.
pub record BeginsExtension (n : ℕ) (ws rest : Symbols) : Type 0 where
  pub trees : List DefinitionTree
  pub before : IsWritten (Repeated (IsDefinition 0)) n ws trees rest
  pub extends : (at : ℕ) × (others : Symbols) × (rest ≡ identifier (codes "extend") at ∷ others)

-- the same among the tokens of a text
abbrev pub ExtendsAt : List ℕ → List Token → ℕ → Type 0
ExtendsAt text tokens place = BeginsExtension level_limit (symbols_from text tokens 0) (symbols_from text tokens place)

-- Why the tokens of a text are no schema text: the first fault, with the offset of its token. At `extend`, where a
-- definition would begin, it is an extension and not merely unexpected.
abbrev pub IsFaultAmong : List ℕ → List Token → SchemaTextFault → Type 0
IsFaultAmong text tokens (Lex fault) = ⊥
IsFaultAmong text tokens (Unexpected at) = (place : ℕ) × (at ≡ offset_of text tokens place) × IsUnexpected IsSchema level_limit (symbols_from text tokens 0) (symbols_from text tokens place) × (ExtendsAt text tokens place → ⊥)
IsFaultAmong text tokens (Extension at) = (place : ℕ) × (at ≡ offset_of text tokens place) × ExtendsAt text tokens place
IsFaultAmong text tokens (TooDeep at) = (place : ℕ) × (at ≡ offset_of text tokens place) × IsTooDeep IsSchema level_limit (symbols_from text tokens 0) (symbols_from text tokens place)
IsFaultAmong text tokens Memory = Unit {0}

-- the same of the tokens that the text has, in which floats may stand or may not
abbrev pub HasFaultAmong : Bool → List ℕ → SchemaTextFault → Type 0
HasFaultAmong floats text fault = (tokens : List Token) × Lexes floats text tokens × IsFaultAmong text tokens fault

-- why a text in which floats may stand or may not is no schema text
abbrev pub IsFaultIf : Bool → List ℕ → SchemaTextFault → Type 0
IsFaultIf floats text (Lex fault) = IsLexical floats text fault
IsFaultIf floats text (Unexpected at) = HasFaultAmong floats text (Unexpected at)
IsFaultIf floats text (Extension at) = HasFaultAmong floats text (Extension at)
IsFaultIf floats text (TooDeep at) = HasFaultAmong floats text (TooDeep at)
IsFaultIf floats text Memory = Unit {0}

-- why a text is no schema text
abbrev pub IsSchemaFault : List ℕ → SchemaTextFault → Type 0
IsSchemaFault text fault = (floats : Bool) × LetsFloats text floats × IsFaultIf floats text fault

-- The text has this fault; want of memory is none of its own.
abbrev pub HasSchemaFault : List ℕ → SchemaTextFault → Type 0
HasSchemaFault text fault = IsSchemaFault text fault × (fault ≡ Memory → ⊥)

-- the fault that a call tells of reading that halted or of a text without tokens
abbrev pub schema_fault : TextFault → SchemaTextFault
schema_fault (lexical_fault fault) = Lex fault
schema_fault (unexpected_at at) = Unexpected at
schema_fault (too_deep_at at) = TooDeep at
schema_fault no_memory = Memory

-- The answer is a schema text with these trees, if memory didn't run out.
abbrev pub GivesSchema : List DefinitionTree → Result SchemaText SchemaTextFault → Type 0
GivesSchema trees (Ok schema) = schema_trees schema ≡ trees
GivesSchema trees (Err fault) = fault ≡ Memory
