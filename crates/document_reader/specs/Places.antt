-- Where the definitions of a document stand in its text.
use Rattle.std.specs.Prelude.{ℕ, ◌≡◌, ◌≤◌, ◌<◌, List, [], ◌∷◌, ◌++◌, length, Option, None, Some}
use Rattle.gql_base.specs.declared.lexical.token.Token.{Token}
use Rattle.gql_base.specs.ways.Symbols.{symbols_from}
use Rattle.gql_base.specs.ways.Grammar.{Nested, plain, Within}
use Rattle.gql_base.specs.ways.FirstFaults.{level_limit}
use Rattle.gql_base.specs.ways.Sources.{offset_of}
use Rattle.document_reader.specs.declared.trees.Definition.{Definition}
use Rattle.document_reader.specs.declared.trees.Definition.TheVariants.{Op, Frag}
use Rattle.document_reader.specs.Documents.{IsDefinition}
use Rattle.document_reader.specs.Trees.{definition_tree}

-- An operation tells the offset of its first token.
abbrev pub BeginsAt : ℕ → Definition → Type 0
BeginsAt offset (Op operation) = operation.at ≡ offset
BeginsAt offset (Frag fragment) = Unit {0}

-- the offset that an operation tells; a fragment tells none
abbrev pub operation_offset : Definition → Option ℕ
operation_offset (Op operation) = Some operation.at
operation_offset (Frag fragment) = None

-- The tokens from one number up to before another are a definition.
pub record StandsFrom (text : List ℕ) (tokens : List Token) (from to : ℕ) (definition : Definition) : Type 0 where
  pub front : Nested
  pub cut : symbols_from text tokens from ≡ plain front ++ symbols_from text tokens to
  pub onward : from < to
  pub short : to ≤ length tokens
  pub within : Within level_limit front
  pub written : IsDefinition 0 (definition_tree definition) front
  pub begins : BeginsAt (offset_of text tokens from) definition

-- The tokens from one number up to before another are these definitions.
unfoldable pub AllStandFrom : List ℕ → List Token → ℕ → ℕ → List Definition → Type 0
AllStandFrom text tokens from to [] = from ≡ to
AllStandFrom text tokens from to (d ∷ others) = (between : ℕ) × StandsFrom text tokens from between d × AllStandFrom text tokens between to others
