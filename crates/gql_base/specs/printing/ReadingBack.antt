-- Texts in which a thing of a grammar is read again.
use Rattle.std.specs.Prelude.{ℕ, ◌≡◌, Bool, List, []}
use Rattle.gql_base.specs.declared.lexical.token.Token.{Token}
use Rattle.gql_base.specs.lexical.Tokens.{Lexes}
use Rattle.gql_base.specs.ways.Symbols.{symbols_from}
use Rattle.gql_base.specs.ways.Grammar.{Nested}
use Rattle.gql_base.specs.ways.FirstFaults.{level_limit, IsWritten}

-- All tokens of the text, in which floats may stand or may not, are this thing again, nested no deeper than the limit, with offsets
-- of its own: without offsets the two are the same.
pub record SpellsAgain {A : Type 0} (floats : Bool) (S : A → Nested → Type 0) (placeless : A → A) (text : List ℕ) (a : A) : Type 0 where
  pub tokens : List Token
  pub lexes : Lexes floats text tokens
  pub again : A
  pub written : IsWritten S level_limit (symbols_from text tokens 0) again []
  pub same : placeless again ≡ placeless a
