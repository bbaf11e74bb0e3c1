-- What of definitions can be repeated.
use Rattle.std.proofs.Common.{ℕ, refl, arith}
use Rattle.gql_base.specs.declared.lexical.token.TokenKind.TheVariants.{CloseParen}
use Rattle.gql_base.specs.ways.Reading.{up_to, is_there}
use Rattle.gql_base.proofs.WayLaws.RepeatingLaws.{Repeats, repeats}
use Rattle.document_reader.specs.DocumentReading.{variable_at, definition_at}
use Rattle.document_reader.proofs.DocumentLaws.{variable_law, heads_variable, definition_law, heads_definition}

pub variables_repeat : (n : ℕ) → Repeats (up_to CloseParen) (variable_at n)
variables_repeat n = repeats (up_to CloseParen) (variable_law n n 0 n (omega arith) (omega arith)) (heads_variable 0 refl) refl

pub definitions_repeat : (n : ℕ) → Repeats is_there (definition_at n)
definitions_repeat n = repeats is_there (definition_law n n 0 n (omega arith) (omega arith)) (heads_definition 0) refl
