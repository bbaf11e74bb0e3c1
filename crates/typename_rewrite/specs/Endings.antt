-- What is printed at the end of a selection set.
use Rattle.std.specs.Prelude.{ℕ, Bool, true, false, List, [], ◌∷◌}
use Rattle.gql_base.specs.declared.lexical.token.TokenKind.TheVariants.{Colon}
use Rattle.gql_base.specs.ways.Symbols.{punctuator, Symbols}
use Rattle.gql_base.specs.printing.PrintedTrees.{printed_name}
use Rattle.document_rules.specs.Sites.{typename}

abbrev pub end_symbols : List ℕ → Bool → Symbols
end_symbols alias false = []
end_symbols alias true = printed_name alias ∷ punctuator Colon ∷ printed_name typename ∷ []
