-- The alias that no name of a document is equal to.
use Rattle.std.specs.Prelude.{ℕ, ◌<◌, ◌≡◌, Bool, true, false, List, [], ◌∷◌, ◌++◌, flat_map, replicate, codes}
use Rattle.gql_base.specs.names.Names.{has_name}
use Rattle.gql_base.specs.ways.Symbols.{Symbol, punctuator, identifier, integer, decimal, string, Symbols}
use Rattle.document_reader.specs.Documents.{DefinitionTree}
use Rattle.document_reader.specs.PrintedDocuments.{document_symbols}

abbrev pub name_in : Symbol → List (List ℕ)
name_in (identifier bytes at) = bytes ∷ []
name_in (punctuator kind) = []
name_in (integer value) = []
name_in (decimal bytes) = []
name_in (string value) = []

unfoldable pub names_in : Symbols → List (List ℕ)
names_in symbols = flat_map name_in symbols

-- Every name that a document is written with, the words of the language among them: those of operations, fragments, fields,
-- aliases, arguments, variables, types, directives, enum values and fields of objects.
abbrev pub names_of_document : List DefinitionTree → List (List ℕ)
names_of_document definitions = names_in (document_symbols definitions)

-- whether a name is among names
abbrev pub is_taken : List (List ℕ) → List ℕ → Bool
is_taken names name = has_name (λ n. n) names name

-- `gateway_typename` with so many underscores behind it
abbrev pub alias_with : ℕ → List ℕ
alias_with underscores = codes "gateway_typename" ++ replicate underscores 95

-- It has the fewest underscores with which it is none of these names.
pub record IsAlias (names : List (List ℕ)) (alias : List ℕ) : Type 0 where
  pub underscores : ℕ
  pub is : alias ≡ alias_with underscores
  pub free : is_taken names alias ≡ false
  pub fewest : (fewer : ℕ) → fewer < underscores → is_taken names (alias_with fewer) ≡ true
