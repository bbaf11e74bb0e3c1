-- Symbols and names without offsets.
use Rattle.gql_base.specs.ways.Reading.{Identifier}
use Rattle.gql_base.specs.ways.Symbols.{Symbol, punctuator, identifier, integer, decimal, string}

abbrev pub placeless_symbol : Symbol → Symbol
placeless_symbol (punctuator kind) = punctuator kind
placeless_symbol (identifier bytes at) = identifier bytes 0
placeless_symbol (integer value) = integer value
placeless_symbol (decimal bytes) = decimal bytes
placeless_symbol (string value) = string value

-- a name at offset 0
abbrev pub name_placeless : Identifier → Identifier
name_placeless name = (name.0, 0)
