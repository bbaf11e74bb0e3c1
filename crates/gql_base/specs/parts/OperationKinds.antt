-- The names of the kinds of operations (GraphQL October 2021, 2.3 and 3.3.1).
use Rattle.std.specs.Prelude.{ℕ, List, Option, None, Some, codes, if◌then◌else◌}
use Rattle.std.specs.Str.{bytes_eq}
use Rattle.gql_base.specs.declared.parts.trees.OperationKind.{OperationKind}
use Rattle.gql_base.specs.declared.parts.trees.OperationKind.TheVariants.{Query, Mutation, Subscription}
use Rattle.gql_base.specs.ways.Symbols.{punctuator, identifier, integer, decimal, string}
use Rattle.gql_base.specs.ways.Reading.{Taking}

abbrev pub kind_named : List ℕ → Option OperationKind
kind_named bytes =
    if bytes_eq bytes (codes "query") then Some Query
    else if bytes_eq bytes (codes "mutation") then Some Mutation
    else if bytes_eq bytes (codes "subscription") then Some Subscription
    else None

-- the kind of an operation
abbrev pub kind_word : Taking OperationKind
kind_word (identifier bytes at) = kind_named bytes
kind_word (punctuator kind) = None
kind_word (integer value) = None
kind_word (decimal bytes) = None
kind_word (string value) = None
