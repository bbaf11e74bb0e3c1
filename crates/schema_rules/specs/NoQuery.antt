-- There is a type of queries (GraphQL October 2021, 3.3.1).
use Rattle.std.specs.Prelude.{Bool, not, is_some, List}
use Rattle.gql_base.specs.declared.parts.trees.OperationKind.TheVariants.{Query}
use Rattle.schema_rules.specs.Items.{ItemTree}
use Rattle.schema_rules.specs.TypeNames.{NamedKind}
use Rattle.schema_rules.specs.Roots.{root_name}

abbrev pub has_no_query : List NamedKind → List ItemTree → Bool
has_no_query types items = not (is_some (root_name items types Query))
