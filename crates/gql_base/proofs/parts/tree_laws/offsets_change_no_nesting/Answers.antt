use Rattle.gql_base.proofs.WayLaws.AlikeSymbols.{within_alike, nested_alike}
use Rattle.gql_base.proofs.parts.tree_laws.offsets_change_no_nesting.Goals as goal

pub returns-clause-alike : goal.returns-clause-alike
returns-clause-alike c = nested_alike

pub returns-clause-within : goal.returns-clause-within
returns-clause-within c = within_alike
