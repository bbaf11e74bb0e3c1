-- Arguments, opened.
use Rattle.gql_base.proofs.PrintingLaws.PrintSteps.{open_argument}
use Rattle.schema_rules.proofs.Namings.{argument_text, argument_value}

pub ruleset opened = (open_argument, argument_text, argument_value)
