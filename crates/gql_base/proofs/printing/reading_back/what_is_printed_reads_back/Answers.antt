use Rattle.gql_base.proofs.PrintingLaws.PrintedAgain.{value_again_spelled, type_again_spelled}
use Rattle.gql_base.proofs.printing.reading_back.what_is_printed_reads_back.Goals as goal

pub returns-clause-values : goal.returns-clause-values
returns-clause-values c = value_again_spelled

pub returns-clause-types : goal.returns-clause-types
returns-clause-types c = type_again_spelled
