use Rattle.gql_base.proofs.PrintingLaws.OneLine.{shown_is_one_line, one_line_kept, lines_joined}
use Rattle.gql_base.proofs.printing.lines.what_is_shown_is_one_line.Goals as goal

pub returns-clause-shown : goal.returns-clause-shown
returns-clause-shown c = shown_is_one_line

pub returns-clause-kept : goal.returns-clause-kept
returns-clause-kept c = one_line_kept

pub returns-clause-joined : goal.returns-clause-joined
returns-clause-joined c = lines_joined
