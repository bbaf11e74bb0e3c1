use Rattle.gql_base.proofs.PrintingLaws.PrintedLaws.{value_rewritten, type_rewritten}
use Rattle.gql_base.proofs.printing.printing_laws.what_is_printed_is_written_as_the_same_tree.Goals as goal

pub returns-clause-values : goal.returns-clause-values
returns-clause-values c = λ n constant t ws is within. let r = value_rewritten n constant 0 t ws is within in (r.front, r.same, r.written, r.within)

pub returns-clause-types : goal.returns-clause-types
returns-clause-types c = λ n t ws is within. let r = type_rewritten n 0 t ws is within in (r.front, r.same, r.written, r.within)
