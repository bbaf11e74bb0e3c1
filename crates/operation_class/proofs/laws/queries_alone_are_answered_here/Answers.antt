use Rattle.operation_class.proofs.ToldClasses.{no_operation, no_query}
use Rattle.operation_class.proofs.laws.queries_alone_are_answered_here.Goals as goal

pub returns-clause-none : goal.returns-clause-none
returns-clause-none c = no_operation

pub returns-clause-other : goal.returns-clause-other
returns-clause-other c = no_query
