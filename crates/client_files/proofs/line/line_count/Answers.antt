use Rattle.client_files.proofs.Lines.{count_front, count_all}
use Rattle.client_files.proofs.line.line_count.Goals as goal

pub returns-then-is_empty-clause-lines : goal.returns-then-is_empty-clause-lines
returns-then-is_empty-clause-lines c = count_front c.args.parts.now c.in-Some.front.now c.in-Some.last.now c.in-Some.ensures.cases.0 c.if-is_empty.ensures

pub returns-else-is_empty-clause-lines : goal.returns-else-is_empty-clause-lines
returns-else-is_empty-clause-lines c = count_all c.args.parts.now c.in-Some.front.now c.in-Some.last.now c.in-Some.ensures.cases.0 c.if-is_empty.ensures
