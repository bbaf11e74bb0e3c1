use Rattle.operation_commands.proofs.OperationLines.{asked_line}
use Rattle.operation_commands.proofs.price_laws.refusals_of_operations_are_one_line.Goals as goal

pub returns : goal.returns
returns c = asked_line c.refusal_texts_are_one_line.ensures c.refusals_of_files_are_one_line.ensures.schema
