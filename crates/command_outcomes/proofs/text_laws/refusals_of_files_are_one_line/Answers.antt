use Rattle.command_outcomes.proofs.RefusalLines.{schema_refusal_line, too_large_line, not_text_line}
use Rattle.command_outcomes.proofs.text_laws.refusals_of_files_are_one_line.Goals as goal

pub returns-clause-schema : goal.returns-clause-schema
returns-clause-schema c = schema_refusal_line c.refusal_texts_are_one_line.ensures

pub returns-clause-too_large : goal.returns-clause-too_large
returns-clause-too_large c = too_large_line

pub returns-clause-no_text : goal.returns-clause-no_text
returns-clause-no_text c = not_text_line
