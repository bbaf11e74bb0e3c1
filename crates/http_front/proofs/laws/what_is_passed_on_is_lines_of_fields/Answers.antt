-- By the fields of the head.
use Rattle.http_front.proofs.PassedLines.{ask_passes_lines}
use Rattle.http_front.proofs.laws.what_is_passed_on_is_lines_of_fields.Goals as goal

pub returns : goal.returns
returns c = ask_passes_lines
