use Rattle.text_places.proofs.LinesOfText.{line_there, line_among}
use Rattle.text_places.proofs.laws.the_line_is_one_of_the_text.Goals as goal

pub returns-clause-there : goal.returns-clause-there
returns-clause-there c = line_there

pub returns-clause-same : goal.returns-clause-same
returns-clause-same c = line_among
