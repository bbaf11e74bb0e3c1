-- By the bytes of names and values.
use Rattle.http_front.proofs.OneLines.{in_one_line}
use Rattle.http_front.proofs.laws.fields_stand_in_one_line.Goals as goal

pub returns : goal.returns
returns c = in_one_line
