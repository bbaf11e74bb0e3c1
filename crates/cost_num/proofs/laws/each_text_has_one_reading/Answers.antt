use Rattle.cost_num.proofs.OneReading.{reads_some, reads_same}
use Rattle.cost_num.proofs.laws.each_text_has_one_reading.Goals as goal

pub returns-clause-at_least_one : goal.returns-clause-at_least_one
returns-clause-at_least_one c = reads_some

pub returns-clause-at_most_one : goal.returns-clause-at_most_one
returns-clause-at_most_one c = reads_same
