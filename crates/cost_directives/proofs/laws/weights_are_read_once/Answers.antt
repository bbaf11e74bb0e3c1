use Rattle.cost_num.specs.declared.TheConstants.{GREATEST_WEIGHT}
use Rattle.cost_num.proofs.OneReading.{reads_same}
use Rattle.cost_directives.specs.Readings.{reading}
use Rattle.cost_directives.proofs.OneReading.{reading_reads}
use Rattle.cost_directives.proofs.laws.weights_are_read_once.Goals as goal

pub returns-clause-reads : goal.returns-clause-reads
returns-clause-reads c = reading_reads

pub returns-clause-only : goal.returns-clause-only
returns-clause-only c = λ text other reads. reads_same GREATEST_WEIGHT text other (reading text) reads (reading_reads text)
