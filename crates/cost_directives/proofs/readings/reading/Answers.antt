use Rattle.std.proofs.Common.{sym}
use Rattle.cost_directives.specs.Readings.{reading}
use Rattle.cost_directives.proofs.OneReading.{reading_reads}
use Rattle.cost_directives.proofs.readings.reading.Goals as goal

pub returns : goal.returns
returns c = sym (c.read_weight.ensures.only (reading c.args.text.now) (reading_reads c.args.text.now))
