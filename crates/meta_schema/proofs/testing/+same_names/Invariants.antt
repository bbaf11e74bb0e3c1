use Rattle.std.proofs.Common.{length}
use Rattle.meta_schema.proofs.testing.+same_names.Given as goal

abbrev pub decreases-same_names : goal.decreases-same_names
decreases-same_names l = length l.found.now
