use Rattle.response_model.proofs.OneTree.{one_tree}
use Rattle.response_model.proofs.laws.one_reading.Goals as goal

pub returns : goal.returns
returns c name alias form asked plan json t s differ = one_tree name alias differ form asked plan json t s
