use Rattle.std.proofs.Common.{◌∙◌}
use Rattle.response_model.specs.Components.{part_of}
use Rattle.cost_shares.proofs.FoundShares.{found_shares, rows_found, sum_found}
use Rattle.cost_shares.proofs.passing.shares.Goals as goal

pub returns-clause-nodes : goal.returns-clause-nodes
returns-clause-nodes c = found_shares (part_of c.args.part) c.args.of.now c.deref.result.now c.pass.result c.requires (c.deref.ensures.value ∙ c.in_ok-chosen.ensures) c.pass.ensures

pub returns-clause-rows : goal.returns-clause-rows
returns-clause-rows c = rows_found (part_of c.args.part) c.args.of.now c.deref.result.now c.pass.result c.pass.ensures

pub returns-clause-sum : goal.returns-clause-sum
returns-clause-sum c = sum_found (part_of c.args.part) c.args.of.now c.deref.result.now c.pass.result c.requires (c.deref.ensures.value ∙ c.in_ok-chosen.ensures) c.pass.ensures
