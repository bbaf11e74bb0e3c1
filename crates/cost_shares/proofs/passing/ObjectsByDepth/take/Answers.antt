use Rattle.std.proofs.Common.{rules}
use Rattle.response_model.specs.Components.{part_of}
use Rattle.cost_shares.proofs.FoundShares.{times_held, values_held, share_held, behind_held}
use Rattle.cost_shares.proofs.passing.ObjectsByDepth.take.Goals as goal

pub returns-clause-share : goal.returns-clause-share
returns-clause-share c t holds =
    let p = c.args.of.now in
    let n = c.args.row.now in
    let times = times_held p n t c.args.self.now c.times-times.result n.within c.times-times.ensures holds in
    share_held (part_of c.args.part) p n t c.args.number c.times-times.result c.values_cost-values.result c.entry_cost-entry.result c.value_adds-value.result c.added.result
    times (values_held p n t c.times-times.result c.values_cost-values.result times c.values_cost-values.ensures)
    c.entry_cost-entry.ensures c.value_adds-value.ensures c.added.ensures

pub returns-clause-behind : goal.returns-clause-behind
returns-clause-behind c t holds =
    let p = c.args.of.now in
    let n = c.args.row.now in
    let times = times_held p n t c.args.self.now c.times-times.result n.within c.times-times.ensures holds in
    behind_held p n t c.args.self.now c.args.number c.values_cost-values.result n.within (search rules) (search rules)
    (values_held p n t c.times-times.result c.values_cost-values.result times c.values_cost-values.ensures) holds
