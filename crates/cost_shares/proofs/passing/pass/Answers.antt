use Rattle.std.proofs.Common.{rules, ap}
use Rattle.response_model.specs.Components.{part_of}
use Rattle.cost_shares.proofs.FoundShares.{first_goes, next_goes, all_gone}
use Rattle.cost_shares.proofs.passing.pass.Goals as goal

pub loop-at-init : goal.loop-at-init
loop-at-init c = first_goes (part_of c.args.part) c.args.of.now c.args.chosen.now c.new-objects.result c.new-found.result.items c.root.result.number _ (search rules) c.new-found.ensures.items (ap (λ on. on.number) c.root.ensures) c.new-objects.ensures

pub loop-at-preserved : goal.loop-at-preserved
loop-at-preserved c = next_goes (part_of c.args.part) c.args.of.now c.args.chosen.now c.node_rows-rows.result.now c.index-rows-at.result c.loop-at.objects c.take.new.self c.loop-at.found.items c.push.new.self.items c.take.result c.loop-at.at c.chosen_at.result
    c.node_rows-rows.ensures (search rules) c.index-rows-at.is c.chosen_at.ensures c.take.ensures.share c.take.ensures.behind (search rules) c.loop-at.invariant

pub returns : goal.returns
returns c = all_gone (part_of c.args.part) c.args.of.now c.args.chosen.now c.node_rows-rows.result.now c.loop-at.objects c.loop-at.found.items c.loop-at.at c.node_rows-rows.ensures (search rules) c.loop-at.invariant
