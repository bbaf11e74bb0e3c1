use Rattle.std.proofs.Common.{rules}
use Rattle.schema_facts.specs.Turning.{nones}
use Rattle.schema_facts.proofs.TurnedLists.{one_none_more}
use Rattle.schema_facts.proofs.turned.nones.Goals as goal

pub count-preserved : goal.count-preserved
count-preserved c = one_none_more c.count.lists.items c.args.count c.count.at c.new.result c.push.new.self.items (nones c.args.count) (search rules) c.new.ensures.items c.in_ok-push.ensures.items c.count.invariant
