use Rattle.collected_fields.proofs.FinishLaws.{stand_themselves}
use Rattle.collected_fields.proofs.ListLaws.{more_itself}
use Rattle.collected_fields.proofs.JoinLaws.{same_flat}
use Rattle.collected_fields.proofs.joins.Joins.few.Goals as goal

pub returns-then-len-lt-FEW-clause-few : goal.returns-then-len-lt-FEW-clause-few
returns-then-len-lt-FEW-clause-few c = stand_themselves c.args.self.now c.args.self.now c.args.numbers.items (more_itself c.args.self.now)

pub returns-in-None-clause-few : goal.returns-in-None-clause-few
returns-in-None-clause-few c = stand_themselves c.args.self.now c.numbers_for.new.self c.args.numbers.items (same_flat c.args.self.now c.flat.new.self c.numbers_for.new.self c.flat.ensures.count c.flat.ensures.lists c.numbers_for.ensures.more)

pub returns-then-are_few-clause-few : goal.returns-then-are_few-clause-few
returns-then-are_few-clause-few c = stand_themselves c.args.self.now c.flat.new.self c.args.numbers.items (same_flat c.args.self.now c.flat.new.self c.flat.new.self c.flat.ensures.count c.flat.ensures.lists (more_itself c.flat.new.self))
