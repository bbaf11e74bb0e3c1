use Rattle.std.proofs.Common.{arith}
use Rattle.gql_base.proofs.WayLaws.Cursor.{there_is, there_is_none}
use Rattle.gql_base.proofs.ways.source.Source.is_there.Goals as goal

pub returns-then-at-self-clause-there : goal.returns-then-at-self-clause-there
returns-then-at-self-clause-there c = there_is c.args.self.now c.args.at c.if-at-self.true

pub returns-clause-there : goal.returns-clause-there
returns-clause-there c = there_is_none c.args.self.now c.args.at (omega (arith, c.if-at-self.false))
