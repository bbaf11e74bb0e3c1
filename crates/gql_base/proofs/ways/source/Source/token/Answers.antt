use Rattle.std.proofs.Common.{arith}
use Rattle.gql_base.proofs.WayLaws.Cursor.{some_ahead, none_ahead}
use Rattle.gql_base.proofs.ways.source.Source.token.Goals as goal

pub returns-then-at-self-clause-ahead : goal.returns-then-at-self-clause-ahead
returns-then-at-self-clause-ahead c = some_ahead c.args.self.now c.args.at _ c.if-at-self.true

pub returns-else-at-self-clause-ahead : goal.returns-else-at-self-clause-ahead
returns-else-at-self-clause-ahead c = none_ahead c.args.self.now c.args.at (omega (arith, c.if-at-self.false))
