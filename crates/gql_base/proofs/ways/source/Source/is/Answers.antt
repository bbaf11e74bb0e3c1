use Rattle.std.proofs.Common.{◌∙◌, sym}
use Rattle.gql_base.proofs.WayLaws.Cursor.{takes_ahead}
use Rattle.gql_base.proofs.ways.source.Source.is.Goals as goal

pub returns-in-Some : goal.returns-in-Some
returns-in-Some c = c.is_kind.ensures ∙ sym (takes_ahead c.args.self.now c.args.at c.args.kind c.in-Some.token c.in-Some.ensures.ahead)
