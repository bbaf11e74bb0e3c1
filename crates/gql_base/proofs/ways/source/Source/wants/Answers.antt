use Rattle.std.proofs.Common.{◌∙◌, ◌+◌, sym, ap}
use Rattle.gql_base.specs.ways.Reading.{taken, when}
use Rattle.gql_base.specs.ways.Sources.{ahead}
use Rattle.gql_base.proofs.WayLaws.Cursor.{single_ahead}
use Rattle.gql_base.proofs.ways.source.Source.wants.Goals as goal

pub returns-then-is_kind-clause-read : goal.returns-then-is_kind-clause-read
returns-then-is_kind-clause-read c = single_ahead c.args.self.now c.args.at c.args.kind c.in-Some.token c.in-Some.ensures.ahead ∙ ap (λ b. taken (when b) (ahead c.args.self.now (c.args.at + 1)) (ahead c.args.self.now c.args.at)) (sym c.is_kind.ensures ∙ c.if-is_kind.true)
