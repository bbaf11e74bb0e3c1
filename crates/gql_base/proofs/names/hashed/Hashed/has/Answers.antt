use Rattle.std.proofs.Common.{◌∙◌, ap}
use Rattle.std.specs.Prelude.{is_some}
use Rattle.std.specs.Str.{bytes_eq}
use Rattle.gql_base.proofs.NameLaws.IndexLaws.{is_there}
use Rattle.gql_base.proofs.names.hashed.Hashed.has.Goals as goal

pub returns : goal.returns
returns g c = c.is_some.ensures ∙ (ap is_some c.position.ensures.place ∙ is_there (λ item. bytes_eq (g.T.Named.name_of item) c.args.name.now) 0 c.args.self.now.items.items)
