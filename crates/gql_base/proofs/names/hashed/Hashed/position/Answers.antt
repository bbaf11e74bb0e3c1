use Rattle.std.proofs.Common.{◌∙◌, ◌<◌, length, subst, sym}
use Rattle.std.specs.Prelude.{IfSome}
use Rattle.std.specs.Str.{bytes_eq}
use Rattle.gql_base.proofs.NameLaws.IndexLaws.{is_within}
use Rattle.gql_base.proofs.names.hashed.Hashed.position.Goals as goal

pub returns-clause-place : goal.returns-clause-place
returns-clause-place g c = c.copied.ensures ∙ (c.get.ensures.value ∙ c.args.self.now.finds c.args.name.now)

pub returns-clause-within : goal.returns-clause-within
returns-clause-within g c =
    let items = c.args.self.now.items.items in
    subst (λ place. IfSome place (λ at. at < length items)) (sym (c.copied.ensures ∙ (c.get.ensures.value ∙ c.args.self.now.finds c.args.name.now)))
    (is_within (λ item. bytes_eq (g.T.Named.name_of item) c.args.name.now) items)
