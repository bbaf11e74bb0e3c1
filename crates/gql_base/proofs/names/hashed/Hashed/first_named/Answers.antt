use Rattle.std.proofs.Common.{sym, ap, ◌∙◌}
use Rattle.std.specs.Prelude.{slice_get}
use Rattle.std.specs.Str.{bytes_eq}
use Rattle.gql_base.proofs.NameLaws.IndexLaws.{found, standing, got}
use Rattle.gql_base.proofs.names.hashed.Hashed.first_named.Goals as goal

pub returns-in-Some : goal.returns-in-Some
returns-in-Some g c = (got _ c.get.result c.deref.result.now c.in-Some.at c.get.ensures.lookup.3 c.get.ensures.lookup.1 ∙ ap (λ l. slice_get l c.in-Some.at) c.deref.ensures.value)
    ∙ sym (found (λ item. bytes_eq (g.T.Named.name_of item) c.args.name.now) c.args.self.now.items.items ∙ ap (standing c.args.self.now.items.items) (sym c.position.ensures.place ∙ c.in-Some.is))

pub returns-in-None : goal.returns-in-None
returns-in-None g c = sym (found (λ item. bytes_eq (g.T.Named.name_of item) c.args.name.now) c.args.self.now.items.items ∙ ap (standing c.args.self.now.items.items) (sym c.position.ensures.place ∙ c.in-None.is))
