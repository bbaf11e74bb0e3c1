use Rattle.std.proofs.Common.{map, sym, ap, ◌∙◌}
use Rattle.std.specs.Str.{bytes_eq}
use Rattle.schema_model.specs.DraftViews.{field_view, type_view}
use Rattle.schema_model.specs.Implementing.{maybe_implemented}
use Rattle.schema_model.proofs.NamedDrafts.{seen_some, seen_none}
use Rattle.schema_model.proofs.implementing.has_field.Goals as goal

pub returns-in-Some : goal.returns-in-Some
returns-in-Some c = c.is_implemented.ensures ∙ ap (λ o. maybe_implemented (map type_view c.args.types.now) o (field_view c.args.wanted.now)) (sym (seen_some field_view (λ f. bytes_eq f.name c.args.wanted.now.name.now) c.args.own.now.items.items c.first_named.result c.in-Some.field c.first_named.ensures c.in-Some.is))

pub returns-in-None : goal.returns-in-None
returns-in-None c = ap (λ o. maybe_implemented (map type_view c.args.types.now) o (field_view c.args.wanted.now)) (sym (seen_none field_view (λ f. bytes_eq f.name c.args.wanted.now.name.now) c.args.own.now.items.items c.first_named.result c.first_named.ensures c.in-None.is))
