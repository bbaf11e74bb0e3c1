use Rattle.std.proofs.Common.{sym, ap, ◌∙◌}
use Rattle.std.specs.Str.{bytes_eq}
use Rattle.schema_model.specs.DraftViews.{input_view}
use Rattle.schema_model.specs.Implementing.{is_same_argument}
use Rattle.schema_model.proofs.NamedDrafts.{seen_some, seen_none}
use Rattle.schema_model.proofs.implementing.has_argument.Goals as goal

pub returns-in-Some : goal.returns-in-Some
returns-in-Some c = c.is_same.ensures ∙ ap (λ o. is_same_argument o (input_view c.args.wanted.now)) (sym (seen_some input_view (λ d. bytes_eq d.name c.args.wanted.now.name.now) c.args.own.now.items.items c.first_named.result c.in-Some.argument c.first_named.ensures c.in-Some.is))

pub returns-in-None : goal.returns-in-None
returns-in-None c = ap (λ o. is_same_argument o (input_view c.args.wanted.now)) (sym (seen_none input_view (λ d. bytes_eq d.name c.args.wanted.now.name.now) c.args.own.now.items.items c.first_named.result c.first_named.ensures c.in-None.is))
