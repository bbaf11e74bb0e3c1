use Rattle.std.proofs.Common.{map, length, sym, ap, ◌∙◌}
use Rattle.std.proofs.lemmas.List.{length-map}
use Rattle.std.specs.Str.{bytes_eq}
use Rattle.schema_rules.specs.Views.{named_kind}
use Rattle.schema_model.specs.Drafts.{or_past}
use Rattle.schema_model.proofs.NamedDrafts.{position_view}
use Rattle.schema_model.proofs.shapes.number_named.Goals as goal

pub returns-in-Some : goal.returns-in-Some
returns-in-Some c = ap (or_past (map named_kind c.args.types.now.items.now)) (sym c.in-Some.is ∙ (c.position.ensures.place ∙ position_view named_kind (λ t. bytes_eq t.name c.args.name.now) 0 c.args.types.now.items.now))

pub returns-in-None : goal.returns-in-None
returns-in-None c = ap length c.items.ensures ∙ (sym (length-map c.args.types.now.items.now named_kind)
    ∙ ap (or_past (map named_kind c.args.types.now.items.now)) (sym c.in-None.is ∙ (c.position.ensures.place ∙ position_view named_kind (λ t. bytes_eq t.name c.args.name.now) 0 c.args.types.now.items.now)))
