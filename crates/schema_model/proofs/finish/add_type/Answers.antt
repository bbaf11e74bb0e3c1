use Rattle.std.proofs.Common.{◌-◌, ◌++◌, ◌∷◌, [], length, map, ap, ap₂, ◌∙◌}
use Rattle.std.proofs.lemmas.List.{map-append}
use Rattle.schema_model.specs.DraftViews.{field_view, type_view}
use Rattle.schema_model.specs.Entries.{type_data}
use Rattle.schema_model.specs.Schemas.{numbers, type_with}
use Rattle.schema_model.proofs.DraftSteps.{grown}
use Rattle.schema_model.proofs.finish.add_type.Goals as goal

pub returns-clause-types : goal.returns-clause-types
returns-clause-types g c =
    let first = c.count_of-first.ensures ∙ ap length c.deref.ensures.value in
    let last = c.count_of.ensures ∙ ap length c.deref-2.ensures.value in
    let more = grown c.args.fields.now.items c.add_fields.new.fields.items (g.T.InputTypes.forms c.args.forms.now) c.args.owner (map field_view c.items.result.now) c.in_ok-add_fields.ensures ∙ ap (λ fs. length (map field_view fs)) c.items.ensures in
    let ids = c.in_ok-ids.ensures ∙ ap₂ numbers first (ap₂ (λ x y. x - y) last first ∙ more) in
    ap (map type_data) c.in_ok-push.ensures.items ∙ (map-append type_data c.args.types.now.items _
    ∙ ap (λ t. map type_data c.args.types.now.items ++ (t ∷ [])) (c.in_ok-type_of.ensures ∙ ap (λ ns. type_with (g.T.InputTypes.forms c.args.forms.now) ns (type_view c.args.draft.now)) ids))
