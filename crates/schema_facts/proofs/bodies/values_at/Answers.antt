use Rattle.std.proofs.Common.{sym, ap, ap₂, ◌∙◌}
use Rattle.std.proofs.lemmas.Result.{IfOk-weaker}
use Rattle.schema_facts.specs.FactsViews.{facts_data}
use Rattle.schema_facts.specs.Places.{places_in}
use Rattle.schema_facts.specs.Shown.{values_by}
use Rattle.schema_facts.specs.Table.{in_body, known_at}
use Rattle.schema_facts.proofs.PlacesListed.{places_defined}
use Rattle.schema_facts.proofs.ShownByNumbers.{type_values}
use Rattle.schema_facts.proofs.bodies.values_at.Goals as goal

pub returns : goal.returns
returns c =
    IfOk-weaker c.values_in.result _ _ (λ found is. is ∙ ap₂ (λ numbers d. in_body (values_by c.args.all numbers) d) c.shown_at-numbers.ensures c.definition_at.ensures
    ∙ type_values c.args.all (known_at (facts_data c.args.facts.now) c.args.number)) c.values_in.ensures

pub values_in-requires : goal.values_in-requires
values_in-requires c = c.places_at-places.ensures ∙ places_defined (known_at (facts_data c.args.facts.now) c.args.number) ∙ ap places_in (sym c.definition_at.ensures)
