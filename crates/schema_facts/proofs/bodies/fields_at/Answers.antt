use Rattle.std.proofs.Common.{sym, ap, ap₂, ◌∙◌}
use Rattle.std.proofs.lemmas.Result.{IfOk-weaker}
use Rattle.schema_facts.specs.FactsViews.{facts_data}
use Rattle.schema_facts.specs.Places.{places_in}
use Rattle.schema_facts.specs.Shown.{fields_by}
use Rattle.schema_facts.specs.Table.{in_body, known_at}
use Rattle.schema_facts.proofs.PlacesListed.{places_defined}
use Rattle.schema_facts.proofs.ShownByNumbers.{type_fields}
use Rattle.schema_facts.proofs.bodies.fields_at.Goals as goal

pub returns : goal.returns
returns c =
    IfOk-weaker c.fields_in.result _ _ (λ found is. is ∙ ap₂ (λ numbers d. in_body (fields_by c.args.all numbers) d) c.shown_at-numbers.ensures c.definition_at.ensures
    ∙ type_fields c.args.all (known_at (facts_data c.args.facts.now) c.args.number)) c.fields_in.ensures

pub fields_in-requires : goal.fields_in-requires
fields_in-requires c = c.places_at-places.ensures ∙ places_defined (known_at (facts_data c.args.facts.now) c.args.number) ∙ ap places_in (sym c.definition_at.ensures)
