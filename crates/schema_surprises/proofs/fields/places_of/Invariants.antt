use Rattle.std.proofs.Common.{◌≡◌, map}
use Rattle.std.specs.List.{filter, range_with_len}
use Rattle.schema_model.specs.SchemaData.{field_at}
use Rattle.schema_model.specs.SchemaViews.{schema_data}
use Rattle.cost_directives.specs.WeightViews.{weights_data}
use Rattle.cost_directives.specs.FieldPlaces.{place_of_field}
use Rattle.schema_surprises.specs.Surprises.{is_told}
use Rattle.schema_surprises.proofs.fields.places_of.Given as goal

-- Those of the fields so far.
abbrev pub invariant-loop-number : goal.invariant-loop-number
invariant-loop-number l = l.places.items
    ≡ map (λ n. place_of_field (schema_data l.schema) (field_at (schema_data l.schema) n)) (filter (is_told l.surprise (schema_data l.schema) (weights_data l.weights)) (range_with_len 0 l.number))
