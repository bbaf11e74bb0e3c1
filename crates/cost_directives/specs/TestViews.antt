-- What tests of cost directives find, as the program holds it.
use Rattle.std.specs.Prelude.{ℕ, List, Option, None, Some}
use Rattle.schema_rules.specs.Views.{place_tree}
use Rattle.schema_model.specs.SchemaData.{SchemaData, field_at}
use Rattle.schema_model.specs.declared.entries.FieldId.{FieldId}
use Rattle.cost_directives.specs.declared.faults.bad_weight.BadWeight.{BadWeight}
use Rattle.cost_directives.specs.declared.places.FoundName.{FoundName}
use Rattle.cost_directives.specs.BadWeight.{BadWeightData}
use Rattle.cost_directives.specs.FieldPlaces.{NameAt, name_at, place_of_field}

abbrev pub maybe_bad : Option BadWeight → Option BadWeightData
maybe_bad None = None
maybe_bad (Some b) = Some record { place = place_tree b.place; fault = b.fault }

-- the place of a field that was found
abbrev pub found_place : SchemaData → Option FieldId → Option (List ℕ)
found_place s None = None
found_place s (Some field) = Some (place_of_field s (field_at s field.number))

abbrev pub maybe_found : SchemaData → Option FoundName → Option NameAt
maybe_found s None = None
maybe_found s (Some f) = Some (name_at s (field_at s f.field.number) f.name.now)
