-- What the leaves of a schema hold that passes the test.
use Rattle.std.proofs.Common.{◌≡◌, ℕ, Bool, true, false, ◌||◌, List, refl, sym, ap, ◌∙◌}
use Rattle.std.specs.Prelude.{codes}
use Rattle.std.specs.List.{list_any}
use Rattle.std.specs.Str.{bytes_eq}
use Rattle.std.proofs.lemmas.List.Folds.{list_any-append}
use Rattle.serde_json.specs.Data.{Data, null, boolean, number, string, array, object}
use Rattle.schema_rules.specs.Kinds.{is_scalar}
use Rattle.schema_model.specs.SchemaData.{TypeData, SchemaData, type_at}
use Rattle.input_values.specs.coercion.Kinds.{scalar_kind}
use Rattle.plan_model.specs.SelectedFields.{holds, holds_by, enum_holds, scalar_holds}
use Rattle.schema_facts.specs.Table.{executable_locations, type_system_locations}
use Rattle.cost_directives.proofs.FirstsFound.{both}
use Rattle.meta_schema.specs.MetaForms.{kind_names, holds as meta_holds}
use Rattle.meta_schema.specs.MetaFields.{IsLeafType, leaf_types}
use Rattle.meta_schema.specs.MetaTests.{is_enum, is_enum_of, is_scalar_named, location_names, are_leaf_types, same_names}
use Rattle.meta_schema.proofs.Same.{same_text, names, an_enum, a_scalar, one_of}

or_nothing : (b : Bool) → b || false ≡ b
or_nothing true = refl
or_nothing false = refl

kinds_hold : (json : Data) → enum_holds kind_names json ≡ meta_holds 3 json
kinds_hold (string text) = sym (or_nothing (list_any (bytes_eq text) kind_names))
kinds_hold null = refl
kinds_hold (boolean b) = refl
kinds_hold (number n) = refl
kinds_hold (array items) = refl
kinds_hold (object entries) = refl

locations_hold : (json : Data) → enum_holds location_names json ≡ meta_holds 8 json
locations_hold (string text) = list_any-append (bytes_eq text) executable_locations type_system_locations
locations_hold null = refl
locations_hold (boolean b) = refl
locations_hold (number n) = refl
locations_hold (array items) = refl
locations_hold (object entries) = refl

texts_hold : (lax : Bool) (json : Data) → scalar_holds (scalar_kind lax (codes "String")) json ≡ meta_holds 11 json
texts_hold lax (string text) = refl
texts_hold lax null = refl
texts_hold lax (boolean b) = refl
texts_hold lax (number n) = refl
texts_hold lax (array items) = refl
texts_hold lax (object entries) = refl

flags_hold : (lax : Bool) (json : Data) → scalar_holds (scalar_kind lax (codes "Boolean")) json ≡ meta_holds 12 json
flags_hold lax (string text) = refl
flags_hold lax null = refl
flags_hold lax (boolean b) = refl
flags_hold lax (number n) = refl
flags_hold lax (array items) = refl
flags_hold lax (object entries) = refl

enum_by : (t : TypeData) (values : List (List ℕ)) (json : Data) → is_enum_of values t ≡ true → holds_by t.kind t json ≡ enum_holds values json
enum_by t values json is =
    let parts = both (is_enum t.kind) (same_names t.values values) is in
    ap (λ kind. holds_by kind t json) (an_enum t.kind parts.0) ∙ ap (λ vs. enum_holds vs json) (names t.values values parts.1)

scalar_by : (t : TypeData) (name : List ℕ) (json : Data) → is_scalar_named name t ≡ true → holds_by t.kind t json ≡ scalar_holds (scalar_kind t.lax name) json
scalar_by t name json is =
    let parts = both (is_scalar t.kind) (bytes_eq t.name name) is in
    ap (λ kind. holds_by kind t json) (a_scalar t.kind parts.0) ∙ ap (λ n. scalar_holds (scalar_kind t.lax n) json) (same_text t.name name parts.1)

module _ (s : SchemaData) where
  abbrev HoldsAlike : ℕ → Type 0
  HoldsAlike T = (json : Data) → holds s T json ≡ meta_holds T json

  at_three : is_enum_of kind_names (type_at s 3) ≡ true → HoldsAlike 3
  unfolding holds
  at_three is json = enum_by (type_at s 3) kind_names json is ∙ kinds_hold json

  at_eight : is_enum_of location_names (type_at s 8) ≡ true → HoldsAlike 8
  unfolding holds
  at_eight is json = enum_by (type_at s 8) location_names json is ∙ locations_hold json

  at_eleven : is_scalar_named (codes "String") (type_at s 11) ≡ true → HoldsAlike 11
  unfolding holds
  at_eleven is json = scalar_by (type_at s 11) (codes "String") json is ∙ texts_hold (type_at s 11).lax json

  at_twelve : is_scalar_named (codes "Boolean") (type_at s 12) ≡ true → HoldsAlike 12
  unfolding holds
  at_twelve is json = scalar_by (type_at s 12) (codes "Boolean") json is ∙ flags_hold (type_at s 12).lax json

  pub leaves_hold : are_leaf_types s ≡ true → (T : ℕ) (json : Data) → IsLeafType T → holds s T json ≡ meta_holds T json
  leaves_hold are T json is =
      let kinds = both (is_enum_of kind_names (type_at s 3)) _ are in
      let locations = both (is_enum_of location_names (type_at s 8)) _ kinds.1 in
      let scalars = both (is_scalar_named (codes "String") (type_at s 11)) _ locations.1 in
      one_of HoldsAlike leaf_types T (at_three kinds.0, (at_eight locations.0, (at_eleven scalars.0, (at_twelve scalars.1, tt)))) is json
