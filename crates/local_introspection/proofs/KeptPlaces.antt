-- What is kept of arguments looks at the places of names alone.
use Rattle.std.proofs.Common.{◌≡◌, ◌∙◌, ℕ, ◌+◌, List, [], ◌∷◌, map, Option, Some, None, refl, ap, ap₂, cond}
use Rattle.std.specs.List.{position_from}
use Rattle.std.specs.Str.{bytes_eq}
use Rattle.gql_base.specs.names.Names.{place_of_name}
use Rattle.input_values.specs.values.Coerced.{CoercedTree, coerced_null, coerced_integer, coerced_float, coerced_string, coerced_boolean, coerced_enum, coerced_list, coerced_object}
use Rattle.schema_model.specs.Arguments.{ArgData}
use Rattle.meta_schema.specs.PassedOn.{Argument, AskedNodes, asked_then, Asked, no_field, field_then, AskedBelow, of_leaf, of_objects, of_nothing, kept_of, kept_below, first_value, is_true_value, place_of_value, argument_kept}
use Rattle.schema_facts.specs.declared.known.KnownType.{KnownType}
use Rattle.schema_facts.specs.Facts.{known_name, known_type}

module _ (place other : List ℕ → Option ℕ) (same : (name : List ℕ) → place name ≡ other name) where
  value_alike : (v : Option CoercedTree) → place_of_value place v ≡ place_of_value other v
  value_alike None = refl
  value_alike (Some (coerced_string name)) = same name
  value_alike (Some coerced_null) = refl
  value_alike (Some (coerced_integer z)) = refl
  value_alike (Some (coerced_float z)) = refl
  value_alike (Some (coerced_boolean b)) = refl
  value_alike (Some (coerced_enum name)) = refl
  value_alike (Some (coerced_list items)) = refl
  value_alike (Some (coerced_object fields)) = refl

  argument_alike : (args : List ArgData) → argument_kept place args ≡ argument_kept other args
  argument_alike args = ap (λ (n : Option ℕ). record { is_true = is_true_value (first_value args); place = n }) (value_alike (first_value args))

  mutual
    fields_alike : (asked : Asked) → kept_of place asked ≡ kept_of other asked
    fields_alike no_field = refl
    fields_alike (field_then s arguments below others) =
        ap (λ (a : Argument). asked_then s.key s.field a (kept_below place below) (kept_of place others)) (argument_alike arguments)
        ∙ ap₂ (λ (b rest : AskedNodes). asked_then s.key s.field (argument_kept other arguments) b rest) (below_alike below) (fields_alike others)

    pub below_alike : (below : AskedBelow) → kept_below place below ≡ kept_below other below
    below_alike (of_leaf type weight fill) = refl
    below_alike (of_objects T weight asked) = fields_alike asked
    below_alike of_nothing = refl

-- ---- the place of a name among types, as the program holds them

numbered_alike : (types : List KnownType) (n : ℕ) (name : List ℕ)
    → position_from (λ t. bytes_eq (known_name (known_type t)) name) n types ≡ position_from (λ t. bytes_eq (known_name t) name) n (map known_type types)
numbered_alike [] n name = refl
numbered_alike (t ∷ types) n name = ap (λ (rest : Option ℕ). cond (bytes_eq (known_name (known_type t)) name) (Some n) rest) (numbered_alike types (n + 1) name)

pub place_alike : (types : List KnownType) (name : List ℕ) → place_of_name (λ t. known_name (known_type t)) types name ≡ place_of_name known_name (map known_type types) name
place_alike types name = numbered_alike types 0 name
