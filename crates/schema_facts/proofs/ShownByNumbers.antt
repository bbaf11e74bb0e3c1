-- What is shown by the numbers of what isn't deprecated is what is shown.
use Rattle.std.proofs.Common.{◌≡◌, ℕ, suc, ◌+◌, Bool, true, false, List, [], ◌∷◌, map, if◌then◌else◌, Option, Some, None, refl, ap, ap₂, ◌∙◌, arith}
use Rattle.std.specs.Prelude.{slice_get}
use Rattle.schema_reader.specs.Schemas.{FieldDefTree, EnumValueTree, BodyTree, schema_body, scalar_body, object_body, interface_body, union_body, enum_body, input_body, directive_body}
use Rattle.schema_facts.specs.Facts.{KnownTree, built_in, defined, definition_body, numbers_from}
use Rattle.schema_facts.specs.Things.{ThingData, a_field, an_enum_value, many}
use Rattle.schema_facts.specs.Table.{shown_fields, shown_values, fields_in, values_in, in_body, definition_in}
use Rattle.schema_facts.specs.Making.{list_of}
use Rattle.schema_facts.specs.Shown.{is_shown_field, is_shown_value, shown_in, shown_of, with_thing, picked, shown_by, fields_by, values_by}

-- the things that a test lets pass, in their order
abbrev passed : {A : Type 0} → (A → ThingData) → (A → Bool) → List A → List ThingData
passed thing test [] = []
passed thing test (x ∷ others) = if test x then thing x ∷ passed thing test others else passed thing test others

module _ {A : Type 0} (thing : A → ThingData) (test : A → Bool) (all : List A) where
  -- those behind the first n
  picked_behind : (n : ℕ) (others : List A) → ((k : ℕ) → slice_get all (n + k) ≡ slice_get others k) → picked thing all (numbers_from n test others) ≡ passed thing test others
  picked_behind n [] same = refl
  picked_behind n (x ∷ others) same =
      by (picked_behind (n + 1) others (λ k. let one_more : (n + 1) + k ≡ n + suc k = omega arith in ap (slice_get all) one_more ∙ same (suc k))) (test x)
    where
      here : slice_get all n ≡ Some x
      here = let no_more : n ≡ n + 0 = omega arith in ap (slice_get all) no_more ∙ same 0

      by : picked thing all (numbers_from (n + 1) test others) ≡ passed thing test others
          → (b : Bool) → picked thing all (if b then n ∷ numbers_from (n + 1) test others else numbers_from (n + 1) test others) ≡ (if b then thing x ∷ passed thing test others else passed thing test others)
      by later true = ap₂ (with_thing thing) here later
      by later false = later

  picked_all : picked thing all (numbers_from 0 test all) ≡ passed thing test all
  picked_all = picked_behind 0 all (λ k. let none_more : 0 + k ≡ k = omega arith in ap (slice_get all) none_more)

shown_or_all : (all : Bool) (fields : List FieldDefTree) → shown_by a_field all (numbers_from 0 is_shown_field fields) fields ≡ shown_fields all fields
shown_or_all true fields = every fields
  where
    every : (fields : List FieldDefTree) → map a_field fields ≡ shown_fields true fields
    every [] = refl
    every (f ∷ others) = ap (λ l. a_field f ∷ l) (every others)
shown_or_all false fields = picked_all a_field is_shown_field fields ∙ by fields
  where
    by : (fields : List FieldDefTree) → passed a_field is_shown_field fields ≡ shown_fields false fields
    by [] = refl
    by (f ∷ others) = ap (λ l. if is_shown_field f then a_field f ∷ l else l) (by others)

values_or_all : (all : Bool) (values : List EnumValueTree) → shown_by an_enum_value all (numbers_from 0 is_shown_value values) values ≡ shown_values all values
values_or_all true values = every values
  where
    every : (values : List EnumValueTree) → map an_enum_value values ≡ shown_values true values
    every [] = refl
    every (v ∷ others) = ap (λ l. an_enum_value v ∷ l) (every others)
values_or_all false values = picked_all an_enum_value is_shown_value values ∙ by values
  where
    by : (values : List EnumValueTree) → passed an_enum_value is_shown_value values ≡ shown_values false values
    by [] = refl
    by (v ∷ others) = ap (λ l. if is_shown_value v then an_enum_value v ∷ l else l) (by others)

body_fields : (all : Bool) (body : BodyTree) → fields_by all (shown_in body) body ≡ fields_in all body
body_fields all (object_body interfaces fields) = ap many (shown_or_all all fields)
body_fields all (interface_body interfaces fields) = ap many (shown_or_all all fields)
body_fields all (schema_body roots) = refl
body_fields all scalar_body = refl
body_fields all (union_body members) = refl
body_fields all (enum_body values) = refl
body_fields all (input_body fields) = refl
body_fields all (directive_body arguments repeatable locations) = refl

body_values : (all : Bool) (body : BodyTree) → values_by all (shown_in body) body ≡ values_in all body
body_values all (enum_body values) = ap many (values_or_all all values)
body_values all (object_body interfaces fields) = refl
body_values all (interface_body interfaces fields) = refl
body_values all (schema_body roots) = refl
body_values all scalar_body = refl
body_values all (union_body members) = refl
body_values all (input_body fields) = refl
body_values all (directive_body arguments repeatable locations) = refl

pub type_fields : (all : Bool) (known : Option KnownTree) → in_body (fields_by all (list_of shown_of known)) (definition_in known) ≡ in_body (fields_in all) (definition_in known)
type_fields all None = refl
type_fields all (Some (built_in name)) = refl
type_fields all (Some (defined d)) = body_fields all (definition_body d)

pub type_values : (all : Bool) (known : Option KnownTree) → in_body (values_by all (list_of shown_of known)) (definition_in known) ≡ in_body (values_in all) (definition_in known)
type_values all None = refl
type_values all (Some (built_in name)) = refl
type_values all (Some (defined d)) = body_values all (definition_body d)
