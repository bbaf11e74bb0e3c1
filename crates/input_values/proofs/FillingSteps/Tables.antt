-- Fields beside a table of the values of defaults.
use Rattle.std.proofs.Common.{◌≡◌, ◌+◌, ℕ, zero, suc, ◌||◌, bytes_eq, List, [], ◌∷◌, length, map, Option, Some, None, option_map, Bor, refl, ap, ◌∙◌, arith}
use Rattle.std.specs.Prelude.{slice_get}
use Rattle.std.proofs.lemmas.Option.{slice_get-map}
use Rattle.gql_base.specs.names.Names.{has_name}
use Rattle.input_values.specs.values.Coerced.{CoercedTree}
use Rattle.input_values.specs.coercion.Forms.{is_value, is_field, names_of, fields_of}
use Rattle.input_values.specs.coercion.Kinds.{scalar_form_of}
use Rattle.input_values.specs.declared.inputs.types.InputKind.{InputKind}
use Rattle.input_values.specs.declared.inputs.types.InputKind.TheVariants.{Int, String, Boolean, Id, Float as FloatKind, Custom, Lax, Enum as EnumKind, Object as ObjectKind, None as NoKind}
use Rattle.input_values.specs.declared.defaults.drafts.DraftField.{DraftField}
use Rattle.input_values.specs.defaults.Drafts.{FieldDraft}
use Rattle.input_values.specs.defaults.Filling.{field_draft, table_field, table_fields}

pub no_fields : (kind : InputKind) → fields_of (scalar_form_of kind) ≡ []
no_fields Int = refl
no_fields String = refl
no_fields Boolean = refl
no_fields Id = refl
no_fields Custom = refl
no_fields Lax = refl
no_fields FloatKind = refl
no_fields EnumKind = refl
no_fields ObjectKind = refl
no_fields NoKind = refl

pub no_names : (kind : InputKind) → names_of (scalar_form_of kind) ≡ []
no_names Int = refl
no_names String = refl
no_names Boolean = refl
no_names Id = refl
no_names Custom = refl
no_names Lax = refl
no_names FloatKind = refl
no_names EnumKind = refl
no_names ObjectKind = refl
no_names NoKind = refl

pub has_drafted : (values : ℕ → Option CoercedTree) (n : ℕ) (fs : List DraftField) (name : List ℕ) → is_field (table_fields values n (map field_draft fs)) name ≡ has_name (λ f. f.name.now) fs name
has_drafted values n [] name = refl
has_drafted values n (f ∷ fs) name = ap (λ b. bytes_eq f.name.now name || b) (has_drafted values (suc n) fs name)

pub count_drafted : (values : ℕ → Option CoercedTree) (n : ℕ) (fs : List DraftField) → length (table_fields values n (map field_draft fs)) ≡ length fs
count_drafted values n [] = refl
count_drafted values n (f ∷ fs) = ap suc (count_drafted values (suc n) fs)

at_drafted_from : (values : ℕ → Option CoercedTree) (n : ℕ) (fs : List FieldDraft) (at : ℕ) → slice_get (table_fields values n fs) at ≡ option_map (table_field (values (n + at))) (slice_get fs at)
at_drafted_from values n [] at = refl
at_drafted_from values n (f ∷ fs) zero = let e : n ≡ n + zero = omega arith in ap (λ k. Some (table_field (values k) f)) e
at_drafted_from values n (f ∷ fs) (suc at) = let e : suc n + at ≡ n + suc at = omega arith in at_drafted_from values (suc n) fs at ∙ ap (λ k. option_map (table_field (values k)) (slice_get fs at)) e

pub at_drafted : (values : ℕ → Option CoercedTree) (fs : List FieldDraft) (at : ℕ) → slice_get (table_fields values 0 fs) at ≡ option_map (table_field (values at)) (slice_get fs at)
at_drafted values fs at = let e : 0 + at ≡ at = omega arith in at_drafted_from values 0 fs at ∙ ap (λ k. option_map (table_field (values k)) (slice_get fs at)) e

pub at_place : (values : ℕ → Option CoercedTree) (fs : List DraftField) (at : ℕ) → slice_get (table_fields values 0 (map field_draft fs)) at ≡ option_map (λ f. table_field (values at) (field_draft f)) (slice_get fs at)
at_place values fs at = at_drafted values (map field_draft fs) at ∙ (ap (option_map (table_field (values at))) (slice_get-map field_draft fs at) ∙ twice (slice_get fs at))
  where
    twice : (o : Option DraftField) → option_map (table_field (values at)) (option_map field_draft o) ≡ option_map (λ f. table_field (values at) (field_draft f)) o
    twice None = refl
    twice (Some f) = refl

pub has_value_drafted : (names : List (Bor (List ℕ))) (name : List ℕ) → is_value (map (λ n. n.now) names) name ≡ has_name (λ n. n.now) names name
has_value_drafted [] name = refl
has_value_drafted (n ∷ names) name = ap (λ b. bytes_eq n.now name || b) (has_value_drafted names name)
