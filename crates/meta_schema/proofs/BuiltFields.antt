-- A field that is found by its name in a schema that was built has that name, belongs to its type, and is one of the schema's.
use Rattle.std.proofs.Common.{◌≡◌, ◌+◌, ◌<◌, ℕ, zero, suc, List, [], ◌∷◌, map, get_or, length, Some, inl, inr, refl, sym, ap, ◌∙◌, arith}
use Rattle.std.specs.Str.{bytes_eq}
use Rattle.std.proofs.lemmas.List.{length-map, length-append}
use Rattle.std.proofs.lemmas.Option.{none-some, same_Some}
use Rattle.input_values.specs.coercion.Forms.{InputForm}
use Rattle.schema_rules.specs.Items.{ItemTree}
use Rattle.schema_rules.specs.TypeNames.{NamedKind}
use Rattle.schema_model.specs.Drafts.{TypeDraft}
use Rattle.schema_model.specs.Schemas.{field_of, field_name, numbers, types_from, fields_from, no_type, schema_with}
use Rattle.schema_model.specs.SchemaData.{SchemaData, type_at, field_at, field_named, number_at, same_text}
use Rattle.cost_directives.proofs.FirstsFound.{never, standing, found_passes}
use Rattle.cost_directives.proofs.DraftedFields.{field_or_none, has_name_of}
use Rattle.meta_schema.proofs.Same.{same_text as texts}

pub record IsFieldOf (s : SchemaData) (T : ℕ) (name : List ℕ) (f : ℕ) : Type 0 where
  pub named : (field_at s f).name ≡ name
  pub owned : (field_at s f).owner ≡ T
  pub within : f < length s.fields

-- ---- it is one of the schema's

abbrev total : List TypeDraft → ℕ
total [] = 0
total (d ∷ ds) = length d.fields + total ds

number_within : (first count k : ℕ) → k < count → get_or (numbers first count) k 0 < first + count
number_within first zero k within = absurd (never k within)
number_within first (suc count) zero within = omega arith
number_within first (suc count) (suc k) within = omega (arith, number_within (first + 1) count k (omega (arith, within)))

module _ (form : ℕ → InputForm) where
  all_fields : (owner : ℕ) (ds : List TypeDraft) → length (fields_from form owner ds) ≡ total ds
  all_fields owner [] = refl
  all_fields owner (d ∷ ds) = omega (arith, length-append (map (field_of form owner) d.fields) (fields_from form (owner + 1) ds), length-map d.fields (field_of form owner), all_fields (owner + 1) ds)

  type_within : (first : ℕ) (ds : List TypeDraft) (of k : ℕ) → k < length (get_or (types_from form first ds) of no_type).names → get_or (get_or (types_from form first ds) of no_type).fields k 0 < first + total ds
  type_within first [] of k within = absurd (never k within)
  type_within first (d ∷ ds) zero k within = omega (arith, number_within first (length d.fields) k (omega (arith, length-map d.fields field_name, within)))
  type_within first (d ∷ ds) (suc of) k within = omega (arith, type_within (first + length d.fields) ds of k within)

-- ---- what is found

module _ (form : ℕ → InputForm) (items : List ItemTree) (types : List NamedKind) (ds : List TypeDraft) where
  abbrev made : SchemaData
  made = schema_with form items types ds

  found_within : (T f : ℕ) (name : List ℕ) → field_named made T name ≡ Some f → f < length made.fields
  found_within T f name found = elim (standing (λ n. bytes_eq (same_text n) name) 0 (type_at made T).names) [
    | inl none ↦ absurd (none-some f (sym (ap (number_at (type_at made T).fields) none.0) ∙ found))
    | inr here ↦
        let fields = (type_at made T).fields in
        let is : get_or fields (0 + here.place) 0 ≡ f = same_Some (get_or fields (0 + here.place) 0) f (sym (ap (number_at fields) here.placed) ∙ found) in
        let least : get_or fields (0 + here.place) 0 < 0 + total ds = type_within form 0 ds T (0 + here.place) (omega (arith, here.within)) in
        let all : length made.fields ≡ total ds = all_fields form 0 ds in
        omega (arith, is, least, all)
  ]

  pub found_is : (T f : ℕ) (name : List ℕ) → field_named made T name ≡ Some f → IsFieldOf made T name f
  found_is T f name found = elim (field_or_none form items types ds T name) [
    | inl none ↦ absurd (none-some f (sym none.0 ∙ found))
    | inr x ↦
        let same : x.number ≡ f = same_Some x.number f (sym x.named ∙ found) in
        let field = sym (ap (field_at made) same) ∙ x.field in
        record {
          named = ap (λ g. g.name) field ∙ texts x.draft.name name (found_passes (has_name_of name) _ x.draft x.drafted);
          owned = ap (λ g. g.owner) field;
          within = found_within T f name found;
        }
  ]
