-- The types and fields of a schema, and the drafts that they come from.
use Rattle.std.proofs.Common.{◌≡◌, ◌⊎◌, ◌+◌, ◌<◌, ℕ, zero, suc, Bool, List, [], ◌∷◌, ◌++◌, map, get_or, length, None, Some, inl, inr, refl, sym, ap, ap₂, ◌∙◌, arith}
use Rattle.std.specs.Str.{bytes_eq}
use Rattle.std.proofs.lemmas.List.{get_or_append_left, get_or-append-add, get_or-map, length-map}
use Rattle.gql_base.specs.names.Names.{place_of_name}
use Rattle.input_values.specs.coercion.Forms.{InputForm}
use Rattle.schema_rules.specs.Items.{ItemTree}
use Rattle.schema_rules.specs.TypeNames.{NamedKind}
use Rattle.schema_rules.proofs.Namings.{position_view}
use Rattle.schema_model.specs.Drafts.{FieldDraft, TypeDraft}
use Rattle.schema_model.specs.Implementing.{draft_at, field_among}
use Rattle.schema_model.specs.Schemas.{field_of, field_name, numbers, types_from, fields_from, no_type, no_field, schema_with}
use Rattle.schema_model.specs.SchemaData.{SchemaData, type_at, field_at, field_named, number_at, same_text}
use Rattle.cost_directives.proofs.FirstsFound.{never, Standing, standing}

-- how many fields stand before those of a type
abbrev fields_before : List TypeDraft → ℕ → ℕ
fields_before [] o = 0
fields_before (d ∷ ds) zero = 0
fields_before (d ∷ ds) (suc o) = length d.fields + fields_before ds o

module _ (form : ℕ → InputForm) where
  names_of : (first : ℕ) (ds : List TypeDraft) (o : ℕ) → (get_or (types_from form first ds) o no_type).names ≡ map field_name (draft_at ds o).fields
  names_of first [] o = refl
  names_of first (d ∷ ds) zero = refl
  names_of first (d ∷ ds) (suc o) = names_of (first + length d.fields) ds o

  interfaces_of : (first : ℕ) (ds : List TypeDraft) (o : ℕ) → (get_or (types_from form first ds) o no_type).interfaces ≡ (draft_at ds o).interfaces
  interfaces_of first [] o = refl
  interfaces_of first (d ∷ ds) zero = refl
  interfaces_of first (d ∷ ds) (suc o) = interfaces_of (first + length d.fields) ds o

  numbers_of : (first : ℕ) (ds : List TypeDraft) (o : ℕ) → (get_or (types_from form first ds) o no_type).fields ≡ numbers (first + fields_before ds o) (length (draft_at ds o).fields)
  numbers_of first [] o = refl
  numbers_of first (d ∷ ds) zero = let e : first ≡ first + 0 = omega arith in ap (λ n. numbers n (length d.fields)) e
  numbers_of first (d ∷ ds) (suc o) =
      let e : (first + length d.fields) + fields_before ds o ≡ first + (length d.fields + fields_before ds o) = omega arith in
      numbers_of (first + length d.fields) ds o ∙ ap (λ n. numbers n (length (draft_at ds o).fields)) e

  field_there : (owner : ℕ) (ds : List TypeDraft) (o k : ℕ) (f : FieldDraft) → k < length (draft_at ds o).fields → get_or (draft_at ds o).fields k f ≡ f
      → get_or (fields_from form owner ds) (fields_before ds o + k) no_field ≡ field_of form (owner + o) f
  field_there owner [] o k f within is = absurd (never k within)
  field_there owner (d ∷ ds) zero k f within is =
      let own = map (field_of form owner) d.fields in
      let e : 0 + k ≡ k = omega arith in
      let l = length-map d.fields (field_of form owner) in
      let h : k < length own = omega (arith, l, within) in
      let w : owner ≡ owner + 0 = omega arith in
      ap (λ n. get_or (own ++ fields_from form (owner + 1) ds) n no_field) e
      ∙ (get_or_append_left own (fields_from form (owner + 1) ds) no_field k h
      ∙ (get_or-map (field_of form owner) d.fields k f no_field within ∙ ap₂ (λ n g. field_of form n g) w is))
  field_there owner (d ∷ ds) (suc o) k f within is =
      let own = map (field_of form owner) d.fields in
      let l = length-map d.fields (field_of form owner) in
      let e : (length d.fields + fields_before ds o) + k ≡ length own + (fields_before ds o + k) = omega (arith, l) in
      let w : (owner + 1) + o ≡ owner + suc o = omega arith in
      ap (λ n. get_or (own ++ fields_from form (owner + 1) ds) n no_field) e
      ∙ (get_or-append-add own (fields_from form (owner + 1) ds) (fields_before ds o + k) no_field
      ∙ (field_there (owner + 1) ds o k f within is ∙ ap (λ n. field_of form n f) w))

number_there : (first count k : ℕ) → k < count → get_or (numbers first count) k 0 ≡ first + k
number_there first zero k within = absurd (never k within)
number_there first (suc count) zero within = omega arith
number_there first (suc count) (suc k) within =
    let h : k < count = omega arith in
    let e : (first + 1) + k ≡ first + suc k = omega arith in
    number_there (first + 1) count k h ∙ e

-- ---- a field by its name

abbrev pub has_name_of : List ℕ → FieldDraft → Bool
has_name_of name f = bytes_eq f.name name

-- a field of a schema, with its draft
pub record FieldOf (form : ℕ → InputForm) (s : SchemaData) (ds : List TypeDraft) (of : ℕ) (name : List ℕ) : Type 0 where
  pub number : ℕ
  pub draft : FieldDraft
  pub named : field_named s of name ≡ Some number
  pub drafted : field_among (draft_at ds of).fields name ≡ Some draft
  pub field : field_at s number ≡ field_of form of draft

module _ (form : ℕ → InputForm) (items : List ItemTree) (types : List NamedKind) (ds : List TypeDraft) where
  abbrev pub made : SchemaData
  made = schema_with form items types ds

  pub own_interfaces : (of : ℕ) → (type_at made of).interfaces ≡ (draft_at ds of).interfaces
  own_interfaces of = interfaces_of form 0 ds of

  -- a field is looked up among the numbers of its type, at the place of its name
  looked_for : (of : ℕ) (name : List ℕ) → field_named made of name ≡ number_at (numbers (0 + fields_before ds of) (length (draft_at ds of).fields)) (place_of_name field_name (draft_at ds of).fields name)
  looked_for of name =
      ap₂ (λ fields names. number_at fields (place_of_name same_text names name)) (numbers_of form 0 ds of) (names_of form 0 ds of)
      ∙ ap (number_at (numbers (0 + fields_before ds of) (length (draft_at ds of).fields))) (sym (position_view field_name (λ n. bytes_eq n name) 0 (draft_at ds of).fields))

  found_field : (of : ℕ) (name : List ℕ) → Standing (has_name_of name) 0 (draft_at ds of).fields → FieldOf form made ds of name
  found_field of name here =
      let fields = (draft_at ds of).fields in
      let before = fields_before ds of in
      let e : 0 + here.place ≡ here.place = omega arith in
      let b : (0 + before) + here.place ≡ before + here.place = omega arith in
      let w : 0 + of ≡ of = omega arith in
      record {
        number = before + here.place;
        draft = here.item;
        named = looked_for of name ∙ (ap (number_at (numbers (0 + before) (length fields))) (here.placed ∙ ap Some e) ∙ ap Some (number_there (0 + before) (length fields) here.place here.within ∙ b));
        drafted = here.found;
        field = field_there form 0 ds of here.place here.item here.within here.there ∙ ap (λ n. field_of form n here.item) w;
      }

  pub field_or_none : (of : ℕ) (name : List ℕ) → ((field_named made of name ≡ None) × (field_among (draft_at ds of).fields name ≡ None)) ⊎ FieldOf form made ds of name
  field_or_none of name = elim (standing (has_name_of name) 0 (draft_at ds of).fields) [
    | inl none ↦ inl (looked_for of name ∙ ap (number_at (numbers (0 + fields_before ds of) (length (draft_at ds of).fields))) none.0, none.1)
    | inr here ↦ inr (found_field of name here)
  ]
