-- Drafts, one after another, and the numbers of fields.
use Rattle.std.proofs.Common.{ℕ, suc, ◌≡◌, ◌<◌, ◌≤◌, ◌+◌, ◌-◌, ◌++◌, List, [], ◌∷◌, length, map, drop, sym, ap, ◌∙◌, arith, append_assoc}
use Rattle.std.proofs.lemmas.List.{drop_all, append-nil, drop-map, length-map, length-append}
use Rattle.input_values.specs.coercion.Forms.{InputForm}
use Rattle.schema_rules.specs.declared.type_names.TypeName.{TypeName}
use Rattle.schema_rules.specs.Views.{named_kind}
use Rattle.schema_model.specs.declared.entries.FieldEntry.{FieldEntry}
use Rattle.schema_model.specs.declared.draft_types.DraftType.{DraftType}
use Rattle.schema_model.specs.Drafts.{TypeDraft, FieldDraft, scalar_draft, with_scalars}
use Rattle.schema_model.specs.DraftViews.{type_view}
use Rattle.schema_model.specs.Entries.{field_data}
use Rattle.schema_model.specs.Schemas.{numbers, field_of}

pub ended : (a : List TypeDraft) (types : List TypeName) (n : ℕ) → length types ≤ n → a ≡ a ++ map scalar_draft (map named_kind (drop n types))
ended a types n h = sym (ap (λ l. a ++ map scalar_draft (map named_kind l)) (drop_all n types h) ∙ append-nil a)

pub begun : (old : List DraftType) (types : List TypeName) (defined : ℕ) → defined ≡ length old → map type_view old ++ map scalar_draft (map named_kind (drop defined types)) ≡ with_scalars (map named_kind types) (map type_view old)
begun old types defined e = ap (λ l. map type_view old ++ map scalar_draft l) (sym (drop-map named_kind defined types) ∙ ap (λ n. drop n (map named_kind types)) (e ∙ sym (length-map old type_view)))

pub one_more_id : (old new : List ℕ) (n e : ℕ) (whole : List ℕ) → n < e → new ≡ old ++ (n ∷ []) → old ++ numbers n (e - n) ≡ whole → new ++ numbers (n + 1) (e - (n + 1)) ≡ whole
one_more_id old new n e whole h is same = let k : e - n ≡ suc (e - (n + 1)) = omega arith in
    ap (λ l. l ++ numbers (n + 1) (e - (n + 1))) is ∙ (append_assoc old (n ∷ []) (numbers (n + 1) (e - (n + 1))) ∙ (ap (λ m. old ++ numbers n m) (sym k) ∙ same))

pub grown : (old new : List FieldEntry) (form : ℕ → InputForm) (owner : ℕ) (fs : List FieldDraft) → map field_data new ≡ map field_data old ++ map (field_of form owner) fs → length new - length old ≡ length fs
grown old new form owner fs e =
    let a = length-map new field_data in let b = length-map old field_data in let c = length-map fs (field_of form owner) in
    let d = ap length e ∙ length-append (map field_data old) (map (field_of form owner) fs) in omega (arith, a, b, c, d)

pub not_less : (old new : List FieldEntry) (form : ℕ → InputForm) (owner : ℕ) (fs : List FieldDraft) → map field_data new ≡ map field_data old ++ map (field_of form owner) fs → length old ≤ length new
not_less old new form owner fs e =
    let a = length-map new field_data in let b = length-map old field_data in let c = length-map fs (field_of form owner) in
    let d = ap length e ∙ length-append (map field_data old) (map (field_of form owner) fs) in omega (arith, a, b, c, d)
