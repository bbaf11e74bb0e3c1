-- What is kept, when more comes to be kept.
use Rattle.std.proofs.Common.{◌≡◌, inl, inr, ℕ, true, cond, List, Some, Vec, sym, ap, ◌∙◌, subst}
use Rattle.std.specs.declared.alloc.Global.{Global}
use Rattle.std.specs.BTreeMap.{get, is_at, Updates}
use Rattle.std.specs.Map.{lookup}
use Rattle.std.specs.Ordering.{nat_cmp, eq_by_cmp}
use Rattle.std.proofs.lemmas.Bool.{cases_Bool}
use Rattle.std.proofs.lemmas.Map.Lookups.{exact_pairs, exact_unsigned}
use Rattle.std.proofs.lemmas.Map.Views.{tells_apart}
use Rattle.std.proofs.lemmas.Option.{same_Some}
use Rattle.input_values.specs.defaults.Filling.{pair_cmp}
use Rattle.collected_fields.specs.declared.collected.Collected.{Collected}
use Rattle.collected_fields.specs.declared.findings.Findings.{Findings}
use Rattle.collected_fields.specs.Walks.{NumberedField, numbered_group, fields_kept, found_in, KeepsOne}

same_place : (of at o a : ℕ) → eq_by_cmp pair_cmp (of, at) (o, a) ≡ true → ◌≡◌ {A = ℕ × ℕ} (of, at) (o, a)
same_place of at o a e = tells_apart {R = pair_cmp} (exact_pairs nat_cmp nat_cmp exact_unsigned exact_unsigned) (of, at) (o, a) e

pub keeps_one : (old new : Findings) (T number : ℕ) (v : Vec Collected Global) → Updates pair_cmp old.fields new.fields (number, T) (Some v) → KeepsOne old new T number (numbered_group v)
keeps_one old new T number v puts U place found is = elim (cases_Bool (eq_by_cmp pair_cmp (number, T) (place, U))) [
  | inl e ↦
      let same : ◌≡◌ {A = ℕ × ℕ} (number, T) (place, U) = same_place number T place U e in
      let here : found_in new U place ≡ Some (numbered_group v) = ap fields_kept (subst (λ b. get pair_cmp new.fields (place, U) ≡ cond b (Some v) (get pair_cmp old.fields (place, U))) e (puts.0 (place, U))) in
      inr (sym (ap (λ (p : ℕ × ℕ). p.1) same), sym (ap (λ (p : ℕ × ℕ). p.0) same), sym (same_Some (numbered_group v) found (sym here ∙ is)))
  | inr e ↦
      let there : found_in new U place ≡ found_in old U place = ap fields_kept (subst (λ b. get pair_cmp new.fields (place, U) ≡ cond b (Some v) (get pair_cmp old.fields (place, U))) e (puts.0 (place, U))) in
      inl (sym there ∙ is)
]

-- nothing more is kept
pub keeps_none : (old new : Findings) (T number : ℕ) (fields : List NumberedField) → new.fields.entries ≡ old.fields.entries → KeepsOne old new T number fields
keeps_none old new T number fields same U place found is = inl (sym (ap (λ es. fields_kept (lookup (is_at (pair_cmp (place, U))) es)) same) ∙ is)
