-- What a schema that has passed the test passes, part by part.
use Rattle.std.proofs.Common.{◌≡◌, ◌<◌, ◌+◌, ℕ, zero, suc, Bool, true, List, length, sym, ap, ◌∙◌, arith}
use Rattle.std.specs.Prelude.{nat_eq}
use Rattle.std.specs.List.{list_all, range_with_len}
use Rattle.std.proofs.lemmas.Bool.{eqb-true}
use Rattle.schema_model.specs.SchemaData.{SchemaData}
use Rattle.cost_directives.specs.Weights.{WeightsData, field_numbers}
use Rattle.cost_directives.proofs.FirstsFound.{both, never}
use Rattle.meta_schema.specs.MetaFields.{object_types}
use Rattle.meta_schema.specs.MetaTests.{is_field, is_object_type, are_leaf_types, is_meta}

at_number : (p : ℕ → Bool) (first count n : ℕ) → n < count → list_all p (range_with_len first count) ≡ true → p (first + n) ≡ true
at_number p first zero n within all = absurd (never n within)
at_number p first (suc count) zero within all =
    let e : first + 0 ≡ first = omega arith in
    ap p e ∙ (both (p first) (list_all p (range_with_len (first + 1) count)) all).0
at_number p first (suc count) (suc n) within all =
    let e : first + suc n ≡ (first + 1) + n = omega arith in
    ap p e ∙ at_number p (first + 1) count n (omega (arith, within)) ((both (p first) (list_all p (range_with_len (first + 1) count)) all).1)

module _ (query : List ℕ) (s : SchemaData) (w : WeightsData) where
  pub record Passes : Type 0 where
    pub root : s.query ≡ 0
    pub objects : list_all (is_object_type query s w) object_types ≡ true
    pub leaves : are_leaf_types s ≡ true
    pub fields : list_all (is_field s w) (field_numbers s) ≡ true

  pub passed : is_meta query s w ≡ true → Passes
  passed is =
      let rooted = both (nat_eq s.query 0) _ is in
      let objects = both (list_all (is_object_type query s w) object_types) _ rooted.1 in
      let leaves = both (are_leaf_types s) _ objects.1 in
      record { root = eqb-true s.query 0 rooted.0; objects = objects.0; leaves = leaves.0; fields = leaves.1 }

  pub field_passes : Passes → (f : ℕ) → f < length s.fields → is_field s w f ≡ true
  field_passes p f within =
      let e : 0 + f ≡ f = omega arith in
      sym (ap (is_field s w) e) ∙ at_number (is_field s w) 0 (length s.fields) f within p.fields
