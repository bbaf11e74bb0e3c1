-- What is told of a schema, as its parts are written one behind another.
use Rattle.std.proofs.Common.{◌≡◌, ◌∙◌, ℕ, List, [], ◌++◌, length, refl, ap, append_assoc}
use Rattle.schema_model.specs.SchemaData.{SchemaData}
use Rattle.cost_directives.specs.Weights.{WeightsData}
use Rattle.schema_surprises.specs.declared.surprise.Surprise.{Surprise}
use Rattle.schema_surprises.specs.declared.surprise.Surprise.TheVariants.{Unsized, Unsliced, MustSlice, Inherited}
use Rattle.schema_surprises.specs.Surprises.{places_of, own_scalars, sentence_of, scalar_sentence, group_text, field_group, counts_told, found_told, report_text}

-- a part that was written, and what stands behind it
part_behind : (before after part told rest whole : List ℕ) → after ≡ before ++ part → part ≡ told → whole ≡ after ++ rest → whole ≡ before ++ (told ++ rest)
part_behind before after part told rest whole written same is =
    is ∙ (ap (λ l. l ++ rest) (written ∙ ap (λ l. before ++ l) same) ∙ append_assoc before told rest)

found_alike : (a b c d e a2 b2 c2 d2 e2 : List (List ℕ)) → a ≡ a2 → b ≡ b2 → c ≡ c2 → d ≡ d2 → e ≡ e2 → found_told a b c d e ≡ found_told a2 b2 c2 d2 e2
found_alike a b c d e a2 b2 c2 d2 e2 is_a is_b is_c is_d is_e =
    ap (λ x. found_told x b c d e) is_a ∙ (ap (λ x. found_told a2 x c d e) is_b ∙ (ap (λ x. found_told a2 b2 x d e) is_c
    ∙ (ap (λ x. found_told a2 b2 c2 x e) is_d ∙ ap (λ x. found_told a2 b2 c2 d2 x) is_e)))

module _ (s : SchemaData) (w : WeightsData) where
  group_alike : (surprise : Surprise) (usual : ℕ) (names : List (List ℕ)) → usual ≡ w.undeclared → names ≡ places_of surprise s w → group_text (sentence_of surprise usual) names ≡ field_group s w surprise
  group_alike surprise usual names same are =
      ap (λ n. group_text (sentence_of surprise n) names) same ∙ ap (λ l. group_text (sentence_of surprise w.undeclared) l) are

  abbrev counted : List ℕ
  counted = found_told (places_of Unsized s w) (places_of Unsliced s w) (places_of MustSlice s w) (places_of Inherited s w) (own_scalars s)

  abbrev behind_scalars : List ℕ
  behind_scalars = counts_told s.defined (length s.fields) ++ counted

  abbrev behind_inherited : List ℕ
  behind_inherited = group_text scalar_sentence (own_scalars s) ++ behind_scalars

  abbrev behind_must_slice : List ℕ
  behind_must_slice = field_group s w Inherited ++ behind_inherited

  abbrev behind_unsliced : List ℕ
  behind_unsliced = field_group s w MustSlice ++ behind_must_slice

  abbrev behind_unsized : List ℕ
  behind_unsized = field_group s w Unsliced ++ behind_unsliced

  pub reported : (usual : ℕ) (a b c d e : List (List ℕ)) (t0 t1 t2 t3 t4 t5 t6 t7 : List ℕ) (found : List ℕ) → usual ≡ w.undeclared
      → a ≡ places_of Unsized s w → b ≡ places_of Unsliced s w → c ≡ places_of MustSlice s w → d ≡ places_of Inherited s w → e ≡ own_scalars s → found ≡ counted → t0 ≡ []
      → t1 ≡ t0 ++ group_text (sentence_of Unsized usual) a → t2 ≡ t1 ++ group_text (sentence_of Unsliced usual) b → t3 ≡ t2 ++ group_text (sentence_of MustSlice usual) c
      → t4 ≡ t3 ++ group_text (sentence_of Inherited usual) d → t5 ≡ t4 ++ group_text scalar_sentence e → t6 ≡ t5 ++ counts_told s.defined (length s.fields) → t7 ≡ t6 ++ found
      → t7 ≡ report_text s w
  reported usual a b c d e t0 t1 t2 t3 t4 t5 t6 t7 found same is_a is_b is_c is_d is_e is_found empty e1 e2 e3 e4 e5 e6 e7 =
      let s7 : t7 ≡ t6 ++ counted = e7 ∙ ap (λ l. t6 ++ l) is_found in
      let s6 = part_behind t5 t6 (counts_told s.defined (length s.fields)) (counts_told s.defined (length s.fields)) counted t7 e6 refl s7 in
      let s5 = part_behind t4 t5 (group_text scalar_sentence e) (group_text scalar_sentence (own_scalars s)) behind_scalars t7 e5 (ap (group_text scalar_sentence) is_e) s6 in
      let s4 = part_behind t3 t4 (group_text (sentence_of Inherited usual) d) (field_group s w Inherited) behind_inherited t7 e4 (group_alike Inherited usual d same is_d) s5 in
      let s3 = part_behind t2 t3 (group_text (sentence_of MustSlice usual) c) (field_group s w MustSlice) behind_must_slice t7 e3 (group_alike MustSlice usual c same is_c) s4 in
      let s2 = part_behind t1 t2 (group_text (sentence_of Unsliced usual) b) (field_group s w Unsliced) behind_unsliced t7 e2 (group_alike Unsliced usual b same is_b) s3 in
      let s1 = part_behind t0 t1 (group_text (sentence_of Unsized usual) a) (field_group s w Unsized) behind_unsized t7 e1 (group_alike Unsized usual a same is_a) s2 in
      s1 ∙ ap (λ l. l ++ (field_group s w Unsized ++ behind_unsized)) empty

  pub counted_alike : (a b c d e : List (List ℕ)) → a ≡ places_of Unsized s w → b ≡ places_of Unsliced s w → c ≡ places_of MustSlice s w → d ≡ places_of Inherited s w → e ≡ own_scalars s
      → found_told a b c d e ≡ counted
  counted_alike a b c d e is_a is_b is_c is_d is_e =
      found_alike a b c d e (places_of Unsized s w) (places_of Unsliced s w) (places_of MustSlice s w) (places_of Inherited s w) (own_scalars s) is_a is_b is_c is_d is_e
