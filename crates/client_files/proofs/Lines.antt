-- The lines of a text, and the words of a line.
use Rattle.std.proofs.Common.{◌≡◌, ℕ, zero, suc, ◌<◌, ◌≤◌, List, [], ◌∷◌, ◌++◌, length, take, refl, sym, ap, ◌∙◌, arith, map, Bor}
use Rattle.std.specs.Prelude.{slice_index_or, true, false, ◌==◌}
use Rattle.std.proofs.Math.Seq.{take-append_seam}
use Rattle.std.proofs.lemmas.Bool.{eqb-true}
use Rattle.std.proofs.lemmas.List.{length-map, map-append, take_all}
use Rattle.std.specs.Str.{bytes_eq}
use Rattle.std.proofs.lemmas.Slice.Eq.{bytes_eq-Decides}
use Rattle.client_files.specs.Lines.{but_an_empty_last}

-- a last part that is empty is left out
pub last_empty : (front : List (List ℕ)) (last : List ℕ) → length last ≡ 0 → but_an_empty_last (front ++ last ∷ []) ≡ front
last_empty [] [] e = refl
last_empty [] (c ∷ cs) e = absurd (omega (arith, e))
last_empty (part ∷ []) last e = ap (λ parts. part ∷ parts) (last_empty [] last e)
last_empty (part ∷ next ∷ more) last e = ap (λ parts. part ∷ parts) (last_empty (next ∷ more) last e)

-- and another one stays
pub last_full : (front : List (List ℕ)) (last : List ℕ) → 0 < length last → but_an_empty_last (front ++ last ∷ []) ≡ front ++ last ∷ []
last_full [] [] h = absurd (omega (arith, h))
last_full [] (c ∷ cs) h = refl
last_full (part ∷ []) last h = ap (λ parts. part ∷ parts) (last_full [] last h)
last_full (part ∷ next ∷ more) last h = ap (λ parts. part ∷ parts) (last_full (next ∷ more) last h)

-- one word that is this text
pub single_word : (words : List (Bor (List ℕ))) (other : Bor (List ℕ)) (text : List ℕ) → 1 ≤ length words → length words < 2 → bytes_eq (slice_index_or words 0 other).now text ≡ true → map (λ word. word.now) words ≡ text ∷ []
single_word [] other text some few same = absurd (omega (arith, some))
single_word (word ∷ []) other text some few same = ap (λ bytes. bytes ∷ []) ((bytes_eq-Decides word.now text).0 same)
single_word (word ∷ next ∷ more) other text some few same = absurd (omega (arith, few))

-- how many parts are lines

module _ (parts front : List (Bor (List ℕ))) (last : Bor (List ℕ)) (cut : parts ≡ front ++ (last ∷ [])) where
  seen : map (λ part. part.now) parts ≡ map (λ part. part.now) front ++ (last.now ∷ [])
  seen = ap (map (λ (part : Bor (List ℕ)). part.now)) cut ∙ map-append (λ (part : Bor (List ℕ)). part.now) front (last ∷ [])

  pub count_front : true ≡ (length last.now == 0) → take (length front) (map (λ part. part.now) parts) ≡ but_an_empty_last (map (λ part. part.now) parts)
  count_front none =
      (λ i. take (sym (length-map front (λ (part : Bor (List ℕ)). part.now)) i) (seen i))
      ∙ (take-append_seam (map (λ (part : Bor (List ℕ)). part.now) front) (last.now ∷ [])
      ∙ sym (ap but_an_empty_last seen ∙ last_empty (map (λ (part : Bor (List ℕ)). part.now) front) last.now (eqb-true (length last.now) 0 (sym none))))

  pub count_all : false ≡ (length last.now == 0) → take (length parts) (map (λ part. part.now) parts) ≡ but_an_empty_last (map (λ part. part.now) parts)
  count_all some =
      take_all (length parts) (map (λ (part : Bor (List ℕ)). part.now) parts) (omega (arith, length-map parts (λ (part : Bor (List ℕ)). part.now)))
      ∙ sym (ap but_an_empty_last seen ∙ (last_full (map (λ (part : Bor (List ℕ)). part.now) front) last.now (above (length last.now) some) ∙ sym seen))
    where
      above : (n : ℕ) → false ≡ (n == 0) → 0 < n
      above zero is = cc
      above (suc n) is = omega arith
