-- Numbers from 0 on, one after another.
use Rattle.std.proofs.Common.{ℕ, zero, suc, ◌≡◌, ◌+◌, ◌++◌, List, [], ◌∷◌, sym, ap, ◌∙◌, arith}
use Rattle.std.specs.List.{range_with_len}

range_more : (a n : ℕ) → range_with_len a (suc n) ≡ range_with_len a n ++ (a + n) ∷ []
range_more a zero = let e : a ≡ a + 0 = omega arith in ap (λ k. k ∷ []) e
range_more a (suc n) = let e : (a + 1) + n ≡ a + suc n = omega arith in ap (λ l. a ∷ l) (range_more (a + 1) n ∙ ap (λ k. range_with_len (a + 1) n ++ k ∷ []) e)

pub next_number : (old new : List ℕ) (n : ℕ) → new ≡ old ++ n ∷ [] → old ≡ range_with_len 0 n → new ≡ range_with_len 0 (n + 1)
next_number old new n is same =
    let start : n ≡ 0 + n = omega arith in
    let next : suc n ≡ n + 1 = omega arith in
    is ∙ (ap (λ l. l ++ n ∷ []) same ∙ (ap (λ k. range_with_len 0 n ++ k ∷ []) start ∙ (sym (range_more 0 n) ∙ ap (range_with_len 0) next)))
