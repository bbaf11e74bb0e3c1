-- What reads as a record is spelled so.
use Rattle.std.proofs.Common.{◌≡◌, ◌≢◌, ⊎_elim, ℕ, ◌+◌, ◌<◌, ◌≤◌, ◌==◌, true, false, List, [], ◌∷◌, ◌++◌, length, take, drop, get_or, replicate, Some, refl, sym, ◌∙◌, ap, subst, arith, take-append-drop}
use Rattle.std.proofs.lemmas.List.{drop_more, drop-drop, get_or-take, get_or-drop, get_or_past, length-drop, length-take}
use Rattle.std.proofs.lemmas.Bool.{cases_eq, cases_lt, cases_Bool, and_parts, eqb-true}
use Rattle.std.proofs.lemmas.Option.{none-some, same_Some}
use Rattle.std.proofs.lemmas.Nat.{be_bytes_4, be_bytes_8}
use Rattle.std.specs.List.{list_all}
use Rattle.std.specs.Int.{w32, w64, to_be_bytes, from_be_bytes}
use Rattle.account_journal.specs.Records.{Record, record_of, rest_is_zero, client_in, number_in, cost_in, record_bytes, spelling_of}
use Rattle.account_journal.proofs.Spelling.{reads_grant, reads_settlement, reads_no_kind, reads_no_rest}

zeros : (xs : List ℕ) → list_all (λ b. b == 0) xs ≡ true → xs ≡ replicate (length xs) 0
zeros [] all = refl
zeros (x ∷ xs) all =
    let p = and_parts (x == 0) (list_all (λ b. b == 0) xs) all in
    (λ i. eqb-true x 0 p.0 i ∷ zeros xs p.1 i)

module _ (body : List ℕ) (long : length body ≡ 63) (fits : (i : ℕ) → get_or body i 0 < 256) where
  part_fits : (at n i : ℕ) → get_or (take n (drop at body)) i 0 < 256
  part_fits at n i = ⊎_elim
      (λ (here : i < n). subst (λ (x : ℕ). x < 256) (sym (get_or-take n (drop at body) i 0 here ∙ get_or-drop at body i 0)) (fits (at + i)))
      (λ (past : n ≤ i). subst (λ (x : ℕ). x < 256) (sym (get_or_past (take n (drop at body)) i 0 (omega (arith, past, length-take n (drop at body))))) (omega arith))
      (cases_lt i n)

  part_long : (at n : ℕ) → at + n ≤ 63 → length (take n (drop at body)) ≡ n
  part_long at n le = omega (arith, le, long, length-take n (drop at body), length-drop at body)

  split : (at n : ℕ) → drop at body ≡ take n (drop at body) ++ drop (at + n) body
  split at n = sym (take-append-drop n (drop at body)) ∙ ap (λ (l : List ℕ). take n (drop at body) ++ l) (drop-drop n at body)

  eight : (at : ℕ) → at + 8 ≤ 63 → take 8 (drop at body) ≡ to_be_bytes w64 (from_be_bytes w64 (take 8 (drop at body)))
  eight at le = sym (be_bytes_8 (take 8 (drop at body)) (from_be_bytes w64 (take 8 (drop at body))) (part_long at 8 le) (part_fits at 8) refl)

  four : take 4 (drop 1 body) ≡ to_be_bytes w32 (client_in body)
  four = sym (be_bytes_4 (take 4 (drop 1 body)) (client_in body) (part_long 1 4 (omega arith)) (part_fits 1 4) refl)

  rest : rest_is_zero body ≡ true → drop 29 body ≡ replicate 34 0
  rest all = zeros (drop 29 body) all ∙ ap (λ (n : ℕ). replicate n 0) {x = length (drop 29 body)} {y = 34} (omega (arith, length-drop 29 body, long))

  spelled_out : (kind : ℕ) → get_or body 0 0 ≡ kind → rest_is_zero body ≡ true → body ≡ record_bytes kind (client_in body) (number_in body) (cost_in body)
  spelled_out kind is all =
      drop_more body 0 0 (omega (arith, long))
      ∙ (λ i. is i ∷ split 1 4 i)
      ∙ (λ i. kind ∷ (four i ++ (split 5 8 ∙ (λ j. eight 5 (omega arith) j ++ (split 13 8 ∙ (λ k. eight 13 (omega arith) k ++ (split 21 8 ∙ (λ l. eight 21 (omega arith) l ++ rest all l)) k)) j)) i))
      ∙ tidy
    where
      tidy : (kind ∷ (to_be_bytes w32 (client_in body) ++ (to_be_bytes w64 (number_in body) ++ (to_be_bytes w64 (cost_in body).types ++ (to_be_bytes w64 (cost_in body).fields ++ replicate 34 0)))))
          ≡ record_bytes kind (client_in body) (number_in body) (cost_in body)
      tidy = refl

  pub is_spelled : (r : Record) → record_of body ≡ Some r → body ≡ spelling_of r
  is_spelled r reads = ⊎_elim
      (λ (all : rest_is_zero body ≡ true). ⊎_elim
      (λ (one : get_or body 0 0 ≡ 1). spelled_out 1 one all ∙ ap spelling_of (same_Some _ r (sym (reads_grant body all one) ∙ reads)))
      (λ (other : get_or body 0 0 ≢ 1). ⊎_elim
      (λ (two : get_or body 0 0 ≡ 2). spelled_out 2 two all ∙ ap spelling_of (same_Some _ r (sym (reads_settlement body all two) ∙ reads)))
      (λ (none : get_or body 0 0 ≢ 2). absurd (none-some r (sym (reads_no_kind body other none) ∙ reads)))
      (cases_eq (get_or body 0 0) 2))
      (cases_eq (get_or body 0 0) 1))
      (λ (some : rest_is_zero body ≡ false). absurd (none-some r (sym (reads_no_rest body some) ∙ reads)))
      (cases_Bool (rest_is_zero body))
