-- One more thing in a reply, and one more request in a script.
use Rattle.std.proofs.Common.{◌≡◌, ℕ, zero, suc, ◌+◌, ◌<◌, List, [], ◌∷◌, ◌++◌, replicate, arith, refl, sym, ap, ◌∙◌, append_assoc, add-one}
use Rattle.std.specs.List.{join_with_byte}
use Rattle.cost_vectors.specs.Script.{thing, things, begin_line, ends_behind, first_requests}

-- one more piece behind one or more
pub join-one_more : (c : ℕ) (x : List ℕ) (n : ℕ) → join_with_byte c (replicate (suc n) x) ++ (c ∷ x) ≡ join_with_byte c (replicate (suc (suc n)) x)
join-one_more c x zero = refl
join-one_more c x (suc n) = append_assoc x (c ∷ join_with_byte c (replicate (suc n) x)) (c ∷ x) ∙ ap (λ xs. x ++ (c ∷ xs)) (join-one_more c x n)

pub things-one_more : (n : ℕ) → 0 < n → things n ++ (44 ∷ thing) ≡ things (n + 1)
things-one_more zero some = absurd (omega arith)
things-one_more (suc n) some = let e : suc (suc n) ≡ suc n + 1 = omega arith in join-one_more 44 thing n ∙ ap things e

-- a comma and a thing were written behind one thing or more
pub one_thing_more : (n : ℕ) (start before comma after : List ℕ) → 0 < n → before ≡ start ++ things n → comma ≡ before ++ (44 ∷ []) → after ≡ comma ++ thing → after ≡ start ++ things (n + 1)
one_thing_more n start before comma after some so_far first second =
    second ∙ ap (λ xs. xs ++ thing) first ∙ append_assoc before (44 ∷ []) thing ∙ ap (λ xs. xs ++ (44 ∷ thing)) so_far
    ∙ append_assoc start (things n) (44 ∷ thing) ∙ ap (λ xs. start ++ xs) (things-one_more n some)

pub first_requests-one_more : (n : ℕ) → first_requests (n + 1) ≡ first_requests n ++ begin_line n ++ ends_behind n
unfolding first_requests
first_requests-one_more n = ap first_requests (add-one n)

-- a request and the ends behind it were written behind the first ones
pub one_request_more : (n : ℕ) (before begun after : List ℕ) → before ≡ first_requests n → begun ≡ before ++ begin_line n → after ≡ begun ++ ends_behind n → after ≡ first_requests (n + 1)
one_request_more n before begun after so_far first second =
    second ∙ ap (λ xs. xs ++ ends_behind n) (first ∙ ap (λ xs. xs ++ begin_line n) so_far) ∙ sym (first_requests-one_more n)
