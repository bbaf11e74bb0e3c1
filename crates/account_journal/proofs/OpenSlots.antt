-- Files of open slots have just these bodies.
use Rattle.std.proofs.Common.{◌≡◌, ◌≢◌, inl, inr, ⊎_elim, ℕ, zero, suc, ◌+◌, ◌*◌, ◌<◌, true, false, List, [], ◌∷◌, ◌++◌, length, take, drop, refl, sym, ◌∙◌, ap, arith, append_assoc, length-append}
use Rattle.std.proofs.lemmas.List.{append-nil, take_at, drop_at}
use Rattle.std.proofs.lemmas.Bool.{cases_eq, cond-true, cond-false}
use Rattle.std.proofs.lemmas.Bool.Decides.{nat_tests}
use Rattle.account_journal.specs.Slots.{is_present, bodies_within, bodies, open_slots, AreBodies, IsAtRest, HasSlotOrNot}

pub length-open_slots : (xs : List (List ℕ)) → AreBodies xs → length (open_slots xs) ≡ 64 * length xs
unfolding open_slots
length-open_slots [] all = refl
length-open_slots (x ∷ xs) all = omega (arith, length-append x (open_slots xs), all.0, length-open_slots xs all.1)

pub blocks-push : (xs : List (List ℕ)) (x rest : List ℕ) → open_slots (xs ++ x ∷ []) ++ rest ≡ open_slots xs ++ 1 ∷ (x ++ rest)
unfolding open_slots
blocks-push [] x rest = ap (λ (l : List ℕ). 1 ∷ l) (append_assoc x [] rest)
blocks-push (y ∷ xs) x rest = ap (λ (l : List ℕ). 1 ∷ l) (append_assoc y (open_slots (xs ++ x ∷ [])) rest ∙ ap (λ (l : List ℕ). y ++ l) (blocks-push xs x rest) ∙ sym (append_assoc y (open_slots xs) (1 ∷ (x ++ rest))))

pub are_bodies-push : (xs : List (List ℕ)) (x : List ℕ) → AreBodies xs → length x ≡ 63 → AreBodies (xs ++ x ∷ [])
are_bodies-push [] x all is = (is, tt)
are_bodies-push (y ∷ xs) x all is = (all.0, are_bodies-push xs x all.1 is)

open_first : (n : ℕ) (body rest : List ℕ) → length body ≡ 63 → 0 < length rest → bodies_within (suc n) (1 ∷ (body ++ rest)) ≡ body ∷ bodies_within n rest
unfolding bodies_within
open_first n body rest is there =
    let present : is_present (1 ∷ (body ++ rest)) ≡ true = grind (arith, nat_tests, length-append body rest) in
    cond-true (is_present (1 ∷ (body ++ rest))) (take 63 (body ++ rest) ∷ bodies_within n (drop 63 (body ++ rest))) [] present
    ∙ (λ i. take_at body rest 63 is i ∷ bodies_within n (drop_at body rest 63 is i))

shut_first : (n gate : ℕ) (rest : List ℕ) → gate ≢ 1 → bodies_within n (gate ∷ rest) ≡ []
unfolding bodies_within
shut_first zero gate rest shut = refl
shut_first (suc n) gate rest shut =
    let absent : is_present (gate ∷ rest) ≡ false = grind (arith, nat_tests) in
    cond-false (is_present (gate ∷ rest)) (take 63 rest ∷ bodies_within n (drop 63 rest)) [] absent

pub bodies-open_slots : (n : ℕ) (xs : List (List ℕ)) (rest : List ℕ) → AreBodies xs → 0 < length rest → bodies_within (length xs + n) (open_slots xs ++ rest) ≡ xs ++ bodies_within n rest
unfolding open_slots
bodies-open_slots n [] rest all there = ap (λ (k : ℕ). bodies_within k rest) (omega arith)
bodies-open_slots n (x ∷ xs) rest all there =
    ap (λ (l : List ℕ). bodies_within (suc (length xs) + n) (1 ∷ l)) (append_assoc x (open_slots xs) rest)
    ∙ ap (λ (k : ℕ). bodies_within k (1 ∷ (x ++ (open_slots xs ++ rest)))) (omega arith)
    ∙ open_first (length xs + n) x (open_slots xs ++ rest) all.0 (omega (arith, there, length-append (open_slots xs) rest))
    ∙ ap (λ (l : List (List ℕ)). x ∷ l) (bodies-open_slots n xs rest all.1 there)

-- a closed gate ends them, whatever stands behind it
pub bodies_shut : (xs : List (List ℕ)) (gate : ℕ) (rest : List ℕ) → AreBodies xs → gate ≢ 1 → bodies (open_slots xs ++ gate ∷ rest) ≡ xs
bodies_shut xs gate rest all shut =
    let file = open_slots xs ++ gate ∷ rest in
    let long : length file ≡ length xs + (63 * length xs + suc (length rest)) = omega (arith, length-append (open_slots xs) (gate ∷ rest), length-open_slots xs all) in
    ap (λ (n : ℕ). bodies_within n file) long
    ∙ bodies-open_slots (63 * length xs + suc (length rest)) xs (gate ∷ rest) all (omega arith)
    ∙ ap (λ (l : List (List ℕ)). xs ++ l) (shut_first (63 * length xs + suc (length rest)) gate rest shut)
    ∙ append-nil xs

pub rest_bodies : (used : ℕ) (file : List ℕ) (r : IsAtRest used file) → bodies file ≡ r.slots
rest_bodies used file r = ap bodies r.is ∙ bodies_shut r.slots r.gate r.behind r.whole r.shut

-- a whole body behind any gate is present or not
pub bodies_gate : (xs : List (List ℕ)) (gate : ℕ) (x rest : List ℕ) → AreBodies xs → length x ≡ 63 → HasSlotOrNot xs x (open_slots xs ++ gate ∷ (x ++ 0 ∷ rest))
bodies_gate xs gate x rest all is = ⊎_elim
    (λ (open_gate : gate ≡ 1). inr (ap (λ (g : ℕ). bodies (open_slots xs ++ g ∷ (x ++ 0 ∷ rest))) open_gate ∙ ap bodies (sym (blocks-push xs x (0 ∷ rest))) ∙ bodies_shut (xs ++ x ∷ []) 0 rest (are_bodies-push xs x all is) (omega arith)))
    (λ (shut : gate ≢ 1). inl (bodies_shut xs gate (x ++ 0 ∷ rest) all shut))
    (cases_eq gate 1)
