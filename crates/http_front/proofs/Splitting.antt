-- The pieces of a value.
use Rattle.std.proofs.Common.{◌≡◌, ℕ, ◌<◌, zero, suc, cond, List, [], ◌∷◌, length, take, drop, get_or, map, refl, ap, ◌∙◌, arith}
use Rattle.std.specs.Prelude.{◌≢◌}
use Rattle.std.proofs.lemmas.Bool.{eq-eqb, ne_eqb}
use Rattle.httparse.specs.Grammar.{trim_ows}
use Rattle.http_front.specs.Fields.{before_first, pieces_between, elements}

pieces_at_mark : (m : ℕ) (xs : List ℕ) (i : ℕ) → i < length xs → get_or xs i 0 ≡ m → ((k : ℕ) → k < i → get_or xs k 0 ≢ m) → pieces_between m xs ≡ take i xs ∷ pieces_between m (drop (suc i) xs)
pieces_at_mark m [] i inside mark before = absurd (omega arith)
pieces_at_mark m (b ∷ bs) zero inside mark before =
    ap (λ t. cond t ([] ∷ pieces_between m bs) (before_first b (pieces_between m bs))) (eq-eqb b m mark)
pieces_at_mark m (b ∷ bs) (suc i) inside mark before =
    ap (λ t. cond t ([] ∷ pieces_between m bs) (before_first b (pieces_between m bs))) (ne_eqb b m (before 0 (omega arith)))
    ∙ ap (before_first b) (pieces_at_mark m bs i (omega arith) mark (λ k below. before (suc k) (omega arith)))

pieces_whole : (m : ℕ) (xs : List ℕ) → ((k : ℕ) → k < length xs → get_or xs k 0 ≢ m) → pieces_between m xs ≡ xs ∷ []
pieces_whole m [] none = refl
pieces_whole m (b ∷ bs) none =
    ap (λ t. cond t ([] ∷ pieces_between m bs) (before_first b (pieces_between m bs))) (ne_eqb b m (none 0 (omega arith)))
    ∙ ap (before_first b) (pieces_whole m bs (λ k below. none (suc k) (omega arith)))

pub elements_at : (m : ℕ) (xs : List ℕ) (i : ℕ) → i < length xs → get_or xs i 0 ≡ m → ((k : ℕ) → k < i → get_or xs k 0 ≢ m) → elements m xs ≡ trim_ows (take i xs) ∷ elements m (drop (suc i) xs)
unfolding elements
elements_at m xs i inside mark before = ap (map trim_ows) (pieces_at_mark m xs i inside mark before)

pub elements_whole : (m : ℕ) (xs : List ℕ) → ((k : ℕ) → k < length xs → get_or xs k 0 ≢ m) → elements m xs ≡ trim_ows xs ∷ []
unfolding elements
elements_whole m xs none = ap (map trim_ows) (pieces_whole m xs none)
