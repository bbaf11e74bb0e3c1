-- The longest run of bytes that pass a test, and what options say.
use Rattle.std.proofs.Common.{◌≡◌, ℕ, zero, suc, ◌+◌, ◌<◌, Bool, true, false, List, [], ◌∷◌, ◌++◌, length, take, drop, get_or, refl, sym, ap, ◌∙◌, arith}
use Rattle.std.specs.List.{AllPass, prefix_len}
use Rattle.std.proofs.lemmas.List.{get_or-take, length-take, drop-drop, drop_at}
use Rattle.std.proofs.lemmas.List.Elements.{All-head, All-tail}
use Rattle.std.proofs.lemmas.List.Sums.{prefix_len_passes, prefix_len_stops, prefix_len-le-length}
use Rattle.gql_base.specs.lexical.Pieces.{BeginsWithout}

-- a run is as long as the bytes that pass, where what follows doesn't begin with one
pub run_is_whole : (p : ℕ → Bool) (xs rest : List ℕ) → AllPass p xs → BeginsWithout p rest → prefix_len p (xs ++ rest) ≡ length xs
run_is_whole p [] [] all ends = refl
run_is_whole p [] (c ∷ cs) all ends = rw ends refl
run_is_whole p (x ∷ xs) rest all ends =
    rw (All-head (λ c. p c ≡ true) x xs all) (rw (run_is_whole p xs rest (All-tail (λ c. p c ≡ true) x xs all) ends) (omega arith))

-- what a run holds passes
pub run_passes : (p : ℕ → Bool) (xs : List ℕ) → AllPass p (take (prefix_len p xs) xs)
run_passes p xs = λ k d below.
    let inside : k < prefix_len p xs = omega (arith, below, length-take (prefix_len p xs) xs, prefix_len-le-length p xs) in
    rw (get_or-take (prefix_len p xs) xs k d inside) (prefix_len_passes p xs k d inside)

begins_without : (p : ℕ → Bool) (n : ℕ) (xs : List ℕ) → (n < length xs → p (get_or xs n 0) ≡ false) → BeginsWithout p (drop n xs)
begins_without p zero [] stops = tt
begins_without p (suc n) [] stops = tt
begins_without p zero (c ∷ cs) stops = stops (omega arith)
begins_without p (suc n) (c ∷ cs) stops = begins_without p n cs (λ below. stops (omega (arith, below)))

-- what follows a run doesn't begin with a byte that passes
pub run_stops : (p : ℕ → Bool) (xs : List ℕ) → BeginsWithout p (drop (prefix_len p xs) xs)
run_stops p xs = begins_without p (prefix_len p xs) xs (prefix_len_stops p xs 0)

pub rest_after : (text xs after : List ℕ) (at : ℕ) → drop at text ≡ xs ++ after → drop (at + length xs) text ≡ after
rest_after text xs after at cut = sym (drop-drop (length xs) at text) ∙ ap (drop (length xs)) cut ∙ drop_at xs after (length xs) refl
