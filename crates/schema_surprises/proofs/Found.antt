-- The things that were found under the numbers so far, and the next.
use Rattle.std.proofs.Common.{◌≡◌, ℕ, ◌+◌, Bool, true, false, List, [], ◌∷◌, ◌++◌, map, refl, sym, ap, ◌∙◌}
use Rattle.std.proofs.Math.Bool.{cond}
use Rattle.std.specs.List.{filter, range_with_len}
use Rattle.std.proofs.lemmas.List.{append-nil, map-append, map-id}
use Rattle.std.proofs.lemmas.List.Elements.{filter-append}
use Rattle.cost_directives.proofs.NumbersMade.{next_number}

module _ {A : Type 0} (thing : ℕ → A) (test : ℕ → Bool) where
  abbrev pub found : List ℕ → List A
  found numbers = map thing (filter test numbers)

  found_next : (n : ℕ) → found (range_with_len 0 (n + 1)) ≡ found (range_with_len 0 n) ++ found (n ∷ [])
  found_next n = ap found (sym (next_number (range_with_len 0 n) (range_with_len 0 n ++ n ∷ []) n refl refl))
      ∙ (ap (map thing) (filter-append test (range_with_len 0 n) (n ∷ [])) ∙ map-append thing (filter test (range_with_len 0 n)) (filter test (n ∷ [])))

  pub found_one : (n : ℕ) (before after : List A) → test n ≡ true → after ≡ before ++ thing n ∷ [] → before ≡ found (range_with_len 0 n) → after ≡ found (range_with_len 0 (n + 1))
  found_one n before after is pushed held =
      pushed ∙ (ap (λ things. things ++ thing n ∷ []) held
      ∙ (ap (λ b. found (range_with_len 0 n) ++ map thing (cond b (n ∷ []) [])) (sym is) ∙ sym (found_next n)))

  pub found_none : (n : ℕ) (before : List A) → test n ≡ false → before ≡ found (range_with_len 0 n) → before ≡ found (range_with_len 0 (n + 1))
  found_none n before is held =
      held ∙ (sym (append-nil (found (range_with_len 0 n)))
      ∙ (ap (λ b. found (range_with_len 0 n) ++ map thing (cond b (n ∷ []) [])) (sym is) ∙ sym (found_next n)))

module _ (test : ℕ → Bool) where
  pub kept_one : (n : ℕ) (before after : List ℕ) → test n ≡ true → after ≡ before ++ n ∷ [] → before ≡ filter test (range_with_len 0 n) → after ≡ filter test (range_with_len 0 (n + 1))
  kept_one n before after is pushed held =
      found_one (λ k. k) test n before after is pushed (held ∙ sym (map-id (filter test (range_with_len 0 n)))) ∙ map-id (filter test (range_with_len 0 (n + 1)))

  pub kept_none : (n : ℕ) (before : List ℕ) → test n ≡ false → before ≡ filter test (range_with_len 0 n) → before ≡ filter test (range_with_len 0 (n + 1))
  kept_none n before is held = found_none (λ k. k) test n before is (held ∙ sym (map-id (filter test (range_with_len 0 n)))) ∙ map-id (filter test (range_with_len 0 (n + 1)))
