-- Lists of names of different lengths aren't the same.
use Rattle.std.proofs.Common.{◌≡◌, ℕ, suc, Bool, true, false, List, [], ◌∷◌, length, refl, ap, ◌∙◌}
use Rattle.std.specs.Prelude.{◌≢◌, ◌&&◌}
use Rattle.std.specs.Str.{bytes_eq}
use Rattle.cost_directives.specs.Disagree.{same_names}

and_false : (b : Bool) → false ≡ b && false
and_false true = refl
and_false false = refl

pub other_lengths : (names others : List (List ℕ)) → length names ≢ length others → false ≡ same_names names others
other_lengths [] [] differ = absurd (differ refl)
other_lengths [] (b ∷ others) differ = refl
other_lengths (a ∷ names) [] differ = refl
other_lengths (a ∷ names) (b ∷ others) differ = and_false (bytes_eq a b) ∙ ap (λ t. bytes_eq a b && t) (other_lengths names others (λ e. differ (ap suc e)))
