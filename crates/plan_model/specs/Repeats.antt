-- A list where some of its later repeats are left out.
use Rattle.std.specs.Prelude.{◌≡◌, ◌⊎◌, List, [], ◌∷◌}

module _ {A : Type 0} where
  abbrev pub Holds : List A → A → Type 0
  Holds [] x = ⊥
  Holds (y ∷ ys) x = (x ≡ y) ⊎ Holds ys x

  -- The second list is the first, where some elements are left out that were seen before.
  abbrev pub IsThinned : List A → List A → List A → Type 0
  IsThinned seen [] [] = Unit {0}
  IsThinned seen [] (y ∷ ys) = ⊥
  IsThinned seen (x ∷ xs) [] = Holds seen x × IsThinned seen xs []
  IsThinned seen (x ∷ xs) (y ∷ ys) = ((x ≡ y) × IsThinned (x ∷ seen) xs ys) ⊎ (Holds seen x × IsThinned seen xs (y ∷ ys))

  abbrev pub LeavesOutRepeats : List A → List A → Type 0
  LeavesOutRepeats xs ys = IsThinned [] xs ys
