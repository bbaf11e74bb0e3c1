-- What stands at the number of a type is what its definition says.
use Rattle.std.proofs.Common.{◌≡◌, ◌<◌, ◌≤◌, ℕ, zero, suc, List, [], ◌∷◌, map, length, get_or, Option, Some, None, refl, sym, ap, ◌∙◌, arith}
use Rattle.std.specs.Prelude.{slice_get}
use Rattle.schema_facts.specs.Facts.{KnownTree, built_in, defined}
use Rattle.schema_facts.specs.Table.{definition_in}
use Rattle.schema_facts.specs.Making.{list_of}
use Rattle.schema_facts.specs.Places.{places_in, places_of}

pub places_defined : (known : Option KnownTree) → list_of places_of known ≡ places_in (definition_in known)
places_defined None = refl
places_defined (Some (built_in name)) = refl
places_defined (Some (defined d)) = refl

module _ {A B : Type 0} (tree : A → B) where
  pub gotten_there : (xs : List A) (n : ℕ) (x : A) → n < length xs → x ≡ get_or xs n x → slice_get (map tree xs) n ≡ Some (tree x)
  gotten_there [] n x less is = absurd (omega (arith, less))
  gotten_there (y ∷ xs) zero x less is = ap (λ z. Some (tree z)) (sym is)
  gotten_there (y ∷ xs) (suc n) x less is = gotten_there xs n x (omega (arith, less)) is

  pub gotten_past : (xs : List A) (n : ℕ) → length xs ≤ n → None ≡ slice_get (map tree xs) n
  gotten_past [] n past = refl
  gotten_past (y ∷ xs) zero past = absurd (omega (arith, past))
  gotten_past (y ∷ xs) (suc n) past = gotten_past xs n (omega (arith, past))

  -- the place that is held beside the thing of a number
  pub place_there : (place : B → ℕ) (places : List ℕ) (xs : List A) (n : ℕ) (x : A) (d : ℕ) → places ≡ map place (map tree xs) → n < length xs → x ≡ get_or xs n x → get_or places n d ≡ place (tree x)
  place_there place places xs n x d are less is = ap (λ l. get_or l n d) are ∙ here xs n less is
    where
      here : (xs : List A) (n : ℕ) → n < length xs → x ≡ get_or xs n x → get_or (map place (map tree xs)) n d ≡ place (tree x)
      here [] n less is = absurd (omega (arith, less))
      here (y ∷ xs) zero less is = ap (λ z. place (tree z)) (sym is)
      here (y ∷ xs) (suc n) less is = here xs n (omega (arith, less)) is
