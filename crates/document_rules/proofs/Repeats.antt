-- The offset of the first name that stands before it, by its place.
use Rattle.std.proofs.Common.{◌≡◌, ◌<◌, ℕ, zero, suc, List, [], ◌∷◌, map, length, get_or, None, Some, refl, sym, ap, ◌∙◌, arith}
use Rattle.gql_base.specs.ways.Reading.{Identifier}
use Rattle.gql_base.specs.names.Names.{first_repeated}
use Rattle.document_rules.specs.Parts.{name_text, offset_at, repeated_at}

texts : {X : Type 0} (view : X → Identifier) (name_of : X → List ℕ) → ((x : X) → name_of x ≡ (view x).0) → (xs : List X) → map name_of xs ≡ map name_text (map view xs)
texts view name_of same [] = refl
texts view name_of same (x ∷ xs) = ap (λ n. n ∷ map name_of xs) (same x) ∙ ap (λ ns. (view x).0 ∷ ns) (texts view name_of same xs)

there : {X : Type 0} (view : X → Identifier) (xs : List X) (place : ℕ) (x : X) → place < length xs → x ≡ get_or xs place x → get_or (map view xs) place ([], 0) ≡ view x
there view [] place x within is = absurd (omega (arith, within))
there view (y ∷ xs) zero x within is = ap view (sym is)
there view (y ∷ xs) (suc place) x within is = there view xs place x (omega arith) is

pub repeated_there : {X : Type 0} (view : X → Identifier) (name_of : X → List ℕ) → ((x : X) → name_of x ≡ (view x).0) → (xs : List X) (place : ℕ) (x : X) (at : ℕ)
    → Some place ≡ first_repeated (map name_of xs) → place < length xs → x ≡ get_or xs place x → at ≡ (view x).1 → Some at ≡ repeated_at (map view xs)
repeated_there view name_of same xs place x at found within is offset =
    ap (λ n. Some n) (offset ∙ ap (λ (i : Identifier). i.1) (sym (there view xs place x within is)))
    ∙ ap (offset_at (map view xs)) (found ∙ ap first_repeated (texts view name_of same xs))

pub not_repeated : {X : Type 0} (view : X → Identifier) (name_of : X → List ℕ) → ((x : X) → name_of x ≡ (view x).0) → (xs : List X)
    → None ≡ first_repeated (map name_of xs) → None ≡ repeated_at (map view xs)
not_repeated view name_of same xs found = ap (offset_at (map view xs)) (found ∙ ap first_repeated (texts view name_of same xs))
