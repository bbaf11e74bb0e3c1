-- Lists that are seen as others.
use Rattle.std.proofs.Common.{◌≡◌, ◌<◌, ◌+◌, ℕ, zero, suc, List, [], ◌∷◌, ◌++◌, map, drop, length, refl, sym, ap, ◌∙◌, arith, append_assoc}
use Rattle.std.proofs.lemmas.Option.{slice_get-map}
use Rattle.schema_facts.specs.declared.known.KnownType.{KnownType}
use Rattle.schema_facts.specs.Facts.{known_type}
use Rattle.schema_facts.specs.Things.{ThingData, a_type}
use Rattle.schema_facts.specs.Table.{types_from}

pub ruleset gotten = (slice_get-map)

next_type : (types : List KnownType) (n k : ℕ) → n < length types → types_from k (map known_type (drop n types)) ≡ a_type k ∷ types_from (k + 1) (map known_type (drop (suc n) types))
next_type [] n k less = absurd (omega (arith, less))
next_type (t ∷ types) zero k less = refl
next_type (t ∷ types) (suc n) k less = next_type types n k (omega (arith, less))

-- the things of types up to n, and those of the others
pub one_more_type : (types : List KnownType) (n : ℕ) (things later whole : List ThingData) → n < length types → later ≡ things ++ (a_type n ∷ [])
    → things ++ types_from n (map known_type (drop n types)) ≡ whole → later ++ types_from (n + 1) (map known_type (drop (n + 1) types)) ≡ whole
one_more_type types n things later whole less pushed all =
    let one_more : n + 1 ≡ suc n = omega arith in
    ap (λ l. l ++ types_from (n + 1) (map known_type (drop (n + 1) types))) pushed ∙ append_assoc things (a_type n ∷ []) (types_from (n + 1) (map known_type (drop (n + 1) types)))
    ∙ ap (λ m. things ++ (a_type n ∷ types_from (n + 1) (map known_type (drop m types)))) one_more ∙ ap (λ l. things ++ l) (sym (next_type types n n less)) ∙ all
