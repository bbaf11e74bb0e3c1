-- The walk comes to just the fields that stand at the root.
use Rattle.std.proofs.Common.{◌≡◌, ◌⊎◌, inl, inr, ◌∙◌, ◌+◌, ◌<◌, ◌≤◌, ℕ, zero, suc, Bool, true, false, List, [], ◌∷◌, ◌++◌, length, get_or, set, replicate, Option, None, Some, refl, sym, ap, subst, arith, true≢false, length-append, cond}
use Rattle.std.specs.Prelude.{◌↔◌, ◌==◌, slice_get, if◌then◌else◌}
use Rattle.std.proofs.lemmas.Bool.{cases_Bool}
use Rattle.std.proofs.lemmas.Bool.Decides.{Decides-eqb}
use Rattle.std.proofs.lemmas.List.{get_or-replicate, get_or-set_same, get_or-set_other, length-replicate, length-set}
use Rattle.std.specs.List.{position_from}
use Rattle.std.specs.Str.{bytes_eq}
use Rattle.gql_base.specs.names.Names.{place_of_name}
use Rattle.gql_base.specs.ways.Reading.{Identifier}
use Rattle.document_reader.specs.Documents.{SelectionTrees}
use Rattle.document_rules.specs.Parts.{FragmentData, fragment_name}
use Rattle.operation_class.specs.RootParts.{RootPart, field_part, spread_part, root_parts}
use Rattle.operation_class.specs.RootFields.{parts_in, after_spread, fields_within, count_parts, root_fields}
use Rattle.operation_class.specs.Steps.{unvisited}
use Rattle.operation_class.specs.StandingFields.{IsAmong, StandsAfter, Stands}
use Rattle.operation_class.proofs.WalkSteps.{none_visited, count_at, visited_once}

-- ---- lists

some_place : (a b : ℕ) → Some a ≡ Some b → a ≡ b
some_place a b same = cc

among_front : {X : Type 0} (x : X) (xs ys : List X) → IsAmong x xs → IsAmong x (xs ++ ys)
among_front x [] ys is = absurd is
among_front x (y ∷ xs) ys (inl same) = inl same
among_front x (y ∷ xs) ys (inr later) = inr (among_front x xs ys later)

among_back : {X : Type 0} (x : X) (xs ys : List X) → IsAmong x ys → IsAmong x (xs ++ ys)
among_back x [] ys is = is
among_back x (y ∷ xs) ys is = inr (among_back x xs ys is)

among_either : {X : Type 0} (x : X) (xs ys : List X) → IsAmong x (xs ++ ys) → IsAmong x xs ⊎ IsAmong x ys
among_either x [] ys is = inr is
among_either x (y ∷ xs) ys (inl same) = inl (inl same)
among_either x (y ∷ xs) ys (inr later) = elim (among_either x xs ys later) [
  | inl front ↦ inl (inr front)
  | inr back ↦ inr back
]

within_from : (p : FragmentData → Bool) (n : ℕ) (xs : List FragmentData) (i : ℕ) → position_from p n xs ≡ Some i → i < n + length xs
within_from p n [] i is = absurd (cc)
within_from p n (x ∷ xs) i is = elim (cases_Bool (p x)) [
  | inl here ↦ let same : n ≡ i = some_place n i (sym (ap (λ b. cond b (Some n) (position_from p (n + 1) xs)) here) ∙ is) in omega (arith, same)
  | inr on ↦ let behind = within_from p (n + 1) xs i (sym (ap (λ b. cond b (Some n) (position_from p (n + 1) xs)) on) ∙ is) in omega (arith, behind)
]

same_name : (a b : Identifier) → field_part a ≡ field_part b → a ≡ b
same_name a b same = cc

same_fragment : (a b : List ℕ) → spread_part a ≡ spread_part b → a ≡ b
same_fragment a b same = cc

field_apart : {A : Type 0} (name : Identifier) (f : List ℕ) → field_part name ≡ spread_part f → A
field_apart name f same = absurd (cc)

spread_apart : {A : Type 0} (name : Identifier) (f : List ℕ) → spread_part f ≡ field_part name → A
spread_apart name f same = absurd (cc)

module _ (fragments : List FragmentData) where
  -- ---- what the walk comes to stands there

  later : (p : RootPart) (parts : List RootPart) (name : Identifier) → Stands fragments parts name → Stands fragments (p ∷ parts) name
  later p parts name (zero, is) = (0, inr is)
  later p parts name (suc k, (f, is, number, place, rest)) = (suc k, (f, inr is, number, place, rest))

  either : (xs ys : List RootPart) (name : Identifier) → Stands fragments (xs ++ ys) name → Stands fragments xs name ⊎ Stands fragments ys name
  either xs ys name (zero, is) = elim (among_either (field_part name) xs ys is) [
    | inl front ↦ inl (0, front)
    | inr back ↦ inr (0, back)
  ]
  either xs ys name (suc k, (f, is, number, place, rest)) = elim (among_either (spread_part f) xs ys is) [
    | inl front ↦ inl (suc k, (f, front, number, place, rest))
    | inr back ↦ inr (suc k, (f, back, number, place, rest))
  ]

  module _ (name : Identifier) (go : List Bool → List RootPart → List Identifier) (sound : (visited : List Bool) (parts : List RootPart) → IsAmong name (go visited parts) → Stands fragments parts name)
      (visited : List Bool) (f : List ℕ) (parts : List RootPart) where
    by_mark : (number : ℕ) (b : Bool) → place_of_name fragment_name fragments f ≡ Some number
        → IsAmong name (if b then go visited parts else go (set visited number true) (parts_in (slice_get fragments number) ++ parts)) → Stands fragments (spread_part f ∷ parts) name
    by_mark number true place is = later (spread_part f) parts name (sound visited parts is)
    by_mark number false place is = elim (either (parts_in (slice_get fragments number)) parts name (sound (set visited number true) (parts_in (slice_get fragments number) ++ parts) is)) [
      | inl below ↦ (suc below.0, (f, inl refl, number, place, below.1))
      | inr behind ↦ later (spread_part f) parts name behind
    ]

    by_place : (place : Option ℕ) → place_of_name fragment_name fragments f ≡ place → IsAmong name (after_spread fragments go visited parts place) → Stands fragments (spread_part f ∷ parts) name
    by_place None at is = later (spread_part f) parts name (sound visited parts is)
    by_place (Some number) at is = by_mark number (get_or visited number false) at is

  sound : (n : ℕ) (name : Identifier) (visited : List Bool) (parts : List RootPart) → IsAmong name (fields_within fragments n visited parts) → Stands fragments parts name
  unfolding fields_within
  sound zero name visited parts is = absurd is
  sound (suc n) name visited [] is = absurd is
  sound (suc n) name visited (field_part other ∷ parts) (inl same) = (0, inl (ap field_part same))
  sound (suc n) name visited (field_part other ∷ parts) (inr is) = later (field_part other) parts name (sound n name visited parts is)
  sound (suc n) name visited (spread_part f ∷ parts) is =
      by_place name (fields_within fragments n) (sound n name) visited f parts (place_of_name fragment_name fragments f) refl is

  -- ---- the walk comes to what stands there, on a way through fragments that weren't visited

  abbrev Free : List Bool → ℕ → List RootPart → Identifier → Type 0
  Free visited zero parts name = IsAmong (field_part name) parts
  Free visited (suc k) parts name =
      (f : List ℕ) × IsAmong (spread_part f) parts × (number : ℕ) × (place_of_name fragment_name fragments f ≡ Some number) × (get_or visited number false ≡ false) × Free visited k (parts_in (slice_get fragments number)) name

  place_within : (f : List ℕ) (number : ℕ) → place_of_name fragment_name fragments f ≡ Some number → number < length fragments
  place_within f number place =
      let within : number < 0 + length fragments = within_from (λ x. bytes_eq (fragment_name x) f) 0 fragments number place in
      omega (arith, within)

  free_at_first : (k : ℕ) (parts : List RootPart) (name : Identifier) → StandsAfter fragments k parts name → Free (replicate (length fragments) false) k parts name
  free_at_first zero parts name is = is
  free_at_first (suc k) parts name (f, is, number, place, rest) =
      (f, is, number, place, get_or-replicate (length fragments) number false false (place_within f number place), free_at_first k (parts_in (slice_get fragments number)) name rest)

  free_front : (visited : List Bool) (k : ℕ) (xs ys : List RootPart) (name : Identifier) → Free visited k xs name → Free visited k (xs ++ ys) name
  free_front visited zero xs ys name is = among_front (field_part name) xs ys is
  free_front visited (suc k) xs ys name (f, is, number, place, free, rest) = (f, among_front (spread_part f) xs ys is, number, place, free, rest)

  free_back : (visited : List Bool) (k : ℕ) (xs ys : List RootPart) (name : Identifier) → Free visited k ys name → Free visited k (xs ++ ys) name
  free_back visited zero xs ys name is = among_back (field_part name) xs ys is
  free_back visited (suc k) xs ys name (f, is, number, place, free, rest) = (f, among_back (spread_part f) xs ys is, number, place, free, rest)

  -- past a field
  past_field : (visited : List Bool) (k : ℕ) (other name : Identifier) (parts : List RootPart) → Free visited k (field_part other ∷ parts) name → (name ≡ other) ⊎ Free visited k parts name
  past_field visited zero other name parts (inl same) = inl (same_name name other same)
  past_field visited zero other name parts (inr is) = inr is
  past_field visited (suc k) other name parts (f, inl same, number, place, free, rest) = spread_apart other f same
  past_field visited (suc k) other name parts (f, inr is, number, place, free, rest) = inr (f, is, number, place, free, rest)

  -- past a spread that leads nowhere
  past_spread : (visited : List Bool) (k : ℕ) (f : List ℕ) (name : Identifier) (parts : List RootPart)
      → ((number : ℕ) → place_of_name fragment_name fragments f ≡ Some number → get_or visited number false ≡ false → ⊥) → Free visited k (spread_part f ∷ parts) name → Free visited k parts name
  past_spread visited zero f name parts never (inl same) = field_apart name f same
  past_spread visited zero f name parts never (inr is) = is
  past_spread visited (suc k) f name parts never (g, inl same, number, place, free, rest) =
      absurd (never number (ap (place_of_name fragment_name fragments) (sym (same_fragment g f same)) ∙ place) free)
  past_spread visited (suc k) f name parts never (g, inr is, number, place, free, rest) = (g, is, number, place, free, rest)

  abbrev Goes : List Bool → List RootPart → Identifier → Type 0
  Goes visited parts name = (k : ℕ) × Free visited k parts name

  -- once a fragment is visited: a way that doesn't lead through it is free still, and of one that does what comes after it the last time
  turn : (visited : List Bool) (number k : ℕ) (parts : List RootPart) (name : Identifier) → Free visited k parts name
      → Goes (set visited number true) parts name ⊎ Goes (set visited number true) (parts_in (slice_get fragments number)) name
  turn visited number zero parts name is = inl (0, is)
  turn visited number (suc k) parts name (f, is, m, place, free, rest) = elim (turn visited number k (parts_in (slice_get fragments m)) name rest) [
    | inr last ↦ inr last
    | inl on ↦ elim (cases_Bool (m == number)) [
      | inl same ↦ inr (on.0, subst (λ x. Free (set visited number true) on.0 (parts_in (slice_get fragments x)) name) ((Decides-eqb m number).0 same) on.1)
      | inr other ↦
          inl (suc on.0, (f, is, m, place, get_or-set_other visited number m true false (λ same. true≢false (sym ((Decides-eqb m number).1 same) ∙ other)) ∙ free, on.1))
    ]
  ]

  length_below : (o : Option FragmentData) → length (parts_in o) ≡ count_at o
  length_below None = refl
  length_below (Some f) = refl

  abbrev Enough : ℕ → List Bool → List RootPart → Type 0
  Enough n visited parts = (length visited ≡ length fragments) × (length parts + unvisited visited fragments ≤ n)

  module _ (name : Identifier) (n : ℕ) (go : List Bool → List RootPart → List Identifier)
      (comes : (k : ℕ) (visited : List Bool) (parts : List RootPart) → Enough n visited parts → Free visited k parts name → IsAmong name (go visited parts)) (visited : List Bool) (f : List ℕ) (parts : List RootPart)
      (enough : Enough (suc n) visited (spread_part f ∷ parts)) where
    behind : Enough n visited parts
    behind = (enough.0, omega (arith, enough.1))

    module _ (number : ℕ) (place : place_of_name fragment_name fragments f ≡ Some number) where
      one_place : (other : ℕ) → place_of_name fragment_name fragments f ≡ Some other → other ≡ number
      one_place other also = some_place other number (sym also ∙ place)

      inside : number < length fragments
      inside = place_within f number place

      marked_comes : (k : ℕ) → get_or visited number false ≡ true → Free visited k (spread_part f ∷ parts) name → IsAmong name (go visited parts)
      marked_comes k mark free = comes k visited parts behind (past_spread visited k f name parts (λ other also new. true≢false (sym mark ∙ ap (λ x. get_or visited x false) (sym (one_place other also)) ∙ new)) free)

      abbrev below : List RootPart
      below = parts_in (slice_get fragments number)

      entered : get_or visited number false ≡ false → Enough n (set visited number true) (below ++ parts)
      entered new =
          let once = visited_once visited fragments number enough.0 (omega (arith, inside, enough.0)) new in
          (length-set visited number true ∙ enough.0, omega (arith, enough.1, once, length_below (slice_get fragments number), length-append below parts))

      on_from : get_or visited number false ≡ false → Goes (set visited number true) (spread_part f ∷ parts) name ⊎ Goes (set visited number true) below name → Goes (set visited number true) (below ++ parts) name
      on_from new (inl (k, free)) = (
        k,
        free_back (set visited number true) k below parts name
            (past_spread (set visited number true) k f name parts
            (λ other also unmet. true≢false (sym (get_or-set_same visited number true false (omega (arith, inside, enough.0))) ∙ ap (λ x. get_or (set visited number true) x false) (sym (one_place other also)) ∙ unmet)) free),
      )
      on_from new (inr (k, free)) = (k, free_front (set visited number true) k below parts name free)

      new_comes : (k : ℕ) → get_or visited number false ≡ false → Free visited k (spread_part f ∷ parts) name → IsAmong name (go (set visited number true) (below ++ parts))
      new_comes k new free =
          let on = on_from new (turn visited number k (spread_part f ∷ parts) name free) in
          comes on.0 (set visited number true) (below ++ parts) (entered new) on.1

      mark_comes : (k : ℕ) (b : Bool) → get_or visited number false ≡ b → Free visited k (spread_part f ∷ parts) name → IsAmong name (if b then go visited parts else go (set visited number true) (below ++ parts))
      mark_comes k true mark free = marked_comes k mark free
      mark_comes k false mark free = new_comes k mark free

    none_some : (number : ℕ) → None ≡ Some number → ⊥
    none_some number same = absurd (cc)

    place_comes : (k : ℕ) (place : Option ℕ) → place_of_name fragment_name fragments f ≡ place → Free visited k (spread_part f ∷ parts) name → IsAmong name (after_spread fragments go visited parts place)
    place_comes k None at free = comes k visited parts behind (past_spread visited k f name parts (λ number also new. none_some number (sym at ∙ also)) free)
    place_comes k (Some number) at free = mark_comes number at k (get_or visited number false) refl free

  nowhere : {A : Type 0} (visited : List Bool) (k : ℕ) (name : Identifier) → Free visited k [] name → A
  nowhere visited zero name is = absurd is
  nowhere visited (suc k) name (f, is, number, place, free, rest) = absurd is

  comes : (n : ℕ) (name : Identifier) (k : ℕ) (visited : List Bool) (parts : List RootPart) → Enough n visited parts → Free visited k parts name → IsAmong name (fields_within fragments n visited parts)
  unfolding fields_within
  comes zero name k visited [] enough free = nowhere visited k name free
  comes zero name k visited (p ∷ parts) enough free = absurd (omega (arith, enough.1))
  comes (suc n) name k visited [] enough free = nowhere visited k name free
  comes (suc n) name k visited (field_part other ∷ parts) enough free = elim (past_field visited k other name parts free) [
    | inl same ↦ inl same
    | inr on ↦ inr (comes n name k visited parts (enough.0, omega (arith, enough.1)) on)
  ]
  comes (suc n) name k visited (spread_part f ∷ parts) enough free =
      place_comes name n (fields_within fragments n) (comes n name) visited f parts enough k (place_of_name fragment_name fragments f) refl free

pub reached : (fragments : List FragmentData) (selections : SelectionTrees) (name : Identifier) → IsAmong name (root_fields fragments selections) ↔ Stands fragments (root_parts selections) name
reached fragments selections name = (
  sound fragments (length (root_parts selections) + count_parts fragments) name (replicate (length fragments) false) (root_parts selections),
  λ stands.
      comes fragments (length (root_parts selections) + count_parts fragments) name stands.0 (replicate (length fragments) false) (root_parts selections)
      (length-replicate (length fragments) false, omega (arith, none_visited fragments)) (free_at_first fragments stands.0 (root_parts selections) name stands.1),
)
