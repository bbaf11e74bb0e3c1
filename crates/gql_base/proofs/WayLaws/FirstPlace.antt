-- Where the symbols of things tell their nestings, symbols have one first fault, and none where they are those of a
-- thing: for each grammar, whatever opens its levels.
use Rattle.std.proofs.Common.{ℕ, suc, ◌≡◌, ◌⊎◌, inl, inr, [], ◌∷◌, ◌++◌, length, refl, sym, ap, ◌∙◌, subst, arith, append_assoc, append-nil, length-append}
use Rattle.gql_base.specs.ways.Symbols.{Symbol, Symbols}
use Rattle.gql_base.specs.ways.Grammar.{Nested, plain, Within}
use Rattle.gql_base.specs.ways.FirstFaults.{NoneGoesOn, IsUnexpected, IsTooDeep, IsWritten}
use Rattle.gql_base.proofs.WayLaws.ReadingLaws.{plain_append, within_front, within_back}
use Rattle.gql_base.proofs.WayLaws.AlikeSymbols.{first_same}
use Rattle.gql_base.proofs.WayLaws.DeterminedNestings.{Determined}

-- two cuts of the same symbols

-- g is f and the first symbols of the rest, and leaves the other ones
abbrev Further : Symbols → Symbols → Symbols → Symbols → Type 0
Further f rest g other = (m : Symbols) × (g ≡ f ++ m) × (rest ≡ m ++ other)

two_cuts : (f rest g other : Symbols) → f ++ rest ≡ g ++ other → Further f rest g other ⊎ Further g other f rest
two_cuts [] rest g other e = inl (g, refl, e)
two_cuts (w ∷ f) rest [] other e = inr (w ∷ f, refl, sym e)
two_cuts (w ∷ f) rest (v ∷ g) other e =
    let h = first_same w v (f ++ rest) (g ++ other) e in
    elim (two_cuts f rest g other h.1) [
      | inl m ↦ inl (m.0, cc (h.0, m.1), m.2)
      | inr m ↦ inr (m.0, cc (h.0, m.1), m.2)
    ]

-- a symbol that opens a level too many

-- No thing begins with symbols that are nested n deep at most and hold one that opens a level too many.
never_deeper : {A : Type 0} {S : A → Nested → Type 0} → Determined S → (n : ℕ) (a b : A) (f more g others : Nested) (w : Symbol) (m : Symbols) → S a (f ++ more) → Within n f → S b (g ++ ((w, suc n) ∷ others)) → plain f ≡ plain g ++ (w ∷ m) → ⊥
never_deeper {S = S} s n a b f more g others w m is within it e =
    let last : Nested = (w, suc n) ∷ [] in
    let it2 : S b ((g ++ last) ++ others) = subst (S b) (sym (append_assoc g last others)) it in
    let e2 : plain f ≡ plain (g ++ last) ++ m = e ∙ (sym (append_assoc (plain g) (w ∷ []) m) ∙ ap (λ (l : Symbols). l ++ m) (sym (plain_append g last))) in
    let k = s.same a b f more (g ++ last) others m is it2 e2 in
    let deep : Within n last = within_back n g last (within_front n (g ++ last) k.0 (subst (Within n) k.1 within)) in
    omega (arith, deep.0)

-- unexpected symbols

-- Nothing begins with symbols with which nothing goes on.
never_past : {A : Type 0} (S : A → Nested → Type 0) (f : Symbols) (rest : Symbols) (g more : Nested) (v : Symbol) (m other : Symbols) (a : A) → NoneGoesOn S f rest → S a (g ++ more) → plain g ≡ f ++ (v ∷ m) → rest ≡ (v ∷ m) ++ other → ⊥
never_past S f rest g more v m other a stops is e cut =
    let at : NoneGoesOn S f (v ∷ (m ++ other)) = subst (NoneGoesOn S f) cut stops in
    at a (g ++ more) (m ++ plain more) is (plain_append g more ∙ (ap (λ (l : Symbols). l ++ plain more) e ∙ append_assoc f (v ∷ m) (plain more)))

-- If nothing goes on after f, what begins other things is no longer.
no_further : {A : Type 0} (S : A → Nested → Type 0) (f rest : Symbols) (g more : Nested) (other : Symbols) (a : A) → NoneGoesOn S f rest → S a (g ++ more) → f ++ rest ≡ plain g ++ other → Further (plain g) other f rest
no_further S f rest g more other a stops is e = elim (two_cuts f rest (plain g) other e) [
  | inr m ↦ m
  | inl m ↦ ends m.0 m.1 m.2
]
  where
    ends : (m : Symbols) → plain g ≡ f ++ m → rest ≡ m ++ other → Further (plain g) other f rest
    ends [] h i = ([], sym (append-nil f) ∙ (sym h ∙ sym (append-nil (plain g))), sym i)
    ends (v ∷ m) h i = absurd (never_past S f rest g more v m other a stops is h i)

further_twice : (f rest g other : Symbols) → Further f rest g other → Further g other f rest → rest ≡ other
further_twice f rest g other a b = both a.0 b.0 a.2 b.2 (by_length a.0 b.0 a.2 b.2)
  where
    by_length : (m k : Symbols) → rest ≡ m ++ other → other ≡ k ++ rest → m ≡ []
    by_length [] k h i = refl
    by_length (v ∷ m) k h i = absurd (omega (arith, ap length h, ap length i, length-append (v ∷ m) other, length-append k rest))

    both : (m k : Symbols) → rest ≡ m ++ other → other ≡ k ++ rest → m ≡ [] → rest ≡ other
    both m k h i e = h ∙ ap (λ (l : Symbols). l ++ other) e

pub one_unexpected : {A : Type 0} {S : A → Nested → Type 0} (n : ℕ) (ws rest other : Symbols) → IsUnexpected S n ws rest → IsUnexpected S n ws other → rest ≡ other
one_unexpected {S = S} n ws rest other u v =
    let a = no_further S (plain u.front) rest v.front v.begins.1 other v.begins.0 u.stops v.begins.2 (sym u.cut ∙ v.cut) in
    let b = no_further S (plain v.front) other u.front u.begins.1 rest u.begins.0 v.stops u.begins.2 (sym v.cut ∙ u.cut) in
    further_twice (plain u.front) rest (plain v.front) other b a

-- levels above the limit

pub unexpected_or_too_deep : {A : Type 0} {S : A → Nested → Type 0} → Determined S → (n : ℕ) (ws rest other : Symbols) → IsUnexpected S n ws rest → IsTooDeep S n ws other → ⊥
unexpected_or_too_deep {S = S} s n ws rest other u t =
    let w = t.opens.0 in
    let last : Nested = (w, suc n) ∷ [] in
    let is : S t.opens.2 ((t.front ++ last) ++ t.opens.3) = subst (S t.opens.2) (sym (append_assoc t.front last t.opens.3)) t.opens.5 in
    let g : plain (t.front ++ last) ++ t.opens.1 ≡ ws = ap (λ (l : Symbols). l ++ t.opens.1) (plain_append t.front last) ∙ (append_assoc (plain t.front) (w ∷ []) t.opens.1 ∙ (ap (λ (l : Symbols). plain t.front ++ l) (sym t.opens.4) ∙ sym t.cut)) in
    let m = no_further S (plain u.front) rest (t.front ++ last) t.opens.3 t.opens.1 t.opens.2 u.stops is (sym u.cut ∙ sym g) in
    let e : plain u.front ≡ plain t.front ++ (w ∷ m.0) = m.1 ∙ (ap (λ (l : Symbols). l ++ m.0) (plain_append t.front last) ∙ append_assoc (plain t.front) (w ∷ []) m.0) in
    never_deeper s n u.begins.0 t.opens.2 u.front u.begins.1 t.front t.opens.3 w m.0 u.begins.2 u.within t.opens.5 e

-- Symbols of things that are nested n deep at most don't hold the symbol that opens a level too many.
reaches : {A : Type 0} {S : A → Nested → Type 0} → Determined S → (n : ℕ) (ws rest : Symbols) (t : IsTooDeep S n ws rest) (a : A) (f more : Nested) (m left : Symbols) → S a (f ++ more) → Within n f → plain f ≡ plain t.front ++ m → rest ≡ m ++ left → rest ≡ left
reaches s n ws rest t a f more [] left is within e h = h
reaches s n ws rest t a f more (v ∷ m) left is within e h =
    let same = first_same t.opens.0 v t.opens.1 (m ++ left) (sym t.opens.4 ∙ h) in
    absurd (never_deeper s n a t.opens.2 f more t.front t.opens.3 t.opens.0 m is within t.opens.5 (e ∙ ap (λ (l : Symbol). plain t.front ++ (l ∷ m)) (sym same.0)))

pub one_too_deep : {A : Type 0} {S : A → Nested → Type 0} → Determined S → (n : ℕ) (ws rest other : Symbols) → IsTooDeep S n ws rest → IsTooDeep S n ws other → rest ≡ other
one_too_deep s n ws rest other t u = elim (two_cuts (plain t.front) rest (plain u.front) other (sym t.cut ∙ u.cut)) [
  | inl m ↦ reaches s n ws rest t u.opens.2 u.front ((u.opens.0, suc n) ∷ u.opens.3) m.0 other u.opens.5 u.within m.1 m.2
  | inr m ↦ sym (reaches s n ws other u t.opens.2 t.front ((t.opens.0, suc n) ∷ t.opens.3) m.0 rest t.opens.5 t.within m.1 m.2)
]

-- symbols that are all those of a thing

pub written_or_unexpected : {A : Type 0} {S : A → Nested → Type 0} (n : ℕ) (ws : Symbols) (a : A) (rest : Symbols) → IsWritten S n ws a [] → IsUnexpected S n ws rest → ⊥
written_or_unexpected {S = S} n ws a rest is u = by_rest rest u.stops (sym (append-nil (plain is.front)) ∙ (sym is.cut ∙ u.cut))
  where
    by_rest : (rest : Symbols) → NoneGoesOn S (plain u.front) rest → plain is.front ≡ plain u.front ++ rest → ⊥
    by_rest [] stops e = stops a is.front is.written (e ∙ append-nil (plain u.front))
    by_rest (w ∷ rest) stops e = stops a is.front rest is.written e

pub written_or_too_deep : {A : Type 0} {S : A → Nested → Type 0} → Determined S → (n : ℕ) (ws : Symbols) (a : A) (rest : Symbols) → IsWritten S n ws a [] → IsTooDeep S n ws rest → ⊥
written_or_too_deep {S = S} s n ws a rest is t =
    let all : S a (is.front ++ []) = subst (S a) (sym (append-nil is.front)) is.written in
    let e : plain is.front ≡ plain t.front ++ (t.opens.0 ∷ t.opens.1) = sym (append-nil (plain is.front)) ∙ (sym is.cut ∙ (t.cut ∙ ap (λ (l : Symbols). plain t.front ++ l) t.opens.4)) in
    never_deeper s n a t.opens.2 is.front [] t.front t.opens.3 t.opens.0 t.opens.1 all is.within t.opens.5 e
