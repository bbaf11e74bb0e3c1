-- What holds of symbols that differ at most in the offsets of their names.
use Rattle.std.proofs.Common.{ℕ, ◌≡◌, ◌≤◌, List, [], ◌∷◌, ◌++◌, refl, sym, ap, ◌∙◌, subst}
use Rattle.std.specs.Prelude.{map}
use Rattle.gql_base.specs.declared.lexical.token.TokenKind.{TokenKind}
use Rattle.gql_base.specs.ways.Symbols.{Symbol, punctuator, identifier, integer, decimal, string, Symbols}
use Rattle.gql_base.specs.ways.Grammar.{Nested, plain, Within}
use Rattle.gql_base.specs.printing.PlacelessSymbols.{placeless_symbol}
use Rattle.gql_base.specs.printing.Alike.{AreAlike}

-- one symbol

-- the symbol, with this offset if it is a name
abbrev pub moved_symbol : ℕ → Symbol → Symbol
moved_symbol place (punctuator kind) = punctuator kind
moved_symbol place (identifier bytes at) = identifier bytes place
moved_symbol place (integer value) = integer value
moved_symbol place (decimal bytes) = decimal bytes
moved_symbol place (string value) = string value

offset_in : Symbol → ℕ
offset_in (punctuator kind) = 0
offset_in (identifier bytes at) = at
offset_in (integer value) = 0
offset_in (decimal bytes) = 0
offset_in (string value) = 0

moved_back : (v : Symbol) → moved_symbol (offset_in v) (placeless_symbol v) ≡ v
unfolding offset_in
moved_back (punctuator kind) = refl
moved_back (identifier bytes at) = refl
moved_back (integer value) = refl
moved_back (decimal bytes) = refl
moved_back (string value) = refl

moved_from_none : (place : ℕ) (w : Symbol) → moved_symbol place (placeless_symbol w) ≡ moved_symbol place w
moved_from_none place (punctuator kind) = refl
moved_from_none place (identifier bytes at) = refl
moved_from_none place (integer value) = refl
moved_from_none place (decimal bytes) = refl
moved_from_none place (string value) = refl

-- of two symbols that are alike one is the other with some offset
pub moves : (w v : Symbol) → placeless_symbol w ≡ placeless_symbol v → (place : ℕ) × (v ≡ moved_symbol place w)
moves w v e = (offset_in v, sym (moved_back v) ∙ (ap (moved_symbol (offset_in v)) (sym e) ∙ moved_from_none (offset_in v) w))

-- symbols

pub none_alike : (vs : Nested) → AreAlike [] vs → vs ≡ []
none_alike [] a = refl
none_alike (v ∷ vs) a = absurd a

pub split_alike : (f g vs : Nested) → AreAlike (f ++ g) vs → (h k : Nested) × (vs ≡ h ++ k) × AreAlike f h × AreAlike g k
split_alike [] g vs a = ([], vs, refl, tt, a)
split_alike (w ∷ f) g [] a = absurd a
split_alike (w ∷ f) g (v ∷ vs) a = let r = split_alike f g vs a.2 in (v ∷ r.0, r.1, ap (λ (l : Nested). v ∷ l) r.2, (a.0, a.1, r.3), r.4)

pub first_alike : (w : Symbol) (d : ℕ) (ws vs : Nested) → AreAlike ((w, d) ∷ ws) vs → (v : Symbol) × (us : Nested) × (vs ≡ (v, d) ∷ us) × (placeless_symbol w ≡ placeless_symbol v) × AreAlike ws us
first_alike w d ws [] a = absurd a
first_alike w d ws (v ∷ vs) a = (v.0, vs, ap (λ (n : ℕ). (v.0, n) ∷ vs) (sym a.1), a.0, a.2)

pub one_alike : (w : Symbol) (d : ℕ) (vs : Nested) → AreAlike ((w, d) ∷ []) vs → (v : Symbol) × (vs ≡ (v, d) ∷ []) × (placeless_symbol w ≡ placeless_symbol v)
one_alike w d vs a = let r = first_alike w d [] vs a in (r.0, r.2 ∙ ap (λ (l : Nested). (r.0, d) ∷ l) (none_alike r.1 r.4), r.3)

pub punctuator_alike : (kind : TokenKind) (d : ℕ) (ws vs : Nested) → AreAlike ((punctuator kind, d) ∷ ws) vs → (us : Nested) × (vs ≡ (punctuator kind, d) ∷ us) × AreAlike ws us
punctuator_alike kind d ws vs a = let r = first_alike (punctuator kind) d ws vs a in (r.1, r.2 ∙ ap (λ (v : Symbol). (v, d) ∷ r.1) (moves (punctuator kind) r.0 r.3).1, r.4)

pub name_alike : (bytes : List ℕ) (at d : ℕ) (ws vs : Nested) → AreAlike ((identifier bytes at, d) ∷ ws) vs → (place : ℕ) × (us : Nested) × (vs ≡ (identifier bytes place, d) ∷ us) × AreAlike ws us
name_alike bytes at d ws vs a = let r = first_alike (identifier bytes at) d ws vs a in let m = moves (identifier bytes at) r.0 r.3 in
    (m.0, r.1, r.2 ∙ ap (λ (v : Symbol). (v, d) ∷ r.1) m.1, r.4)

pub within_alike : (n : ℕ) (ws vs : Nested) → AreAlike ws vs → Within n ws → Within n vs
within_alike n [] [] a b = tt
within_alike n [] (v ∷ vs) a b = absurd a
within_alike n (w ∷ ws) [] a b = absurd a
within_alike n (w ∷ ws) (v ∷ vs) a b = (subst (λ (d : ℕ). d ≤ n) a.1 b.0, within_alike n ws vs a.2 b.1)

pub first_same : {A : Type 0} (x y : A) (xs ys : List A) → x ∷ xs ≡ y ∷ ys → (x ≡ y) × (xs ≡ ys)
first_same x y xs ys e = (cc, cc)

-- symbols that are the same but for the offsets of names have the same nestings
pub nested_alike : (ws : Nested) (zs : Symbols) → map placeless_symbol (plain ws) ≡ map placeless_symbol zs → (vs : Nested) × (plain vs ≡ zs) × AreAlike ws vs
nested_alike [] [] e = ([], refl, tt)
nested_alike [] (z ∷ zs) e = cc
nested_alike (w ∷ ws) [] e = cc
nested_alike (w ∷ ws) (z ∷ zs) e =
    let h = first_same (placeless_symbol w.0) (placeless_symbol z) (map placeless_symbol (plain ws)) (map placeless_symbol zs) e in
    let r = nested_alike ws zs h.1 in
    ((z, w.1) ∷ r.0, ap (λ (l : Symbols). z ∷ l) r.1, (h.0, refl, r.2))
