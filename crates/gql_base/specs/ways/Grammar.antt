-- What symbols a thing is written with, for each of the ways of which grammars are put together.
use Rattle.std.specs.Prelude.{ℕ, suc, ◌≡◌, ◌≤◌, ◌⊎◌, List, [], ◌∷◌, ◌++◌, Some}
use Rattle.gql_base.specs.declared.lexical.token.TokenKind.{TokenKind}
use Rattle.gql_base.specs.ways.Symbols.{Symbol, punctuator, Symbols}
use Rattle.gql_base.specs.ways.Reading.{Taking, second, listed}

-- symbols, each with its nesting: the number of levels that are open there, with the one that it opens
abbrev pub Nested : Type 0
Nested = List (Symbol × ℕ)

abbrev pub plain : Nested → Symbols
plain [] = []
plain (w ∷ ws) = w.0 ∷ plain ws

-- no symbol is nested deeper
abbrev pub Within : ℕ → Nested → Type 0
Within n [] = Unit {0}
Within n (w ∷ ws) = (w.1 ≤ n) × Within n ws

-- one symbol, at this nesting
abbrev pub Single : {A : Type 0} → Taking A → ℕ → A → Nested → Type 0
Single taking d a ws = (w : Symbol) × (ws ≡ (w, d) ∷ []) × (taking w ≡ Some a)

-- one thing and then another
abbrev pub Pair : {A B : Type 0} → (A → Nested → Type 0) → (B → Nested → Type 0) → A × B → Nested → Type 0
Pair S T p ws = (f g : Nested) × (ws ≡ f ++ g) × S p.0 f × T p.1 g

-- what a function makes of a thing
abbrev pub Image : {A B : Type 0} → (A → B) → (A → Nested → Type 0) → B → Nested → Type 0
Image f S b ws = (a : _) × (b ≡ f a) × S a ws

-- one of two things
abbrev pub Choice : {A : Type 0} → (A → Nested → Type 0) → (A → Nested → Type 0) → A → Nested → Type 0
Choice S T a ws = S a ws ⊎ T a ws

-- no symbol
abbrev pub Empty : {A : Type 0} → A → A → Nested → Type 0
Empty none a ws = (a ≡ none) × (ws ≡ [])

-- a thing or no symbol
abbrev pub Optional : {A : Type 0} → A → (A → Nested → Type 0) → A → Nested → Type 0
Optional none S = Choice S (Empty none)

-- things, one after the other
abbrev pub Repeated : {A : Type 0} → (A → Nested → Type 0) → List A → Nested → Type 0
Repeated S [] ws = ws ≡ []
Repeated S (a ∷ others) ws = (f g : Nested) × (ws ≡ f ++ g) × S a f × Repeated S others g

-- one thing or more
abbrev pub OneOrMore : {A : Type 0} → (A → Nested → Type 0) → List A → Nested → Type 0
OneOrMore S = Image listed (Pair S (Repeated S))

-- a symbol that opens the level after d, and what stands in it
abbrev pub Level : {A B : Type 0} → Taking A → ℕ → (B → Nested → Type 0) → B → Nested → Type 0
Level taking d T = Image second (Pair (Single taking (suc d)) T)

-- what stands between two brackets, which open and close the level after d
abbrev pub Bracketed : TokenKind → TokenKind → ℕ → (Nested → Type 0) → Nested → Type 0
Bracketed open_kind close_kind d P ws = (inner : Nested) × (ws ≡ (punctuator open_kind, suc d) ∷ (inner ++ ((punctuator close_kind, suc d) ∷ []))) × P inner
