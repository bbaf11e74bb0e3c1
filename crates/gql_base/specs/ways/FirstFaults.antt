-- Where symbols stop to be the beginning of anything that a grammar has.
use Rattle.std.specs.Prelude.{ℕ, suc, ◌≡◌, [], ◌∷◌, ◌++◌}
use Rattle.gql_base.specs.ways.Symbols.{Symbol, Symbols}
use Rattle.gql_base.specs.ways.Grammar.{Nested, plain, Within}

-- the number of levels that may be open at once
abbrev pub level_limit : ℕ
level_limit = 50

-- No thing is written with these symbols; where symbols are left, none begins with these and the first of those.
abbrev pub NoneGoesOn : {A : Type 0} → (A → Nested → Type 0) → Symbols → Symbols → Type 0
NoneGoesOn S front [] = (a : _) (ws : Nested) → S a ws → plain ws ≡ front → ⊥
NoneGoesOn S front (w ∷ rest) = (a : _) (ws : Nested) (more : Symbols) → S a ws → plain ws ≡ front ++ (w ∷ more) → ⊥

-- The symbols before the rest begin some thing, and are nested n deep at most. Nothing goes on with the first
-- symbol of the rest, or ends there where no symbol is left.
pub record IsUnexpected {A : Type 0} (S : A → Nested → Type 0) (n : ℕ) (ws rest : Symbols) : Type 0 where
  pub front : Nested
  pub cut : ws ≡ plain front ++ rest
  pub within : Within n front
  pub begins : (a : A) × (more : Nested) × S a (front ++ more)
  pub stops : NoneGoesOn S (plain front) rest

-- The symbols before the rest are nested n deep at most. Some thing goes on with the first symbol of the rest,
-- which opens the level after n.
pub record IsTooDeep {A : Type 0} (S : A → Nested → Type 0) (n : ℕ) (ws rest : Symbols) : Type 0 where
  pub front : Nested
  pub cut : ws ≡ plain front ++ rest
  pub within : Within n front
  pub opens : (w : Symbol) × (others : Symbols) × (a : A) × (more : Nested) × (rest ≡ w ∷ others) × S a (front ++ ((w, suc n) ∷ more))

-- The symbols are those of the thing, nested n deep at most, and then the rest.
pub record IsWritten {A : Type 0} (S : A → Nested → Type 0) (n : ℕ) (ws : Symbols) (a : A) (rest : Symbols) : Type 0 where
  pub front : Nested
  pub cut : ws ≡ plain front ++ rest
  pub within : Within n front
  pub written : S a front
