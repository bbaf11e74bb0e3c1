-- Symbols that differ at most in the offsets of their names.
use Rattle.std.specs.Prelude.{◌≡◌, [], ◌∷◌}
use Rattle.gql_base.specs.ways.Grammar.{Nested}
use Rattle.gql_base.specs.printing.PlacelessSymbols.{placeless_symbol}

-- the same symbols with the same nestings, but for the offsets of names
abbrev pub AreAlike : Nested → Nested → Type 0
AreAlike [] [] = Unit {0}
AreAlike [] (v ∷ vs) = ⊥
AreAlike (w ∷ ws) [] = ⊥
AreAlike (w ∷ ws) (v ∷ vs) = (placeless_symbol w.0 ≡ placeless_symbol v.0) × (w.1 ≡ v.1) × AreAlike ws vs
