-- Fragments of which none spreads itself have ranks: what is spread in one has a lower rank.
use Rattle.std.specs.Prelude.{◌≡◌, ℕ, suc, ◌<◌, true, List, [], ◌∷◌, length, slice_get, Option, None, Some}
use Rattle.gql_base.specs.names.Names.{place_of_name}
use Rattle.document_reader.specs.Documents.{SelectionTrees}
use Rattle.document_rules.specs.Parts.{FragmentData, fragment_name}
use Rattle.document_rules.specs.Met.{Met, is_met, spreads_in}

-- The fragment of this number was met, and has a rank below r. Where there is none nothing is said.
abbrev pub IsBelow : (ℕ → ℕ) → List Met → ℕ → Option ℕ → Type 0
IsBelow rank met r None = Unit {0}
IsBelow rank met r (Some number) = (is_met met number ≡ true) × (rank number < r)

-- so are the fragments of these names
abbrev pub AreBelow : (ℕ → ℕ) → List FragmentData → List Met → ℕ → List (List ℕ) → Type 0
AreBelow rank fragments met r [] = Unit {0}
AreBelow rank fragments met r (name ∷ names) = IsBelow rank met r (place_of_name fragment_name fragments name) × AreBelow rank fragments met r names

-- What selections spread was met, and so was what is spread in a fragment that was met, where it has a lower rank. The
-- greatest rank is at most the number of those that were met.
pub record HasRanks (fragments : List FragmentData) (met : List Met) (below : SelectionTrees) : Type 0 where
  pub rank : ℕ → ℕ
  pub selections : AreBelow rank fragments met (suc (length met)) (spreads_in below)
  pub inside : (number : ℕ) (f : FragmentData) → is_met met number ≡ true → slice_get fragments number ≡ Some f → AreBelow rank fragments met (rank number) (spreads_in f.below)
