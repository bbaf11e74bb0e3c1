-- The first fault of lines.
use Rattle.std.proofs.Common.{◌≡◌, ℕ, ◌+◌, ◌*◌, ◌<◌, ◌≤◌, List, [], ◌∷◌, length, refl, sym, ap, ◌∙◌, subst, arith}
use Rattle.std.specs.Prelude.{slice_index}
use Rattle.std.proofs.lemmas.List.{length-append}
use Rattle.client_files.specs.Limits.{client_limit}
use Rattle.client_files.specs.declared.fault.ClientsFault.{ClientsFault}
use Rattle.client_files.specs.declared.fault.ClientsFault.TheVariants.{BadLine, Repeated, TooMany, NoClient, Memory}
use Rattle.client_files.specs.declared.heading.Version.{Version}
use Rattle.client_files.specs.declared.heading.Version.TheVariants.{One, Two}
use Rattle.client_files.specs.Headings.{version_line, IsWindowLine}
use Rattle.client_files.specs.Faults.{IsInPlace, NamesAgain, Comes, Shows, turn, IsFirstFault}

-- every line up to this number is in its place
abbrev pub ArePlaced : List (List ℕ) → ℕ → Type 0
ArePlaced lines number = (before : List (List ℕ)) (line : List ℕ) (at : ℕ) → Comes lines before line at → at ≤ number → IsInPlace before line

-- and none up to this number names a client again
abbrev pub AreNew : List (List ℕ) → ℕ → Type 0
AreNew lines number = (before : List (List ℕ)) (line : List ℕ) (at : ℕ) → Comes lines before line at → at ≤ number → ¬ (NamesAgain before line)

-- a line that comes is one of the lines
pub comes_within : (lines before : List (List ℕ)) (line : List ℕ) (at : ℕ) → Comes lines before line at → at ≤ length lines
comes_within lines before line at comes = omega (arith, comes.counted, ap length comes.cut, length-append before (line ∷ comes.after))

bad_before : (lines : List (List ℕ)) (number : ℕ) → ArePlaced lines number → AreNew lines number → number ≤ client_limit + 2 → number + 1 ≤ length lines → (earlier : ClientsFault) → turn lines earlier < 4 * (number + 1) + 1 → Shows lines earlier → ⊥
bad_before lines number placed new few there (BadLine at) lt s = s.3 (placed s.0 s.1 at s.2 (omega (arith, lt)))
bad_before lines number placed new few there (Repeated at) lt s = new s.0 s.1 at s.2 (omega (arith, lt)) s.3
bad_before lines number placed new few there (TooMany at) lt s = absurd (omega (arith, lt, s.2.counted, s.3, few))
bad_before lines number placed new few there NoClient lt s = absurd (omega (arith, lt, there))
bad_before lines number placed new few there Memory lt s = s

pub bad_line : (lines : List (List ℕ)) (number : ℕ) → ArePlaced lines number → AreNew lines number → number ≤ client_limit + 2 → Shows lines (BadLine (number + 1)) → IsFirstFault lines (BadLine (number + 1))
bad_line lines number placed new few shown = record {
  shows = shown;
  first = bad_before lines number placed new few (comes_within lines shown.0 shown.1 (number + 1) shown.2);
}

repeated_before : (lines : List (List ℕ)) (number : ℕ) → ArePlaced lines (number + 1) → AreNew lines number → number ≤ client_limit + 2 → number + 1 ≤ length lines → (earlier : ClientsFault) → turn lines earlier < 4 * (number + 1) + 2 → Shows lines earlier → ⊥
repeated_before lines number placed new few there (BadLine at) lt s = s.3 (placed s.0 s.1 at s.2 (omega (arith, lt)))
repeated_before lines number placed new few there (Repeated at) lt s = new s.0 s.1 at s.2 (omega (arith, lt)) s.3
repeated_before lines number placed new few there (TooMany at) lt s = absurd (omega (arith, lt, s.2.counted, s.3, few))
repeated_before lines number placed new few there NoClient lt s = absurd (omega (arith, lt, there))
repeated_before lines number placed new few there Memory lt s = s

pub repeated_line : (lines : List (List ℕ)) (number : ℕ) → ArePlaced lines (number + 1) → AreNew lines number → number ≤ client_limit + 2 → Shows lines (Repeated (number + 1)) → IsFirstFault lines (Repeated (number + 1))
repeated_line lines number placed new few shown = record {
  shows = shown;
  first = repeated_before lines number placed new few (comes_within lines shown.0 shown.1 (number + 1) shown.2);
}

too_many_before : (lines : List (List ℕ)) → ArePlaced lines (client_limit + 3) → AreNew lines (client_limit + 3) → client_limit + 3 ≤ length lines → (earlier : ClientsFault) → turn lines earlier < 4 * (client_limit + 3) + 3 → Shows lines earlier → ⊥
too_many_before lines placed new there (BadLine at) lt s = s.3 (placed s.0 s.1 at s.2 (omega (arith, lt)))
too_many_before lines placed new there (Repeated at) lt s = new s.0 s.1 at s.2 (omega (arith, lt)) s.3
too_many_before lines placed new there (TooMany at) lt s = absurd (omega (arith, lt, s.2.counted, s.3))
too_many_before lines placed new there NoClient lt s = absurd (omega (arith, lt, there))
too_many_before lines placed new there Memory lt s = s

pub too_many_line : (lines : List (List ℕ)) → ArePlaced lines (client_limit + 3) → AreNew lines (client_limit + 3) → Shows lines (TooMany (client_limit + 3)) → IsFirstFault lines (TooMany (client_limit + 3))
too_many_line lines placed new shown = record {
  shows = shown;
  first = too_many_before lines placed new (comes_within lines shown.0 shown.1 (client_limit + 3) shown.2);
}

-- lines that are in their places, name no client again and are few show no fault but that they may name no client
pub no_fault : (lines : List (List ℕ)) → ArePlaced lines (length lines) → AreNew lines (length lines) → length lines ≤ client_limit + 2 → (fault : ClientsFault) → Shows lines fault → fault ≡ NoClient
no_fault lines placed new few (BadLine at) s = absurd (s.3 (placed s.0 s.1 at s.2 (comes_within lines s.0 s.1 at s.2)))
no_fault lines placed new few (Repeated at) s = absurd (new s.0 s.1 at s.2 (comes_within lines s.0 s.1 at s.2) s.3)
no_fault lines placed new few (TooMany at) s = absurd (omega (arith, comes_within lines s.0 s.1 at s.2, s.2.counted, s.3, few))
no_fault lines placed new few NoClient s = refl
no_fault lines placed new few Memory s = absurd s

pub no_client : (lines : List (List ℕ)) → ArePlaced lines (length lines) → AreNew lines (length lines) → length lines ≤ 2 → IsFirstFault lines NoClient
no_client lines placed new few = record {
  shows = few;
  first = λ earlier lt s. let same = no_fault lines placed new (omega (arith, few)) earlier s in absurd (omega (arith, subst (λ f. turn lines f < 4 * length lines + 4) same lt));
}

-- the first two lines

pub placed_none : (lines : List (List ℕ)) → ArePlaced lines 0
placed_none lines before line at comes le = absurd (omega (arith, comes.counted, le))

-- two lines name no client, so none again
pub new_two : (lines : List (List ℕ)) (number : ℕ) → number ≤ 2 → AreNew lines number
new_two lines number few [] line at comes le again = again
new_two lines number few (first ∷ []) line at comes le again = again
new_two lines number few (first ∷ second ∷ further) line at comes le again = absurd (omega (arith, comes.counted, le, few))

abbrev pub head : List (List ℕ) → List ℕ
head [] = []
head (line ∷ lines) = line

abbrev pub behind : List (List ℕ) → List (List ℕ)
behind [] = []
behind (line ∷ lines) = lines

pub placed_version : (first : List ℕ) (rest : List (List ℕ)) (version : Version) → first ≡ version_line version → ArePlaced (first ∷ rest) 1
placed_version first rest version is [] line at comes le = (version, sym (ap head comes.cut) ∙ is)
placed_version first rest version is (b ∷ bs) line at comes le = absurd (omega (arith, comes.counted, le))

pub no_lines : IsFirstFault [] NoClient
no_lines = no_client [] (placed_none []) (new_two [] 0 (omega arith)) (omega arith)

pub bad_version : (first : List ℕ) (rest : List (List ℕ)) → ((version : Version) → ¬ (first ≡ version_line version)) → IsFirstFault (first ∷ rest) (BadLine 1)
bad_version first rest none = bad_line (first ∷ rest) 0 (placed_none (first ∷ rest)) (new_two (first ∷ rest) 0 (omega arith)) (omega arith)
    ([], first, record { after = rest; cut = refl; counted = refl }, λ placed. none placed.0 placed.1)

pub one_line : (first : List ℕ) (version : Version) → first ≡ version_line version → IsFirstFault (first ∷ []) NoClient
one_line first version is = no_client (first ∷ []) (placed_version first [] version is) (new_two (first ∷ []) 1 (omega arith)) (omega arith)

pub bad_window : (first second : List ℕ) (rest : List (List ℕ)) (version : Version) → first ≡ version_line version → ((seconds : ℕ) → ¬ (IsWindowLine second seconds)) → IsFirstFault (first ∷ second ∷ rest) (BadLine 2)
bad_window first second rest version is none = bad_line (first ∷ second ∷ rest) 1 (placed_version first (second ∷ rest) version is) (new_two (first ∷ second ∷ rest) 1 (omega arith)) (omega arith)
    (first ∷ [], second, record { after = rest; cut = refl; counted = refl }, λ placed. none placed.0 placed.1)

-- the versions have different lines
pub same_version : (one other : Version) → version_line one ≡ version_line other → one ≡ other
same_version One One e = refl
same_version One Two e = absurd (omega (arith, ap (λ line. slice_index line 8) e))
same_version Two One e = absurd (omega (arith, ap (λ line. slice_index line 8) e))
same_version Two Two e = refl
