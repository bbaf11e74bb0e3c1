-- The first line of a text.
use Rattle.std.proofs.Common.{◌≡◌, ℕ, ◌+◌, ◌<◌, List, [], ◌∷◌, length, take, drop, Bool, true, false, cond, not, nat_eq, refl, sym, ap, ◌∙◌, arith}
use Rattle.std.specs.List.{before_first, after_first, position_or_len, onto_first}
use Rattle.std.proofs.lemmas.List.{length-drop}
use Rattle.replay_scripts.proofs.Cuts.{take_one_more, drop_two_more}
use Rattle.replay_scripts.specs.Lines.{is_line_feed, lines_of}

cut_line : (byte : ℕ) (bytes : List ℕ) → lines_of (byte ∷ bytes) ≡ before_first is_line_feed (byte ∷ bytes) ∷ lines_of (after_first is_line_feed (byte ∷ bytes))
unfolding lines_of
cut_line byte [] = by_test (nat_eq byte 10)
  where
    by_test : (test : Bool) → cond test ([] ∷ []) ((byte ∷ []) ∷ []) ≡ take (cond (not test) (1 + 0) 0) (byte ∷ []) ∷ lines_of (drop (cond (not test) (1 + 0) 0 + 1) (byte ∷ []))
    by_test true = refl
    by_test false = refl
cut_line byte (next ∷ bytes) = by_test (nat_eq byte 10) (cut_line next bytes)
  where
    rest : List ℕ
    rest = next ∷ bytes

    at : ℕ
    at = position_or_len is_line_feed rest

    by_test : (test : Bool) → lines_of rest ≡ take at rest ∷ lines_of (drop (at + 1) rest)
        → cond test ([] ∷ lines_of rest) (onto_first byte (lines_of rest)) ≡ take (cond (not test) (1 + at) 0) (byte ∷ rest) ∷ lines_of (drop (cond (not test) (1 + at) 0 + 1) (byte ∷ rest))
    by_test true h = refl
    by_test false h = ap (onto_first byte) h ∙ (λ i. sym (take_one_more at byte rest) i ∷ lines_of (sym (drop_two_more at byte rest) i))

-- a text that isn't empty is its first line, and the lines of the rest
pub next_line : (text : List ℕ) → 0 < length text → lines_of text ≡ before_first is_line_feed text ∷ lines_of (after_first is_line_feed text)
next_line [] some = absurd (omega (arith, some))
next_line (byte ∷ bytes) some = cut_line byte bytes

-- which is shorter
pub shorter : (text : List ℕ) → 0 < length text → length (after_first is_line_feed text) < length text
shorter text some = let left = length-drop (position_or_len is_line_feed text + 1) text in omega (arith, some, left)
