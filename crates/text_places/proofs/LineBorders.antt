-- Lines begin and end at borders of characters, and what is shown of one.
use Rattle.std.proofs.Common.{◌≡◌, ℕ, zero, suc, ◌+◌, ◌-◌, ◌<◌, ◌≤◌, Bool, true, false, cond, not, ◌==◌, ◌&&◌, ◌||◌, List, [], ◌∷◌, ◌++◌, length, take, drop, get_or, IsUtf8, Result, refl, ap, ◌∙◌, subst, arith}
use Rattle.std.specs.Prelude.{OnOk}
use Rattle.std.specs.List.{prefix_len}
use Rattle.std.specs.Str.{IsCharBoundary, chars}
use Rattle.std.proofs.lemmas.Bool.Decides.{nat_tests}
use Rattle.std.proofs.lemmas.List.{get_or-drop, length-drop}
use Rattle.std.proofs.lemmas.List.Sums.{prefix_len-le-length, prefix_len_stops}
use Rattle.std.proofs.lemmas.List.Folds.{length-prefix_len}
use Rattle.std.proofs.lemmas.Str.{IsCharBoundary-after_ascii}
use Rattle.gql_base.specs.lexical.Characters.{is_line_end}
use Rattle.text_places.specs.Places.{ends_line, line_start, line_from, line_of, line_before, characters, column}
use Rattle.text_places.specs.Marks.{marked, marked_line}

small_end : (c n : ℕ) → ((c == 10) || ((c == 13) && not (n == 10))) ≡ true → c < 128
small_end c n e = grind (arith, nat_tests)

border_behind : (text : List ℕ) (at : ℕ) (b : Bool) → ends_line text at ≡ b → IsUtf8 text → at < length text → (0 < line_start text at → IsCharBoundary text (line_start text at)) → 0 < cond b (suc at) (line_start text at) → IsCharBoundary text (cond b (suc at) (line_start text at))
border_behind text at true e utf8 within above some =
    let next : at + 1 ≡ suc at = omega arith in
    subst (IsCharBoundary text) next (IsCharBoundary-after_ascii text at utf8 within (small_end (get_or text at 0) (get_or text (at + 1) 0) e))
border_behind text at false e utf8 within above some = above some

pub start_border : (text : List ℕ) (at : ℕ) → IsUtf8 text → at ≤ length text → 0 < line_start text at → IsCharBoundary text (line_start text at)
unfolding line_start
start_border text zero utf8 within some = absurd (omega arith)
start_border text (suc at) utf8 within some = border_behind text at (ends_line text at) refl utf8 (omega arith) (start_border text at utf8 (omega arith)) some

pub start_within : (text : List ℕ) (at : ℕ) → line_start text at ≤ at
unfolding line_start
start_within text zero = omega arith
start_within text (suc at) = by (ends_line text at) (start_within text at)
  where
    by : (b : Bool) → line_start text at ≤ at → cond b (suc at) (line_start text at) ≤ suc at
    by true few = omega arith
    by false few = omega arith

abbrev in_line : ℕ → Bool
in_line c = not (is_line_end c)

small_line_end : (c : ℕ) → in_line c ≡ false → c < 128
small_line_end c e = grind (arith, nat_tests)

pub end_border : (text : List ℕ) (start end : ℕ) → start ≤ length text → end ≡ start + length (line_from (drop start text)) → IsCharBoundary text end
end_border text start end within is =
    let rest = drop start text in
    let k : ℕ = prefix_len in_line rest in
    let long = length-prefix_len in_line rest in
    let left = length-drop start text in
    let few = prefix_len-le-length in_line rest in
    let place : start + k ≡ end = omega arith in (
      omega arith,
      λ less high.
          let stops = prefix_len_stops in_line rest 0 (omega arith) in
          let byte : get_or rest k 0 ≡ get_or text end 0 = get_or-drop start text k 0 ∙ ap (λ (i : ℕ). get_or text i 0) place in
          let small = small_line_end (get_or rest k 0) stops in
          absurd (omega arith),
    )

take_own : (k : ℕ) (xs : List ℕ) → take (length (take k xs)) xs ≡ take k xs
take_own zero xs = refl
take_own (suc k) [] = refl
take_own (suc k) (x ∷ xs) = ap (λ (ys : List ℕ). x ∷ ys) (take_own k xs)

pub line_found : (text : List ℕ) (start end : ℕ) → end ≡ start + length (line_from (drop start text)) → take (end - start) (drop start text) ≡ line_from (drop start text)
line_found text start end is =
    let long : end - start ≡ length (line_from (drop start text)) = omega arith in
    ap (λ (k : ℕ). take k (drop start text)) long ∙ take_own (prefix_len in_line (drop start text)) (drop start text)

pub marked_found : {A E : Type 0} (r : Result A E) (new old text : List ℕ) (at start end col : ℕ) (line all : List ℕ) → start ≡ line_start text at → end ≡ start + length (line_of text at) → col ≡ column text at
    → line ≡ take (end - start) (drop start text) → all ≡ chars line → OnOk r (new ≡ old ++ marked (col - 1) all) → OnOk r (new ≡ old ++ marked_line text at)
marked_found r new old text at start end col line all is_start is_end is_column is_line is_all written =
    let front : col - 1 ≡ characters (line_before text at) = omega arith in
    let from : end ≡ line_start text at + length (line_from (drop (line_start text at) text)) = is_end ∙ ap (λ (s : ℕ). s + length (line_of text at)) is_start in
    let own : all ≡ chars (line_of text at) =
    is_all ∙ ap chars (is_line ∙ ap (λ (s : ℕ). take (end - s) (drop s text)) is_start ∙ line_found text (line_start text at) end from) in
    subst (λ (cs : List ℕ). OnOk r (new ≡ old ++ marked (characters (line_before text at)) cs)) own
    (subst (λ (f : ℕ). OnOk r (new ≡ old ++ marked f all)) front written)
