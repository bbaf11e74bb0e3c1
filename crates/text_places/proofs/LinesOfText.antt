-- The line of an offset is one of the lines of the text.
use Rattle.std.proofs.Common.{◌≡◌, ⊎_elim, ℕ, zero, suc, ◌+◌, ◌-◌, ◌<◌, ◌≤◌, Bool, true, false, cond, not, ◌==◌, ◌&&◌, ◌||◌, List, [], ◌∷◌, length, take, drop, get_or, refl, sym, ap, ap₂, ◌∙◌, subst, arith}
use Rattle.std.specs.List.{prefix_len}
use Rattle.std.proofs.lemmas.Bool.{cases_Bool}
use Rattle.std.proofs.lemmas.Bool.Decides.{nat_tests}
use Rattle.std.proofs.Math.Nat.{eq-or-lt_of_le}
use Rattle.std.proofs.lemmas.List.{drop-drop, get_or-drop, length-drop}
use Rattle.gql_base.specs.lexical.Characters.{is_line_end}
use Rattle.gql_base.specs.lexical.Blocks.{begins_with_line_feed, begun_with, lines_of}
use Rattle.text_places.specs.Places.{ends_line, lines_ended, line_start, line_from, line_of}

-- ---- one byte and the lines behind it

feed_first : (cs : List ℕ) → begins_with_line_feed cs ≡ (get_or cs 0 0 == 10)
feed_first [] = refl
feed_first (c ∷ cs) = refl

abbrev lines_with : Bool → Bool → ℕ → List (List ℕ) → List (List ℕ)
lines_with pair end c ls = cond pair ls (cond end ([] ∷ ls) (begun_with c ls))

one_byte : (c : ℕ) (cs : List ℕ) → lines_of (c ∷ cs) ≡ lines_with ((c == 13) && (get_or cs 0 0 == 10)) (is_line_end c) c (lines_of cs)
unfolding lines_of
one_byte c cs = ap (λ (b : Bool). lines_with ((c == 13) && b) (is_line_end c) c (lines_of cs)) (feed_first cs)

-- The two tests of a byte that ends a line, and of one that doesn't.
ends_so : (c n : ℕ) → ((c == 10) || ((c == 13) && not (n == 10))) ≡ true → (((c == 13) && (n == 10)) ≡ false) × (is_line_end c ≡ true)
ends_so c n e = (grind (arith, nat_tests), grind (arith, nat_tests))

goes_on_so : (c n : ℕ) → ((c == 10) || ((c == 13) && not (n == 10))) ≡ false → ((c == 13) && (n == 10)) ≡ false → is_line_end c ≡ false
goes_on_so c n e pair = grind (arith, nat_tests)

behind_first : (c : ℕ) (cs : List ℕ) (j : ℕ) → ends_line (c ∷ cs) (suc j) ≡ ends_line cs j
behind_first c cs j =
    let next : suc j + 1 ≡ suc (j + 1) = omega arith in
    ap (λ (k : ℕ). (get_or cs j 0 == 10) || ((get_or cs j 0 == 13) && not (get_or (c ∷ cs) k 0 == 10))) next

-- The first line of a text that ends with the byte at k.
end_found : (rest : List ℕ) (k : ℕ) → k < length rest → ((j : ℕ) → j < k → ends_line rest j ≡ false) → ends_line rest k ≡ true → (l : List ℕ) × (lines_of rest ≡ l ∷ lines_of (drop (suc k) rest))
end_found [] k within before ends = absurd (omega arith)
end_found (c ∷ cs) zero within before ends =
    let so = ends_so c (get_or cs 0 0) ends in
    ([], one_byte c cs ∙ ap₂ (λ (x y : Bool). lines_with x y c (lines_of cs)) so.0 so.1)
end_found (c ∷ cs) (suc k) within before ends =
    let behind = end_found cs k (omega arith) (λ (j : ℕ) (less : j < k). sym (behind_first c cs j) ∙ before (suc j) (omega arith)) (sym (behind_first c cs k) ∙ ends) in
    let here = before zero (omega arith) in
    ⊎_elim
    (λ (pair : ((c == 13) && (get_or cs 0 0 == 10)) ≡ true).
    (behind.0, one_byte c cs ∙ ap (λ (x : Bool). lines_with x (is_line_end c) c (lines_of cs)) pair ∙ behind.1))
    (λ (pair : ((c == 13) && (get_or cs 0 0 == 10)) ≡ false).
    (c ∷ behind.0, one_byte c cs ∙ ap₂ (λ (x y : Bool). lines_with x y c (lines_of cs)) pair (goes_on_so c (get_or cs 0 0) here pair) ∙ ap (begun_with c) behind.1))
    (cases_Bool ((c == 13) && (get_or cs 0 0 == 10)))

-- ---- the first line

abbrev first_of : List (List ℕ) → List ℕ
first_of ls = get_or ls 0 []

begun_first : (c : ℕ) (ls : List (List ℕ)) → first_of (begun_with c ls) ≡ c ∷ first_of ls
begun_first c [] = refl
begun_first c (l ∷ ls) = refl

one_more : (b : Bool) (c n : ℕ) (cs : List ℕ) → take (cond b (1 + n) 0) (c ∷ cs) ≡ cond b (c ∷ take n cs) []
one_more true c n cs = let more : 1 + n ≡ suc n = omega arith in ap (λ (k : ℕ). take k (c ∷ cs)) more
one_more false c n cs = refl

feed_line : (cs : List ℕ) → (get_or cs 0 0 == 10) ≡ true → line_from cs ≡ []
feed_line [] feed = refl
feed_line (c ∷ cs) feed = one_more (not (is_line_end c)) c (prefix_len (λ x. not (is_line_end x)) cs) cs ∙ ap (λ (b : Bool). cond b (c ∷ line_from cs) []) ends
  where
    ends : not (is_line_end c) ≡ false
    ends = grind (arith, nat_tests)

pair_so : (c n : ℕ) → ((c == 13) && (n == 10)) ≡ true → ((n == 10) ≡ true) × (not (is_line_end c) ≡ false)
pair_so c n e = (grind (arith, nat_tests), grind (arith, nat_tests))

first_line_is : (rest : List ℕ) → first_of (lines_of rest) ≡ line_from rest
unfolding lines_of
first_line_is [] = refl
first_line_is (c ∷ cs) =
    let rest = prefix_len (λ x. not (is_line_end x)) cs in
    ap first_of (one_byte c cs)
    ∙ ⊎_elim
    (λ (pair : ((c == 13) && (get_or cs 0 0 == 10)) ≡ true).
    let so = pair_so c (get_or cs 0 0) pair in
    ap (λ (x : Bool). first_of (lines_with x (is_line_end c) c (lines_of cs))) pair
    ∙ first_line_is cs ∙ feed_line cs so.0
    ∙ sym (one_more (not (is_line_end c)) c rest cs ∙ ap (λ (b : Bool). cond b (c ∷ line_from cs) []) so.1))
    (λ (pair : ((c == 13) && (get_or cs 0 0 == 10)) ≡ false).
    ap (λ (x : Bool). first_of (lines_with x (is_line_end c) c (lines_of cs))) pair
    ∙ by (is_line_end c) (first_line_is cs)
    ∙ sym (one_more (not (is_line_end c)) c rest cs))
    (cases_Bool ((c == 13) && (get_or cs 0 0 == 10)))
  where
    by : (b : Bool) → first_of (lines_of cs) ≡ line_from cs → first_of (cond b ([] ∷ lines_of cs) (begun_with c (lines_of cs))) ≡ cond (not b) (c ∷ line_from cs) []
    by true same = refl
    by false same = begun_first c (lines_of cs) ∙ ap (λ (l : List ℕ). c ∷ l) same

-- ---- offsets

record Stands (text : List ℕ) (at : ℕ) : Type 0 where
  lines : drop (lines_ended text at) (lines_of text) ≡ lines_of (drop (line_start text at) text)
  unended : (j : ℕ) → line_start text at ≤ j → j < at → ends_line text j ≡ false
  before : line_start text at ≤ at

ends_behind : (text : List ℕ) (s j : ℕ) → ends_line (drop s text) j ≡ ends_line text (s + j)
ends_behind text s j =
    let next : s + (j + 1) ≡ s + j + 1 = omega arith in
    ap₂ (λ (x y : ℕ). (x == 10) || ((x == 13) && not (y == 10))) (get_or-drop s text j 0) (get_or-drop s text (j + 1) 0 ∙ ap (λ (k : ℕ). get_or text k 0) next)

ended_here : (b : Bool) (text : List ℕ) (at : ℕ) → ends_line text at ≡ b → at < length text → Stands text at → Stands text (suc at)
unfolding lines_ended line_start
ended_here false text at e within s = record {
  lines =
      ap (λ (x : Bool). drop (lines_ended text at + cond x 1 0) (lines_of text)) e
      ∙ (let same : lines_ended text at + 0 ≡ lines_ended text at = omega arith in ap (λ (k : ℕ). drop k (lines_of text)) same)
      ∙ s.lines
      ∙ ap (λ (x : Bool). lines_of (drop (cond x (suc at) (line_start text at)) text)) (sym e);
  unended = λ j from less. ⊎_elim (λ (same : j ≡ at). subst (λ (k : ℕ). ends_line text k ≡ false) (sym same) e) (λ (earlier : j < at). s.unended j (subst (λ (x : Bool). cond x (suc at) (line_start text at) ≤ j) e from) earlier) (let most : j ≤ at = omega arith in eq-or-lt_of_le most);
  before = subst (λ (x : Bool). cond x (suc at) (line_start text at) ≤ suc at) (sym e) (let b = s.before in omega arith);
}
ended_here true text at e within s = record {
  lines =
      ap (λ (x : Bool). drop (lines_ended text at + cond x 1 0) (lines_of text)) e
      ∙ sym (drop-drop 1 (lines_ended text at) (lines_of text))
      ∙ ap (drop 1) (s.lines ∙ found.1)
      ∙ ap lines_of (drop-drop (suc (at - line_start text at)) (line_start text at) text ∙ ap (λ (k : ℕ). drop k text) next)
      ∙ ap (λ (x : Bool). lines_of (drop (cond x (suc at) (line_start text at)) text)) (sym e);
  unended = λ j from less. absurd (none j (subst (λ (x : Bool). cond x (suc at) (line_start text at) ≤ j) e from) less);
  before = subst (λ (x : Bool). cond x (suc at) (line_start text at) ≤ suc at) (sym e) (omega arith);
}
  where
    none : (j : ℕ) → suc at ≤ j → j < suc at → ⊥
    none j from less = omega arith

    next : line_start text at + suc (at - line_start text at) ≡ suc at
    next = let b = s.before in omega arith

    whole : line_start text at + (at - line_start text at) ≡ at
    whole = let b = s.before in omega arith

    found : (l : List ℕ) × (lines_of (drop (line_start text at) text) ≡ l ∷ lines_of (drop (suc (at - line_start text at)) (drop (line_start text at) text)))
    found = end_found (drop (line_start text at) text) (at - line_start text at)
        (let long = length-drop (line_start text at) text in let b = s.before in omega arith)
        (λ (j : ℕ) (less : j < at - line_start text at). ends_behind text (line_start text at) j ∙ s.unended (line_start text at + j) (omega arith) (omega arith))
        (ends_behind text (line_start text at) (at - line_start text at) ∙ ap (ends_line text) whole ∙ e)

stands : (text : List ℕ) (at : ℕ) → at ≤ length text → Stands text at
unfolding lines_ended line_start
stands text zero within = record { lines = refl; unended = λ j from less. absurd (none j less); before = omega arith }
  where
    none : (j : ℕ) → j < 0 → ⊥
    none j less = omega arith
stands text (suc at) within = ended_here (ends_line text at) text at refl (omega arith) (stands text at (omega arith))

pub line_among : (text : List ℕ) (at : ℕ) → at ≤ length text → get_or (lines_of text) (lines_ended text at) [] ≡ line_of text at
line_among text at within =
    let s = stands text at within in
    let same : lines_ended text at + 0 ≡ lines_ended text at = omega arith in
    ap (λ (k : ℕ). get_or (lines_of text) k []) (sym same)
    ∙ sym (get_or-drop (lines_ended text at) (lines_of text) 0 [])
    ∙ ap (λ (ls : List (List ℕ)). get_or ls 0 []) s.lines
    ∙ first_line_is (drop (line_start text at) text)

-- ---- a text has this line

some_lines : (text : List ℕ) → 0 < length (lines_of text)
unfolding lines_of
some_lines [] = omega arith
some_lines (c ∷ cs) = rw (one_byte c cs) (by ((c == 13) && (get_or cs 0 0 == 10)) (is_line_end c) (some_lines cs))
  where
    by : (pair end : Bool) → 0 < length (lines_of cs) → 0 < length (lines_with pair end c (lines_of cs))
    by true end some = some
    by false true some = omega arith
    by false false some = begun_some (lines_of cs)
      where
        begun_some : (ls : List (List ℕ)) → 0 < length (begun_with c ls)
        begun_some [] = omega arith
        begun_some (l ∷ ls) = omega arith

pub line_there : (text : List ℕ) (at : ℕ) → at ≤ length text → lines_ended text at < length (lines_of text)
line_there text at within =
    let s = stands text at within in
    let left = length-drop (lines_ended text at) (lines_of text) in
    let same = ap (λ (ls : List (List ℕ)). length ls) s.lines in
    let some = some_lines (drop (line_start text at) text) in
    omega (arith, left, same, some)
