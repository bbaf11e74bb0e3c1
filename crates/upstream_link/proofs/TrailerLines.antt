-- The length of a trailer, and the lines that stand there.
use Rattle.std.proofs.Common.{◌≡◌, ◌≢◌, ◌+◌, ◌≤◌, ◌==◌, ◌&&◌, ◌++◌, ℕ, zero, suc, ◌⊎◌, inl, inr, List, [], ◌∷◌, Bool, true, false, cond, nat_lt, length, take, get_or, refl, sym, ap, ap₂, ◌∙◌, subst, append_assoc, length-append, eqb-true, ne_eqb, arith}
use Rattle.std.specs.Prelude.{Option, Some, None, option_map, unwrap_or}
use Rattle.std.specs.List.{AllByRecursion, flat_map}
use Rattle.std.proofs.lemmas.Bool.Decides.{nat_tests}
use Rattle.upstream_link.specs.Chunks.{trailer_from, trailer_length}
use Rattle.upstream_link.specs.Trailers.{IsEmptyLine, HasNoEnd, IsFullLine, IsTrailer}

-- the state behind a byte that ends no line
abbrev next_state : Bool → ℕ
next_state at_start = cond at_start 1 2

not_zero : (s : ℕ) → (suc s == 0) ≡ false
not_zero s = ne_eqb (suc s) 0 (λ e. absurd (omega (arith, e)))

not_short : (s : ℕ) → nat_lt (suc (suc s)) 2 ≡ false
not_short s = grind (arith, nat_tests)

-- ---- a trailer that was found

-- what is left of a line that isn't empty, and a trailer behind it
record IsRest (bytes : List ℕ) : Type 0 where
  text : List ℕ
  no_end : HasNoEnd text
  behind : List ℕ
  is_trailer : IsTrailer behind
  bytes_are : bytes ≡ text ++ 10 ∷ behind

-- what stands there in each state of a line
abbrev Stands : ℕ → List ℕ → Type 0
Stands zero bytes = IsTrailer bytes
Stands (suc zero) bytes = IsTrailer (13 ∷ bytes)
Stands (suc (suc s)) bytes = IsRest bytes

no_lines : (last : List ℕ) → IsEmptyLine last → IsTrailer last
no_lines last empty = record { lines = []; each = tt; last = last; empty = empty; bytes_are = refl }

-- one line more in front of a trailer
one_line : (text behind : List ℕ) → HasNoEnd text → (IsEmptyLine (text ++ 10 ∷ []) → ⊥) → IsTrailer behind → IsTrailer (text ++ 10 ∷ behind)
one_line text behind no_end full is = record {
  lines = (text ++ 10 ∷ []) ∷ is.lines;
  each = (((text, no_end, refl), full), is.each);
  last = is.last;
  empty = is.empty;
  bytes_are =
      ap (λ l. text ++ 10 ∷ l) is.bytes_are
      ∙ sym (append_assoc text (10 ∷ []) (flat_map (λ line. line) is.lines ++ is.last))
      ∙ sym (append_assoc (text ++ 10 ∷ []) (flat_map (λ line. line) is.lines) is.last);
}

from_map : (o : Option ℕ) (n : ℕ) → option_map (λ m. m + 1) o ≡ Some n → (m : ℕ) × (o ≡ Some m) × (n ≡ suc m)
from_map None n e = absurd (cc e)
from_map (Some m) n e = (m, refl, let same : n ≡ m + 1 = ap (λ o. unwrap_or o 0) (sym e) in omega (arith, same))

first_same : (b c : ℕ) (bs cs : List ℕ) → b ∷ bs ≡ c ∷ cs → b ≡ c
first_same b c bs cs e = ap (λ l. get_or l 0 0) e

second_same : (a b c d : ℕ) (bs ds : List ℕ) → a ∷ (b ∷ bs) ≡ c ∷ (d ∷ ds) → b ≡ d
second_same a b c d bs ds e = ap (λ l. get_or l 1 0) e

-- the rest of a line that begins with a byte of its own
rest_of_line : (b : ℕ) (bytes : List ℕ) → b ≢ 10 → b ≢ 13 → IsRest bytes → IsTrailer (b ∷ bytes)
rest_of_line b bytes no_lf no_cr r = subst (λ l. IsTrailer (b ∷ l)) (sym r.bytes_are) (one_line (b ∷ r.text) r.behind (no_lf, r.no_end) full r.is_trailer)
  where
    full : IsEmptyLine ((b ∷ r.text) ++ 10 ∷ []) → ⊥
    full (inl e) = no_lf (first_same b 10 _ _ e)
    full (inr e) = no_cr (first_same b 13 _ _ e)

-- and behind a CR
rest_behind_cr : (b : ℕ) (bytes : List ℕ) → b ≢ 10 → IsRest bytes → IsTrailer (13 ∷ (b ∷ bytes))
rest_behind_cr b bytes no_lf r = subst (λ l. IsTrailer (13 ∷ (b ∷ l))) (sym r.bytes_are) (one_line (13 ∷ (b ∷ r.text)) r.behind ((λ e. absurd (omega (arith, e))), (no_lf, r.no_end)) full r.is_trailer)
  where
    full : IsEmptyLine ((13 ∷ (b ∷ r.text)) ++ 10 ∷ []) → ⊥
    full (inl e) = let same = first_same 13 10 _ _ e in absurd (omega (arith, same))
    full (inr e) = no_lf (second_same 13 b 13 10 _ _ e)

more_rest : (b : ℕ) (bytes : List ℕ) → b ≢ 10 → IsRest bytes → IsRest (b ∷ bytes)
more_rest b bytes no_lf r = record { text = b ∷ r.text; no_end = (no_lf, r.no_end); behind = r.behind; is_trailer = r.is_trailer; bytes_are = ap (λ l. b ∷ l) r.bytes_are }

-- what is found behind one byte
abbrev Found : ℕ → List ℕ → ℕ → Type 0
Found s bytes n = (n ≤ length bytes) × Stands s (take n bytes)

no_end_from : (b : ℕ) → (b == 10) ≡ false → b ≢ 10
no_end_from b e same = absurd (cc (sym e ∙ ap (λ c. c == 10) same))

no_cr_from : (b : ℕ) → (b == 13) ≡ false → b ≢ 13
no_cr_from b e same = absurd (cc (sym e ∙ ap (λ c. c == 13) same))

module _ (b : ℕ) (bytes : List ℕ) (later : (s m : ℕ) → trailer_from s bytes ≡ Some m → Found s bytes m) where
  -- one byte more
  behind_byte : (s t n : ℕ) → ((m : ℕ) → Stands t (take m bytes) → Stands s (b ∷ take m bytes)) → option_map (λ m. m + 1) (trailer_from t bytes) ≡ Some n → Found s (b ∷ bytes) n
  behind_byte s t n grows e =
      let found = from_map (trailer_from t bytes) n e in
      let here = later t found.0 found.1 in
      subst (Found s (b ∷ bytes)) (sym found.2) (omega (arith, here.0), grows found.0 here.1)

  -- an empty line ends here
  ends : (s n : ℕ) → Stands s (b ∷ []) → Some 1 ≡ Some n → Found s (b ∷ bytes) n
  ends s n stands e = let same : 1 ≡ n = ap (λ o. unwrap_or o 0) e in subst (Found s (b ∷ bytes)) same (omega arith, stands)

  -- a byte that isn't LF, and not at the start of a line
  behind_start : (s n : ℕ) → (b == 10) ≡ false → option_map (λ m. m + 1) (trailer_from 2 bytes) ≡ Some n → Found (suc s) (b ∷ bytes) n
  behind_start zero n is_end e = behind_byte 1 2 n (λ m is. rest_behind_cr b (take m bytes) (no_end_from b is_end) is) e
  behind_start (suc s) n is_end e = behind_byte (suc (suc s)) 2 n (λ m is. more_rest b (take m bytes) (no_end_from b is_end) is) e

  not_start : (s : ℕ) (cr : Bool) → (cr && (suc s == 0)) ≡ false
  not_start s true = not_zero s
  not_start s false = refl

  step : (s n : ℕ) (end cr : Bool) → (b == 10) ≡ end → (b == 13) ≡ cr
      → cond (end && nat_lt s 2) (Some 1) (option_map (λ m. m + 1) (trailer_from (cond end 0 (cond (cr && (s == 0)) 1 2)) bytes)) ≡ Some n → Found s (b ∷ bytes) n
  step zero n true cr is_end is_cr e = ends 0 n (no_lines (b ∷ []) (inl (ap (λ c. c ∷ []) (eqb-true b 10 is_end)))) e
  step (suc zero) n true cr is_end is_cr e = ends 1 n (no_lines (13 ∷ (b ∷ [])) (inr (ap (λ c. 13 ∷ (c ∷ [])) (eqb-true b 10 is_end)))) e
  step (suc (suc s)) n true cr is_end is_cr e =
      behind_byte (suc (suc s)) 0 n (λ m is. record { text = []; no_end = tt; behind = take m bytes; is_trailer = is; bytes_are = ap (λ c. c ∷ take m bytes) (eqb-true b 10 is_end) })
      (subst (λ (short : Bool). cond short (Some 1) (option_map (λ m. m + 1) (trailer_from 0 bytes)) ≡ Some n) (not_short s) e)
  step zero n false true is_end is_cr e = behind_byte 0 1 n (λ m is. subst (λ c. IsTrailer (c ∷ take m bytes)) (sym (eqb-true b 13 is_cr)) is) e
  step zero n false false is_end is_cr e = behind_byte 0 2 n (λ m is. rest_of_line b (take m bytes) (no_end_from b is_end) (no_cr_from b is_cr) is) e
  step (suc s) n false cr is_end is_cr e = behind_start s n is_end (subst (λ (at_start : Bool). option_map (λ m. m + 1) (trailer_from (next_state at_start) bytes) ≡ Some n) (not_start s cr) e)

found_from : (s : ℕ) (bytes : List ℕ) (n : ℕ) → trailer_from s bytes ≡ Some n → Found s bytes n
unfolding trailer_from
found_from s [] n is = absurd (cc is)
found_from s (b ∷ bytes) n is = step b bytes (λ t m e. found_from t bytes m e) s n (b == 10) (b == 13) refl refl is

pub trailer_found : (bytes : List ℕ) (n : ℕ) → trailer_length bytes ≡ Some n → (n ≤ length bytes) × IsTrailer (take n bytes)
trailer_found bytes n is = found_from 0 bytes n is

-- ---- a trailer that stands there

maps : (k : ℕ) (o : Option ℕ) → option_map (λ n. n + 1) (option_map (λ n. n + k) o) ≡ option_map (λ n. n + suc k) o
maps k None = refl
maps k (Some n) = ap Some (omega arith)

goes_on : (s t b : ℕ) (rest : List ℕ) → b ≢ 10 → next_state ((b == 13) && (s == 0)) ≡ t → trailer_from s (b ∷ rest) ≡ option_map (λ n. n + 1) (trailer_from t rest)
unfolding trailer_from
goes_on s t b rest no_lf next =
    ap (λ end. cond (end && nat_lt s 2) (Some 1) (option_map (λ n. n + 1) (trailer_from (cond end 0 (cond ((b == 13) && (s == 0)) 1 2)) rest))) (ne_eqb b 10 no_lf)
    ∙ ap (λ state. option_map (λ n. n + 1) (trailer_from state rest)) next

not_at_start : (s : ℕ) (cr : Bool) → next_state (cr && (suc s == 0)) ≡ 2
not_at_start s true = ap next_state (not_zero s)
not_at_start s false = refl

inside : (text behind : List ℕ) → HasNoEnd text → trailer_from 2 (text ++ 10 ∷ behind) ≡ option_map (λ n. n + suc (length text)) (trailer_from 0 behind)
unfolding trailer_from
inside [] behind no_end = refl
inside (b ∷ text) behind no_end =
    goes_on 2 2 b (text ++ 10 ∷ behind) no_end.0 (not_at_start 1 (b == 13)) ∙ ap (option_map (λ n. n + 1)) (inside text behind no_end.1) ∙ maps (suc (length text)) (trailer_from 0 behind)

behind_cr : (text behind : List ℕ) → HasNoEnd text → (text ≡ [] → ⊥) → trailer_from 1 (text ++ 10 ∷ behind) ≡ option_map (λ n. n + suc (length text)) (trailer_from 0 behind)
behind_cr [] behind no_end some = absurd (some refl)
behind_cr (b ∷ text) behind no_end some =
    goes_on 1 2 b (text ++ 10 ∷ behind) no_end.0 (not_at_start 0 (b == 13)) ∙ ap (option_map (λ n. n + 1)) (inside text behind no_end.1) ∙ maps (suc (length text)) (trailer_from 0 behind)

line_passes : (text behind : List ℕ) → HasNoEnd text → (IsEmptyLine (text ++ 10 ∷ []) → ⊥) → trailer_from 0 (text ++ 10 ∷ behind) ≡ option_map (λ n. n + suc (length text)) (trailer_from 0 behind)
line_passes [] behind no_end full = absurd (full (inl refl))
line_passes (b ∷ text) behind no_end full = by_cr (b == 13) refl
  where
    by_cr : (cr : Bool) → (b == 13) ≡ cr → trailer_from 0 (b ∷ (text ++ 10 ∷ behind)) ≡ option_map (λ n. n + suc (suc (length text))) (trailer_from 0 behind)
    by_cr true is_cr =
        goes_on 0 1 b (text ++ 10 ∷ behind) no_end.0 (ap (λ (cr : Bool). next_state (cr && (0 == 0))) is_cr)
        ∙ ap (option_map (λ n. n + 1)) (behind_cr text behind no_end.1 (λ e. full (inr (ap₂ (λ c l. c ∷ (l ++ 10 ∷ [])) (eqb-true b 13 is_cr) e))))
        ∙ maps (suc (length text)) (trailer_from 0 behind)
    by_cr false is_other =
        goes_on 0 2 b (text ++ 10 ∷ behind) no_end.0 (ap (λ (cr : Bool). next_state (cr && (0 == 0))) is_other)
        ∙ ap (option_map (λ n. n + 1)) (inside text behind no_end.1)
        ∙ maps (suc (length text)) (trailer_from 0 behind)

last_line : (last rest : List ℕ) → IsEmptyLine last → trailer_from 0 (last ++ rest) ≡ Some (length last)
unfolding trailer_from
last_line last rest (inl e) = subst (λ l. trailer_from 0 (l ++ rest) ≡ Some (length l)) (sym e) refl
last_line last rest (inr e) = subst (λ l. trailer_from 0 (l ++ rest) ≡ Some (length l)) (sym e) refl

lines_pass : (lines : List (List ℕ)) (last rest : List ℕ) → AllByRecursion IsFullLine lines → IsEmptyLine last
    → trailer_from 0 ((flat_map (λ line. line) lines ++ last) ++ rest) ≡ Some (length (flat_map (λ line. line) lines ++ last))
lines_pass [] last rest each empty = last_line last rest empty
lines_pass (line ∷ lines) last rest each empty =
    let text = each.0.0.0 in
    let more = flat_map (λ line. line) lines ++ last in
    let bytes : flat_map (λ line. line) (line ∷ lines) ++ last ≡ text ++ 10 ∷ more =
    ap (λ l. (l ++ flat_map (λ line. line) lines) ++ last) each.0.0.2
    ∙ append_assoc (text ++ 10 ∷ []) (flat_map (λ line. line) lines) last ∙ append_assoc text (10 ∷ []) more in
    let full = subst (λ l. IsEmptyLine l → ⊥) each.0.0.2 each.0.1 in
    subst (λ l. trailer_from 0 (l ++ rest) ≡ Some (length l)) (sym bytes)
    (ap (trailer_from 0) (append_assoc text (10 ∷ more) rest) ∙ line_passes text (more ++ rest) each.0.0.1 full
    ∙ ap (option_map (λ n. n + suc (length text))) (lines_pass lines last rest each.1 empty)
    ∙ ap Some (omega (arith, length-append text (10 ∷ more))))

pub trailer_only : (trailer rest : List ℕ) → IsTrailer trailer → trailer_length (trailer ++ rest) ≡ Some (length trailer)
trailer_only trailer rest is = subst (λ l. trailer_length (l ++ rest) ≡ Some (length l)) (sym is.bytes_are) (lines_pass is.lines is.last rest is.each is.empty)
