-- The script of an exercise is one: its lines spell steps, and each request begins once and before it ends.
use Prim.Native.Nat.{zero, suc}
use Rattle.std.proofs.Common.{◌≡◌, ◌≤◌, ◌<◌, inl, inr, ◌∙◌, refl, sym, ap, ap₂, subst, ℕ, ◌+◌, ◌-◌, ◌*◌, ◌/◌, ◌%◌, List, [], ◌∷◌, ◌++◌, length, Bool, true, false, not, ◌||◌, nat_eq, cond, if◌then◌else◌, codes, ◌^◌, append_assoc, append-nil, arith}
use Rattle.std.specs.Char.{is_ascii_alphanumeric}
use Rattle.std.specs.Fmt.{decimal}
use Rattle.std.specs.List.{list_all, onto_first}
use Rattle.std.specs.Str.{bytes_eq}
use Rattle.std.specs.Str.Parse.{AllDigits}
use Rattle.std.proofs.lemmas.Bool.{cases_lt, and_from, agree_below_at, eqb-true, lt-ltb, le-leb, and_parts, or_right}
use Rattle.std.proofs.lemmas.Fmt.{decimal_is_IsNumeral, decimal_injective, length-decimal-le}
use Rattle.std.proofs.lemmas.List.{length-append}
use Rattle.std.proofs.lemmas.List.Folds.{list_all-append}
use Rattle.std.proofs.lemmas.Slice.Eq.{bytes_eq-Decides}
use Rattle.std.proofs.lemmas.Str.Parse.{digit_from_value}
use Rattle.cost_vectors.specs.Script.{size_of, length_of, request_body, begin_line, things, reply_body, end_line, first_requests, script_text}
use Rattle.replay_scripts.specs.Lines.{is_line_feed, lines_of}
use Rattle.replay_scripts.specs.Steps.{reply, StepData, begins, ends, is_id, spaced}
use Rattle.replay_scripts.specs.Scripts.{has_begun, begun_after, AreScriptLines, IsScript}
use Rattle.replay_scripts.proofs.ScriptLines.{script_more, begun_more}

-- ---- texts without a line feed

abbrev plain : ℕ → Bool
plain byte = not (is_line_feed byte)

abbrev IsPlain : List ℕ → Type 0
IsPlain text = list_all plain text ≡ true

plain_both : (front back : List ℕ) → IsPlain front → IsPlain back → IsPlain (front ++ back)
plain_both front back p q = list_all-append plain front back ∙ and_from _ _ p q

-- what holds of each digit holds of each byte of digits
of_digits : (these : ℕ → Bool) → ((k : ℕ) → k < 10 → these (48 + k) ≡ true) → (digits : List ℕ) → AllDigits 10 digits → list_all these digits ≡ true
of_digits these each [] all = refl
of_digits these each (d ∷ ds) all =
    let range = digit_from_value d all.0 in
    and_from _ _ (subst (λ c. these c ≡ true) (omega (arith, range)) (each (d - 48) (omega (arith, range)))) (of_digits these each ds all.1)

decimal_plain : (n : ℕ) → n < 2 ^ 64 → IsPlain (decimal n)
decimal_plain n small = of_digits plain (λ k h. agree_below_at (λ k. plain (48 + k)) (λ k. true) 10 k refl h) (decimal n) (decimal_is_IsNumeral n small).0.1

-- ---- lines

-- a line that ends is the first one
line_ends : (line rest : List ℕ) → IsPlain line → lines_of (line ++ 10 ∷ rest) ≡ line ∷ lines_of rest
unfolding lines_of
line_ends [] rest p = refl
line_ends (byte ∷ bytes) rest p =
    let parts = and_parts (plain byte) (list_all plain bytes) p in
    by_test (is_line_feed byte) parts.0 (line_ends bytes rest parts.1)
  where
    by_test : (test : Bool) → not test ≡ true → lines_of (bytes ++ 10 ∷ rest) ≡ bytes ∷ lines_of rest
        → cond test ([] ∷ lines_of (bytes ++ 10 ∷ rest)) (onto_first byte (lines_of (bytes ++ 10 ∷ rest))) ≡ (byte ∷ bytes) ∷ lines_of rest
    by_test true q e = absurd (cc)
    by_test false q e = ap (onto_first byte) e

-- The text is these lines, each with its end.
abbrev AreLines : List ℕ → List (List ℕ) → Type 0
AreLines text lines = (rest : List ℕ) → lines_of (text ++ rest) ≡ lines ++ lines_of rest

no_lines : AreLines [] []
no_lines rest = refl

line_more : (text line : List ℕ) (lines : List (List ℕ)) → AreLines text lines → IsPlain line → AreLines (text ++ (line ++ 10 ∷ [])) (lines ++ line ∷ [])
line_more text line lines are p rest =
    ap lines_of (append_assoc text (line ++ 10 ∷ []) rest)
    ∙ (are ((line ++ 10 ∷ []) ++ rest)
    ∙ (ap (λ l. lines ++ l) (ap lines_of (append_assoc line (10 ∷ []) rest) ∙ line_ends line rest p)
    ∙ sym (append_assoc lines (line ∷ []) (lines_of rest))))

-- ---- ids

abbrev id_of : ℕ → List ℕ
id_of number = 105 ∷ decimal number

is_id_of : (n : ℕ) → n < 10000 → is_id (id_of n) ≡ true
is_id_of n small =
    let short = length-decimal-le 4 n (omega arith) (omega (arith, small)) (omega (arith, small)) in
    and_from _ _ (lt-ltb 0 (length (id_of n)) (omega arith))
    (and_from _ _ (le-leb (length (id_of n)) 16 (omega (arith, short)))
    (of_digits is_ascii_alphanumeric (λ k h. agree_below_at (λ k. is_ascii_alphanumeric (48 + k)) (λ k. true) 10 k refl h) (decimal n) (decimal_is_IsNumeral n (omega (arith, small))).0.1))

abbrev tail : List ℕ → List ℕ
tail [] = []
tail (byte ∷ bytes) = bytes

-- the ids of the first requests, the last one first
abbrev ids : ℕ → List (List ℕ)
ids zero = []
ids (suc n) = id_of n ∷ ids n

other_id : (n k : ℕ) → k < n → n < 10000 → bytes_eq (id_of n) (id_of k) ≡ false
other_id n k low small = by_test (bytes_eq (id_of n) (id_of k)) refl
  where
    by_test : (test : Bool) → bytes_eq (id_of n) (id_of k) ≡ test → test ≡ false
    by_test true e =
        let same = decimal_injective n k (omega (arith, small)) (omega (arith, low, small)) (ap tail ((bytes_eq-Decides (id_of n) (id_of k)).0 e)) in
        absurd (omega (arith, low, same))
    by_test false e = refl

new_id : (n k : ℕ) → k ≤ n → n < 10000 → has_begun (ids k) (id_of n) ≡ false
new_id n zero low small = refl
new_id n (suc k) low small = ap₂ (λ (a b : Bool). a || b) (other_id n k (omega (arith, low)) small) (new_id n k (omega (arith, low)) small)

old_id : (n k : ℕ) → k < n → has_begun (ids n) (id_of k) ≡ true
old_id zero k low = absurd (omega (arith, low))
old_id (suc n) k low = elim (cases_lt k n) [
  | inl below ↦ or_right (bytes_eq (id_of k) (id_of n)) (has_begun (ids n) (id_of k)) (old_id n k below)
  | inr here ↦
      let same : k ≡ n = omega (arith, low, here) in
      ap (λ b. b || has_begun (ids n) (id_of k)) ((bytes_eq-Decides (id_of k) (id_of n)).1 (ap id_of same))
]

-- ---- the lines of the script

abbrev begin_step : ℕ → StepData
begin_step n = begins (id_of n) (codes "c") n (request_body n)

abbrev end_step : ℕ → StepData
end_step n = ends (id_of n) (reply (reply_body n))

abbrev begin_text : ℕ → List ℕ
begin_text n = spaced (codes "begin") (spaced (id_of n) (spaced (codes "c") (spaced (decimal n) (request_body n))))

abbrev end_text : ℕ → List ℕ
end_text n = spaced (codes "end") (spaced (id_of n) (reply_body n))

flat : (d m e s b z : List ℕ) → (((((d ++ m) ++ e) ++ s) ++ b) ++ z) ≡ (d ++ (m ++ (e ++ (s ++ b)))) ++ z
flat d m e s b z = ap (λ l. l ++ z) (append_assoc ((d ++ m) ++ e) s b ∙ (append_assoc (d ++ m) e (s ++ b) ∙ append_assoc d m (e ++ (s ++ b))))

begin_line_is : (n : ℕ) → begin_line n ≡ begin_text n ++ 10 ∷ []
unfolding begin_line
begin_line_is n = ap (λ l. codes "begin i" ++ l) (flat (decimal n) (codes " c ") (decimal n) (codes " ") (request_body n) (codes "\n"))

end_line_is : (n : ℕ) → end_line n ≡ end_text n ++ 10 ∷ []
unfolding end_line
end_line_is n = ap (λ l. codes "end i" ++ (l ++ codes "\n")) (append_assoc (decimal n) (codes " ") (reply_body n))

plain_spaced : (front back : List ℕ) → IsPlain front → IsPlain back → IsPlain (spaced front back)
plain_spaced front back p q = plain_both front (32 ∷ back) p q

request_plain : (n : ℕ) → IsPlain (request_body n)
unfolding request_body
request_plain n = plain_both (codes "{\"query\":\"{ top(first: " ++ decimal (size_of n)) (codes ") { id next { id } } }\"}")
    (plain_both (codes "{\"query\":\"{ top(first: ") (decimal (size_of n)) refl (decimal_plain (size_of n) (omega arith))) refl

things_plain : (k : ℕ) → k < 3 → IsPlain (things k)
things_plain k h = agree_below_at (λ k. list_all plain (things k)) (λ k. true) 3 k refl h

reply_plain : (n : ℕ) → IsPlain (reply_body n)
unfolding reply_body
reply_plain n = plain_both (codes "{\"data\":{\"top\":[" ++ things (length_of n)) (codes "]}}")
    (plain_both (codes "{\"data\":{\"top\":[") (things (length_of n)) refl (things_plain (length_of n) (omega arith))) refl

begin_plain : (n : ℕ) → n < 2 ^ 64 → IsPlain (begin_text n)
begin_plain n small = plain_spaced (codes "begin") (spaced (id_of n) (spaced (codes "c") (spaced (decimal n) (request_body n)))) refl
    (plain_spaced (id_of n) (spaced (codes "c") (spaced (decimal n) (request_body n))) (decimal_plain n small)
    (plain_spaced (codes "c") (spaced (decimal n) (request_body n)) refl (plain_spaced (decimal n) (request_body n) (decimal_plain n small) (request_plain n))))

end_plain : (n : ℕ) → n < 2 ^ 64 → IsPlain (end_text n)
end_plain n small = plain_spaced (codes "end") (spaced (id_of n) (reply_body n)) refl (plain_spaced (id_of n) (reply_body n) (decimal_plain n small) (reply_plain n))

-- ---- the script

-- So many requests began, and the text so far is a script of so many lines.
record IsSoFar (n : ℕ) (text : List ℕ) (count : ℕ) : Type 0 where
  lines : List (List ℕ)
  steps : List StepData
  are_lines : AreLines text lines
  script : AreScriptLines lines steps
  begun : begun_after [] steps ≡ ids n
  counted : length lines ≡ count

begin_more : (n : ℕ) (text : List ℕ) (count : ℕ) → n < 10000 → count < 10000 → IsSoFar n text count → IsSoFar (suc n) (text ++ begin_line n) (count + 1)
begin_more n text count small few so = record {
  lines = so.lines ++ begin_text n ∷ [];
  steps = so.steps ++ begin_step n ∷ [];
  are_lines = subst (λ l. AreLines (text ++ l) (so.lines ++ begin_text n ∷ [])) (sym (begin_line_is n)) (line_more text (begin_text n) so.lines so.are_lines (begin_plain n (omega (arith, small))));
  script = script_more so.lines so.steps (begin_text n) (begin_step n) so.script (omega (arith, few, so.counted)) (record { text = refl; formed = (is_id_of n small, refl, omega (arith, small)) })
      (subst (λ l. has_begun l (id_of n) ≡ false) (sym so.begun) (new_id n n (omega arith) small));
  begun = begun_more so.steps [] (begin_step n) ∙ ap (λ l. id_of n ∷ l) so.begun;
  counted = omega (arith, so.counted, length-append so.lines (begin_text n ∷ []));
}

end_more : (n k : ℕ) (text : List ℕ) (count : ℕ) → k < n → n ≤ 10000 → count < 10000 → IsSoFar n text count → IsSoFar n (text ++ end_line k) (count + 1)
end_more n k text count low small few so = record {
  lines = so.lines ++ end_text k ∷ [];
  steps = so.steps ++ end_step k ∷ [];
  are_lines = subst (λ l. AreLines (text ++ l) (so.lines ++ end_text k ∷ [])) (sym (end_line_is k)) (line_more text (end_text k) so.lines so.are_lines (end_plain k (omega (arith, low, small))));
  script = script_more so.lines so.steps (end_text k) (end_step k) so.script (omega (arith, few, so.counted)) (record { text = refl; formed = is_id_of k (omega (arith, low, small)) })
      (subst (λ l. has_begun l (id_of k) ≡ true) (sym so.begun) (old_id n k low));
  begun = begun_more so.steps [] (end_step k) ∙ so.begun;
  counted = omega (arith, so.counted, length-append so.lines (end_text k ∷ []));
}

no_count : (n : ℕ) → (nat_eq (n % 2) 1 ≡ true → ⊥) → n % 2 ≡ 0
no_count n other = elim (cases_lt (n % 2) 1) [
  | inl low ↦ omega (arith, low)
  | inr high ↦ absurd (other (subst (λ k. nat_eq k 1 ≡ true) {x = 1} {y = n % 2} (omega (arith, high)) refl))
]

so_far : (n : ℕ) → n ≤ 5000 → IsSoFar n (first_requests n) (n + 2 * (n / 2))
unfolding first_requests
so_far zero small = record { lines = []; steps = []; are_lines = no_lines; script = record { spelled = tt; few = omega arith; ordered = tt }; begun = refl; counted = refl }
so_far (suc n) small = by_test (nat_eq (n % 2) 1) refl (begin_more n (first_requests n) (n + 2 * (n / 2)) (omega (arith, small)) (omega (arith, small)) (so_far n (omega (arith, small))))
  where
    text : List ℕ
    text = first_requests n ++ begin_line n

    by_test : (test : Bool) → nat_eq (n % 2) 1 ≡ test → IsSoFar (suc n) text (n + 2 * (n / 2) + 1)
        → IsSoFar (suc n) (text ++ (if test then end_line (n - 1) ++ end_line n else [])) (suc n + 2 * (suc n / 2))
    by_test true is so =
        let odd = eqb-true (n % 2) 1 is in
        let first = end_more (suc n) (n - 1) text (n + 2 * (n / 2) + 1) (omega arith) (omega (arith, small)) (omega (arith, small)) so in
        let both = end_more (suc n) n (text ++ end_line (n - 1)) (n + 2 * (n / 2) + 1 + 1) (omega arith) (omega (arith, small)) (omega (arith, small, odd)) first in
        subst (λ count. IsSoFar (suc n) (text ++ (end_line (n - 1) ++ end_line n)) count) (omega (arith, odd))
        (subst (λ t. IsSoFar (suc n) t (n + 2 * (n / 2) + 1 + 1 + 1)) (append_assoc text (end_line (n - 1)) (end_line n)) both)
    by_test false is so =
        let even = no_count n (λ one. cc) in
        subst (λ count. IsSoFar (suc n) (text ++ []) count) (omega (arith, even))
        (subst (λ t. IsSoFar (suc n) t (n + 2 * (n / 2) + 1)) (sym (append-nil text)) so)

-- the lines of the whole text are those so far
whole : (n : ℕ) (text : List ℕ) (count : ℕ) → IsSoFar n text count → (steps : List StepData) × IsScript text steps
unfolding lines_of
whole n text count so =
    let all = ap lines_of (sym (append-nil text)) ∙ (so.are_lines [] ∙ append-nil so.lines) in
    (so.steps, subst (λ lines. AreScriptLines lines so.steps) (sym all) so.script)

pub exercise_script : (requests : ℕ) → requests ≤ 5000 → (steps : List StepData) × IsScript (script_text requests) steps
exercise_script requests small = by_test (nat_eq (requests % 2) 1) refl (so_far requests small)
  where
    by_test : (test : Bool) → nat_eq (requests % 2) 1 ≡ test → IsSoFar requests (first_requests requests) (requests + 2 * (requests / 2))
        → (steps : List StepData) × IsScript (first_requests requests ++ (if test then end_line (requests - 1) else [])) steps
    by_test true is so =
        let odd = eqb-true (requests % 2) 1 is in
        whole requests (first_requests requests ++ end_line (requests - 1)) _
        (end_more requests (requests - 1) (first_requests requests) (requests + 2 * (requests / 2)) (omega (arith, odd)) (omega (arith, small)) (omega (arith, small, odd)) so)
    by_test false is so = whole requests (first_requests requests ++ []) _ (subst (λ t. IsSoFar requests t (requests + 2 * (requests / 2))) (sym (append-nil (first_requests requests))) so)
