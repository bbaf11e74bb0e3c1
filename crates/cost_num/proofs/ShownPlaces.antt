-- Decimal places as they are shown.
use Rattle.std.proofs.Common.{◌≡◌, ◌≢◌, ℕ, zero, suc, ◌+◌, ◌-◌, ◌/◌, ◌%◌, ◌<◌, ◌≤◌, inl, inr, ◌++◌, ◌∷◌, [], List, length, take, drop, cond, arith, refl, ap, sym, subst, ◌∙◌, append_assoc, append-nil}
use Rattle.std.proofs.Math.ListN.{length-append}
use Rattle.std.proofs.lemmas.Bool.{cases_lt, cases_eq, ne_eqb}
use Rattle.std.proofs.lemmas.Fmt.{decimal_digit, length-decimal-le}
use Rattle.std.proofs.lemmas.List.{take_all, drop_all, take-append-drop, take-append-le, drop-append-le, reverse-append, replicate_more}
use Rattle.std.specs.Fmt.{decimal}
use Rattle.std.specs.List.{prefix_len, suffix_len}
use Rattle.std.specs.Prelude.{replicate, reverse}
use Rattle.cost_num.specs.declared.TheConstants.{CAP, COST_BYTES, LEAST_PLACES, PLACES, UNIT}
use Rattle.cost_num.specs.declared.Cost.{Cost}
use Rattle.cost_num.specs.CostText.{last_digits, is_nought, without_last_noughts, shown, amount_text, cost_text}
use Rattle.cost_num.proofs.Digits.{length-last_digits, last_digits_step}

-- one digit at the end of digits, as they are shown

noughts_push : (digits : List ℕ) → without_last_noughts (digits ++ (48 ∷ [])) ≡ without_last_noughts digits
noughts_push digits =
    let turned : reverse (digits ++ (48 ∷ [])) ≡ 48 ∷ reverse digits = reverse-append digits (48 ∷ []) in
    let count : suffix_len is_nought (digits ++ (48 ∷ [])) ≡ 1 + suffix_len is_nought digits = ap (prefix_len is_nought) turned in
    let long : length (digits ++ (48 ∷ [])) - suffix_len is_nought (digits ++ (48 ∷ [])) ≡ length digits - suffix_len is_nought digits = omega (arith, length-append digits (48 ∷ []), count) in
    ap (λ n. take n (digits ++ (48 ∷ []))) long ∙ take-append-le (length digits - suffix_len is_nought digits) digits (48 ∷ []) (omega arith)

other_push : (digits : List ℕ) (digit : ℕ) → digit ≢ 48 → without_last_noughts (digits ++ (digit ∷ [])) ≡ digits ++ (digit ∷ [])
other_push digits digit other =
    let turned : reverse (digits ++ (digit ∷ [])) ≡ digit ∷ reverse digits = reverse-append digits (digit ∷ []) in
    let none : suffix_len is_nought (digits ++ (digit ∷ [])) ≡ 0 = ap (prefix_len is_nought) turned ∙ ap (λ b. cond b (1 + prefix_len is_nought (reverse digits)) 0) (ne_eqb digit 48 other) in
    take_all (length (digits ++ (digit ∷ [])) - suffix_len is_nought (digits ++ (digit ∷ []))) (digits ++ (digit ∷ [])) (omega (arith, none))

pub shown_least : (digits : List ℕ) → length digits ≡ LEAST_PLACES → shown digits ≡ digits
unfolding shown
shown_least digits long = rw (take_all LEAST_PLACES digits (omega arith), drop_all LEAST_PLACES digits (omega arith)) (append-nil digits)

pub shown_push_nought : (digits : List ℕ) → LEAST_PLACES ≤ length digits → shown (digits ++ (48 ∷ [])) ≡ shown digits
unfolding shown
shown_push_nought digits long = rw (take-append-le LEAST_PLACES digits (48 ∷ []) long, drop-append-le LEAST_PLACES digits (48 ∷ []) long) (ap (λ ds. take LEAST_PLACES digits ++ ds) (noughts_push (drop LEAST_PLACES digits)))

pub shown_push_other : (digits : List ℕ) (digit : ℕ) → LEAST_PLACES ≤ length digits → digit ≢ 48 → shown (digits ++ (digit ∷ [])) ≡ digits ++ (digit ∷ [])
unfolding shown
shown_push_other digits digit long other =
    rw (take-append-le LEAST_PLACES digits (digit ∷ []) long, drop-append-le LEAST_PLACES digits (digit ∷ []) long)
    (ap (λ ds. take LEAST_PLACES digits ++ ds) (other_push (drop LEAST_PLACES digits) digit other)
    ∙ sym (append_assoc (take LEAST_PLACES digits) (drop LEAST_PLACES digits) (digit ∷ []))
    ∙ ap (λ ds. ds ++ (digit ∷ [])) (take-append-drop LEAST_PLACES digits))

-- the last digits of a number, as they are shown

pub shown_shorter : (places n : ℕ) → LEAST_PLACES < places → n % 10 ≡ 0 → shown (last_digits places n) ≡ shown (last_digits (places - 1) (n / 10))
shown_shorter places n more nought =
    ap shown (last_digits_step places n (omega arith) ∙ ap (λ d. last_digits (places - 1) (n / 10) ++ ((48 + d) ∷ [])) nought)
    ∙ shown_push_nought (last_digits (places - 1) (n / 10)) (omega (arith, length-last_digits (places - 1) (n / 10)))

pub shown_whole : (places n : ℕ) → LEAST_PLACES ≤ places → (LEAST_PLACES < places → n % 10 ≢ 0) → shown (last_digits places n) ≡ last_digits places n
shown_whole places n enough other = elim (cases_lt LEAST_PLACES places) [
  | inl more ↦
      let step = last_digits_step places n (omega arith) in
      ap shown step ∙ shown_push_other (last_digits (places - 1) (n / 10)) (48 + n % 10) (omega (arith, length-last_digits (places - 1) (n / 10))) (λ is. other more (omega arith)) ∙ sym step
  | inr least ↦ shown_least (last_digits places n) (omega (arith, length-last_digits places n))
]

-- digits, and the same without some zeros at their end, not shorter than what is always shown
pub record Shortened (digits short : List ℕ) : Type 0 where
  pub least : LEAST_PLACES ≤ length short
  pub most : length short ≤ length digits
  pub filled : short ++ replicate (length digits - length short) 48 ≡ digits

shortened_same : (digits : List ℕ) → LEAST_PLACES ≤ length digits → Shortened digits digits
shortened_same digits enough = record { least = enough; most = omega arith; filled = let none : length digits - length digits ≡ 0 = omega arith in ap (λ n. digits ++ replicate n 48) none ∙ append-nil digits }

shortened_push : (digits short : List ℕ) → Shortened digits short → Shortened (digits ++ (48 ∷ [])) short
shortened_push digits short is =
    let long = length-append digits (48 ∷ []) in
    let count : length (digits ++ (48 ∷ [])) - length short ≡ (length digits - length short) + 1 = omega (arith, is.most) in
    record {
      least = is.least;
      most = omega (arith, is.most);
      filled = ap (λ n. short ++ replicate n 48) count
          ∙ ap (λ ds. short ++ ds) (sym (replicate_more (length digits - length short) 48))
          ∙ sym (append_assoc short (replicate (length digits - length short) 48) (48 ∷ []))
          ∙ ap (λ ds. ds ++ (48 ∷ [])) is.filled;
    }

shown_shortened_at : (more places n : ℕ) → places ≡ LEAST_PLACES + more → Shortened (last_digits places n) (shown (last_digits places n))
shown_shortened_at zero places n is =
    let long : length (last_digits places n) ≡ LEAST_PLACES = omega (arith, length-last_digits places n, is) in
    subst (Shortened (last_digits places n)) (sym (shown_least (last_digits places n) long)) (shortened_same (last_digits places n) (omega (arith, long)))
shown_shortened_at (suc more) places n is =
    let before = last_digits (places - 1) (n / 10) in
    let step : last_digits places n ≡ before ++ ((48 + n % 10) ∷ []) = last_digits_step places n (omega (arith, is)) in
    elim (cases_eq (n % 10) 0) [
      | inl nought ↦
          let shorter : shown (last_digits places n) ≡ shown before = shown_shorter places n (omega (arith, is)) nought in
          let last : last_digits places n ≡ before ++ (48 ∷ []) = step ∙ ap (λ d. before ++ ((48 + d) ∷ [])) nought in
          let deeper : Shortened before (shown before) = shown_shortened_at more (places - 1) (n / 10) (omega (arith, is)) in
          subst (λ ds. Shortened ds (shown (last_digits places n))) (sym last) (subst (Shortened (before ++ (48 ∷ []))) (sym shorter) (shortened_push before (shown before) deeper))
      | inr other ↦
          let whole : shown (last_digits places n) ≡ last_digits places n = shown_whole places n (omega (arith, is)) (λ _. other) in
          subst (Shortened (last_digits places n)) (sym whole) (shortened_same (last_digits places n) (omega (arith, length-last_digits places n, is)))
    ]

-- with zeros for the places that aren't shown, the shown ones are all of them again
pub shown_shortened : (n : ℕ) → Shortened (last_digits PLACES n) (shown (last_digits PLACES n))
shown_shortened n = shown_shortened_at (PLACES - LEAST_PLACES) PLACES n (omega arith)

pub length-shown_most : (n : ℕ) → length (shown (last_digits PLACES n)) ≤ PLACES
length-shown_most n = omega (arith, (shown_shortened n).most, length-last_digits PLACES n)

length-shown_none : length (shown (last_digits PLACES 0)) ≡ LEAST_PLACES
unfolding shown last_digits
length-shown_none = refl

pub length-amount_text : (n : ℕ) → length (amount_text n) ≡ length (decimal (n / UNIT)) + length (shown (last_digits PLACES (n % UNIT))) + 1
length-amount_text n = omega (arith, length-append (decimal (n / UNIT)) (46 ∷ shown (last_digits PLACES (n % UNIT))))

-- the whole part of an amount below the cap has at most twelve digits; the cap has one more, and
-- only the places that are always shown
pub amount_text_short : (n : ℕ) → n ≤ CAP → length (amount_text n) ≤ PLACES + 13
amount_text_short n small = elim (cases_lt n CAP) [
  | inl below ↦ omega (arith, length-amount_text n, length-shown_most (n % UNIT), length-decimal-le 12 (n / UNIT) (omega arith) (omega arith) (omega arith))
  | inr cap ↦
      let whole : n % UNIT ≡ 0 = omega arith in
      let few : length (shown (last_digits PLACES (n % UNIT))) ≡ LEAST_PLACES = ap (λ m. length (shown (last_digits PLACES m))) whole ∙ length-shown_none in
      omega (arith, length-amount_text n, few, length-decimal-le 13 (n / UNIT) (omega arith) (omega arith) (omega arith))
]

pub cost_text_short : (cost : Cost) → cost.types ≤ CAP → cost.fields ≤ CAP → length (cost_text cost) ≤ COST_BYTES
cost_text_short cost types fields = omega (arith, length-append (amount_text cost.types) (32 ∷ amount_text cost.fields), amount_text_short cost.types types, amount_text_short cost.fields fields)

-- an amount below ten
pub below_ten : (n : ℕ) → n / UNIT < 10 → amount_text n ≡ (48 + n / UNIT) ∷ (46 ∷ shown (last_digits PLACES (n % UNIT)))
below_ten n small = ap (λ whole. whole ++ (46 ∷ shown (last_digits PLACES (n % UNIT)))) (decimal_digit (n / UNIT) small)

-- what writing places as they are shown needs
pub ruleset shown_by_shown = (shown_shorter, shown_whole, length-last_digits)

-- how long the texts of amounts are
pub ruleset lengths = (length-amount_text, amount_text_short, cost_text_short)
