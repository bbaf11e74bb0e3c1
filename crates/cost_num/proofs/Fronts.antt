-- What begins a decimal text, and where a text stops being one.
use Rattle.std.proofs.Common.{◌≡◌, ◌≢◌, ℕ, suc, ◌+◌, ◌<◌, ◌≤◌, ◌⊎◌, inl, inr, ◌++◌, ◌∷◌, [], List, length, take, drop, Bool, true, false, cond, refl, ap, sym, subst, ◌∙◌, append_assoc, append-nil, arith}
use Rattle.std.proofs.Math.ListN.{length-append}
use Rattle.std.proofs.lemmas.Bool.{cases_lt, cases_order}
pub use Rattle.std.proofs.lemmas.List.Sums.{prefix_len-le-length}
use Rattle.std.proofs.lemmas.List.{nil_from_length, take_at, take-append-drop, take-take}
use Rattle.std.proofs.lemmas.Bool.Decides.{nat_tests}
use Rattle.std.specs.Char.{digit_value, is_ascii_digit}
use Rattle.std.specs.List.{prefix_len}
use Rattle.std.specs.Str.Parse.{AllDigits, IsNumeral}
use Rattle.cost_num.specs.DecimalText.{Splits, IsDecimal, BeginsDecimal, IsFirstMisfit}
use Rattle.cost_num.specs.Reading.{NoDigitFirst, StopsAt}

-- digits

pub digits_front : (xs ys : List ℕ) → AllDigits 10 (xs ++ ys) → AllDigits 10 xs
digits_front [] ys d = tt
digits_front (x ∷ xs) ys d = (d.0, digits_front xs ys d.1)

digits_back : (xs ys : List ℕ) → AllDigits 10 (xs ++ ys) → AllDigits 10 ys
digits_back [] ys d = d
digits_back (x ∷ xs) ys d = digits_back xs ys d.1

pub digits_joined : (xs ys : List ℕ) → AllDigits 10 xs → AllDigits 10 ys → AllDigits 10 (xs ++ ys)
digits_joined [] ys d e = e
digits_joined (x ∷ xs) ys d e = (d.0, digits_joined xs ys d.1 e)

pub digit_from_ascii : (c : ℕ) → is_ascii_digit c ≡ true → digit_value c < 10
digit_from_ascii c is = grind (arith, nat_tests)

pub no_digit_from_ascii : (c : ℕ) → is_ascii_digit c ≡ false → 10 ≤ digit_value c
no_digit_from_ascii c is = grind (arith, nat_tests)

-- the front that `prefix_len` finds
run_step : (b : Bool) (n c : ℕ) (cs : List ℕ) → (b ≡ true → digit_value c < 10) → (b ≡ false → 10 ≤ digit_value c) → AllDigits 10 (take n cs) → NoDigitFirst (drop n cs) → AllDigits 10 (take (cond b (1 + n) 0) (c ∷ cs)) × NoDigitFirst (drop (cond b (1 + n) 0) (c ∷ cs))
run_step true n c cs passes fails d e = let m : 1 + n ≡ suc n = omega arith in rw m ((passes refl, d), e)
run_step false n c cs passes fails d e = (tt, fails refl)

run : (xs : List ℕ) → AllDigits 10 (take (prefix_len is_ascii_digit xs) xs) × NoDigitFirst (drop (prefix_len is_ascii_digit xs) xs)
run [] = (tt, tt)
run (c ∷ cs) = let r = run cs in run_step (is_ascii_digit c) (prefix_len is_ascii_digit cs) c cs (digit_from_ascii c) (no_digit_from_ascii c) r.0 r.1

pub run_digits : (xs : List ℕ) → AllDigits 10 (take (prefix_len is_ascii_digit xs) xs)
run_digits xs = (run xs).0

pub run_ends : (xs : List ℕ) → NoDigitFirst (drop (prefix_len is_ascii_digit xs) xs)
run_ends xs = (run xs).1

-- what the count of the first digits says
pub ruleset runs = (run_digits, run_ends, prefix_len-le-length)

dot_no_digit : digit_value 46 < 10 → ⊥
dot_no_digit d = omega arith

digits-no_dot : (xs ys : List ℕ) → AllDigits 10 (xs ++ (46 ∷ ys)) → ⊥
digits-no_dot xs ys d = dot_no_digit (digits_back xs (46 ∷ ys) d).0

-- the dot parts a text in one way
dot_apart : (a b x y : List ℕ) → AllDigits 10 a → AllDigits 10 b → a ++ (46 ∷ x) ≡ b ++ (46 ∷ y) → (a ≡ b) × (x ≡ y)
dot_apart [] [] x y d e is = (refl, cc)
dot_apart [] (c ∷ b) x y d e is = let h : 46 ≡ c = cc in absurd (dot_no_digit (subst (λ k. digit_value k < 10) (sym h) e.0))
dot_apart (c ∷ a) [] x y d e is = let h : c ≡ 46 = cc in absurd (dot_no_digit (subst (λ k. digit_value k < 10) h d.0))
dot_apart (c ∷ a) (k ∷ b) x y d e is =
    let rest = dot_apart a b x y d.1 e.1 (cc) in
    let first : c ≡ k = cc in
    ((λ i. first i ∷ rest.0 i), rest.1)

-- fronts

-- digits, or one digit or more, a dot and digits
pub record Dotted (front : List ℕ) : Type 0 where
  whole : List ℕ
  fraction : List ℕ
  numeral : IsNumeral 10 whole
  digits : AllDigits 10 fraction
  is : front ≡ whole ++ (46 ∷ fraction)

abbrev pub Begun : List ℕ → Type 0
Begun front = AllDigits 10 front ⊎ Dotted front

nonempty_push : (xs : List ℕ) (c : ℕ) → 0 < length (xs ++ (c ∷ []))
nonempty_push xs c = omega (arith, length-append xs (c ∷ []))

pub begins_from : (front : List ℕ) → Begun front → BeginsDecimal front
begins_from front (inl d) = record {
  rest = 48 ∷ [];
  goes_on = record {
    whole = front ++ (48 ∷ []);
    fraction = [];
    splits = record {
      digits = (nonempty_push front 48, digits_joined front (48 ∷ []) d (omega arith, tt));
      rest = inl (refl, refl);
    };
  };
}
begins_from front (inr b) = record {
  rest = 48 ∷ [];
  goes_on = record {
    whole = b.whole;
    fraction = b.fraction ++ (48 ∷ []);
    splits = record {
      digits = b.numeral;
      rest = inr (
        (nonempty_push b.fraction 48, digits_joined b.fraction (48 ∷ []) b.digits (omega arith, tt)),
        ap (λ f. f ++ (48 ∷ [])) b.is ∙ append_assoc b.whole (46 ∷ b.fraction) (48 ∷ []),
      );
    };
  };
}

-- a front of digits, a dot and digits
front_of_dotted : (front rest whole fraction : List ℕ) → AllDigits 10 whole → AllDigits 10 fraction → front ++ rest ≡ whole ++ (46 ∷ fraction) → AllDigits 10 front ⊎ ((tail : List ℕ) × AllDigits 10 tail × (front ≡ whole ++ (46 ∷ tail)))
front_of_dotted [] rest whole fraction d e is = inl tt
front_of_dotted (c ∷ cs) rest [] fraction d e is =
    let first : c ≡ 46 = cc in
    let later : cs ++ rest ≡ fraction = cc in
    inr (cs, digits_front cs rest (subst (AllDigits 10) (sym later) e), λ i. first i ∷ cs)
front_of_dotted (c ∷ cs) rest (w ∷ ws) fraction d e is =
    let first : c ≡ w = cc in
    elim (front_of_dotted cs rest ws fraction d.1 e (cc)) [
      | inl digits ↦ inl (subst (λ k. digit_value k < 10) (sym first) d.0, digits)
      | inr more ↦ inr (more.0, more.1, λ i. first i ∷ more.2 i)
    ]

begun_of : (front : List ℕ) → BeginsDecimal front → Begun front
begun_of front b = elim b.goes_on.splits.rest [
  | inl plain ↦ inl (digits_front front b.rest (subst (AllDigits 10) (sym plain.1) b.goes_on.splits.digits.1))
  | inr dotted ↦ elim (front_of_dotted front b.rest b.goes_on.whole b.goes_on.fraction b.goes_on.splits.digits.1 dotted.0.1 dotted.1) [
    | inl digits ↦ inl digits
    | inr more ↦ inr record { whole = b.goes_on.whole; fraction = more.0; numeral = b.goes_on.splits.digits; digits = more.1; is = more.2 }
  ]
]

-- one character more, which doesn't fit

-- a dot in digits with one character more is that character
dot_is_last : (digits whole fraction : List ℕ) (c : ℕ) → AllDigits 10 digits → digits ++ (c ∷ []) ≡ whole ++ (46 ∷ fraction) → (c ≡ 46) × (digits ≡ whole)
dot_is_last [] [] fraction c d is = (cc, refl)
dot_is_last [] (w ∷ []) fraction c d is = absurd (cc)
dot_is_last [] (w ∷ x ∷ ws) fraction c d is = absurd (cc)
dot_is_last (k ∷ ks) [] fraction c d is = let h : k ≡ 46 = cc in absurd (dot_no_digit (subst (λ m. digit_value m < 10) h d.0))
dot_is_last (k ∷ ks) (w ∷ ws) fraction c d is =
    let rest = dot_is_last ks ws fraction c d.1 (cc) in
    let first : k ≡ w = cc in
    (rest.0, λ i. first i ∷ rest.1 i)

-- after digits neither a digit nor a dot stands, or after no digit no digit
digits_then : (digits : List ℕ) (c : ℕ) → AllDigits 10 digits → 10 ≤ digit_value c → (c ≡ 46 → digits ≡ []) → ¬ (Begun (digits ++ (c ∷ [])))
digits_then digits c d over misplaced (inl all) = omega (arith, (digits_back digits (c ∷ []) all).0)
digits_then digits c d over misplaced (inr b) =
    let dot = dot_is_last digits b.whole b.fraction c d b.is in
    omega (arith, b.numeral.0, ap length (sym dot.1 ∙ misplaced dot.0))

-- after a dot and digits no digit stands
fraction_then : (whole fraction : List ℕ) (c : ℕ) → AllDigits 10 whole → AllDigits 10 fraction → 10 ≤ digit_value c → ¬ (Begun (whole ++ (46 ∷ (fraction ++ (c ∷ [])))))
fraction_then whole fraction c d e over (inl all) = digits-no_dot whole (fraction ++ (c ∷ [])) all
fraction_then whole fraction c d e over (inr b) =
    let same = dot_apart whole b.whole (fraction ++ (c ∷ [])) b.fraction d b.numeral.1 b.is in
    omega (arith, (digits_back fraction (c ∷ []) (subst (AllDigits 10) (sym same.1) b.digits)).0)

misfit_here : (text front more : List ℕ) (c at : ℕ) → text ≡ front ++ (c ∷ more) → at ≡ length front → Begun front → ¬ (Begun (front ++ (c ∷ []))) → IsFirstMisfit text at
misfit_here text front more c at is stands begun stuck =
    let upto : take at text ≡ front = rw (is) (take_at front (c ∷ more) at (sym stands)) in
    let with_it : take (at + 1) text ≡ front ++ (c ∷ []) = rw (is, ← append_assoc front (c ∷ []) more) (take_at (front ++ (c ∷ [])) more (at + 1) (omega (arith, length-append front (c ∷ [])))) in
    record {
      in_text = omega (arith, ap length is, length-append front (c ∷ more));
      before = subst BeginsDecimal (sym upto) (begins_from front begun);
      there = λ b. stuck (begun_of (front ++ (c ∷ [])) (subst BeginsDecimal with_it b));
    }

-- where splitting a text stops

pub stops_at_once : (text whole rest : List ℕ) → text ≡ whole ++ rest → length whole ≡ 0 → NoDigitFirst rest → StopsAt text 0
stops_at_once text whole [] is none ends =
    let blank : text ≡ [] = is ∙ append-nil whole ∙ nil_from_length whole none in
    inr (
      record {
        begins = begins_from text (inl (subst (AllDigits 10) (sym blank) tt));
        short = λ d. elim d.splits.rest [
          | inl plain ↦ omega (arith, d.splits.digits.0, ap length (sym plain.1 ∙ blank))
          | inr dotted ↦ omega (arith, length-append d.whole (46 ∷ d.fraction), ap length (sym dotted.1 ∙ blank))
        ];
      },
      ap length (sym blank),
    )
stops_at_once text whole (c ∷ more) is none ends =
    inl (misfit_here text [] more c 0 (is ∙ ap (λ w. w ++ (c ∷ more)) (nil_from_length whole none)) refl (inl tt) (digits_then [] c tt ends (λ _. refl)))

pub stops_after_whole : (text whole rest more : List ℕ) (c at : ℕ) → text ≡ whole ++ rest → rest ≡ c ∷ more → at ≡ length whole → AllDigits 10 whole → NoDigitFirst rest → c ≢ 46 → StopsAt text at
stops_after_whole text whole rest more c at is begins stands d ends no_dot =
    inl (misfit_here text whole more c at (is ∙ ap (λ r. whole ++ r) begins) stands (inl d) (digits_then whole c d (subst NoDigitFirst begins ends) (λ dot. absurd (no_dot dot))))

stops_after_fraction : (text whole fraction end : List ℕ) (at : ℕ) → text ≡ whole ++ (46 ∷ (fraction ++ end)) → at ≡ length whole + 1 + length fraction → IsNumeral 10 whole → AllDigits 10 fraction → NoDigitFirst end → ¬ ((0 < length fraction) × (length end ≡ 0)) → StopsAt text at
stops_after_fraction text whole fraction [] at is stands numeral d ends incomplete =
    let short : length fraction ≡ 0 = elim (cases_lt 0 (length fraction)) [ inl some ↦ absurd (incomplete (some, refl)) | inr none ↦ omega arith ] in
    let bare : text ≡ whole ++ (46 ∷ []) = is ∙ ap (λ f. whole ++ (46 ∷ f)) (append-nil fraction ∙ nil_from_length fraction short) in
    inr (
      record {
        begins = begins_from text (inr record { whole = whole; fraction = []; numeral = numeral; digits = tt; is = bare });
        short = λ other. elim other.splits.rest [
          | inl plain ↦ digits-no_dot whole [] (subst (AllDigits 10) (sym plain.1 ∙ bare) other.splits.digits.1)
          | inr dotted ↦ omega (arith, dotted.0.0, ap length (dot_apart whole other.whole [] other.fraction numeral.1 other.splits.digits.1 (sym bare ∙ dotted.1)).1)
        ];
      },
      omega (arith, ap length bare, length-append whole (46 ∷ []), short),
    )
stops_after_fraction text whole fraction (c ∷ more) at is stands numeral d ends short =
    let front : List ℕ = whole ++ (46 ∷ fraction) in
    inl (misfit_here text front more c at
    (is ∙ sym (append_assoc whole (46 ∷ fraction) (c ∷ more)))
    (stands ∙ sym (omega (arith, length-append whole (46 ∷ fraction))))
    (inr record { whole = whole; fraction = fraction; numeral = numeral; digits = d; is = refl })
    (λ b. fraction_then whole fraction c numeral.1 d ends (subst Begun (append_assoc whole (46 ∷ fraction) (c ∷ [])) b)))

pub stops_after_dot : (text whole rest after fraction end : List ℕ) (c at : ℕ) → text ≡ whole ++ rest → rest ≡ c ∷ after → c ≡ 46 → after ≡ fraction ++ end → at ≡ length whole + 1 + length fraction → 0 < length whole → AllDigits 10 whole → AllDigits 10 fraction → NoDigitFirst end → ¬ ((0 < length fraction) × (length end ≡ 0)) → StopsAt text at
stops_after_dot text whole rest after fraction end c at is begins dot parts stands some w f ends short =
    stops_after_fraction text whole fraction end at (is ∙ ap (λ r. whole ++ r) (begins ∙ λ i. dot i ∷ parts i)) stands (some, w) f ends short

-- one text, one reading

pub splits_same : (text whole fraction whole' fraction' : List ℕ) → Splits text whole fraction → Splits text whole' fraction' → (whole ≡ whole') × (fraction ≡ fraction')
splits_same text whole fraction whole' fraction' one other = elim one.rest [
  | inl plain ↦ elim other.rest [
    | inl plain' ↦ (sym plain.1 ∙ plain'.1, plain.0 ∙ sym plain'.0)
    | inr dotted' ↦ absurd (digits-no_dot whole' fraction' (subst (AllDigits 10) (sym plain.1 ∙ dotted'.1) one.digits.1))
  ]
  | inr dotted ↦ elim other.rest [
    | inl plain' ↦ absurd (digits-no_dot whole fraction (subst (AllDigits 10) (sym plain'.1 ∙ dotted.1) other.digits.1))
    | inr dotted' ↦ dot_apart whole whole' fraction fraction' one.digits.1 other.digits.1 (sym dotted.1 ∙ dotted'.1)
  ]
]

begins_front : (front more : List ℕ) → BeginsDecimal (front ++ more) → BeginsDecimal front
begins_front front more b = record { rest = more ++ b.rest; goes_on = subst IsDecimal (append_assoc front more b.rest) b.goes_on }

begins_take : (text : List ℕ) (n : ℕ) → BeginsDecimal text → BeginsDecimal (take n text)
begins_take text n b = begins_front (take n text) (drop n text) (subst BeginsDecimal (sym (take-append-drop n text)) b)

decimal_begins : (text : List ℕ) → IsDecimal text → BeginsDecimal text
decimal_begins text d = record { rest = []; goes_on = subst IsDecimal (sym (append-nil text)) d }

-- the parts of a text that is decimal
decimal_of : (text whole fraction : List ℕ) → Splits text whole fraction → IsDecimal text
decimal_of text whole fraction parts = record { whole = whole; fraction = fraction; splits = parts }

begins-no_misfit : (text : List ℕ) (at : ℕ) → BeginsDecimal text → IsFirstMisfit text at → ⊥
begins-no_misfit text at b m = m.there (begins_take text (at + 1) b)

pub splits-no_stop : (text whole fraction : List ℕ) (at : ℕ) → Splits text whole fraction → StopsAt text at → ⊥
splits-no_stop text whole fraction at parts (inl m) = begins-no_misfit text at (decimal_begins text (decimal_of text whole fraction parts)) m
splits-no_stop text whole fraction at parts (inr early) = early.0.short (decimal_of text whole fraction parts)

misfit_before : (text : List ℕ) (a b : ℕ) → IsFirstMisfit text a → IsFirstMisfit text b → a < b → ⊥
misfit_before text a b one other before = one.there (subst BeginsDecimal (take-take (a + 1) b text (omega arith)) (begins_take (take b text) (a + 1) other.before))

pub misfit_same : (text : List ℕ) (a b : ℕ) → IsFirstMisfit text a → IsFirstMisfit text b → a ≡ b
misfit_same text a b one other = elim (cases_order a b) [
  | inl same ↦ same
  | inr apart ↦ elim apart [ inl before ↦ absurd (misfit_before text a b one other before) | inr after ↦ absurd (misfit_before text b a other one after) ]
]

pub stops_same : (text : List ℕ) (a b : ℕ) → StopsAt text a → StopsAt text b → a ≡ b
stops_same text a b (inl one) (inl other) = misfit_same text a b one other
stops_same text a b (inl one) (inr early) = absurd (begins-no_misfit text a early.0.begins one)
stops_same text a b (inr early) (inl other) = absurd (begins-no_misfit text b early.0.begins other)
stops_same text a b (inr early) (inr other) = early.1 ∙ sym other.1
