-- Each text is read in exactly one way.
use Rattle.std.proofs.Common.{◌≡◌, ◌≢◌, ℕ, zero, suc, ◌+◌, ◌-◌, ◌<◌, ◌≤◌, ◌⊎◌, inl, inr, ◌++◌, ◌∷◌, [], List, Result, Ok, Err, length, take, drop, get_or, refl, ap, sym, ◌∙◌, append-nil, arith}
use Rattle.std.proofs.lemmas.Bool.{cases_order, cases_eq, cases_lt}
use Rattle.std.proofs.lemmas.List.{take-append-drop}
use Rattle.std.specs.Char.{digit_value, is_ascii_digit}
use Rattle.std.specs.List.{prefix_len}
use Rattle.std.specs.Str.Parse.{AllDigits, IsNumeral}
use Rattle.cost_num.specs.declared.TheConstants.{PLACES}
use Rattle.cost_num.specs.declared.weights.WeightFault.{WeightFault}
use Rattle.cost_num.specs.declared.weights.WeightFault.TheVariants.{Empty, Negative, Exponent, BadDigit, TooFine, TooLarge}
use Rattle.cost_num.specs.DecimalText.{Splits}
use Rattle.cost_num.specs.Amount.{amount_of, IsTooFine, IsExponent, Shows, turn, Reads}
use Rattle.cost_num.specs.Reading.{NoDigitFirst, StopsAt, IsFirstPast}
use Rattle.cost_num.proofs.Fronts.{run_digits, run_ends, splits_same, stops_same, stops_at_once, stops_after_whole, stops_after_dot}
use Rattle.cost_num.proofs.FirstFaults.{spells_same, spells-no_fault, first_misfit, first_fine_fault, first_over, first_blank, first_minus}

-- at most one

stop_of : (text : List ℕ) (at : ℕ) → Shows 0 text (BadDigit at) → StopsAt text at
stop_of text at (inl shows) = inl shows.0
stop_of text at (inr shows) = inr shows

too_fine_same : (text : List ℕ) (a b : ℕ) → IsTooFine text a → IsTooFine text b → a ≡ b
too_fine_same text a b one other =
    let parts = splits_same text one.whole one.fraction other.whole other.fraction one.splits other.splits in
    let long = ap length parts.0 in
    elim (cases_order one.place other.place) [
      | inl same ↦ omega (arith, one.stands, other.stands, long, same)
      | inr apart ↦ elim apart [
        | inl before ↦ absurd (one.digit (ap (λ f. get_or f one.place 0) parts.1 ∙ other.first one.place one.past before))
        | inr after ↦ absurd (other.digit (ap (λ f. get_or f other.place 0) (sym parts.1) ∙ one.first other.place other.past after))
      ]
    ]

fault_same : (greatest : ℕ) (text : List ℕ) (one other : WeightFault) → turn one ≡ turn other → Shows greatest text one → Shows greatest text other → one ≡ other
fault_same greatest text Empty Empty turns shows shows' = refl
fault_same greatest text Negative Negative turns shows shows' = refl
fault_same greatest text Exponent Exponent turns shows shows' = refl
fault_same greatest text (BadDigit a) (BadDigit b) turns shows shows' = ap BadDigit (stops_same text a b (stop_of text a shows) (stop_of text b shows'))
fault_same greatest text (TooFine a) (TooFine b) turns shows shows' = ap TooFine (too_fine_same text a b shows shows')
fault_same greatest text TooLarge TooLarge turns shows shows' = refl
fault_same greatest text one other turns shows shows' = absurd (omega arith)

pub reads_same : (greatest : ℕ) (text : List ℕ) (one other : Result ℕ WeightFault) → Reads greatest text one → Reads greatest text other → one ≡ other
reads_same greatest text (Ok m) (Ok n) reads reads' = ap Ok (spells_same text m n reads.spells reads'.spells)
reads_same greatest text (Ok m) (Err fault) reads reads' = absurd (spells-no_fault greatest text m fault reads reads'.shows)
reads_same greatest text (Err fault) (Ok n) reads reads' = absurd (spells-no_fault greatest text n fault reads' reads.shows)
reads_same greatest text (Err one) (Err other) reads reads' = elim (cases_order (turn one) (turn other)) [
  | inl turns ↦ ap Err (fault_same greatest text one other turns reads.shows reads'.shows)
  | inr apart ↦ elim apart [
    | inl before ↦ absurd (reads'.first one before reads.shows)
    | inr after ↦ absurd (reads.first other after reads'.shows)
  ]
]

-- at least one

pub record Parts (text : List ℕ) : Type 0 where
  whole : List ℕ
  fraction : List ℕ
  splits : Splits text whole fraction

abbrev Split : List ℕ → Type 0
Split text = Parts text ⊎ ((at : ℕ) × StopsAt text at)

split_fraction : (text whole after fraction end : List ℕ) → text ≡ whole ++ (46 ∷ after) → IsNumeral 10 whole → after ≡ fraction ++ end → AllDigits 10 fraction → NoDigitFirst end → Split text
split_fraction text whole after [] end is numeral parts d ends = inr (_, stops_after_dot text whole (46 ∷ after) after [] end 46 _ is refl refl parts refl numeral.0 numeral.1 d ends (λ both. omega (arith, both.0)))
split_fraction text whole after (f ∷ fs) [] is numeral parts d ends =
    let closed : after ≡ f ∷ fs = parts ∙ append-nil (f ∷ fs) in
    inl record { whole = whole; fraction = f ∷ fs; splits = record { digits = numeral; rest = inr ((omega arith, d), is ∙ ap (λ a. whole ++ (46 ∷ a)) closed) } }
split_fraction text whole after (f ∷ fs) (c ∷ more) is numeral parts d ends = inr (_, stops_after_dot text whole (46 ∷ after) after (f ∷ fs) (c ∷ more) 46 _ is refl refl parts refl numeral.0 numeral.1 d ends (λ both. omega (arith, both.1)))

split_whole : (text whole rest : List ℕ) → text ≡ whole ++ rest → AllDigits 10 whole → NoDigitFirst rest → Split text
split_whole text [] rest is d ends = inr (0, stops_at_once text [] rest is refl ends)
split_whole text (w ∷ ws) [] is d ends = inl record { whole = w ∷ ws; fraction = []; splits = record { digits = (omega arith, d); rest = inl (refl, is ∙ append-nil (w ∷ ws)) } }
split_whole text (w ∷ ws) (c ∷ after) is d ends = elim (cases_eq c 46) [
  | inl dot ↦ split_fraction text (w ∷ ws) after (take (prefix_len is_ascii_digit after) after) (drop (prefix_len is_ascii_digit after) after) (is ∙ ap (λ k. (w ∷ ws) ++ (k ∷ after)) dot) (omega arith, d) (sym (take-append-drop (prefix_len is_ascii_digit after) after)) (run_digits after) (run_ends after)
  | inr other ↦ inr (_, stops_after_whole text (w ∷ ws) (c ∷ after) after c _ is refl refl d ends other)
]

split_some : (text : List ℕ) → Split text
split_some text = split_whole text (take (prefix_len is_ascii_digit text) text) (drop (prefix_len is_ascii_digit text) text) (sym (take-append-drop (prefix_len is_ascii_digit text) text)) (run_digits text) (run_ends text)

letter_decided : (letter : ℕ) → ((letter ≡ 101) ⊎ (letter ≡ 69)) ⊎ ¬ ((letter ≡ 101) ⊎ (letter ≡ 69))
letter_decided letter = elim (cases_eq letter 101) [
  | inl small ↦ inl (inl small)
  | inr other ↦ elim (cases_eq letter 69) [
    | inl capital ↦ inl (inr capital)
    | inr another ↦ inr (λ either. elim either [ inl small ↦ other small | inr capital ↦ another capital ])
  ]
]

exponent_decided : (text : List ℕ) (at : ℕ) → IsExponent text at ⊎ ¬ (IsExponent text at)
exponent_decided text at = elim (cases_lt 0 at) [
  | inr early ↦ inr (λ e. omega (arith, e.after))
  | inl after ↦ elim (cases_lt (digit_value (get_or text (at - 1) 0)) 10) [
    | inr over ↦ inr (λ e. omega (arith, e.digit))
    | inl digit ↦ elim (letter_decided (get_or text at 0)) [
      | inl letter ↦ inl record { after = after; digit = digit; letter = letter }
      | inr other ↦ inr (λ e. other e.letter)
    ]
  ]
]

abbrev Past : List ℕ → ℕ → Type 0
Past fraction n = ((place : ℕ) × IsFirstPast fraction place) ⊎ ((k : ℕ) → PLACES ≤ k → k < n → k < length fraction → get_or fraction k 0 ≡ 48)

past_more : (fraction : List ℕ) (n : ℕ) → Past fraction n → Past fraction (suc n)
past_more fraction n (inl found) = inl found
past_more fraction n (inr zeros) = elim (cases_eq (get_or fraction n 0) 48) [
  | inl nought ↦ inr (λ k past below inside. elim (cases_lt k n) [ inl early ↦ zeros k past early inside | inr here ↦ let e : k ≡ n = omega arith in ap (λ j. get_or fraction j 0) e ∙ nought ])
  | inr other ↦ elim (cases_lt n PLACES) [
    | inl early ↦ inr (λ k past below inside. absurd (omega arith))
    | inr past ↦ elim (cases_lt n (length fraction)) [
      | inl inside ↦ inl (n, record { past = past; in_fraction = inside; digit = other; first = λ k late before. zeros k late before (omega arith) })
      | inr outside ↦ inr (λ k late below inside. zeros k late (omega arith) inside)
    ]
  ]
]

past_below : (fraction : List ℕ) (n : ℕ) → Past fraction n
past_below fraction zero = inr (λ k past below inside. absurd (omega arith))
past_below fraction (suc n) = past_more fraction n (past_below fraction n)

parts_read : (greatest : ℕ) (text whole fraction : List ℕ) → Splits text whole fraction → Past fraction (length fraction) → (result : Result ℕ WeightFault) × Reads greatest text result
parts_read greatest text whole fraction parts (inl found) = (Err (TooFine (length whole + 1 + found.0)), first_fine_fault greatest text whole fraction found.0 parts found.1)
parts_read greatest text whole fraction parts (inr zeros) =
    let fine : (k : ℕ) → PLACES ≤ k → k < length fraction → get_or fraction k 0 ≡ 48 = λ k past inside. zeros k past inside inside in
    elim (cases_lt greatest (amount_of whole fraction)) [
      | inl above ↦ (Err TooLarge, first_over greatest text whole fraction parts fine above)
      | inr within ↦ (Ok (amount_of whole fraction), record { spells = record { whole = whole; fraction = fraction; splits = parts; fine = fine; value = refl }; in_range = within })
    ]

stops_read : (greatest : ℕ) (text : List ℕ) (at : ℕ) → 0 < length text → get_or text 0 0 ≢ 45 → StopsAt text at → IsExponent text at ⊎ ¬ (IsExponent text at) → (result : Result ℕ WeightFault) × Reads greatest text result
stops_read greatest text at some head stops (inl e) = (Err Exponent, first_misfit greatest text at Exponent some head stops e)
stops_read greatest text at some head stops (inr plain) = (Err (BadDigit at), first_misfit greatest text at (BadDigit at) some head stops (refl, plain))

pub reads_some : (greatest : ℕ) (text : List ℕ) → (result : Result ℕ WeightFault) × Reads greatest text result
reads_some greatest [] = (Err Empty, first_blank greatest [] refl)
reads_some greatest (c ∷ rest) = elim (cases_eq c 45) [
  | inl minus ↦ (Err Negative, first_minus greatest (c ∷ rest) rest (λ i. minus i ∷ rest))
  | inr other ↦ elim (split_some (c ∷ rest)) [
    | inl parts ↦ parts_read greatest (c ∷ rest) parts.whole parts.fraction parts.splits (past_below parts.fraction (length parts.fraction))
    | inr stopped ↦ stops_read greatest (c ∷ rest) stopped.0 (omega arith) other stopped.1 (exponent_decided (c ∷ rest) stopped.0)
  ]
]
