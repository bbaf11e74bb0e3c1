-- The first fault of a text, and that no text is read in two ways.
use Rattle.std.proofs.Common.{◌≡◌, ◌≢◌, ℕ, ◌+◌, ◌<◌, ◌≤◌, inl, inr, ◌++◌, ◌∷◌, [], List, length, get_or, refl, ap, sym, subst, ◌∙◌, append-nil, arith}
use Rattle.std.proofs.Math.ListN.{length-append}
use Rattle.std.proofs.lemmas.List.{get_or_past}
use Rattle.std.specs.Char.{digit_value}
use Rattle.std.specs.Str.Parse.{AllDigits}
use Rattle.cost_num.specs.declared.TheConstants.{CAP, PLACES}
use Rattle.cost_num.specs.declared.weights.WeightFault.{WeightFault}
use Rattle.cost_num.specs.declared.weights.WeightFault.TheVariants.{Empty, Negative, Exponent, BadDigit, TooFine, TooLarge}
use Rattle.cost_num.specs.DecimalText.{Splits, IsFirstMisfit}
use Rattle.cost_num.specs.Amount.{amount_of, Spells, IsTooFine, IsExponent, Shows, turn, IsFirstFault, IsAmount}
use Rattle.cost_num.specs.Capped.{capped}
use Rattle.cost_num.specs.Reading.{StopsAt, IsFirstPast, IsMisfitFault}
use Rattle.cost_num.proofs.Fronts.{stops_same, splits_same, splits-no_stop}

-- no `e` stands past the end
ended-no_exponent : (text : List ℕ) → IsExponent text (length text) → ⊥
ended-no_exponent text e = elim e.letter [
  | inl small ↦ omega (arith, small, get_or_past text (length text) 0 (omega arith))
  | inr capital ↦ omega (arith, capital, get_or_past text (length text) 0 (omega arith))
]

exponent_in_text : (text : List ℕ) (at : ℕ) → StopsAt text at → IsExponent text at → IsFirstMisfit text at
exponent_in_text text at (inl m) e = m
exponent_in_text text at (inr early) e = absurd (ended-no_exponent text (subst (IsExponent text) early.1 e))

no_turn_first : (earlier : WeightFault) → turn earlier < 1 → ⊥
no_turn_first Empty early = omega arith
no_turn_first Negative early = omega arith
no_turn_first Exponent early = omega arith
no_turn_first (BadDigit at) early = omega arith
no_turn_first (TooFine at) early = omega arith
no_turn_first TooLarge early = omega arith

only_blank_before : (greatest : ℕ) (text rest : List ℕ) (earlier : WeightFault) → text ≡ 45 ∷ rest → turn earlier < 2 → ¬ (Shows greatest text earlier)
only_blank_before greatest text rest Empty minus early blank = omega (arith, ap length (sym minus ∙ blank))
only_blank_before greatest text rest Negative minus early shows = omega arith
only_blank_before greatest text rest Exponent minus early shows = omega arith
only_blank_before greatest text rest (BadDigit at) minus early shows = omega arith
only_blank_before greatest text rest (TooFine at) minus early shows = omega arith
only_blank_before greatest text rest TooLarge minus early shows = omega arith

-- a text with a first character that isn't a minus has neither of the first two faults
no_first_two : (greatest : ℕ) (text : List ℕ) (earlier : WeightFault) → 0 < length text → get_or text 0 0 ≢ 45 → turn earlier < 3 → ¬ (Shows greatest text earlier)
no_first_two greatest text Empty some head early blank = omega (arith, ap length blank)
no_first_two greatest text Negative some head early minus = head (ap (λ t. get_or t 0 0) minus.1)
no_first_two greatest text Exponent some head early shows = omega arith
no_first_two greatest text (BadDigit at) some head early shows = omega arith
no_first_two greatest text (TooFine at) some head early shows = omega arith
no_first_two greatest text TooLarge some head early shows = omega arith

no_first_three : (greatest : ℕ) (text : List ℕ) (at : ℕ) (earlier : WeightFault) → 0 < length text → get_or text 0 0 ≢ 45 → StopsAt text at → ¬ (IsExponent text at) → turn earlier < 4 → ¬ (Shows greatest text earlier)
no_first_three greatest text at Empty some head stops plain early shows = no_first_two greatest text Empty some head (omega arith) shows
no_first_three greatest text at Negative some head stops plain early shows = no_first_two greatest text Negative some head (omega arith) shows
no_first_three greatest text at Exponent some head stops plain early shows = plain (subst (IsExponent text) (stops_same text shows.0 at (inl shows.1) stops) shows.2)
no_first_three greatest text at (BadDigit place) some head stops plain early shows = omega arith
no_first_three greatest text at (TooFine place) some head stops plain early shows = omega arith
no_first_three greatest text at TooLarge some head stops plain early shows = omega arith

pub first_misfit : (greatest : ℕ) (text : List ℕ) (at : ℕ) (fault : WeightFault) → 0 < length text → get_or text 0 0 ≢ 45 → StopsAt text at → IsMisfitFault text at fault → IsFirstFault greatest text fault
first_misfit greatest text at Exponent some head stops is = record {
  shows = (at, exponent_in_text text at stops is, is);
  first = λ earlier early. no_first_two greatest text earlier some head early;
}
first_misfit greatest text at (BadDigit place) some head stops is = record {
  shows = elim stops [
    | inl m ↦ inl (subst (IsFirstMisfit text) (sym is.0) m, subst (λ k. ¬ (IsExponent text k)) (sym is.0) is.1)
    | inr ended ↦ inr (ended.0, is.0 ∙ ended.1)
  ];
  first = λ earlier early. no_first_three greatest text at earlier some head stops is.1 early;
}
first_misfit greatest text at Empty some head stops is = absurd is
first_misfit greatest text at Negative some head stops is = absurd is
first_misfit greatest text at (TooFine place) some head stops is = absurd is
first_misfit greatest text at TooLarge some head stops is = absurd is

-- a decimal text has none of the first four faults

digit-no_minus : (whole more rest : List ℕ) → 0 < length whole → AllDigits 10 whole → whole ++ more ≡ 45 ∷ rest → ⊥
digit-no_minus [] more rest some d is = omega arith
digit-no_minus (c ∷ cs) more rest some d is = let minus : c ≡ 45 = cc in omega (arith, subst (λ k. digit_value k < 10) minus d.0)

splits-no_minus : (text whole fraction rest : List ℕ) → Splits text whole fraction → text ≡ 45 ∷ rest → ⊥
splits-no_minus text whole fraction rest parts minus = elim parts.rest [
  | inl plain ↦ digit-no_minus whole [] rest parts.digits.0 parts.digits.1 (append-nil whole ∙ sym plain.1 ∙ minus)
  | inr dotted ↦ digit-no_minus whole (46 ∷ fraction) rest parts.digits.0 parts.digits.1 (sym dotted.1 ∙ minus)
]

splits_some : (text whole fraction : List ℕ) → Splits text whole fraction → 0 < length text
splits_some text whole fraction parts = elim parts.rest [
  | inl plain ↦ omega (arith, parts.digits.0, ap length plain.1)
  | inr dotted ↦ omega (arith, ap length dotted.1, length-append whole (46 ∷ fraction))
]

no_first_four : (greatest : ℕ) (text whole fraction : List ℕ) (earlier : WeightFault) → Splits text whole fraction → turn earlier < 5 → ¬ (Shows greatest text earlier)
no_first_four greatest text whole fraction Empty parts early blank = omega (arith, splits_some text whole fraction parts, ap length blank)
no_first_four greatest text whole fraction Negative parts early minus = splits-no_minus text whole fraction minus.0 parts minus.1
no_first_four greatest text whole fraction Exponent parts early shows = splits-no_stop text whole fraction shows.0 parts (inl shows.1)
no_first_four greatest text whole fraction (BadDigit at) parts early (inl shows) = splits-no_stop text whole fraction at parts (inl shows.0)
no_first_four greatest text whole fraction (BadDigit at) parts early (inr shows) = splits-no_stop text whole fraction at parts (inr shows)
no_first_four greatest text whole fraction (TooFine at) parts early shows = omega arith
no_first_four greatest text whole fraction TooLarge parts early shows = omega arith

pub first_fine_fault : (greatest : ℕ) (text whole fraction : List ℕ) (place : ℕ) → Splits text whole fraction → IsFirstPast fraction place → IsFirstFault greatest text (TooFine (length whole + 1 + place))
first_fine_fault greatest text whole fraction place parts is = record {
  shows = record { whole = whole; fraction = fraction; place = place; splits = parts; stands = refl; past = is.past; in_fraction = is.in_fraction; digit = is.digit; first = is.first };
  first = λ earlier early. no_first_four greatest text whole fraction earlier parts early;
}

-- a text with only zeros after the last place isn't too fine
fine-no_too_fine : (text whole fraction : List ℕ) (at : ℕ) → Splits text whole fraction → ((k : ℕ) → PLACES ≤ k → k < length fraction → get_or fraction k 0 ≡ 48) → IsTooFine text at → ⊥
fine-no_too_fine text whole fraction at parts zeros fine =
    let same = (splits_same text fine.whole fine.fraction whole fraction fine.splits parts).1 in
    fine.digit (ap (λ f. get_or f fine.place 0) same ∙ zeros fine.place fine.past (omega (arith, fine.in_fraction, ap length same)))

no_first_five : (greatest : ℕ) (text whole fraction : List ℕ) (earlier : WeightFault) → Splits text whole fraction → ((k : ℕ) → PLACES ≤ k → k < length fraction → get_or fraction k 0 ≡ 48) → turn earlier < 6 → ¬ (Shows greatest text earlier)
no_first_five greatest text whole fraction Empty parts zeros early shows = no_first_four greatest text whole fraction Empty parts (omega arith) shows
no_first_five greatest text whole fraction Negative parts zeros early shows = no_first_four greatest text whole fraction Negative parts (omega arith) shows
no_first_five greatest text whole fraction Exponent parts zeros early shows = no_first_four greatest text whole fraction Exponent parts (omega arith) shows
no_first_five greatest text whole fraction (BadDigit at) parts zeros early shows = no_first_four greatest text whole fraction (BadDigit at) parts (omega arith) shows
no_first_five greatest text whole fraction (TooFine at) parts zeros early shows = fine-no_too_fine text whole fraction at parts zeros shows
no_first_five greatest text whole fraction TooLarge parts zeros early shows = omega arith

pub first_over : (greatest : ℕ) (text whole fraction : List ℕ) → Splits text whole fraction → ((k : ℕ) → PLACES ≤ k → k < length fraction → get_or fraction k 0 ≡ 48) → greatest < amount_of whole fraction → IsFirstFault greatest text TooLarge
first_over greatest text whole fraction parts zeros above = record {
  shows = (amount_of whole fraction, record { whole = whole; fraction = fraction; splits = parts; fine = zeros; value = refl }, above);
  first = λ earlier early. no_first_five greatest text whole fraction earlier parts zeros early;
}

pub first_large_fault : (greatest amount : ℕ) (text whole fraction : List ℕ) → Splits text whole fraction → ((k : ℕ) → PLACES ≤ k → k < length fraction → get_or fraction k 0 ≡ 48) → amount ≡ capped (amount_of whole fraction) → greatest < amount → greatest ≤ CAP → IsFirstFault greatest text TooLarge
first_large_fault greatest amount text whole fraction parts zeros is above small = first_over greatest text whole fraction parts zeros (omega arith)

pub first_blank : (greatest : ℕ) (text : List ℕ) → text ≡ [] → IsFirstFault greatest text Empty
first_blank greatest text blank = record { shows = blank; first = λ earlier early. absurd (no_turn_first earlier early) }

pub first_minus : (greatest : ℕ) (text rest : List ℕ) → text ≡ 45 ∷ rest → IsFirstFault greatest text Negative
first_minus greatest text rest minus = record { shows = (rest, minus); first = λ earlier early. only_blank_before greatest text rest earlier minus early }

-- a text spells one amount at most
pub spells_same : (text : List ℕ) (m n : ℕ) → Spells text m → Spells text n → m ≡ n
spells_same text m n one other =
    let same = splits_same text one.whole one.fraction other.whole other.fraction one.splits other.splits in
    one.value ∙ (λ i. amount_of (same.0 i) (same.1 i)) ∙ sym other.value

-- a text that spells an amount in range has no fault
pub spells-no_fault : (greatest : ℕ) (text : List ℕ) (amount : ℕ) (fault : WeightFault) → IsAmount greatest text amount → Shows greatest text fault → ⊥
spells-no_fault greatest text amount Empty is shows = no_first_five greatest text is.spells.whole is.spells.fraction Empty is.spells.splits is.spells.fine (omega arith) shows
spells-no_fault greatest text amount Negative is shows = no_first_five greatest text is.spells.whole is.spells.fraction Negative is.spells.splits is.spells.fine (omega arith) shows
spells-no_fault greatest text amount Exponent is shows = no_first_five greatest text is.spells.whole is.spells.fraction Exponent is.spells.splits is.spells.fine (omega arith) shows
spells-no_fault greatest text amount (BadDigit at) is shows = no_first_five greatest text is.spells.whole is.spells.fraction (BadDigit at) is.spells.splits is.spells.fine (omega arith) shows
spells-no_fault greatest text amount (TooFine at) is shows = no_first_five greatest text is.spells.whole is.spells.fraction (TooFine at) is.spells.splits is.spells.fine (omega arith) shows
spells-no_fault greatest text amount TooLarge is shows = omega (arith, spells_same text amount shows.0 is.spells shows.1, is.in_range, shows.2)
