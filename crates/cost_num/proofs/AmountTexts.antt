-- The amount that a text spells, as a function of the text.
use Rattle.std.proofs.Common.{◌≡◌, ℕ, suc, ◌+◌, ◌<◌, inl, inr, ◌++◌, ◌∷◌, [], List, length, take, drop, not, cond, false, Result, Ok, Err, IfOk, refl, ap, sym, ◌∙◌, arith, append-nil}
use Rattle.std.proofs.lemmas.Bool.{ne_eqb}
use Rattle.std.proofs.lemmas.List.{take_all, drop_all, take-append-le}
use Rattle.std.specs.Char.{digit_value}
use Rattle.std.specs.List.{position_or_len, before_first, after_first}
use Rattle.std.specs.Str.Parse.{AllDigits}
use Rattle.cost_num.specs.declared.weights.WeightFault.{WeightFault}
use Rattle.cost_num.specs.DecimalText.{Splits}
use Rattle.cost_num.specs.Amount.{amount_of, is_dot, amount_in, Reads, Spells}

digit-not_dot : (c : ℕ) → digit_value c < 10 → is_dot c ≡ false
digit-not_dot c digit = ne_eqb c 46 (λ is. omega (arith, ap digit_value is))

-- no dot stands among digits
dot_after_digits : (whole rest : List ℕ) → AllDigits 10 whole → position_or_len is_dot (whole ++ rest) ≡ length whole + position_or_len is_dot rest
dot_after_digits [] rest d = omega arith
dot_after_digits (c ∷ cs) rest d =
    ap (λ b. cond (not b) (1 + position_or_len is_dot (cs ++ rest)) 0) (digit-not_dot c d.0)
    ∙ omega (arith, dot_after_digits cs rest d.1)

after_dot : (whole fraction : List ℕ) → drop (length whole + 1) (whole ++ (46 ∷ fraction)) ≡ fraction
after_dot [] fraction = refl
after_dot (c ∷ cs) fraction = let more : suc (length cs) + 1 ≡ suc (length cs + 1) = omega arith in rw more (after_dot cs fraction)

-- the parts of a decimal text stand before and after its first dot
parts_at_dot : (text whole fraction : List ℕ) → Splits text whole fraction → (before_first is_dot text ≡ whole) × (after_first is_dot text ≡ fraction)
parts_at_dot text whole fraction parts = elim parts.rest [
  | inl plain ↦
      let place : position_or_len is_dot text ≡ length whole = ap (position_or_len is_dot) (plain.1 ∙ sym (append-nil whole)) ∙ dot_after_digits whole [] parts.digits.1 ∙ omega arith in (
        (λ i. take (place i) (plain.1 i)) ∙ take_all (length whole) whole (omega arith),
        (λ i. drop (place i + 1) (plain.1 i)) ∙ drop_all (length whole + 1) whole (omega arith) ∙ sym plain.0,
      )
  | inr dotted ↦
      let place : position_or_len is_dot text ≡ length whole = ap (position_or_len is_dot) dotted.1 ∙ dot_after_digits whole (46 ∷ fraction) parts.digits.1 ∙ omega arith in (
        (λ i. take (place i) (dotted.1 i)) ∙ take-append-le (length whole) whole (46 ∷ fraction) (omega arith) ∙ take_all (length whole) whole (omega arith),
        (λ i. drop (place i + 1) (dotted.1 i)) ∙ after_dot whole fraction,
      )
]

pub spelled_amount : (text : List ℕ) (amount : ℕ) → Spells text amount → amount ≡ amount_in text
unfolding amount_in
spelled_amount text amount spells =
    let parts = parts_at_dot text spells.whole spells.fraction spells.splits in
    spells.value ∙ sym (λ i. amount_of (parts.0 i) (parts.1 i))

pub read_amount_in : (greatest : ℕ) (text : List ℕ) (result : Result ℕ WeightFault) → Reads greatest text result → IfOk result (λ amount. amount ≡ amount_in text)
read_amount_in greatest text (Ok amount) reads = spelled_amount text amount reads.spells
read_amount_in greatest text (Err fault) reads = tt
