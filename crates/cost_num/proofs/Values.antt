-- The numbers that digits write, where they stop above the cap.
use Rattle.std.proofs.Common.{◌≡◌, ℕ, take, suc, zero, ◌+◌, ◌-◌, ◌*◌, ◌<◌, ◌≤◌, ◌∷◌, [], List, length, drop, get_or, ap, sym, subst, ◌∙◌, arith}
use Rattle.std.proofs.lemmas.List.{drop_more, take-append-drop}
use Rattle.std.proofs.lemmas.Str.{digit_value_digit}
use Rattle.std.proofs.lemmas.Str.Parse.{digit_from_value}
use Rattle.std.specs.Char.{digit_value}
use Rattle.std.specs.Str.Parse.{AllDigits, digits_value_after}
use Rattle.std.specs.Prelude.{replicate}
use Rattle.cost_num.specs.declared.TheConstants.{CAP, PLACES}
use Rattle.cost_num.specs.Amount.{places_of}
use Rattle.cost_num.proofs.Fronts.{digits_front, digits_joined}
use Rattle.cost_num.specs.Capped.{capped}
use Rattle.cost_num.proofs.CappedSums.{capped_left, capped_times, capped_twice, capped_most}

-- one digit more
shifted : (n d : ℕ) → capped (capped (n * 10) + d) ≡ capped (n * 10 + d)
shifted n d = capped_left (n * 10) d

shifted_capped : (n d : ℕ) → capped (capped n * 10 + d) ≡ capped (n * 10 + d)
shifted_capped n d = sym (shifted (capped n) d) ∙ ap (λ m. capped (m + d)) (capped_times n 10) ∙ shifted n d

value_after_capped : (n : ℕ) (digits : List ℕ) → capped (digits_value_after 10 (capped n) digits) ≡ capped (digits_value_after 10 n digits)
value_after_capped n [] = capped_twice n
value_after_capped n (c ∷ cs) =
    sym (value_after_capped (capped n * 10 + digit_value c) cs)
    ∙ ap (λ m. capped (digits_value_after 10 m cs)) (shifted_capped n (digit_value c))
    ∙ value_after_capped (n * 10 + digit_value c) cs

value_from_ascii : (c : ℕ) → digit_value c < 10 → c - 48 ≡ digit_value c
value_from_ascii c d = omega (arith, digit_value_digit c (digit_from_value c d))

-- what a step of reading digits keeps
pub record ReadsOn (digits : List ℕ) (index number whole : ℕ) : Type 0 where
  pub small : number ≤ CAP + 1
  pub digits_left : AllDigits 10 (drop index digits)
  pub same : capped (digits_value_after 10 number (drop index digits)) ≡ whole

pub reads_more : (digits : List ℕ) (index number next whole : ℕ) → index < length digits → ReadsOn digits index number whole → next ≡ capped (capped (number * 10) + (get_or digits index 0 - 48)) → ReadsOn digits (index + 1) next whole
reads_more digits index number next whole inside before step =
    let c = get_or digits index 0 in
    let opened : drop index digits ≡ c ∷ drop (index + 1) digits = drop_more digits index 0 inside in
    let all : AllDigits 10 (c ∷ drop (index + 1) digits) = subst (AllDigits 10) opened before.digits_left in
    let is : next ≡ capped (number * 10 + digit_value c) = step ∙ shifted number (c - 48) ∙ ap (λ d. capped (number * 10 + d)) (value_from_ascii c all.0) in
    record {
      small = omega (arith, is, capped_most (number * 10 + digit_value c));
      digits_left = all.1;
      same = ap (λ m. capped (digits_value_after 10 m (drop (index + 1) digits))) is
          ∙ value_after_capped (number * 10 + digit_value c) (drop (index + 1) digits)
          ∙ ap (λ ds. capped (digits_value_after 10 number ds)) (sym opened)
          ∙ before.same;
    }

-- the first places of digits are digits

zeros_digits : (n : ℕ) → AllDigits 10 (replicate n 48)
zeros_digits zero = tt
zeros_digits (suc n) = (omega arith, zeros_digits n)

pub places_digits : (fraction : List ℕ) → AllDigits 10 fraction → AllDigits 10 (places_of fraction)
places_digits fraction d =
    let front : AllDigits 10 (take PLACES fraction) = digits_front (take PLACES fraction) (drop PLACES fraction) (subst (AllDigits 10) (sym (take-append-drop PLACES fraction)) d) in
    digits_joined (take PLACES fraction) (replicate (PLACES - length fraction) 48) front (zeros_digits (PLACES - length fraction))
