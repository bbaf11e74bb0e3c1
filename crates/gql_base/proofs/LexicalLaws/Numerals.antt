-- The number that is found at the front of a text is the integer or float that stands there.
use Rattle.std.proofs.Common.{◌≡◌, inl, inr, ℕ, suc, ◌+◌, ◌<◌, ◌≤◌, Bool, true, false, ◌==◌, ◌||◌, List, [], ◌∷◌, ◌++◌, length, take, drop, get_or, refl, sym, ap, ◌∙◌, arith, Option, Some, None, Ok, Err, subst}
use Rattle.std.specs.Prelude.{nat_lt}
use Rattle.std.specs.List.{AllPass, prefix_len}
use Rattle.std.specs.Char.{is_ascii_digit}
use Rattle.std.proofs.lemmas.Bool.{cases_Bool, eqb-true, and_parts, lt-ltb, le-ltb, ltb-true}
use Rattle.std.proofs.lemmas.Bool.Decides.{nat_tests}
use Rattle.std.proofs.lemmas.List.{take-append-drop, length-append, length-drop, drop-drop, append_assoc, append-nil, drop_at, take_at}
use Rattle.std.proofs.lemmas.List.{length-take}
use Rattle.std.proofs.lemmas.List.Sums.{prefix_len-le-length}
use Rattle.std.proofs.lemmas.List.Elements.{All-cons}
use Rattle.std.proofs.lemmas.Option.{same_Some}
use Rattle.gql_base.specs.declared.lexical.numbers.Found.{Found}
use Rattle.gql_base.specs.lexical.Characters.{follows_no_number, is_exponent_mark, is_sign}
use Rattle.gql_base.specs.lexical.Numbers.{IsDigits, IsWhole, Exponent, Numeral, minus_bytes, fraction_bytes, sign_bytes, exponent_bytes, numeral_bytes, IsFraction, IsSign, IsExponent, IsNumeral, is_there, is_float}
use Rattle.gql_base.specs.lexical.Pieces.{BeginsWithout}
use Rattle.gql_base.specs.lexical.Fronts.{bind, passes, is_minus, is_zero, is_dot, digits_end, minus_end, whole_end, fraction_end, sign_end, exponent_end, found_with, number_from, number_found, integer_fits, front_with, found_front}
use Rattle.gql_base.specs.declared.lexical.token.TokenKind.TheVariants.{Int}
use Rattle.gql_base.specs.declared.lexical.lexing.LexFault.TheVariants.{BadNumber}
use Rattle.gql_base.proofs.LexicalLaws.Runs.{run_is_whole, run_passes, rest_after}
use Rattle.gql_base.proofs.LexicalLaws.StringScans.{drop_head}

-- ---- the byte at a place

passes_true : (test : ℕ → Bool) (text : List ℕ) (at : ℕ) → passes test text at ≡ true → (at < length text) × (test (get_or text at 0) ≡ true)
passes_true test text at is =
    let both : (nat_lt at (length text) ≡ true) × (test (get_or text at 0) ≡ true) = and_parts (nat_lt at (length text)) (test (get_or text at 0)) is in
    (ltb-true at (length text) both.0, both.1)

head_below : (text : List ℕ) (at c : ℕ) (cs : List ℕ) → drop at text ≡ c ∷ cs → at < length text
head_below text at c cs cut = omega (arith, ap length cut, length-drop at text)

head_is : (text : List ℕ) (at c : ℕ) (cs : List ℕ) → drop at text ≡ c ∷ cs → get_or text at 0 ≡ c
head_is text at c cs cut = let same : get_or text at 0 ∷ drop (at + 1) text ≡ c ∷ cs = sym (drop_head text at (head_below text at c cs cut)) ∙ cut in cc

tail_is : (text : List ℕ) (at c : ℕ) (cs : List ℕ) → drop at text ≡ c ∷ cs → drop (at + 1) text ≡ cs
tail_is text at c cs cut = let same : get_or text at 0 ∷ drop (at + 1) text ≡ c ∷ cs = sym (drop_head text at (head_below text at c cs cut)) ∙ cut in cc

passes_head : (test : ℕ → Bool) (text : List ℕ) (at c : ℕ) (cs : List ℕ) → drop at text ≡ c ∷ cs → passes test text at ≡ test c
passes_head test text at c cs cut = rw (lt-ltb at (length text) (head_below text at c cs cut)) (ap test (head_is text at c cs cut))

passes_end : (test : ℕ → Bool) (text : List ℕ) (at : ℕ) → drop at text ≡ [] → passes test text at ≡ false
passes_end test text at cut = rw (le-ltb at (length text) (omega (arith, ap length cut, length-drop at text))) refl

passes_without : (test : ℕ → Bool) (text after : List ℕ) (at : ℕ) → drop at text ≡ after → BeginsWithout test after → passes test text at ≡ false
passes_without test text [] at cut ends = passes_end test text at cut
passes_without test text (c ∷ cs) at cut ends = passes_head test text at c cs cut ∙ ends

without_passes : (test : ℕ → Bool) (text after : List ℕ) (at : ℕ) → drop at text ≡ after → passes test text at ≡ false → BeginsWithout test after
without_passes test text [] at cut ends = tt
without_passes test text (c ∷ cs) at cut ends = sym (passes_head test text at c cs cut) ∙ ends

-- ---- what follows

no_digit : (c : ℕ) → follows_no_number c ≡ false → is_ascii_digit c ≡ false
no_digit c is = grind (arith, nat_tests)

no_dot : (c : ℕ) → follows_no_number c ≡ false → is_dot c ≡ false
no_dot c is = grind (arith, nat_tests)

no_letter : (c : ℕ) → follows_no_number c ≡ false → is_exponent_mark c ≡ false
no_letter c is = grind (arith, nat_tests)

letter_no_digit : (c : ℕ) → is_exponent_mark c ≡ true → is_ascii_digit c ≡ false
letter_no_digit c is = grind (arith, nat_tests)

letter_no_dot : (c : ℕ) → is_exponent_mark c ≡ true → is_dot c ≡ false
letter_no_dot c is = grind (arith, nat_tests)

digit_no_minus : (c : ℕ) → is_ascii_digit c ≡ true → is_minus c ≡ false
digit_no_minus c is = grind (arith, nat_tests)

digit_no_sign : (c : ℕ) → is_ascii_digit c ≡ true → is_sign c ≡ false
digit_no_sign c is = grind (arith, nat_tests)

ends_digits : (after : List ℕ) → BeginsWithout follows_no_number after → BeginsWithout is_ascii_digit after
ends_digits [] ends = tt
ends_digits (c ∷ cs) ends = no_digit c ends

ends_dot : (after : List ℕ) → BeginsWithout follows_no_number after → BeginsWithout is_dot after
ends_dot [] ends = tt
ends_dot (c ∷ cs) ends = no_dot c ends

ends_letter : (after : List ℕ) → BeginsWithout follows_no_number after → BeginsWithout is_exponent_mark after
ends_letter [] ends = tt
ends_letter (c ∷ cs) ends = no_letter c ends

exponent_ends_digits : (e : Option Exponent) (after : List ℕ) → IsExponent e → BeginsWithout follows_no_number after → BeginsWithout is_ascii_digit (exponent_bytes e ++ after)
exponent_ends_digits None after is ends = ends_digits after ends
exponent_ends_digits (Some e) after is ends = letter_no_digit e.letter is.0

exponent_ends_dot : (e : Option Exponent) (after : List ℕ) → IsExponent e → BeginsWithout follows_no_number after → BeginsWithout is_dot (exponent_bytes e ++ after)
exponent_ends_dot None after is ends = ends_dot after ends
exponent_ends_dot (Some e) after is ends = letter_no_dot e.letter is.0

fraction_ends_digits : (f : Option (List ℕ)) (after : List ℕ) → BeginsWithout is_ascii_digit after → BeginsWithout is_ascii_digit (fraction_bytes f ++ after)
fraction_ends_digits None after ends = ends
fraction_ends_digits (Some ds) after ends = refl

-- ---- a number that is there is found

digits_all : (c : ℕ) (cs : List ℕ) → is_ascii_digit c ≡ true → AllPass is_ascii_digit cs → AllPass is_ascii_digit (c ∷ cs)
digits_all c cs is all = All-cons (λ x. is_ascii_digit x ≡ true) c cs is all

digits_there : (text ds after : List ℕ) (at : ℕ) → drop at text ≡ ds ++ after → IsDigits ds → BeginsWithout is_ascii_digit after → digits_end text at ≡ Some (at + length ds)
digits_there text [] after at cut is ends = absurd is
digits_there text (c ∷ cs) after at cut is ends =
    rw (passes_head is_ascii_digit text at c (cs ++ after) cut ∙ is.0)
    (ap (λ n. Some (at + n)) (ap (prefix_len is_ascii_digit) cut ∙ run_is_whole is_ascii_digit (c ∷ cs) after (digits_all c cs is.0 is.1) ends))

zero_there : (text cs after : List ℕ) (c at : ℕ) → drop at text ≡ c ∷ (cs ++ after) → (c == 48) ≡ true → cs ≡ [] → whole_end text at ≡ Some (at + length (c ∷ cs))
zero_there text cs after c at cut is none =
    rw (passes_head is_zero text at c (cs ++ after) cut ∙ is) (ap (λ n. Some (at + n)) (ap (λ xs. length (c ∷ xs)) (sym none)))

whole_there : (text ws after : List ℕ) (at : ℕ) → drop at text ≡ ws ++ after → IsWhole ws → BeginsWithout is_ascii_digit after → whole_end text at ≡ Some (at + length ws)
whole_there text [] after at cut is ends = absurd is
whole_there text (c ∷ cs) after at cut is ends =
    elim (cases_Bool (c == 48)) [
      | inl t ↦ zero_there text cs after c at cut t (is.2 t)
      | inr f ↦ rw (passes_head is_zero text at c (cs ++ after) cut ∙ f) (digits_there text (c ∷ cs) after at cut (is.0, is.1) ends)
    ]

fraction_there : (text after : List ℕ) (f : Option (List ℕ)) (at : ℕ) → drop at text ≡ fraction_bytes f ++ after → IsFraction f → BeginsWithout is_ascii_digit after → BeginsWithout is_dot after → fraction_end text at ≡ Some (at + length (fraction_bytes f))
fraction_there text after None at cut is digits dot = rw (passes_without is_dot text after at cut dot) (ap Some (let e : at ≡ at + 0 = omega arith in e))
fraction_there text after (Some ds) at cut is digits dot =
    rw (passes_head is_dot text at 46 (ds ++ after) cut)
    (digits_there text ds after (at + 1) (tail_is text at 46 (ds ++ after) cut) is digits ∙ ap Some (let e : at + 1 + length ds ≡ at + suc (length ds) = omega arith in e))

sign_there : (text ds after : List ℕ) (s : Option ℕ) (at : ℕ) → drop at text ≡ sign_bytes s ++ (ds ++ after) → IsSign s → IsDigits ds → sign_end text at ≡ at + length (sign_bytes s)
sign_there text [] after s at cut is digits = absurd digits
sign_there text (c ∷ cs) after None at cut is digits = rw (passes_head is_sign text at c (cs ++ after) cut ∙ digit_no_sign c digits.0) (omega arith)
sign_there text (c ∷ cs) after (Some s) at cut is digits = rw (passes_head is_sign text at s (c ∷ (cs ++ after)) cut ∙ is) refl

exponent_there : (text after : List ℕ) (e : Option Exponent) (at : ℕ) → drop at text ≡ exponent_bytes e ++ after → IsExponent e → BeginsWithout is_ascii_digit after → BeginsWithout is_exponent_mark after → exponent_end text at ≡ Some (at + length (exponent_bytes e))
exponent_there text after None at cut is digits letter = rw (passes_without is_exponent_mark text after at cut letter) (ap Some (let e : at ≡ at + 0 = omega arith in e))
exponent_there text after (Some e) at cut is digits letter =
    let next : drop (at + 1) text ≡ sign_bytes e.sign ++ (e.digits ++ after) = tail_is text at e.letter ((sign_bytes e.sign ++ e.digits) ++ after) cut ∙ append_assoc (sign_bytes e.sign) e.digits after in
    let last : drop (at + 1 + length (sign_bytes e.sign)) text ≡ e.digits ++ after = rest_after text (sign_bytes e.sign) (e.digits ++ after) (at + 1) next in
    rw (passes_head is_exponent_mark text at e.letter ((sign_bytes e.sign ++ e.digits) ++ after) cut ∙ is.0)
    (ap (digits_end text) (sign_there text e.digits after e.sign (at + 1) next is.1 is.2)
    ∙ digits_there text e.digits after (at + 1 + length (sign_bytes e.sign)) last is.2 digits
    ∙ ap Some (omega (arith, length-append (sign_bytes e.sign) e.digits)))

minus_there : (text ws after : List ℕ) (m : Bool) → text ≡ minus_bytes m ++ (ws ++ after) → IsWhole ws → minus_end text ≡ length (minus_bytes m)
minus_there text [] after m cut is = absurd is
minus_there text (c ∷ cs) after true cut is = rw (passes_head is_minus text 0 45 (c ∷ (cs ++ after)) cut) refl
minus_there text (c ∷ cs) after false cut is = rw (passes_head is_minus text 0 c (cs ++ after) cut ∙ digit_no_minus c is.0) refl

float_there : (f : Option (List ℕ)) (e : Option Exponent) (w : ℕ) → nat_lt w (w + length (fraction_bytes f) + length (exponent_bytes e)) ≡ (is_there f || is_there e)
float_there None None w = le-ltb w (w + 0 + 0) (omega arith)
float_there None (Some e) w = lt-ltb w (w + 0 + length (exponent_bytes (Some e))) (omega arith)
float_there (Some ds) e w = lt-ltb w (w + length (fraction_bytes (Some ds)) + length (exponent_bytes e)) (omega arith)

abbrev pub found_at : ℕ → Bool → Option Found
found_at end real = Some (record { end = end; is_float = real })

found_is : (m n : ℕ) (a b : Bool) → m ≡ n → a ≡ b → found_at m a ≡ found_at n b
found_is m n a b same flag = ap (λ k. found_at k a) same ∙ ap (found_at n) flag

pub number_there : (text after : List ℕ) (n : Numeral) → text ≡ numeral_bytes n ++ after → IsNumeral n → BeginsWithout follows_no_number after → number_found text ≡ found_at (length (numeral_bytes n)) (is_float n)
unfolding number_found
number_there text after n cut is ends =
    let m : List ℕ = minus_bytes n.minus in
    let f : List ℕ = fraction_bytes n.fraction in
    let e : List ℕ = exponent_bytes n.exponent in
    let whole : text ≡ m ++ (n.whole ++ (f ++ (e ++ after))) =
    cut ∙ append_assoc m (n.whole ++ (f ++ e)) after ∙ ap (λ xs. m ++ xs) (append_assoc n.whole (f ++ e) after ∙ ap (λ xs. n.whole ++ xs) (append_assoc f e after)) in
    let first : drop (length m) text ≡ n.whole ++ (f ++ (e ++ after)) = ap (drop (length m)) whole ∙ drop_at m (n.whole ++ (f ++ (e ++ after))) (length m) refl in
    let second : drop (length m + length n.whole) text ≡ f ++ (e ++ after) = rest_after text n.whole (f ++ (e ++ after)) (length m) first in
    let third : drop (length m + length n.whole + length f) text ≡ e ++ after = rest_after text f (e ++ after) (length m + length n.whole) second in
    let last : drop (length m + length n.whole + length f + length e) text ≡ after = rest_after text e after (length m + length n.whole + length f) third in
    rw (minus_there text n.whole (f ++ (e ++ after)) n.minus whole is.0)
    (rw (whole_there text n.whole (f ++ (e ++ after)) (length m) first is.0 (fraction_ends_digits n.fraction (e ++ after) (exponent_ends_digits n.exponent after is.2 ends)))
    (rw (fraction_there text (e ++ after) n.fraction (length m + length n.whole) second is.1 (exponent_ends_digits n.exponent after is.2 ends) (exponent_ends_dot n.exponent after is.2 ends))
    (rw (exponent_there text after n.exponent (length m + length n.whole + length f) third is.2 (ends_digits after ends) (ends_letter after ends))
    (rw (passes_without follows_no_number text after (length m + length n.whole + length f + length e) last ends)
    (found_is _ _ _ _
    (omega (arith, length-append m (n.whole ++ (f ++ e)), length-append n.whole (f ++ e), length-append f e))
    (float_there n.fraction n.exponent (length m + length n.whole)))))))

-- ---- what is found is there

Digits : List ℕ → ℕ → ℕ → Type 0
Digits text at e = (cs : List ℕ) × (is_ascii_digit (get_or text at 0) ≡ true) × AllPass is_ascii_digit cs × (drop at text ≡ get_or text at 0 ∷ (cs ++ drop e text)) × (e ≡ at + suc (length cs))

digits_are : (text : List ℕ) (at e : ℕ) → passes is_ascii_digit text at ≡ true → at + prefix_len is_ascii_digit (drop at text) ≡ e → Digits text at e
unfolding Digits
digits_are text at e pass end =
    let head : (at < length text) × (is_ascii_digit (get_or text at 0) ≡ true) = passes_true is_ascii_digit text at pass in
    let m : ℕ = prefix_len is_ascii_digit (drop (at + 1) text) in
    let run : prefix_len is_ascii_digit (drop at text) ≡ 1 + m = ap (prefix_len is_ascii_digit) (drop_head text at head.0) ∙ rw head.1 refl in
    let place : at + 1 + m ≡ e = omega (arith, run, end) in
    let tail : drop m (drop (at + 1) text) ≡ drop e text = drop-drop m (at + 1) text ∙ ap (λ k. drop k text) place in (
      take m (drop (at + 1) text),
      head.1,
      run_passes is_ascii_digit (drop (at + 1) text),
      drop_head text at head.0 ∙ ap (λ xs. get_or text at 0 ∷ xs) (sym (take-append-drop m (drop (at + 1) text)) ∙ ap (λ xs. take m (drop (at + 1) text) ++ xs) tail),
      omega (arith, place, length-take m (drop (at + 1) text), prefix_len-le-length is_ascii_digit (drop (at + 1) text)),
    )

digits_found : (text : List ℕ) (at e : ℕ) → digits_end text at ≡ Some e → Digits text at e
digits_found text at e found =
    elim (cases_Bool (passes is_ascii_digit text at)) [
      | inl t ↦ digits_are text at e t (same_Some _ _ (rw t at found))
      | inr f ↦ absurd (let none : None ≡ Some e = rw f at found in cc)
    ]

Whole : List ℕ → ℕ → ℕ → Type 0
Whole text at e = (ws : List ℕ) × IsWhole ws × (drop at text ≡ ws ++ drop e text) × (e ≡ at + length ws)

zero_digit : (c : ℕ) → (c == 48) ≡ true → is_ascii_digit c ≡ true
zero_digit c is = grind (arith, nat_tests)

zero_is : (text : List ℕ) (at e : ℕ) → passes is_zero text at ≡ true → at + 1 ≡ e → Whole text at e
unfolding Whole
zero_is text at e pass end =
    let head : (at < length text) × (is_zero (get_or text at 0) ≡ true) = passes_true is_zero text at pass in (
      get_or text at 0 ∷ [],
      (zero_digit (get_or text at 0) head.1, λ k d below. absurd (omega (arith, below)), λ z. refl),
      drop_head text at head.0 ∙ ap (λ k. get_or text at 0 ∷ drop k text) end,
      omega (arith, end),
    )

other_whole : (text : List ℕ) (at e : ℕ) → passes is_zero text at ≡ false → Digits text at e → Whole text at e
unfolding Whole Digits
other_whole text at e other ds = (
  get_or text at 0 ∷ ds.0,
  (ds.1, ds.2, λ z. absurd (let no : is_zero (get_or text at 0) ≡ false = sym (passes_head is_zero text at (get_or text at 0) (ds.0 ++ drop e text) ds.3) ∙ other in cc)),
  ds.3,
  ds.4,
)

whole_found : (text : List ℕ) (at e : ℕ) → whole_end text at ≡ Some e → Whole text at e
whole_found text at e found =
    elim (cases_Bool (passes is_zero text at)) [
      | inl t ↦ zero_is text at e t (same_Some _ _ (rw t at found))
      | inr f ↦ other_whole text at e f (digits_found text at e (rw f at found))
    ]

Fraction : List ℕ → ℕ → ℕ → Type 0
Fraction text at e = (f : Option (List ℕ)) × IsFraction f × (drop at text ≡ fraction_bytes f ++ drop e text) × (nat_lt at e ≡ is_there f) × (e ≡ at + length (fraction_bytes f))

nothing_between : (at e : ℕ) → at ≡ e → nat_lt at e ≡ false
nothing_between at e same = le-ltb at e (omega (arith, same))

digits_fraction : (text : List ℕ) (at e : ℕ) → passes is_dot text at ≡ true → Digits text (at + 1) e → Fraction text at e
unfolding Fraction Digits
digits_fraction text at e dot ds =
    let head : (at < length text) × (is_dot (get_or text at 0) ≡ true) = passes_true is_dot text at dot in
    let c : get_or text at 0 ≡ 46 = eqb-true (get_or text at 0) 46 head.1 in (
      Some (get_or text (at + 1) 0 ∷ ds.0),
      (ds.1, ds.2),
      drop_head text at head.0 ∙ ap (λ x. x ∷ drop (at + 1) text) c ∙ ap (λ xs. 46 ∷ xs) ds.3,
      lt-ltb at e (omega (arith, ds.4)),
      omega (arith, ds.4),
    )

no_fraction : (text : List ℕ) (at e : ℕ) → at ≡ e → Fraction text at e
unfolding Fraction
no_fraction text at e same = (None, tt, ap (λ k. drop k text) same, nothing_between at e same, omega (arith, same))

fraction_found : (text : List ℕ) (at e : ℕ) → fraction_end text at ≡ Some e → Fraction text at e
fraction_found text at e found =
    elim (cases_Bool (passes is_dot text at)) [
      | inl t ↦ digits_fraction text at e t (digits_found text (at + 1) e (rw t at found))
      | inr f ↦ no_fraction text at e (same_Some _ _ (rw f at found))
    ]

Signed : List ℕ → ℕ → ℕ → Type 0
Signed text at e = (s : Option ℕ) × IsSign s × (drop at text ≡ sign_bytes s ++ drop e text) × (e ≡ at + length (sign_bytes s))

sign_found : (text : List ℕ) (at : ℕ) → Signed text at (sign_end text at)
unfolding Signed
sign_found text at =
    elim (cases_Bool (passes is_sign text at)) [
      | inl t ↦ rw t (let head : (at < length text) × (is_sign (get_or text at 0) ≡ true) = passes_true is_sign text at t in (Some (get_or text at 0), head.1, drop_head text at head.0, omega arith))
      | inr f ↦ rw f (None, tt, refl, omega arith)
    ]

Exponents : List ℕ → ℕ → ℕ → Type 0
Exponents text at e = (x : Option Exponent) × IsExponent x × (drop at text ≡ exponent_bytes x ++ drop e text) × (nat_lt at e ≡ is_there x) × (e ≡ at + length (exponent_bytes x))

no_exponent : (text : List ℕ) (at e : ℕ) → at ≡ e → Exponents text at e
unfolding Exponents
no_exponent text at e same = (None, tt, ap (λ k. drop k text) same, nothing_between at e same, omega (arith, same))

digits_exponent : (text : List ℕ) (at s e : ℕ) → passes is_exponent_mark text at ≡ true → Signed text (at + 1) s → Digits text s e → Exponents text at e
unfolding Exponents Digits Signed
digits_exponent text at s e letter sign ds =
    let head : (at < length text) × (is_exponent_mark (get_or text at 0) ≡ true) = passes_true is_exponent_mark text at letter in (
      Some (record { letter = get_or text at 0; sign = sign.0; digits = get_or text s 0 ∷ ds.0 }),
      (head.1, sign.1, (ds.1, ds.2)),
      drop_head text at head.0
          ∙ ap (λ xs. get_or text at 0 ∷ xs) (sign.2 ∙ ap (λ xs. sign_bytes sign.0 ++ xs) ds.3 ∙ sym (append_assoc (sign_bytes sign.0) (get_or text s 0 ∷ ds.0) (drop e text))),
      lt-ltb at e (omega (arith, sign.3, ds.4)),
      omega (arith, sign.3, ds.4, length-append (sign_bytes sign.0) (get_or text s 0 ∷ ds.0)),
    )

exponent_found : (text : List ℕ) (at e : ℕ) → exponent_end text at ≡ Some e → Exponents text at e
exponent_found text at e found =
    elim (cases_Bool (passes is_exponent_mark text at)) [
      | inl t ↦ digits_exponent text at (sign_end text (at + 1)) e t (sign_found text (at + 1)) (digits_found text (sign_end text (at + 1)) e (rw t at found))
      | inr f ↦ no_exponent text at e (same_Some _ _ (rw f at found))
    ]

Minus : List ℕ → ℕ → Type 0
Minus text e = (m : Bool) × (text ≡ minus_bytes m ++ drop e text) × (e ≡ length (minus_bytes m))

minus_found : (text : List ℕ) → Minus text (minus_end text)
unfolding Minus
minus_found text =
    elim (cases_Bool (passes is_minus text 0)) [
      | inl t ↦ rw t (let head : (0 < length text) × (is_minus (get_or text 0 0) ≡ true) = passes_true is_minus text 0 t in (true, drop_head text 0 head.0 ∙ ap (λ x. x ∷ drop 1 text) (eqb-true (get_or text 0 0) 45 head.1), refl))
      | inr f ↦ rw f (false, refl, refl)
    ]

flags : (w f e : ℕ) (a b : Bool) → w ≤ f → f ≤ e → nat_lt w f ≡ a → nat_lt f e ≡ b → (a || b) ≡ nat_lt w e
flags w f e true b below more first second = sym (lt-ltb w e (omega (arith, ltb-true w f first, more)))
flags w f e false true below more first second = sym (lt-ltb w e (omega (arith, ltb-true f e second, below)))
flags w f e false false below more first second = sym (le-ltb w e (omega (arith, not_lt w f first, not_lt f e second)))
  where
    not_lt : (m n : ℕ) → nat_lt m n ≡ false → n ≤ m
    not_lt m n is = grind (arith, nat_tests)

-- An integer or a float begins the text, which ends where it is found, and isn't followed by what may not follow.
pub record NumberThere (text : List ℕ) (found : Found) : Type 0 where
  pub numeral : Numeral
  pub is : IsNumeral numeral
  pub cut : text ≡ numeral_bytes numeral ++ drop found.end text
  pub ends : BeginsWithout follows_no_number (drop found.end text)
  pub real : is_float numeral ≡ found.is_float
  pub size : length (numeral_bytes numeral) ≡ found.end

number_with : (text : List ℕ) (w f e : ℕ) (found : Found) → Minus text (minus_end text) → Whole text (minus_end text) w → Fraction text w f → Exponents text f e → found_with text w e ≡ Some found → NumberThere text found
unfolding Minus Whole Fraction Exponents
number_with text w f e found m ws fs es last =
    elim (cases_Bool (passes follows_no_number text e)) [
      | inl t ↦ absurd (let none : None ≡ Some found = rw t at last in cc)
      | inr n ↦
          let same : record { end = e; is_float = nat_lt w e } ≡ found = same_Some _ _ (rw n at last) in
          subst (NumberThere text) same (record {
            numeral = record { minus = m.0; whole = ws.0; fraction = fs.0; exponent = es.0 };
            is = (ws.1, fs.1, es.1);
            cut =
                let third : drop w text ≡ (fraction_bytes fs.0 ++ exponent_bytes es.0) ++ drop e text = fs.2 ∙ ap (λ xs. fraction_bytes fs.0 ++ xs) es.2 ∙ sym (append_assoc (fraction_bytes fs.0) (exponent_bytes es.0) (drop e text)) in
                let second : drop (minus_end text) text ≡ (ws.0 ++ (fraction_bytes fs.0 ++ exponent_bytes es.0)) ++ drop e text = ws.2 ∙ ap (λ xs. ws.0 ++ xs) third ∙ sym (append_assoc ws.0 (fraction_bytes fs.0 ++ exponent_bytes es.0) (drop e text)) in
                m.1 ∙ ap (λ xs. minus_bytes m.0 ++ xs) second ∙ sym (append_assoc (minus_bytes m.0) (ws.0 ++ (fraction_bytes fs.0 ++ exponent_bytes es.0)) (drop e text));
            ends = without_passes follows_no_number text (drop e text) e refl n;
            real = flags w f e (is_there fs.0) (is_there es.0) (omega (arith, fs.4)) (omega (arith, es.4)) fs.3 es.3;
            size = omega (arith, m.2, ws.3, fs.4, es.4, length-append (minus_bytes m.0) (ws.0 ++ (fraction_bytes fs.0 ++ exponent_bytes es.0)), length-append ws.0 (fraction_bytes fs.0 ++ exponent_bytes es.0), length-append (fraction_bytes fs.0) (exponent_bytes es.0));
          })
    ]

with_exponent : (text : List ℕ) (w f : ℕ) (o : Option ℕ) (found : Found) → Minus text (minus_end text) → Whole text (minus_end text) w → Fraction text w f → exponent_end text f ≡ o → bind o (found_with text w) ≡ Some found → NumberThere text found
with_exponent text w f None found m ws fs is last = absurd (cc)
with_exponent text w f (Some e) found m ws fs is last = number_with text w f e found m ws fs (exponent_found text f e is) last

with_fraction : (text : List ℕ) (w : ℕ) (o : Option ℕ) (found : Found) → Minus text (minus_end text) → Whole text (minus_end text) w → fraction_end text w ≡ o → bind o (λ f. bind (exponent_end text f) (found_with text w)) ≡ Some found → NumberThere text found
with_fraction text w None found m ws is last = absurd (cc)
with_fraction text w (Some f) found m ws is last = with_exponent text w f (exponent_end text f) found m ws (fraction_found text w f is) refl last

with_whole : (text : List ℕ) (o : Option ℕ) (found : Found) → Minus text (minus_end text) → whole_end text (minus_end text) ≡ o → bind o (number_from text) ≡ Some found → NumberThere text found
with_whole text None found m is last = absurd (cc)
with_whole text (Some w) found m is last = with_fraction text w (fraction_end text w) found m (whole_found text (minus_end text) w is) refl last

pub number_is : (text : List ℕ) (found : Found) → number_found text ≡ Some found → NumberThere text found
unfolding number_found
number_is text found is = with_whole text (whole_end text (minus_end text)) found (minus_found text) refl is

-- an integer that is found is a minus or none and the digits of a whole number
pub record IntegerThere (text : List ℕ) (end : ℕ) : Type 0 where
  pub minus : Bool
  pub whole : List ℕ
  pub is : IsWhole whole
  pub cut : text ≡ (minus_bytes minus ++ whole) ++ drop end text
  pub ends : BeginsWithout follows_no_number (drop end text)
  pub size : length (minus_bytes minus ++ whole) ≡ end

pub integer_is : (text : List ℕ) (found : Found) → found.is_float ≡ false → NumberThere text found → IntegerThere text found.end
integer_is text found whole there = plain there.numeral.fraction there.numeral.exponent there.is.1 there.is.2 (there.real ∙ whole) there.cut there.size
  where
    plain : (f : Option (List ℕ)) (e : Option Exponent) → IsFraction f → IsExponent e → (is_there f || is_there e) ≡ false → text ≡ (minus_bytes there.numeral.minus ++ (there.numeral.whole ++ (fraction_bytes f ++ exponent_bytes e))) ++ drop found.end text → length (minus_bytes there.numeral.minus ++ (there.numeral.whole ++ (fraction_bytes f ++ exponent_bytes e))) ≡ found.end → IntegerThere text found.end
    plain None None first second none cut size = record {
      minus = there.numeral.minus;
      whole = there.numeral.whole;
      is = there.is.0;
      cut = cut ∙ ap (λ xs. (minus_bytes there.numeral.minus ++ xs) ++ drop found.end text) (append-nil there.numeral.whole);
      ends = there.ends;
      size = sym (ap (λ xs. length (minus_bytes there.numeral.minus ++ xs)) (append-nil there.numeral.whole)) ∙ size;
    }
    plain None (Some e) first second none cut size = absurd (cc)
    plain (Some f) e first second none cut size = absurd (cc)

pub integer_taken : (text : List ℕ) (end : ℕ) (there : IntegerThere text end) → end ≤ length text → take end text ≡ minus_bytes there.minus ++ there.whole
integer_taken text end there within =
    ap (take end) there.cut
    ∙ take_at (minus_bytes there.minus ++ there.whole) (drop end text) end
    (omega (arith, ap length there.cut, length-append (minus_bytes there.minus ++ there.whole) (drop end text), length-drop end text, within))

pub front_fits : (floats : Bool) (text : List ℕ) (found : Found) → number_found text ≡ Some found → found.is_float ≡ false → integer_fits (take found.end text) ≡ true → Ok (front_with (Some Int) found.end) ≡ found_front floats text (number_found text)
front_fits floats text found is whole fits = rw is (rw whole (rw fits refl))

pub front_too_great : (floats : Bool) (text : List ℕ) (found : Found) → number_found text ≡ Some found → found.is_float ≡ false → integer_fits (take found.end text) ≡ false → Err (BadNumber 0) ≡ found_front floats text (number_found text)
front_too_great floats text found is whole fits = rw is (rw whole (rw fits refl))
