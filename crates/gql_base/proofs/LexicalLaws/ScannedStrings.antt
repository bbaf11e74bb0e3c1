-- Bytes are string characters exactly where scanning finds no fault among them and the first mark after them closes; and
-- scanning finds what the characters stand for.
use Rattle.std.proofs.Common.{ℕ, zero, suc, ◌+◌, ◌≡◌, ◌≤◌, ◌<◌, inl, inr, true, false, List, [], ◌∷◌, ◌++◌, Option, None, Some, length, drop, refl, sym, ap, ◌∙◌, subst, arith, append_assoc, append-nil}
use Rattle.std.specs.Prelude.{◌==◌, ◌&&◌, not}
use Rattle.std.proofs.lemmas.Bool.{cases_Bool, eqb-true, eq-eqb, and_parts}
use Rattle.std.proofs.lemmas.Bool.Decides.{nat_tests}
use Rattle.std.proofs.lemmas.List.{length-append}
use Rattle.std.proofs.lemmas.Option.{none-some, same_Some}
use Rattle.gql_base.specs.declared.lexical.strings.Escape.{Escape}
use Rattle.gql_base.specs.lexical.Characters.{is_comment_byte, is_line_end, is_hex}
use Rattle.gql_base.specs.lexical.Scans.{closed_at, letter_at, letter_or, four_digits, code_unit, code_escape, pair_with, escape_with, escape_at, text_step, text_fault, text_value}
use Rattle.gql_base.specs.lexical.Strings.{begins_with_mark, begins_with_marks, letter_escape, is_leading, is_trailing, joined, FourDigits, StringCharacter, plain, letter, unit, surrogates, unit_bytes, character_bytes, are_hex, number_of, is_plain, IsCharacter, AreCharacters, characters_bytes, IsBody, letter_value, character_value, characters_value}
use Rattle.gql_base.proofs.LexicalLaws.Escapes.{no_escape}
use Rattle.gql_base.proofs.LexicalLaws.EscapedTexts.{alone_sound, alone_open, letter_found}

-- ---- the escape that a character is

unit_there : (g : FourDigits) (rest : List ℕ) → are_hex g ≡ true → code_unit (unit_bytes g ++ rest) ≡ Some (number_of g)
unit_there g rest h = rw (h) refl

unit_escape : (g : FourDigits) (rest : List ℕ) → are_hex g ≡ true → is_leading (number_of g) ≡ false → is_trailing (number_of g) ≡ false → escape_at (unit_bytes g ++ rest) ≡ Some (escape_with 6 (number_of g))
unfolding escape_at
unit_escape g rest h l t = ap (λ o. code_escape o (code_unit rest)) (unit_there g rest h) ∙ simp (l, t)

pair_escape : (g k : FourDigits) (rest : List ℕ) → are_hex g ≡ true → are_hex k ≡ true → is_leading (number_of g) ≡ true → is_trailing (number_of k) ≡ true → escape_at (unit_bytes g ++ (unit_bytes k ++ rest)) ≡ Some (escape_with 12 (joined (number_of g) (number_of k)))
unfolding escape_at
pair_escape g k rest h i l t = ap (λ o. code_escape o (code_unit (unit_bytes k ++ rest))) (unit_there g (unit_bytes k ++ rest) h) ∙ (ap (λ o. code_escape (Some (number_of g)) o) (unit_there k rest i) ∙ simp (l, t))

-- a character that begins with `\` is an escape
pub slash_escape : (x : StringCharacter) (more rest : List ℕ) → IsCharacter x → 92 ∷ rest ≡ character_bytes x ++ more → escape_at (92 ∷ rest) ≡ None → ⊥
slash_escape (plain b) more rest is e none = let same : 92 ≡ b = ap first_of e in let test : (b == 92) ≡ true = eq-eqb b 92 (sym same) in let no_test : (b == 92) ≡ false = grind (arith, nat_tests) in cc
  where
    first_of : List ℕ → ℕ
    first_of [] = 0
    first_of (x ∷ xs) = x
slash_escape (letter c) more rest is e none = let found : None ≡ Some (escape_with 2 is.0) = sym none ∙ (ap escape_at e ∙ letter_found c is.0 more is.1) in cc
slash_escape (unit g) more rest is e none = let found : None ≡ Some (escape_with 6 (number_of g)) = sym none ∙ (ap escape_at e ∙ unit_escape g more is.0 is.1 is.2) in cc
slash_escape (surrogates g k) more rest is e none = let found : None ≡ Some (escape_with 12 (joined (number_of g) (number_of k))) = sym none ∙ (ap escape_at e ∙ pair_escape g k more is.0 is.1 is.2 is.3) in cc

-- ---- tests of bytes

pub plain_tests : (b : ℕ) → is_plain b ≡ true → (is_comment_byte b ≡ true) × ((b == 34) ≡ false) × ((b == 92) ≡ false) × (is_line_end b ≡ false)
plain_tests b h = (grind (arith, nat_tests), grind (arith, nat_tests), grind (arith, nat_tests), grind (arith, nat_tests))

hex_tests : (b : ℕ) → is_hex b ≡ true → ((b == 34) ≡ false) × ((b == 92) ≡ false) × (is_line_end b ≡ false)
hex_tests b h = (grind (arith, nat_tests), grind (arith, nat_tests), grind (arith, nat_tests))

letter_no_end : (c k : ℕ) → letter_escape c ≡ Some k → is_line_end c ≡ false
letter_no_end c k h = elim (cases_Bool (c == 10)) [
  | inl t ↦ absurd (let e : letter_escape 10 ≡ Some k = ap letter_escape (sym (eqb-true c 10 t)) ∙ h in cc)
  | inr n ↦ elim (cases_Bool (c == 13)) [
    | inl t ↦ absurd (let e : letter_escape 13 ≡ Some k = ap letter_escape (sym (eqb-true c 13 t)) ∙ h in cc)
    | inr m ↦ rw (n, m) refl
  ]
]

-- ---- one character

pub faultless : (c : StringCharacter) (rest : List ℕ) (at : ℕ) → IsCharacter c → text_fault 0 at (character_bytes c ++ rest) ≡ text_fault 0 (at + length (character_bytes c)) rest
unfolding text_fault text_step
faultless (plain b) rest at is = let t = plain_tests b is in alone_sound b at rest t.2 t.0
faultless (letter c) rest at is = rw (letter_found c is.0 rest is.1) (ap (λ n. text_fault 0 n rest) (let e : at + 1 + 1 ≡ at + 2 = omega arith in e))
faultless (unit g) rest at is = rw (unit_escape g rest is.0 is.1 is.2) (ap (λ n. text_fault 0 n rest) (let e : at + 1 + 1 + 1 + 1 + 1 + 1 ≡ at + 6 = omega arith in e))
faultless (surrogates g k) rest at is = rw (pair_escape g k rest is.0 is.1 is.2 is.3) (ap (λ n. text_fault 0 n rest) (let e : at + 1 + 1 + 1 + 1 + 1 + 1 + 1 + 1 + 1 + 1 + 1 + 1 ≡ at + 12 = omega arith in e))

value_of_one : (c : StringCharacter) (rest : List ℕ) → IsCharacter c → text_value 0 (character_bytes c ++ rest) ≡ character_value c ++ text_value 0 rest
unfolding text_value
value_of_one (plain b) rest is = rw (no_escape b rest (plain_tests b is).2) refl
value_of_one (letter c) rest is = rw (letter_found c is.0 rest is.1) (ap (λ o. letter_value o ++ text_value 0 rest) (sym is.1))
value_of_one (unit g) rest is = rw (unit_escape g rest is.0 is.1 is.2) refl
value_of_one (surrogates g k) rest is = rw (pair_escape g k rest is.0 is.1 is.2 is.3) refl

hex_open : (b at : ℕ) (rest : List ℕ) → is_hex b ≡ true → closed_at false at (b ∷ rest) ≡ closed_at false (at + 1) rest
hex_open b at rest h = let t = hex_tests b h in alone_open b at rest t.0 t.1 t.2

four_open : (g : FourDigits) (rest : List ℕ) (at : ℕ) → are_hex g ≡ true → closed_at false at (g.first ∷ g.second ∷ g.third ∷ g.fourth ∷ rest) ≡ closed_at false (at + 4) rest
four_open g rest at h =
    let d = and_parts (is_hex g.first && is_hex g.second && is_hex g.third) (is_hex g.fourth) h in
    let c = and_parts (is_hex g.first && is_hex g.second) (is_hex g.third) d.0 in
    let b = and_parts (is_hex g.first) (is_hex g.second) c.0 in
    hex_open g.first at (g.second ∷ g.third ∷ g.fourth ∷ rest) b.0 ∙ (hex_open g.second (at + 1) (g.third ∷ g.fourth ∷ rest) b.1 ∙ (hex_open g.third (at + 1 + 1) (g.fourth ∷ rest) c.1 ∙ (hex_open g.fourth (at + 1 + 1 + 1) rest d.1
    ∙ ap (λ n. closed_at false n rest) (let e : at + 1 + 1 + 1 + 1 ≡ at + 4 = omega arith in e))))

unit_open : (g : FourDigits) (rest : List ℕ) (at : ℕ) → are_hex g ≡ true → closed_at false at (unit_bytes g ++ rest) ≡ closed_at false (at + 6) rest
unfolding closed_at
unit_open g rest at h = four_open g rest (at + 1 + 1) h ∙ ap (λ n. closed_at false n rest) (let e : at + 1 + 1 + 4 ≡ at + 6 = omega arith in e)

pub unclosed : (c : StringCharacter) (rest : List ℕ) (at : ℕ) → IsCharacter c → closed_at false at (character_bytes c ++ rest) ≡ closed_at false (at + length (character_bytes c)) rest
unfolding closed_at
unclosed (plain b) rest at is = let t = plain_tests b is in alone_open b at rest t.1 t.2 t.3
unclosed (letter c) rest at is = rw (letter_no_end c is.0 is.1) (ap (λ n. closed_at false n rest) (let e : at + 1 + 1 ≡ at + 2 = omega arith in e))
unclosed (unit g) rest at is = unit_open g rest at is.0
unclosed (surrogates g k) rest at is = unit_open g (unit_bytes k ++ rest) at is.0 ∙ (unit_open k rest (at + 6) is.1 ∙ ap (λ n. closed_at false n rest) (let e : at + 6 + 6 ≡ at + 12 = omega arith in e))

-- ---- characters

further : (at : ℕ) (xs ys : List ℕ) → at + length xs + length ys ≡ at + length (xs ++ ys)
further at xs ys = omega (arith, length-append xs ys)

pub characters_faultless : (cs : List StringCharacter) (rest : List ℕ) (at : ℕ) → AreCharacters cs → text_fault 0 at (characters_bytes cs ++ rest) ≡ text_fault 0 (at + length (characters_bytes cs)) rest
characters_faultless [] rest at are = ap (λ n. text_fault 0 n rest) (let e : at ≡ at + 0 = omega arith in e)
characters_faultless (c ∷ cs) rest at are =
    ap (text_fault 0 at) (append_assoc (character_bytes c) (characters_bytes cs) rest) ∙ (faultless c (characters_bytes cs ++ rest) at are.0
    ∙ (characters_faultless cs rest (at + length (character_bytes c)) are.1 ∙ ap (λ n. text_fault 0 n rest) (further at (character_bytes c) (characters_bytes cs))))

pub characters_unclosed : (cs : List StringCharacter) (rest : List ℕ) (at : ℕ) → AreCharacters cs → closed_at false at (characters_bytes cs ++ rest) ≡ closed_at false (at + length (characters_bytes cs)) rest
characters_unclosed [] rest at are = ap (λ n. closed_at false n rest) (let e : at ≡ at + 0 = omega arith in e)
characters_unclosed (c ∷ cs) rest at are =
    ap (closed_at false at) (append_assoc (character_bytes c) (characters_bytes cs) rest) ∙ (unclosed c (characters_bytes cs ++ rest) at are.0
    ∙ (characters_unclosed cs rest (at + length (character_bytes c)) are.1 ∙ ap (λ n. closed_at false n rest) (further at (character_bytes c) (characters_bytes cs))))

value_of_all : (cs : List StringCharacter) → AreCharacters cs → text_value 0 (characters_bytes cs) ≡ characters_value cs
unfolding text_value
value_of_all [] are = refl
value_of_all (c ∷ cs) are = value_of_one c (characters_bytes cs) are.0 ∙ ap (λ l. character_value c ++ l) (value_of_all cs are.1)

-- ---- the body of a string

pub body_faultless : (cs : List StringCharacter) (body : List ℕ) → IsBody cs body → text_fault 0 1 body ≡ None
unfolding text_fault
body_faultless cs body is = ap (text_fault 0 1) (is.cut ∙ sym (append-nil (characters_bytes cs))) ∙ characters_faultless cs [] 1 is.are

pub body_closed : (cs : List StringCharacter) (body after : List ℕ) → IsBody cs body → closed_at false 1 (body ++ 34 ∷ after) ≡ Some (1 + length body)
unfolding closed_at
body_closed cs body after is = ap (λ xs. closed_at false 1 (xs ++ 34 ∷ after)) is.cut ∙ (characters_unclosed cs (34 ∷ after) 1 is.are ∙ ap (λ xs. Some (1 + length xs)) (sym is.cut))

pub body_value : (cs : List StringCharacter) (body : List ℕ) → IsBody cs body → text_value 0 body ≡ characters_value cs
body_value cs body is = ap (text_value 0) is.cut ∙ value_of_all cs is.are

-- ---- the character that an escape is

pub record Character (text : List ℕ) : Type 0 where
  pub one : StringCharacter
  pub rest : List ℕ
  pub cut : text ≡ character_bytes one ++ rest
  pub is : IsCharacter one

record Unit4 (text : List ℕ) (n : ℕ) : Type 0 where
  digits : FourDigits
  rest : List ℕ
  cut : text ≡ unit_bytes digits ++ rest
  hex : are_hex digits ≡ true
  value : number_of digits ≡ n

digits_in : (rest : List ℕ) (n : ℕ) → four_digits rest ≡ Some n → Unit4 (92 ∷ 117 ∷ rest) n
digits_in [] n found = absurd (none-some n found)
digits_in (a ∷ []) n found = absurd (none-some n found)
digits_in (a ∷ b ∷ []) n found = absurd (none-some n found)
digits_in (a ∷ b ∷ c ∷ []) n found = absurd (none-some n found)
digits_in (a ∷ b ∷ c ∷ d ∷ rest) n found = elim (cases_Bool (is_hex a && is_hex b && is_hex c && is_hex d)) [
  | inl t ↦ record { digits = record { first = a; second = b; third = c; fourth = d }; rest = rest; cut = refl; hex = t; value = same_Some _ n (rw t at found) }
  | inr f ↦ absurd (none-some n (rw f at found))
]

unit_in : (text : List ℕ) (n : ℕ) → code_unit text ≡ Some n → Unit4 text n
unit_in [] n found = absurd (none-some n found)
unit_in (a ∷ []) n found = absurd (none-some n found)
unit_in (a ∷ b ∷ rest) n found = elim (cases_Bool ((a == 92) && (b == 117))) [
  | inl t ↦
      let both = and_parts (a == 92) (b == 117) t in
      let same : 92 ∷ 117 ∷ rest ≡ a ∷ b ∷ rest = ap (λ x. x ∷ 117 ∷ rest) (sym (eqb-true a 92 both.0)) ∙ ap (λ x. a ∷ x ∷ rest) (sym (eqb-true b 117 both.1)) in
      subst (λ l. Unit4 l n) same (digits_in rest n (rw t at found))
  | inr f ↦ absurd (none-some n (rw f at found))
]

letter_in : (text : List ℕ) (c : ℕ) → letter_at text ≡ Some c → Character text
letter_in [] c found = absurd (none-some c found)
letter_in (a ∷ []) c found = absurd (none-some c found)
letter_in (a ∷ b ∷ rest) c found = elim (cases_Bool (a == 92)) [
  | inl t ↦ record { one = letter b; rest = rest; cut = ap (λ x. x ∷ b ∷ rest) (eqb-true a 92 t); is = (c, rw t at found) }
  | inr f ↦ absurd (none-some c (rw f at found))
]

pair_in : (text : List ℕ) (n : ℕ) (u : Unit4 text n) (next : Option ℕ) (e : Escape) → is_leading n ≡ true → code_unit u.rest ≡ next → pair_with n next ≡ Some e → Character text
pair_in text n u None e l is found = absurd (none-some e found)
pair_in text n u (Some m) e l is found = elim (cases_Bool (is_trailing m)) [
  | inl t ↦ let v = unit_in u.rest m is in
      record {
        one = surrogates u.digits v.digits;
        rest = v.rest;
        cut = u.cut ∙ ap (λ xs. unit_bytes u.digits ++ xs) v.cut;
        is = (u.hex, v.hex, ap is_leading u.value ∙ l, ap is_trailing v.value ∙ t);
      }
  | inr f ↦ absurd (none-some e (rw f at found))
]

code_in : (text : List ℕ) (first next : Option ℕ) (e : Escape) → code_unit text ≡ first → code_unit (drop 6 text) ≡ next → code_escape first next ≡ Some e → Character text
code_in text None next e is after found = absurd (none-some e found)
code_in text (Some n) next e is after found =
    let u = unit_in text n is in
    elim (cases_Bool (is_leading n)) [
      | inl l ↦ pair_in text n u next e l (sym (ap (λ xs. code_unit (drop 6 xs)) u.cut) ∙ after) (rw l at found)
      | inr l ↦ elim (cases_Bool (is_trailing n)) [
        | inl t ↦ absurd (none-some e (rw (l, t) at found))
        | inr t ↦ record { one = unit u.digits; rest = u.rest; cut = u.cut; is = (u.hex, ap is_leading u.value ∙ l, ap is_trailing u.value ∙ t) }
      ]
    ]

letter_or_code : (text : List ℕ) (o : Option ℕ) (e : Escape) → letter_at text ≡ o → letter_or o (code_escape (code_unit text) (code_unit (drop 6 text))) ≡ Some e → Character text
letter_or_code text None e is found = code_in text (code_unit text) (code_unit (drop 6 text)) e refl refl found
letter_or_code text (Some c) e is found = letter_in text c is

pub escape_in : (text : List ℕ) (e : Escape) → escape_at text ≡ Some e → Character text
unfolding escape_at
escape_in text e found = letter_or_code text (letter_at text) e refl found

-- ---- the characters that are scanned

-- what follows goes on with these characters
record Body (body : List ℕ) : Type 0 where
  cs : List StringCharacter
  is : IsBody cs body

one_more : (body : List ℕ) (c : Character body) → Body c.rest → Body body
one_more body c b = record {
  cs = c.one ∷ b.cs;
  is = record { cut = c.cut ∙ ap (λ xs. character_bytes c.one ++ xs) b.is.cut; are = (c.is, b.is.are) };
}

-- a byte that is no escape and has no fault, and doesn't close the string
byte_in : (c : ℕ) (cs : List ℕ) (at : ℕ) (after : List ℕ) → escape_at (c ∷ cs) ≡ None → text_fault 0 at (c ∷ cs) ≡ None → closed_at false at (c ∷ (cs ++ 34 ∷ after)) ≡ Some (at + suc (length cs)) → Character (c ∷ cs)
unfolding text_fault text_step closed_at
byte_in c cs at after none faultless closed = elim (cases_Bool (not (c == 92) && is_comment_byte c)) [
  | inr f ↦ absurd (let bad = rw (none, f) at faultless in cc)
  | inl t ↦ elim (cases_Bool (c == 34)) [
    | inl m ↦ absurd (let e : at ≡ at + suc (length cs) = same_Some _ _ (rw m at closed) in omega (arith, e))
    | inr m ↦ record { one = plain c; rest = cs; cut = refl; is = is_plain_byte c t m }
  ]
]
  where
    is_plain_byte : (c : ℕ) → (not (c == 92) && is_comment_byte c) ≡ true → (c == 34) ≡ false → is_plain c ≡ true
    is_plain_byte c t m = let p = and_parts (not (c == 92)) (is_comment_byte c) t in rw (p.0, p.1, m) refl

pub in_front : (c : ℕ) (cs : List ℕ) (at : ℕ) (after : List ℕ) (o : Option Escape) → escape_at (c ∷ cs) ≡ o → text_fault 0 at (c ∷ cs) ≡ None → closed_at false at (c ∷ (cs ++ 34 ∷ after)) ≡ Some (at + suc (length cs)) → Character (c ∷ cs)
in_front c cs at after (Some e) is faultless closed = escape_in (c ∷ cs) e is
in_front c cs at after None is faultless closed = byte_in c cs at after is faultless closed

-- a character has a byte or more
pub some_bytes : (c : StringCharacter) → 0 < length (character_bytes c)
some_bytes (plain b) = omega arith
some_bytes (letter c) = omega arith
some_bytes (unit g) = omega arith
some_bytes (surrogates g k) = omega arith

scanned : (n : ℕ) (body : List ℕ) (at : ℕ) (after : List ℕ) → length body ≤ n → text_fault 0 at body ≡ None → closed_at false at (body ++ 34 ∷ after) ≡ Some (at + length body) → Body body
scanned n [] at after short faultless_body closed = record { cs = []; is = record { cut = refl; are = tt } }
scanned zero (c ∷ cs) at after short faultless_body closed = absurd (omega (arith, short))
scanned (suc n) (c ∷ cs) at after short faultless_body closed =
    let f = in_front c cs at after (escape_at (c ∷ cs)) refl faultless_body closed in
    let size : length (c ∷ cs) ≡ length (character_bytes f.one) + length f.rest = ap length f.cut ∙ length-append (character_bytes f.one) f.rest in
    one_more (c ∷ cs) f (scanned n f.rest (at + length (character_bytes f.one)) after (omega (arith, short, size, some_bytes f.one))
    (sym (faultless f.one f.rest at f.is) ∙ (sym (ap (text_fault 0 at) f.cut) ∙ faultless_body))
    (sym (unclosed f.one (f.rest ++ 34 ∷ after) at f.is) ∙ (sym (ap (closed_at false at) (append_assoc (character_bytes f.one) f.rest (34 ∷ after))) ∙ (sym (ap (λ xs. closed_at false at (xs ++ 34 ∷ after)) f.cut) ∙ (closed ∙ ap Some (omega (arith, size)))))))

pub body_scanned : (body after : List ℕ) → text_fault 0 1 body ≡ None → closed_at false 1 (body ++ 34 ∷ after) ≡ Some (1 + length body) → (cs : List StringCharacter) × IsBody cs body
body_scanned body after faultless_body closed = let b = scanned (length body) body 1 after (omega arith) faultless_body closed in (b.cs, b.is)

-- ---- the empty string

pub single : (cs : List StringCharacter) (body after : List ℕ) → IsBody cs body → (body ≡ [] → begins_with_mark after ≡ false) → begins_with_marks (34 ∷ (body ++ 34 ∷ after)) ≡ false
single cs [] [] is apart = refl
single cs [] (a ∷ after) is apart = rw (apart refl) refl
single cs (b ∷ body) after is apart = first_byte cs b body after is
  where
    no_marks : (b c : ℕ) (cs : List ℕ) → (b == 34) ≡ false → begins_with_marks (34 ∷ b ∷ c ∷ cs) ≡ false
    no_marks b c cs n = rw n refl

    longer : (b : ℕ) (body after : List ℕ) → (b == 34) ≡ false → begins_with_marks (34 ∷ b ∷ (body ++ 34 ∷ after)) ≡ false
    longer b [] after n = no_marks b 34 after n
    longer b (c ∷ body) after n = no_marks b c (body ++ 34 ∷ after) n

    no_mark : (c : StringCharacter) (b : ℕ) (body rest : List ℕ) → IsCharacter c → b ∷ body ≡ character_bytes c ++ rest → (b == 34) ≡ false
    no_mark (plain x) b body rest is e = ap (λ (l : List ℕ). begins_with_mark l) e ∙ (plain_tests x is).1
    no_mark (letter x) b body rest is e = ap (λ (l : List ℕ). begins_with_mark l) e
    no_mark (unit g) b body rest is e = ap (λ (l : List ℕ). begins_with_mark l) e
    no_mark (surrogates g k) b body rest is e = ap (λ (l : List ℕ). begins_with_mark l) e

    first_byte : (cs : List StringCharacter) (b : ℕ) (body after : List ℕ) → IsBody cs (b ∷ body) → begins_with_marks (34 ∷ ((b ∷ body) ++ 34 ∷ after)) ≡ false
    first_byte [] b body after is = absurd (let e = is.cut in cc)
    first_byte (c ∷ cs) b body after is = longer b body after (no_mark c b body (characters_bytes cs) is.are.0 is.cut)

-- where a string ends that isn't the beginning of a block string
pub ends_apart : (body after : List ℕ) → begins_with_marks (34 ∷ (body ++ 34 ∷ after)) ≡ false → body ≡ [] → begins_with_mark after ≡ false
ends_apart [] [] none e = refl
ends_apart [] (a ∷ after) none e = none
ends_apart (b ∷ body) after none e = cc
