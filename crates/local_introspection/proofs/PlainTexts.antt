-- A plain text is its own escaped form.
use Rattle.std.proofs.Common.{◌≡◌, ◌∙◌, ◌+◌, length, length-append, inl, inr, ℕ, List, [], ◌∷◌, ◌++◌, Bool, true, false, not, ◌&&◌, eqb, leb, ltb, eqb-true, refl, sym, ap, ap₂, arith, append_assoc}
use Rattle.std.proofs.lemmas.Bool.{cases_Bool, false≢true, leb-true, ltb-true}
use Rattle.serde_json.specs.Data.{string}
use Rattle.serde_json.specs.Written.{compact_text}
use Rattle.json.specs.Print.{escape_letter, escape_byte, escape}
use Rattle.local_introspection.specs.PlainTexts.{is_plain_byte, is_plain}

both : (a b : Bool) → (a && b) ≡ true → (a ≡ true) × (b ≡ true)
both true b h = (refl, h)
both false b h = absurd (cc)

untrue : (b : Bool) → not b ≡ true → b ≡ false
untrue true h = absurd (cc)
untrue false h = refl

another : (x n : ℕ) → leb 32 x ≡ true → leb 32 n ≡ false → eqb x n ≡ false
another x n large small = elim (cases_Bool (eqb x n)) [ inl is ↦ absurd (false≢true (sym small ∙ ap (leb 32) (sym (eqb-true x n is)) ∙ large)) | inr is ↦ is ]

not_less : (x : ℕ) → leb 32 x ≡ true → ltb x 32 ≡ false
not_less x large = elim (cases_Bool (ltb x 32)) [ inl is ↦ absurd (omega (arith, ltb-true x 32 is, leb-true 32 x large)) | inr is ↦ is ]

no_letter : (x : ℕ) → leb 32 x ≡ true → eqb x 34 ≡ false → eqb x 92 ≡ false → escape_letter x ≡ 0
no_letter x large quote back = rw (quote, back, another x 8 large refl, another x 12 large refl, another x 10 large refl, another x 13 large refl, another x 9 large refl) refl

byte_plain : (x : ℕ) → is_plain_byte x ≡ true → escape_byte x ≡ x ∷ []
unfolding escape_byte
byte_plain x h =
    let whole = both (leb 32 x) (not (eqb x 34) && not (eqb x 92)) h in
    let marks = both (not (eqb x 34)) (not (eqb x 92)) whole.1 in
    rw (no_letter x whole.0 (untrue (eqb x 34) marks.0) (untrue (eqb x 92) marks.1), not_less x whole.0) refl

pub plain_escaped : (text : List ℕ) → is_plain text ≡ true → escape text ≡ text
plain_escaped [] h = refl
plain_escaped (x ∷ text) h =
    let parts = both (is_plain_byte x) (is_plain text) h in ap₂ (λ (a b : List ℕ). a ++ b) (byte_plain x parts.0) (plain_escaped text parts.1)

-- it has two bytes more than the text
pub plain_length : (text : List ℕ) → is_plain text ≡ true → length text + 2 ≡ length (compact_text (string text))
plain_length text plain = omega (arith, ap length (plain_escaped text plain), length-append (escape text) (34 ∷ []))

-- what was pushed is the text between quotation marks
pub plain_written : (text old first second new : List ℕ) → is_plain text ≡ true → first ≡ old ++ (34 ∷ []) → second ≡ first ++ text → new ≡ second ++ (34 ∷ []) → new ≡ old ++ compact_text (string text)
plain_written text old first second new plain a b c =
    c ∙ ap (λ t. t ++ (34 ∷ [])) (b ∙ ap (λ t. t ++ text) a) ∙ append_assoc (old ++ (34 ∷ [])) text (34 ∷ []) ∙ append_assoc old (34 ∷ []) (text ++ (34 ∷ [])) ∙ ap (λ t. old ++ (34 ∷ (t ++ (34 ∷ [])))) (sym (plain_escaped text plain))
