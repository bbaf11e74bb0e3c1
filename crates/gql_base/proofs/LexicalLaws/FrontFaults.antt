-- The fault that is found at the front of a text is the fault with which it begins.
use Rattle.std.proofs.Common.{◌≡◌, inl, inr, ℕ, Bool, true, false, ◌==◌, if◌then◌else◌, List, [], ◌∷◌, ◌++◌, length, take, drop, refl, sym, ap, ◌∙◌, Option, Some, None, Result, Ok, Err, subst}
use Rattle.std.proofs.lemmas.Bool.{cases_Bool}
use Rattle.std.proofs.lemmas.List.{append_assoc}
use Rattle.gql_base.specs.declared.lexical.lexing.Front.{Front}
use Rattle.gql_base.specs.declared.lexical.lexing.LexFault.{LexFault}
use Rattle.gql_base.specs.declared.lexical.lexing.LexFault.TheVariants.{BadChar, BadNumber, OpenText, BadEscape, FloatValue, Memory}
use Rattle.gql_base.specs.declared.lexical.numbers.Found.{Found}
use Rattle.gql_base.specs.declared.lexical.token.TokenKind.{TokenKind}
use Rattle.gql_base.specs.declared.lexical.token.TokenKind.TheVariants.{Int}
use Rattle.gql_base.specs.lexical.Characters.{is_name_start, is_blank}
use Rattle.gql_base.specs.lexical.Numbers.{IsWhole, minus_bytes, numeral_bytes}
use Rattle.gql_base.specs.lexical.Strings.{begins_with_mark}
use Rattle.gql_base.specs.lexical.Scans.{closing_of, fault_before}
use Rattle.gql_base.specs.lexical.Pieces.{BeginsNothing}
use Rattle.gql_base.specs.lexical.Closings.{HasFaultInside}
use Rattle.gql_base.specs.lexical.Faults.{BeginsWithFloat, begins_as_number, IsFaultInFront, BeginsWithFault}
use Rattle.gql_base.specs.lexical.Fronts.{mark_of, is_byte_order_mark, is_spread, piece_from, front_with, mark_front, float_front, found_front, number_found, integer_fits, sound_text, closed_text, text_front, front_of}
use Rattle.gql_base.proofs.LexicalLaws.Numerals.{number_there, NumberThere, number_is, found_at}
use Rattle.gql_base.proofs.LexicalLaws.ScannedClosings.{no_closing, never_closed, fault_inside, inside_found}
use Rattle.gql_base.proofs.LexicalLaws.FrontPieces.{err, err_same, not_faulty, front_of_number, mark_no_number, BeginsWith, begins_with, begins_nothing}

-- ---- where a float begins

float_found : (text : List ℕ) (b : BeginsWithFloat text) → number_found text ≡ found_at (length (numeral_bytes b.numeral)) true
float_found text b = number_there text b.after b.numeral b.cut b.is b.ends ∙ ap (found_at (length (numeral_bytes b.numeral))) b.is_real

real_float : (found : Found) (end : ℕ) → Some found ≡ found_at end true → found.is_float ≡ true
real_float found end same = let e : found ≡ record { end = end; is_float = true } = cc in ap (λ f. f.is_float) e

no_float : (text : List ℕ) (o : Option Found) → number_found text ≡ o → o ≡ None → BeginsWithFloat text → ⊥
no_float text o is none b = let same : found_at (length (numeral_bytes b.numeral)) true ≡ None = sym (float_found text b) ∙ is ∙ none in cc

not_true : false ≡ true → ⊥
not_true e = cc

integer_no_float : (text : List ℕ) (found : Found) → number_found text ≡ Some found → found.is_float ≡ false → BeginsWithFloat text → ⊥
integer_no_float text found is whole b = not_true (sym whole ∙ real_float found (length (numeral_bytes b.numeral)) (sym is ∙ float_found text b))

float_begins : (text : List ℕ) (found : Found) → number_found text ≡ Some found → found.is_float ≡ true → BeginsWithFloat text
float_begins text found is real =
    let there : NumberThere text found = number_is text found is in
    record { numeral = there.numeral; after = drop found.end text; cut = there.cut; is = there.is; is_real = there.real ∙ real; ends = there.ends }

whole_starts : (m : Bool) (ws rest : List ℕ) → IsWhole ws → begins_as_number (minus_bytes m ++ (ws ++ rest)) ≡ true
whole_starts true ws rest is = refl
whole_starts false [] rest is = absurd is
whole_starts false (c ∷ cs) rest is = rw is.0 refl

float_starts : (text : List ℕ) → BeginsWithFloat text → begins_as_number text ≡ true
float_starts text b =
    ap begins_as_number (b.cut ∙ append_assoc (minus_bytes b.numeral.minus) _ b.after ∙ ap (λ xs. minus_bytes b.numeral.minus ++ xs) (append_assoc b.numeral.whole _ b.after))
    ∙ whole_starts b.numeral.minus b.numeral.whole _ b.is.0

-- ---- numbers

float_faulty : (floats : Bool) (text : List ℕ) (n : Found) (fault : LexFault) → number_found text ≡ Some n → n.is_float ≡ true → float_front floats n.end ≡ Err fault → IsFaultInFront floats text fault
float_faulty true text n fault is real found = absurd (not_faulty fault _ found)
float_faulty false text n fault is real found = subst (IsFaultInFront false text) (err_same (FloatValue 0) fault found) (refl, refl, float_begins text n is real)

number_faulty : (floats : Bool) (text : List ℕ) (fault : LexFault) (o : Option Found) → BeginsNothing floats text → begins_as_number text ≡ true → number_found text ≡ o → found_front floats text o ≡ Err fault → IsFaultInFront floats text fault
number_faulty floats text fault None nothing start is found = subst (IsFaultInFront floats text) (err_same (BadNumber 0) fault found) (refl, start, nothing, no_float text None is refl)
number_faulty floats text fault (Some n) nothing start is found =
    elim (cases_Bool n.is_float) [
      | inl t ↦ float_faulty floats text n fault is t (rw t at found)
      | inr whole ↦
          elim (cases_Bool (integer_fits (take n.end text))) [
            | inl fits ↦ absurd (not_faulty fault _ (rw (whole, fits) at found))
            | inr no_fit ↦ subst (IsFaultInFront floats text) (err_same (BadNumber 0) fault (rw (whole, no_fit) at found)) (refl, start, nothing, integer_no_float text n is whole)
          ]
    ]

-- ---- strings

text_faulty : (floats : Bool) (text : List ℕ) (fault : LexFault) (o : Option ℕ) → begins_with_mark text ≡ true → closing_of text ≡ o → closed_text text o ≡ Err fault → BeginsWithFault floats text fault
text_faulty floats text fault None start is found = inl (subst (IsFaultInFront floats text) (err_same (OpenText 0) fault found) (refl, start, no_closing text is))
text_faulty floats text fault (Some closing) start is found = inr (inside (fault_before closing text) refl found)
  where
    inside : (o : Option LexFault) → fault_before closing text ≡ o → sound_text text closing o ≡ Err fault → HasFaultInside text fault
    inside None none sound = absurd (not_faulty fault _ sound)
    inside (Some other) here sound = fault_inside text closing fault start is (here ∙ ap Some (err_same other fault sound))

-- ---- other characters

one_faulty : (b : Bool) (x : Front) (others : Result Front LexFault) (fault : LexFault) → (if b then Ok x else others) ≡ Err fault → others ≡ Err fault
one_faulty true x others fault found = absurd (not_faulty fault x found)
one_faulty false x others fault found = found

mark_faulty : (m : Option TokenKind) (fault : LexFault) → mark_front m ≡ Err fault → fault ≡ BadChar 0
mark_faulty None fault found = sym (err_same (BadChar 0) fault found)
mark_faulty (Some kind) fault found = absurd (not_faulty fault _ found)

piece_faulty : (c : ℕ) (cs : List ℕ) (fault : LexFault) → piece_from c cs ≡ Err fault → fault ≡ BadChar 0
piece_faulty c cs fault found =
    mark_faulty (mark_of c) fault
    (one_faulty (is_spread c cs) _ _ fault
    (one_faulty (is_byte_order_mark c cs) _ _ fault
    (one_faulty (c == 35) _ _ fault
    (one_faulty (is_blank c) _ _ fault
    (one_faulty (is_name_start c) _ _ fault found)))))

other_faulty : (floats : Bool) (text : List ℕ) (fault : LexFault) → begins_as_number text ≡ false → begins_with_mark text ≡ false → front_of floats text ≡ Err fault → fault ≡ BadChar 0
unfolding front_of
other_faulty floats [] fault no_number no_mark found = sym (err_same (BadChar 0) fault found)
other_faulty floats (c ∷ cs) fault no_number no_mark found = piece_faulty c cs fault (rw (no_number, no_mark) at found)

-- ---- the fault that is found begins the text

front_of_text : (floats : Bool) (text : List ℕ) → begins_with_mark text ≡ true → front_of floats text ≡ closed_text text (closing_of text)
unfolding front_of text_front
front_of_text floats [] is = absurd (cc)
front_of_text floats (c ∷ cs) is = rw (mark_no_number c is) (rw is refl)

pub fault_is : (floats : Bool) (text : List ℕ) (fault : LexFault) → front_of floats text ≡ Err fault → BeginsWithFault floats text fault
fault_is floats text fault found =
    let nothing : BeginsNothing floats text = begins_nothing floats text fault found in
    elim (cases_Bool (begins_as_number text)) [
      | inl t ↦ inl (number_faulty floats text fault (number_found text) nothing t refl (sym (front_of_number floats text t) ∙ found))
      | inr n ↦
          elim (cases_Bool (begins_with_mark text)) [
            | inl t ↦ text_faulty floats text fault (closing_of text) t refl (sym (front_of_text floats text t) ∙ found)
            | inr m ↦ inl (subst (IsFaultInFront floats text) (sym (other_faulty floats text fault n m found)) (refl, n, m, nothing))
          ]
    ]

-- ---- the fault with which a text begins is found

nothing_found : (floats : Bool) (text : List ℕ) (f : Front) → BeginsNothing floats text → front_of floats text ≡ Ok f → ⊥
nothing_found floats text f nothing found =
    let b : BeginsWith floats text f = begins_with floats text f found in
    nothing b.piece (drop f.length text) b.cut b.is b.ends

char_found : (floats : Bool) (text : List ℕ) (r : Result Front LexFault) → front_of floats text ≡ r → begins_as_number text ≡ false → begins_with_mark text ≡ false → BeginsNothing floats text → r ≡ Err (BadChar 0)
char_found floats text (Ok f) is n m nothing = absurd (nothing_found floats text f nothing is)
char_found floats text (Err fault) is n m nothing = ap err (other_faulty floats text fault n m is)

number_fault_found : (floats : Bool) (text : List ℕ) (o : Option Found) → number_found text ≡ o → BeginsNothing floats text → (BeginsWithFloat text → ⊥) → front_of floats text ≡ found_front floats text o → found_front floats text o ≡ Err (BadNumber 0)
number_fault_found floats text None is nothing none front = refl
number_fault_found floats text (Some n) is nothing none front =
    elim (cases_Bool n.is_float) [
      | inl t ↦ absurd (none (float_begins text n is t))
      | inr whole ↦
          elim (cases_Bool (integer_fits (take n.end text))) [
            | inl fits ↦ absurd (nothing_found floats text (front_with (Some Int) n.end) nothing (front ∙ found_fits whole fits))
            | inr no_fit ↦ found_great whole no_fit
          ]
    ]
  where
    found_fits : n.is_float ≡ false → integer_fits (take n.end text) ≡ true → found_front floats text (Some n) ≡ Ok (front_with (Some Int) n.end)
    found_fits whole fits = rw (whole, fits) refl

    found_great : n.is_float ≡ false → integer_fits (take n.end text) ≡ false → found_front floats text (Some n) ≡ Err (BadNumber 0)
    found_great whole fits = rw (whole, fits) refl

front_fault : (floats : Bool) (text : List ℕ) (fault : LexFault) → IsFaultInFront floats text fault → front_of floats text ≡ Err fault
front_fault floats text (BadChar at) is = char_found floats text (front_of floats text) refl is.1 is.2 is.3 ∙ ap (λ n. err (BadChar n)) (sym is.0)
front_fault floats text (BadNumber at) is =
    front_of_number floats text is.1 ∙ number_fault_found floats text (number_found text) refl is.2 is.3 (front_of_number floats text is.1) ∙ ap (λ n. err (BadNumber n)) (sym is.0)
front_fault floats text (OpenText at) is = front_of_text floats text is.1 ∙ ap (closed_text text) (never_closed text is.1 is.2) ∙ ap (λ n. err (OpenText n)) (sym is.0)
front_fault floats text (BadEscape at) is = absurd is
front_fault floats text (FloatValue at) is =
    front_of_number floats text (float_starts text is.2) ∙ ap (found_front floats text) (float_found text is.2) ∙ rw is.0 (ap (λ n. err (FloatValue n)) (sym is.1))
front_fault floats text Memory is = absurd is

inside_fault : (floats : Bool) (text : List ℕ) (fault : LexFault) → HasFaultInside text fault → front_of floats text ≡ Err fault
inside_fault floats text fault is = let f = inside_found text fault is in front_of_text floats text f.1 ∙ ap (closed_text text) f.2 ∙ ap (sound_text text f.0) f.3

pub fault_found : (floats : Bool) (text : List ℕ) (fault : LexFault) → BeginsWithFault floats text fault → front_of floats text ≡ Err fault
fault_found floats text fault is =
    elim is [
      | inl front ↦ front_fault floats text fault front
      | inr inside ↦ inside_fault floats text fault inside
    ]
