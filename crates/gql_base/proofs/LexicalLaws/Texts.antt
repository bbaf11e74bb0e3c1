-- The string or block string that is found at the front of a text is the one that stands there.
use Rattle.std.proofs.Common.{◌≡◌, inl, inr, ℕ, zero, suc, ◌+◌, Bool, true, false, ◌==◌, ◌&&◌, if◌then◌else◌, List, [], ◌∷◌, ◌++◌, length, take, drop, refl, sym, ap, ◌∙◌, arith, Option, Some, None, Result, Ok, Err, subst}
use Rattle.std.proofs.lemmas.Bool.{cases_Bool, eqb-true}
use Rattle.std.proofs.lemmas.Bool.Decides.{nat_tests}
use Rattle.std.proofs.lemmas.List.{take_at}
use Rattle.std.proofs.lemmas.Option.{same_Some}
use Rattle.gql_base.specs.declared.lexical.lexing.Front.{Front}
use Rattle.gql_base.specs.declared.lexical.lexing.LexFault.{LexFault}
use Rattle.gql_base.specs.declared.lexical.token.TokenKind.TheVariants.{Str, BlockStr}
use Rattle.gql_base.specs.lexical.Characters.{is_line_end}
use Rattle.gql_base.specs.lexical.Strings.{begins_with_marks}
use Rattle.gql_base.specs.lexical.Scans.{closed_at, block_closed_at, text_fault, block_fault, closing_of, fault_before}
use Rattle.gql_base.specs.lexical.Fronts.{front_with, sound_text, closed_text, text_front}

pub record Closed (text : List ℕ) (mark : List ℕ) (at closing : ℕ) : Type 0 where
  pub body : List ℕ
  pub after : List ℕ
  pub cut : text ≡ body ++ (mark ++ after)
  pub place : closing ≡ at + length body

longer : (text mark : List ℕ) (c at closing : ℕ) → Closed text mark (at + 1) closing → Closed (c ∷ text) mark at closing
longer text mark c at closing d = record { body = c ∷ d.body; after = d.after; cut = ap (λ xs. c ∷ xs) d.cut; place = omega (arith, d.place) }

pub closed_is : (e : Bool) (at : ℕ) (text : List ℕ) (closing : ℕ) → closed_at e at text ≡ Some closing → Closed text (34 ∷ []) at closing
unfolding closed_at
closed_is true at [] closing is = absurd (cc)
closed_is false at [] closing is = absurd (cc)
closed_is true at (c ∷ cs) closing is =
    elim (cases_Bool (is_line_end c)) [
      | inl t ↦ absurd (let no_one : None ≡ Some closing = rw t at is in cc)
      | inr f ↦ longer cs (34 ∷ []) c at closing (closed_is false (at + 1) cs closing (rw f at is))
    ]
closed_is false at (c ∷ cs) closing is =
    elim (cases_Bool (c == 34)) [
      | inl t ↦ record { body = []; after = cs; cut = ap (λ x. x ∷ cs) (eqb-true c 34 t); place = let same : at ≡ closing = same_Some at closing (rw t at is) in omega (arith, same) }
      | inr f ↦
          elim (cases_Bool (is_line_end c)) [
            | inl t ↦ absurd (let no_one : None ≡ Some closing = rw (f, t) at is in cc)
            | inr g ↦ longer cs (34 ∷ []) c at closing (closed_is (c == 92) (at + 1) cs closing (rw (f, g) at is))
          ]
    ]

pub three : (a b c : ℕ) → ((a == 34) && (b == 34) && (c == 34)) ≡ true → (a ≡ 34) × (b ≡ 34) × (c ≡ 34)
three a b c is = grind (arith, nat_tests)

marks_are : (text : List ℕ) (at : ℕ) → begins_with_marks text ≡ true → Closed text (34 ∷ 34 ∷ 34 ∷ []) at at
marks_are [] at is = absurd (cc)
marks_are (a ∷ []) at is = absurd (cc)
marks_are (a ∷ b ∷ []) at is = absurd (cc)
marks_are (a ∷ b ∷ c ∷ cs) at is =
    let same : (a ≡ 34) × (b ≡ 34) × (c ≡ 34) = three a b c is in
    record { body = []; after = cs; cut = rw (same.0, same.1, same.2) refl; place = omega arith }

pub block_closed_is : (skipped at : ℕ) (text : List ℕ) (closing : ℕ) → block_closed_at skipped at text ≡ Some closing → Closed text (34 ∷ 34 ∷ 34 ∷ []) at closing
unfolding block_closed_at
block_closed_is skipped at [] closing is = absurd (cc)
block_closed_is (suc n) at (c ∷ cs) closing is = longer cs (34 ∷ 34 ∷ 34 ∷ []) c at closing (block_closed_is n (at + 1) cs closing is)
block_closed_is zero at (c ∷ cs) closing is =
    elim (cases_Bool (begins_with_marks (c ∷ cs))) [
      | inl t ↦ let same : at ≡ closing = same_Some at closing (rw t at is) in subst (Closed (c ∷ cs) (34 ∷ 34 ∷ 34 ∷ []) at) same (marks_are (c ∷ cs) at t)
      | inr f ↦ longer cs (34 ∷ 34 ∷ 34 ∷ []) c at closing (block_closed_is (if (c == 92) && begins_with_marks cs then 3 else 0) (at + 1) cs closing (rw f at is))
    ]

-- ---- what is there is found

pub inner_string : (body after : List ℕ) → drop 1 (take (1 + length body) (34 ∷ (body ++ after))) ≡ body
inner_string body after =
    let e : 1 + length body ≡ suc (length body) = omega arith in
    ap (λ k. drop 1 (take k (34 ∷ (body ++ after)))) e ∙ take_at body after (length body) refl

pub inner_block : (body after : List ℕ) → drop 3 (take (3 + length body) (34 ∷ 34 ∷ 34 ∷ (body ++ after))) ≡ body
inner_block body after =
    let e : 3 + length body ≡ suc (suc (suc (length body))) = omega arith in
    ap (λ k. drop 3 (take k (34 ∷ 34 ∷ 34 ∷ (body ++ after)))) e ∙ take_at body after (length body) refl

pub string_there : (body after : List ℕ) → closed_at false 1 (body ++ 34 ∷ after) ≡ Some (1 + length body) → begins_with_marks (34 ∷ (body ++ 34 ∷ after)) ≡ false → text_fault 0 1 body ≡ None → text_front (34 ∷ (body ++ 34 ∷ after)) ≡ Ok (front_with (Some Str) (1 + length body + 1))
unfolding text_front
string_there body after closed single sound = rw single (rw closed (rw single (rw (inner_string body (34 ∷ after)) (rw sound (rw single refl)))))

pub block_there : (body after : List ℕ) → block_closed_at 0 3 (body ++ 34 ∷ 34 ∷ 34 ∷ after) ≡ Some (3 + length body) → block_fault 3 body ≡ None → text_front (34 ∷ 34 ∷ 34 ∷ (body ++ 34 ∷ 34 ∷ 34 ∷ after)) ≡ Ok (front_with (Some BlockStr) (3 + length body + 3))
unfolding text_front
block_there body after closed sound = rw closed (rw (inner_block body (34 ∷ 34 ∷ 34 ∷ after)) (rw sound refl))

-- ---- what is found is there

-- A string that is closed and has no fault begins the text, and so do its token's bytes.
pub record StringThere (text : List ℕ) (f : Front) : Type 0 where
  pub body : List ℕ
  pub after : List ℕ
  pub cut : text ≡ 34 ∷ (body ++ 34 ∷ after)
  pub sound : text_fault 0 1 body ≡ None
  pub closed : closed_at false 1 (body ++ 34 ∷ after) ≡ Some (1 + length body)
  pub single : begins_with_marks (34 ∷ (body ++ 34 ∷ after)) ≡ false
  pub told : front_with (Some Str) (1 + length body + 1) ≡ f

pub record BlockThere (text : List ℕ) (f : Front) : Type 0 where
  pub body : List ℕ
  pub after : List ℕ
  pub cut : text ≡ 34 ∷ 34 ∷ 34 ∷ (body ++ 34 ∷ 34 ∷ 34 ∷ after)
  pub sound : block_fault 3 body ≡ None
  pub closed : block_closed_at 0 3 (body ++ 34 ∷ 34 ∷ 34 ∷ after) ≡ Some (3 + length body)
  pub told : front_with (Some BlockStr) (3 + length body + 3) ≡ f

abbrev the_front : Front → Result Front LexFault
the_front f = Ok f

abbrev the_fault : LexFault → Result Front LexFault
the_fault fault = Err fault

ok_is : (f g : Front) → (the_front f ≡ the_front g) → f ≡ g
ok_is f g same = cc

not_found : (fault : LexFault) (f : Front) → the_fault fault ≡ the_front f → ⊥
not_found fault f same = cc

string_sound : (cs body after : List ℕ) (f : Front) (o : Option LexFault) → cs ≡ body ++ 34 ∷ after → closed_at false 1 cs ≡ Some (1 + length body) → begins_with_marks (34 ∷ cs) ≡ false → text_fault 0 1 body ≡ o → sound_text (34 ∷ cs) (1 + length body) o ≡ Ok f → StringThere (34 ∷ cs) f
string_sound cs body after f (Some fault) cut closed single sound found = absurd (not_found fault f found)
string_sound cs body after f None cut closed single sound found = record {
  body = body;
  after = after;
  cut = ap (λ xs. 34 ∷ xs) cut;
  sound = sound;
  closed = sym (ap (closed_at false 1) cut) ∙ closed;
  single = sym (ap (λ xs. begins_with_marks (34 ∷ xs)) cut) ∙ single;
  told = ok_is _ _ (rw single at found);
}

string_found : (cs : List ℕ) (f : Front) (closing : Option ℕ) → begins_with_marks (34 ∷ cs) ≡ false → closed_at false 1 cs ≡ closing → closed_text (34 ∷ cs) closing ≡ Ok f → StringThere (34 ∷ cs) f
string_found cs f None single closed found = absurd (cc)
string_found cs f (Some closing) single closed found =
    let c : Closed cs (34 ∷ []) 1 closing = closed_is false 1 cs closing closed in
    let here : closed_at false 1 cs ≡ Some (1 + length c.body) = closed ∙ ap Some c.place in
    let inside : drop 1 (take (1 + length c.body) (34 ∷ cs)) ≡ c.body = ap (λ xs. drop 1 (take (1 + length c.body) (34 ∷ xs))) c.cut ∙ inner_string c.body (34 ∷ c.after) in
    let front : sound_text (34 ∷ cs) (1 + length c.body) (text_fault 0 1 c.body) ≡ Ok f =
    sym (ap (λ xs. sound_text (34 ∷ cs) (1 + length c.body) (text_fault 0 1 xs)) inside)
    ∙ ap (λ o. sound_text (34 ∷ cs) (1 + length c.body) o) (faults_of single (1 + length c.body))
    ∙ ap (λ k. sound_text (34 ∷ cs) k (fault_before k (34 ∷ cs))) (sym c.place)
    ∙ found in
    string_sound cs c.body c.after f (text_fault 0 1 c.body) c.cut here single refl front
  where
    faults_of : begins_with_marks (34 ∷ cs) ≡ false → (k : ℕ) → text_fault 0 1 (drop 1 (take k (34 ∷ cs))) ≡ fault_before k (34 ∷ cs)
    faults_of one k = rw one refl

block_sound : (cs body after : List ℕ) (f : Front) (o : Option LexFault) → cs ≡ body ++ 34 ∷ 34 ∷ 34 ∷ after → block_closed_at 0 3 cs ≡ Some (3 + length body) → block_fault 3 body ≡ o → sound_text (34 ∷ 34 ∷ 34 ∷ cs) (3 + length body) o ≡ Ok f → BlockThere (34 ∷ 34 ∷ 34 ∷ cs) f
block_sound cs body after f (Some fault) cut closed sound found = absurd (not_found fault f found)
block_sound cs body after f None cut closed sound found = record {
  body = body;
  after = after;
  cut = ap (λ xs. 34 ∷ 34 ∷ 34 ∷ xs) cut;
  sound = sound;
  closed = sym (ap (block_closed_at 0 3) cut) ∙ closed;
  told = ok_is _ _ found;
}

block_found : (cs : List ℕ) (f : Front) (closing : Option ℕ) → block_closed_at 0 3 cs ≡ closing → closed_text (34 ∷ 34 ∷ 34 ∷ cs) closing ≡ Ok f → BlockThere (34 ∷ 34 ∷ 34 ∷ cs) f
block_found cs f None closed found = absurd (cc)
block_found cs f (Some closing) closed found =
    let c : Closed cs (34 ∷ 34 ∷ 34 ∷ []) 3 closing = block_closed_is 0 3 cs closing closed in
    let inside : drop 3 (take (3 + length c.body) (34 ∷ 34 ∷ 34 ∷ cs)) ≡ c.body = ap (λ xs. drop 3 (take (3 + length c.body) (34 ∷ 34 ∷ 34 ∷ xs))) c.cut ∙ inner_block c.body (34 ∷ 34 ∷ 34 ∷ c.after) in
    let front : sound_text (34 ∷ 34 ∷ 34 ∷ cs) (3 + length c.body) (block_fault 3 c.body) ≡ Ok f =
    sym (ap (λ xs. sound_text (34 ∷ 34 ∷ 34 ∷ cs) (3 + length c.body) (block_fault 3 xs)) inside)
    ∙ ap (λ k. sound_text (34 ∷ 34 ∷ 34 ∷ cs) k (fault_before k (34 ∷ 34 ∷ 34 ∷ cs))) (sym c.place)
    ∙ found in
    block_sound cs c.body c.after f (block_fault 3 c.body) c.cut (closed ∙ ap Some c.place) refl front

pub text_found_single : (cs : List ℕ) (f : Front) → begins_with_marks (34 ∷ cs) ≡ false → text_front (34 ∷ cs) ≡ Ok f → StringThere (34 ∷ cs) f
unfolding text_front
text_found_single cs f single found = string_found cs f (closed_at false 1 cs) single refl (sym (ap (closed_text (34 ∷ cs)) (closing_single single)) ∙ found)
  where
    closing_single : begins_with_marks (34 ∷ cs) ≡ false → closing_of (34 ∷ cs) ≡ closed_at false 1 cs
    closing_single one = rw one refl

pub text_found_block : (text : List ℕ) (f : Front) → begins_with_marks text ≡ true → text_front text ≡ Ok f → BlockThere text f
unfolding text_front
text_found_block [] f marks found = absurd (cc)
text_found_block (a ∷ []) f marks found = absurd (cc)
text_found_block (a ∷ b ∷ []) f marks found = absurd (cc)
text_found_block (a ∷ b ∷ c ∷ cs) f marks found =
    let same : (a ≡ 34) × (b ≡ 34) × (c ≡ 34) = three a b c marks in
    rw (same.0, same.1, same.2) (block_found cs f (block_closed_at 0 3 cs) refl (rw (same.0, same.1, same.2) at found))
