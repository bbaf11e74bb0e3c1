-- A string or block string is closed, and has a fault inside, exactly where scanning finds it.
use Rattle.std.proofs.Common.{ℕ, zero, suc, ◌+◌, ◌≡◌, ◌≤◌, ◌<◌, ◌⊎◌, inl, inr, true, false, List, [], ◌∷◌, ◌++◌, Option, None, Some, length, take, drop, refl, sym, ap, ◌∙◌, subst, arith, append_assoc}
use Rattle.std.specs.Prelude.{◌==◌, ◌&&◌, not, nat_lt}
use Rattle.std.specs.List.{prefix_len}
use Rattle.std.proofs.lemmas.Bool.{cases_Bool, eqb-true, and_parts}
use Rattle.std.proofs.lemmas.Bool.Decides.{nat_tests}
use Rattle.std.proofs.lemmas.List.{length-append, length-drop, take-append-drop}
use Rattle.std.proofs.lemmas.List.Folds.{length-prefix_len}
use Rattle.std.proofs.lemmas.Option.{same_Some}
use Rattle.gql_base.specs.declared.lexical.lexing.LexFault.{LexFault}
use Rattle.gql_base.specs.declared.lexical.lexing.LexFault.TheVariants.{BadChar, BadNumber, OpenText, BadEscape, FloatValue, Memory}
use Rattle.gql_base.specs.declared.lexical.strings.Escape.{Escape}
use Rattle.gql_base.specs.lexical.Characters.{is_comment_byte, is_block_byte, is_line_end}
use Rattle.gql_base.specs.lexical.Pieces.{BeginsWithout}
use Rattle.gql_base.specs.lexical.Scans.{closed_at, block_closed_at, escape_at, text_step, text_fault_at, text_fault, block_fault_after, block_fault, closing_of, fault_before}
use Rattle.gql_base.specs.lexical.Strings.{begins_with_mark, begins_with_marks, StringCharacter, plain, character_bytes, is_plain, AreCharacters, characters_bytes}
use Rattle.gql_base.proofs.LexicalLaws.Texts.{Closed, block_closed_is, inner_string, inner_block, three}
use Rattle.gql_base.proofs.LexicalLaws.Escapes.{no_escape}
use Rattle.gql_base.proofs.LexicalLaws.Runs.{run_is_whole, run_passes, run_stops}
use Rattle.gql_base.specs.lexical.BlockStrings.{marks, block_characters_bytes}
use Rattle.gql_base.specs.lexical.Closings.{RawCharacter, bare, taken_along, raw_bytes, IsRaw, AreRaw, raws_bytes, IsClosed, IsBlockClosed, HasClosing, BeginsNoCharacter, BeginsWithBad, StringFault, BlockFault, HasFaultInside}
use Rattle.gql_base.proofs.LexicalLaws.ScannedStrings.{Character, escape_in, characters_faultless, faultless, unclosed as unclosed_one, some_bytes, slash_escape}
use Rattle.gql_base.proofs.LexicalLaws.ScannedBlocks.{BlockCut, block_cut, unclosed}

-- ---- raw characters

raw_open : (r : RawCharacter) (rest : List ℕ) (at : ℕ) → IsRaw r → closed_at false at (raw_bytes r ++ rest) ≡ closed_at false (at + length (raw_bytes r)) rest
unfolding closed_at
raw_open (bare b) rest at is = rw (is.0, is.2, is.1) refl
raw_open (taken_along b) rest at is = rw (is) (ap (λ n. closed_at false n rest) (let e : at + 1 + 1 ≡ at + 2 = omega arith in e))

raws_open : (rs : List RawCharacter) (after : List ℕ) (at : ℕ) → AreRaw rs → closed_at false at (raws_bytes rs ++ 34 ∷ after) ≡ Some (at + length (raws_bytes rs))
unfolding closed_at
raws_open [] after at are = ap Some (let e : at ≡ at + 0 = omega arith in e)
raws_open (r ∷ rs) after at are =
    ap (closed_at false at) (append_assoc (raw_bytes r) (raws_bytes rs) (34 ∷ after)) ∙ (raw_open r (raws_bytes rs ++ 34 ∷ after) at are.0
    ∙ (raws_open rs after (at + length (raw_bytes r)) are.1 ∙ ap Some (omega (arith, length-append (raw_bytes r) (raws_bytes rs)))))

record Raws (text : List ℕ) (at closing : ℕ) : Type 0 where
  raws : List RawCharacter
  after : List ℕ
  cut : text ≡ raws_bytes raws ++ 34 ∷ after
  are : AreRaw raws
  place : closing ≡ at + length (raws_bytes raws)

raw_then : (r : RawCharacter) (rest : List ℕ) (at closing : ℕ) → IsRaw r → Raws rest (at + length (raw_bytes r)) closing → Raws (raw_bytes r ++ rest) at closing
raw_then r rest at closing is d = record {
  raws = r ∷ d.raws;
  after = d.after;
  cut = ap (λ (l : List ℕ). raw_bytes r ++ l) d.cut ∙ sym (append_assoc (raw_bytes r) (raws_bytes d.raws) (34 ∷ d.after));
  are = (is, d.are);
  place = omega (arith, d.place, length-append (raw_bytes r) (raws_bytes d.raws));
}

mutual
  unfolding closed_at

  raws_in : (at closing : ℕ) (text : List ℕ) → closed_at false at text ≡ Some closing → Raws text at closing
  raws_in at closing [] e = absurd (cc)
  raws_in at closing (c ∷ cs) e = elim (cases_Bool (c == 34)) [
    | inl t ↦ record { raws = []; after = cs; cut = ap (λ (x : ℕ). x ∷ cs) (eqb-true c 34 t); are = tt; place = let same : at ≡ closing = same_Some at closing (rw t at e) in omega (arith, same) }
    | inr m ↦ elim (cases_Bool (is_line_end c)) [
      | inl t ↦ absurd (let none : None ≡ Some closing = rw (m, t) at e in cc)
      | inr l ↦ elim (cases_Bool (c == 92)) [
        | inl s ↦ subst (λ (x : ℕ). Raws (x ∷ cs) at closing) (sym (eqb-true c 92 s)) (along_in at closing cs (rw (m, l, s) at e))
        | inr s ↦ raw_then (bare c) cs at closing (m, s, l) (raws_in (at + 1) closing cs (rw (m, l, s) at e))
      ]
    ]
  ]

  along_in : (at closing : ℕ) (text : List ℕ) → closed_at true (at + 1) text ≡ Some closing → Raws (92 ∷ text) at closing
  along_in at closing [] e = absurd (cc)
  along_in at closing (c ∷ cs) e = elim (cases_Bool (is_line_end c)) [
    | inl t ↦ absurd (let none : None ≡ Some closing = rw t at e in cc)
    | inr l ↦ raw_then (taken_along c) cs at closing l (raws_in (at + 2) closing cs (ap (λ n. closed_at false n cs) (let e : at + 2 ≡ at + 1 + 1 = omega arith in e) ∙ rw l at e))
  ]

-- ---- where the string or block string at the front is closed

closed_single : (cs : List ℕ) (k : ℕ) → closed_at false 1 cs ≡ Some k → (closed : IsClosed (34 ∷ cs)) × (k ≡ 1 + length (raws_bytes closed.raws))
closed_single cs k e = let r = raws_in 1 k cs e in (record { raws = r.raws; after = r.after; cut = ap (λ (l : List ℕ). 34 ∷ l) r.cut; are = r.are }, r.place)

closed_block : (cs : List ℕ) (k : ℕ) → block_closed_at 0 3 cs ≡ Some k → (closed : IsBlockClosed (marks ++ cs)) × (k ≡ 3 + length (block_characters_bytes closed.characters))
closed_block cs k e =
    let c : Closed cs marks 3 k = block_closed_is 0 3 cs k e in
    let b : BlockCut c.body = block_cut c.body c.after 3 (sym (ap (block_closed_at 0 3) c.cut) ∙ (e ∙ ap Some c.place)) in (
      record { characters = b.cs; after = c.after; cut = ap (λ (l : List ℕ). marks ++ l) (c.cut ∙ ap (λ (l : List ℕ). l ++ (marks ++ c.after)) b.cut); apart = b.apart },
      c.place ∙ ap (λ (l : List ℕ). 3 + length l) b.cut,
    )

-- the text begins with a string or block string that is closed at this place
record ClosedAt (text : List ℕ) (k : ℕ) : Type 0 where
  found : ((begins_with_marks text ≡ true) × (closed : IsBlockClosed text) × (k ≡ 3 + length (block_characters_bytes closed.characters))) ⊎ ((begins_with_marks text ≡ false) × (closed : IsClosed text) × (k ≡ 1 + length (raws_bytes closed.raws)))

marked : (text : List ℕ) → begins_with_marks text ≡ true → (cs : List ℕ) × (text ≡ marks ++ cs)
marked [] t = cc
marked (a ∷ []) t = cc
marked (a ∷ b ∷ []) t = cc
marked (a ∷ b ∷ c ∷ cs) t = let same = three a b c t in (cs, ap (λ (x : ℕ). x ∷ b ∷ c ∷ cs) same.0 ∙ (ap (λ (x : ℕ). 34 ∷ x ∷ c ∷ cs) same.1 ∙ ap (λ (x : ℕ). 34 ∷ 34 ∷ x ∷ cs) same.2))

one_mark : (text : List ℕ) → begins_with_mark text ≡ true → (cs : List ℕ) × (text ≡ 34 ∷ cs)
one_mark [] t = cc
one_mark (c ∷ cs) t = (cs, ap (λ (x : ℕ). x ∷ cs) (eqb-true c 34 t))

of_block : (text : List ℕ) → begins_with_marks text ≡ true → closing_of text ≡ block_closed_at 0 3 (drop 3 text)
of_block text t = rw t refl

of_single : (text : List ℕ) → begins_with_marks text ≡ false → closing_of text ≡ closed_at false 1 (drop 1 text)
of_single text f = rw f refl

closing_found : (text : List ℕ) (k : ℕ) → begins_with_mark text ≡ true → closing_of text ≡ Some k → ClosedAt text k
closing_found text k start e = elim (cases_Bool (begins_with_marks text)) [
  | inl t ↦
      let m = marked text t in
      let b = closed_block m.0 k (sym (ap (λ (l : List ℕ). block_closed_at 0 3 (drop 3 l)) m.1) ∙ (sym (of_block text t) ∙ e)) in
      subst (λ (l : List ℕ). ClosedAt l k) (sym m.1) (record { found = inl (refl, b.0, b.1) })
  | inr f ↦
      let m = one_mark text start in
      let b = closed_single m.0 k (sym (ap (λ (l : List ℕ). closed_at false 1 (drop 1 l)) m.1) ∙ (sym (of_single text f) ∙ e)) in
      subst (λ (l : List ℕ). ClosedAt l k) (sym m.1) (record { found = inr (sym (ap begins_with_marks m.1) ∙ f, b.0, b.1) })
]

block_closing : (text : List ℕ) → begins_with_marks text ≡ true → (closed : IsBlockClosed text) → closing_of text ≡ Some (3 + length (block_characters_bytes closed.characters))
block_closing text t closed = of_block text t ∙ (ap (λ (l : List ℕ). block_closed_at 0 3 (drop 3 l)) closed.cut ∙ unclosed closed.characters closed.after 3 closed.apart)

single_closing : (text : List ℕ) → begins_with_marks text ≡ false → (closed : IsClosed text) → closing_of text ≡ Some (1 + length (raws_bytes closed.raws))
single_closing text f closed = of_single text f ∙ (ap (λ (l : List ℕ). closed_at false 1 (drop 1 l)) closed.cut ∙ raws_open closed.raws closed.after 1 closed.are)

pub has_closing : (text : List ℕ) (k : ℕ) → begins_with_mark text ≡ true → closing_of text ≡ Some k → HasClosing text
has_closing text k start e = elim ((closing_found text k start e).found) [
  | inl b ↦ inl (b.0, b.1)
  | inr b ↦ inr (b.0, b.1)
]

pub no_closing : (text : List ℕ) → closing_of text ≡ None → HasClosing text → ⊥
no_closing text none (inl b) = let e = sym none ∙ block_closing text b.0 b.1 in cc
no_closing text none (inr b) = let e = sym none ∙ single_closing text b.0 b.1 in cc

pub never_closed : (text : List ℕ) → begins_with_mark text ≡ true → (HasClosing text → ⊥) → closing_of text ≡ None
never_closed text start none = by_place (closing_of text) refl
  where
    by_place : (o : Option ℕ) → closing_of text ≡ o → o ≡ None
    by_place None e = refl
    by_place (Some k) e = absurd (none (has_closing text k start e))

-- ---- the fault between the marks of a string

record FaultFrom (at : ℕ) (body : List ℕ) (fault : LexFault) : Type 0 where
  characters : List StringCharacter
  rest : List ℕ
  cut : body ≡ characters_bytes characters ++ rest
  are : AreCharacters characters
  bad : BeginsWithBad (at + length (characters_bytes characters)) rest fault

after_one : (at : ℕ) (body : List ℕ) (fault : LexFault) (c : Character body) → FaultFrom (at + length (character_bytes c.one)) c.rest fault → FaultFrom at body fault
after_one at body fault c f = record {
  characters = c.one ∷ f.characters;
  rest = f.rest;
  cut = c.cut ∙ (ap (λ (l : List ℕ). character_bytes c.one ++ l) f.cut ∙ sym (append_assoc (character_bytes c.one) (characters_bytes f.characters) f.rest));
  are = (c.is, f.are);
  bad = subst (λ n. BeginsWithBad n f.rest fault) (let e : at + length (character_bytes c.one) + length (characters_bytes f.characters) ≡ at + length (character_bytes c.one ++ characters_bytes f.characters) = omega (arith, length-append (character_bytes c.one) (characters_bytes f.characters)) in e) f.bad;
}

bad_here : (at c : ℕ) (cs : List ℕ) → escape_at (c ∷ cs) ≡ None → (not (c == 92) && is_comment_byte c) ≡ false → BeginsWithBad at (c ∷ cs) (text_fault_at c at)
bad_here at c cs none f = elim (cases_Bool (c == 92)) [
  | inl t ↦ subst (BeginsWithBad at (c ∷ cs)) (sym (slash c at t)) (refl, no_character c cs t none, (cs, ap (λ (x : ℕ). x ∷ cs) (eqb-true c 92 t)))
  | inr n ↦ subst (BeginsWithBad at (c ∷ cs)) (sym (control c at n)) (refl, (c, cs, refl, rw n at f))
]
  where
    slash : (c at : ℕ) → (c == 92) ≡ true → text_fault_at c at ≡ BadEscape at
    slash c at t = rw t refl

    control : (c at : ℕ) → (c == 92) ≡ false → text_fault_at c at ≡ BadChar at
    control c at n = rw n refl

    no_character : (c : ℕ) (cs : List ℕ) → (c == 92) ≡ true → escape_at (c ∷ cs) ≡ None → BeginsNoCharacter (c ∷ cs)
    no_character c cs t none = let same : c ≡ 92 = eqb-true c 92 t in λ x more e is. slash_escape x more cs is (ap (λ (y : ℕ). y ∷ cs) (sym same) ∙ e) (ap (λ (y : ℕ). escape_at (y ∷ cs)) (sym same) ∙ none)

here_fault : (at c : ℕ) (cs : List ℕ) → escape_at (c ∷ cs) ≡ None → (not (c == 92) && is_comment_byte c) ≡ false → text_fault 0 at (c ∷ cs) ≡ Some (text_fault_at c at)
unfolding text_fault text_step
here_fault at c cs none f = rw (none, f) refl

sound_byte : (at c : ℕ) (cs : List ℕ) → escape_at (c ∷ cs) ≡ None → (not (c == 92) && is_comment_byte c) ≡ true → text_fault 0 at (c ∷ cs) ≡ text_fault 0 (at + 1) cs
unfolding text_fault text_step
sound_byte at c cs none t = rw (none, t) refl

fault_same : (f g : LexFault) → Some f ≡ Some g → f ≡ g
fault_same f g e = cc

ends_here : (at c : ℕ) (cs after : List ℕ) → (c == 34) ≡ true → closed_at false at (c ∷ (cs ++ 34 ∷ after)) ≡ Some (at + suc (length cs)) → ⊥
unfolding closed_at
ends_here at c cs after m closed = let e : at ≡ at + suc (length cs) = same_Some _ _ (rw m at closed) in omega (arith, e)

plain_byte : (c : ℕ) → (not (c == 92) && is_comment_byte c) ≡ true → (c == 34) ≡ false → is_plain c ≡ true
plain_byte c t m = let p = and_parts (not (c == 92)) (is_comment_byte c) t in rw (p.0, p.1, m) refl

fault_at_front : (at c : ℕ) (cs after : List ℕ) (fault : LexFault) (o : Option Escape) → escape_at (c ∷ cs) ≡ o → text_fault 0 at (c ∷ cs) ≡ Some fault → closed_at false at (c ∷ (cs ++ 34 ∷ after)) ≡ Some (at + suc (length cs)) → Character (c ∷ cs) ⊎ FaultFrom at (c ∷ cs) fault
fault_at_front at c cs after fault (Some e) is found closed = inl (escape_in (c ∷ cs) e is)
fault_at_front at c cs after fault None is found closed = elim (cases_Bool (not (c == 92) && is_comment_byte c)) [
  | inr f ↦ inr (subst (FaultFrom at (c ∷ cs)) (fault_same _ _ (sym (here_fault at c cs is f) ∙ found)) (record { characters = []; rest = c ∷ cs; cut = refl; are = tt; bad = subst (λ n. BeginsWithBad n (c ∷ cs) (text_fault_at c at)) (let e : at ≡ at + 0 = omega arith in e) (bad_here at c cs is f) }))
  | inl t ↦ elim (cases_Bool (c == 34)) [
    | inl m ↦ absurd (ends_here at c cs after m closed)
    | inr m ↦ inl (record { one = plain c; rest = cs; cut = refl; is = plain_byte c t m })
  ]
]

fault_within : (n : ℕ) (body after : List ℕ) (at : ℕ) (fault : LexFault) → length body ≤ n → text_fault 0 at body ≡ Some fault → closed_at false at (body ++ 34 ∷ after) ≡ Some (at + length body) → FaultFrom at body fault
unfolding text_fault
fault_within n [] after at fault short found closed = absurd (cc)
fault_within zero (c ∷ cs) after at fault short found closed = absurd (omega (arith, short))
fault_within (suc n) (c ∷ cs) after at fault short found closed = elim (fault_at_front at c cs after fault (escape_at (c ∷ cs)) refl found closed) [
  | inr f ↦ f
  | inl f ↦
      let size : length (c ∷ cs) ≡ length (character_bytes f.one) + length f.rest = ap length f.cut ∙ length-append (character_bytes f.one) f.rest in
      after_one at (c ∷ cs) fault f (fault_within n f.rest after (at + length (character_bytes f.one)) fault (omega (arith, short, size, some_bytes f.one))
      (sym (faultless f.one f.rest at f.is) ∙ (sym (ap (text_fault 0 at) f.cut) ∙ found))
      (sym (unclosed_one f.one (f.rest ++ 34 ∷ after) at f.is) ∙ (sym (ap (closed_at false at) (append_assoc (character_bytes f.one) f.rest (34 ∷ after))) ∙ (sym (ap (λ xs. closed_at false at (xs ++ 34 ∷ after)) f.cut) ∙ (closed ∙ ap Some (omega (arith, size)))))))
]

string_fault : (body after : List ℕ) (fault : LexFault) → text_fault 0 1 body ≡ Some fault → closed_at false 1 (body ++ 34 ∷ after) ≡ Some (1 + length body) → StringFault body fault
string_fault body after fault found closed = let f = fault_within (length body) body after 1 fault (omega arith) found closed in record { characters = f.characters; rest = f.rest; cut = f.cut; are = f.are; bad = f.bad }

no_escape_here : (rest : List ℕ) → BeginsNoCharacter rest → escape_at rest ≡ None
no_escape_here rest none = by_escape (escape_at rest) refl
  where
    by_escape : (o : Option Escape) → escape_at rest ≡ o → o ≡ None
    by_escape None e = refl
    by_escape (Some e) is = let c = escape_in rest e is in absurd (none c.one c.rest c.cut c.is)

bad_found : (at : ℕ) (rest : List ℕ) (fault : LexFault) → BeginsWithBad at rest fault → text_fault 0 at rest ≡ Some fault
bad_found at rest (BadEscape place) is =
    let cut : rest ≡ 92 ∷ is.2.0 = is.2.1 in
    ap (text_fault 0 at) cut ∙ (here_fault at 92 is.2.0 (sym (ap escape_at cut) ∙ no_escape_here rest is.1) refl ∙ ap (λ n. Some (BadEscape n)) (sym is.0))
bad_found at rest (BadChar place) is =
    let c = is.1.0 in
    let slash : (c == 92) ≡ false = no_slash c is.1.3 in
    ap (text_fault 0 at) is.1.2 ∙ (here_fault at c is.1.1 (no_escape c is.1.1 slash) (both_fail c is.1.3) ∙ (told c slash ∙ ap (λ n. Some (BadChar n)) (sym is.0)))
  where
    no_slash : (c : ℕ) → is_comment_byte c ≡ false → (c == 92) ≡ false
    no_slash c f = grind (arith, nat_tests)

    both_fail : (c : ℕ) → is_comment_byte c ≡ false → (not (c == 92) && is_comment_byte c) ≡ false
    both_fail c f = rw (no_slash c f, f) refl

    told : (c : ℕ) → (c == 92) ≡ false → Some (text_fault_at c at) ≡ Some (BadChar at)
    told c n = rw n refl
bad_found at rest (BadNumber place) is = absurd is
bad_found at rest (OpenText place) is = absurd is
bad_found at rest (FloatValue place) is = absurd is
bad_found at rest Memory is = absurd is

fault_there : (body : List ℕ) (fault : LexFault) → StringFault body fault → text_fault 0 1 body ≡ Some fault
fault_there body fault f = ap (text_fault 0 1) f.cut ∙ (characters_faultless f.characters f.rest 1 f.are ∙ bad_found (1 + length (characters_bytes f.characters)) f.rest fault f.bad)

-- ---- the fault between the marks of a block string

block_of : (body : List ℕ) (fault : LexFault) (rest : List ℕ) → drop (prefix_len is_block_byte body) body ≡ rest → nat_lt (prefix_len is_block_byte body) (length body) ≡ true → fault ≡ BadChar (3 + prefix_len is_block_byte body) → BlockFault body fault
block_of body fault [] e below told = absurd (let size = length-drop (prefix_len is_block_byte body) body in let none : length (drop (prefix_len is_block_byte body) body) ≡ 0 = ap length e in let lt : prefix_len is_block_byte body < length body = grind (arith, nat_tests) in omega (arith, size, none, lt))
block_of body fault (c ∷ rest) e below told = record {
  good = take (prefix_len is_block_byte body) body;
  byte = c;
  rest = rest;
  cut = sym (take-append-drop (prefix_len is_block_byte body) body) ∙ ap (λ (l : List ℕ). take (prefix_len is_block_byte body) body ++ l) e;
  are = run_passes is_block_byte body;
  bad = subst (BeginsWithout is_block_byte) e (run_stops is_block_byte body);
  told = told ∙ ap (λ n. BadChar (3 + n)) (sym (length-prefix_len is_block_byte body));
}

block_string_fault : (body : List ℕ) (fault : LexFault) → block_fault 3 body ≡ Some fault → BlockFault body fault
block_string_fault body fault found = elim (cases_Bool (nat_lt (prefix_len is_block_byte body) (length body))) [
  | inl t ↦ block_of body fault (drop (prefix_len is_block_byte body) body) refl t (sym (fault_same _ _ (rw t at found)))
  | inr f ↦ absurd (let none : None ≡ Some fault = rw f at found in cc)
]

block_fault_there : (body : List ℕ) (fault : LexFault) → BlockFault body fault → block_fault 3 body ≡ Some fault
block_fault_there body fault f =
    let good : prefix_len is_block_byte body ≡ length f.good = ap (prefix_len is_block_byte) f.cut ∙ run_is_whole is_block_byte f.good (f.byte ∷ f.rest) f.are f.bad in
    let size : length body ≡ length f.good + suc (length f.rest) = ap length f.cut ∙ length-append f.good (f.byte ∷ f.rest) in
    at_place (prefix_len is_block_byte body) (length body) (omega (arith, good, size)) ∙ ap Some (ap (λ n. BadChar (3 + n)) good ∙ sym f.told)
  where
    at_place : (n m : ℕ) → n < m → block_fault_after 3 n m ≡ Some (BadChar (3 + n))
    at_place n m lt = let t : nat_lt n m ≡ true = grind (arith, nat_tests) in rw t refl

-- ---- faults inside

inside_block : (text : List ℕ) (closed : IsBlockClosed text) → drop 3 (take (3 + length (block_characters_bytes closed.characters)) text) ≡ block_characters_bytes closed.characters
inside_block text closed = ap (λ (l : List ℕ). drop 3 (take (3 + length (block_characters_bytes closed.characters)) l)) closed.cut ∙ inner_block (block_characters_bytes closed.characters) (marks ++ closed.after)

inside_single : (text : List ℕ) (closed : IsClosed text) → drop 1 (take (1 + length (raws_bytes closed.raws)) text) ≡ raws_bytes closed.raws
inside_single text closed = ap (λ (l : List ℕ). drop 1 (take (1 + length (raws_bytes closed.raws)) l)) closed.cut ∙ inner_string (raws_bytes closed.raws) (34 ∷ closed.after)

faults_block : (text : List ℕ) (k : ℕ) → begins_with_marks text ≡ true → fault_before k text ≡ block_fault 3 (drop 3 (take k text))
faults_block text k t = rw t refl

faults_single : (text : List ℕ) (k : ℕ) → begins_with_marks text ≡ false → fault_before k text ≡ text_fault 0 1 (drop 1 (take k text))
faults_single text k f = rw f refl

pub fault_inside : (text : List ℕ) (k : ℕ) (fault : LexFault) → begins_with_mark text ≡ true → closing_of text ≡ Some k → fault_before k text ≡ Some fault → HasFaultInside text fault
fault_inside text k fault start e found = elim ((closing_found text k start e).found) [
  | inl b ↦ inl (b.0, b.1, block_string_fault _ fault (sym (ap (block_fault 3) (inside_block text b.1)) ∙ (sym (faults_block text _ b.0) ∙ (ap (λ n. fault_before n text) (sym b.2) ∙ found))))
  | inr b ↦ inr (b.0, b.1, string_fault _ b.1.after fault (sym (ap (text_fault 0 1) (inside_single text b.1)) ∙ (sym (faults_single text _ b.0) ∙ (ap (λ n. fault_before n text) (sym b.2) ∙ found))) (raws_open b.1.raws b.1.after 1 b.1.are))
]

pub inside_found : (text : List ℕ) (fault : LexFault) → HasFaultInside text fault → (k : ℕ) × (begins_with_mark text ≡ true) × (closing_of text ≡ Some k) × (fault_before k text ≡ Some fault)
inside_found text fault (inl b) = (3 + length (block_characters_bytes b.1.characters), ap begins_with_mark b.1.cut, block_closing text b.0 b.1, faults_block text _ b.0 ∙ (ap (block_fault 3) (inside_block text b.1) ∙ block_fault_there _ fault b.2))
inside_found text fault (inr b) = (1 + length (raws_bytes b.1.raws), ap begins_with_mark b.1.cut, single_closing text b.0 b.1, faults_single text _ b.0 ∙ (ap (text_fault 0 1) (inside_single text b.1) ∙ fault_there _ fault b.2))

pub no_memory_inside : (text : List ℕ) → HasFaultInside text Memory → ⊥
no_memory_inside text (inl b) = let e = b.2.told in cc
no_memory_inside text (inr b) = b.2.bad
