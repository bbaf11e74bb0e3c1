-- The value of a string, piece by piece.
use Rattle.std.proofs.Common.{◌≡◌, inl, inr, ℕ, zero, suc, ◌+◌, ◌-◌, ◌<◌, ◌≤◌, Bool, true, false, not, ◌==◌, List, [], ◌∷◌, ◌++◌, length, take, drop, get_or, IsUtf8, IsCharBoundary, refl, sym, ap, ◌∙◌, arith, Some, None, subst}
use Rattle.std.specs.List.{AllPass, prefix_len}
use Rattle.std.specs.Char.{encode_utf8}
use Rattle.std.proofs.lemmas.Bool.{cases_Bool, eqb-true, cases_lt}
use Rattle.std.proofs.lemmas.List.{length-drop, drop-drop, drop_all, append_assoc, append-nil, take-append-drop, get_or-drop}
use Rattle.std.proofs.lemmas.List.Elements.{All-head, All-tail}
use Rattle.std.proofs.lemmas.List.Sums.{prefix_len_stops, prefix_len-le-length}
use Rattle.std.proofs.lemmas.Str.{IsCharBoundary-end, IsCharBoundary-before_ascii, IsCharBoundary-after_ascii}
use Rattle.gql_base.specs.declared.lexical.strings.Escape.{Escape}
use Rattle.gql_base.specs.lexical.Scans.{escape_at, part_value, step_with, text_value, is_plain_byte}
use Rattle.gql_base.proofs.LexicalLaws.Runs.{run_passes}
use Rattle.gql_base.proofs.LexicalLaws.StringScans.{drop_head}
use Rattle.gql_base.proofs.LexicalLaws.Escapes.{no_escape}

value_skip : (n : ℕ) (text : List ℕ) → text_value n text ≡ text_value 0 (drop n text)
unfolding text_value
value_skip zero text = refl
value_skip (suc n) [] = refl
value_skip (suc n) (c ∷ cs) = value_skip n cs

value_step : (c : ℕ) (cs : List ℕ) → text_value 0 (c ∷ cs) ≡ part_value c (escape_at (c ∷ cs)) ++ text_value (step_with (escape_at (c ∷ cs)) 1 - 1) cs
unfolding text_value
value_step c cs = refl

pub value_alone : (c : ℕ) (cs : List ℕ) → escape_at (c ∷ cs) ≡ None → text_value 0 (c ∷ cs) ≡ c ∷ text_value 0 cs
value_alone c cs none = value_step c cs ∙ rw none refl

pub value_escape : (c : ℕ) (cs : List ℕ) (e : Escape) → escape_at (c ∷ cs) ≡ Some e → text_value 0 (c ∷ cs) ≡ encode_utf8 e.character ++ text_value 0 (drop (e.length - 1) cs)
value_escape c cs e is = value_step c cs ∙ rw is (ap (λ xs. encode_utf8 e.character ++ xs) (value_skip (e.length - 1) cs))

pub value_plain : (xs rest : List ℕ) → AllPass is_plain_byte xs → text_value 0 (xs ++ rest) ≡ xs ++ text_value 0 rest
value_plain [] rest all = refl
value_plain (x ∷ xs) rest all =
    value_alone x (xs ++ rest) (no_escape x (xs ++ rest) (other x (All-head (λ c. is_plain_byte c ≡ true) x xs all)))
    ∙ ap (λ ys. x ∷ ys) (value_plain xs rest (All-tail (λ c. is_plain_byte c ≡ true) x xs all))
  where
    negated : (b : Bool) → not b ≡ true → b ≡ false
    negated true e = absurd (let no_way : false ≡ true = e in cc)
    negated false e = refl

    other : (c : ℕ) → is_plain_byte c ≡ true → (c == 92) ≡ false
    other c is = negated (c == 92) is

-- ---- at a place of a text

pub value_of_escape : (text : List ℕ) (at : ℕ) (e : Escape) → at < length text → 0 < e.length → escape_at (drop at text) ≡ Some e → text_value 0 (drop at text) ≡ encode_utf8 e.character ++ text_value 0 (drop (at + e.length) text)
value_of_escape text at e below some is =
    let head : drop at text ≡ get_or text at 0 ∷ drop (at + 1) text = drop_head text at below in
    let place : at + 1 + (e.length - 1) ≡ at + e.length = omega (arith, some) in
    ap (text_value 0) head
    ∙ value_escape (get_or text at 0) (drop (at + 1) text) e (sym (ap escape_at head) ∙ is)
    ∙ ap (λ xs. encode_utf8 e.character ++ text_value 0 xs) (drop-drop (e.length - 1) (at + 1) text ∙ ap (λ k. drop k text) place)

-- a byte that begins no escape, and the bytes up to the next `\`
pub value_of_run : (text : List ℕ) (at end : ℕ) → at < length text → escape_at (drop at text) ≡ None → end ≡ at + 1 + prefix_len is_plain_byte (drop (at + 1) text) → text_value 0 (drop at text) ≡ take (end - at) (drop at text) ++ text_value 0 (drop end text)
value_of_run text at end below none is =
    let m : ℕ = prefix_len is_plain_byte (drop (at + 1) text) in
    let head : drop at text ≡ get_or text at 0 ∷ drop (at + 1) text = drop_head text at below in
    let run : drop (at + 1) text ≡ take m (drop (at + 1) text) ++ drop m (drop (at + 1) text) = sym (take-append-drop m (drop (at + 1) text)) in
    let rest : drop m (drop (at + 1) text) ≡ drop end text = drop-drop m (at + 1) text ∙ ap (λ k. drop k text) (sym is) in
    let size : end - at ≡ suc m = omega (arith, is) in
    let taken : take (end - at) (drop at text) ≡ get_or text at 0 ∷ take m (drop (at + 1) text) = ap (λ k. take k (drop at text)) size ∙ ap (take (suc m)) head in
    ap (text_value 0) head
    ∙ value_alone (get_or text at 0) (drop (at + 1) text) (sym (ap escape_at head) ∙ none)
    ∙ ap (λ xs. get_or text at 0 ∷ text_value 0 xs) run
    ∙ ap (λ xs. get_or text at 0 ∷ xs) (value_plain (take m (drop (at + 1) text)) (drop m (drop (at + 1) text)) (run_passes is_plain_byte (drop (at + 1) text)))
    ∙ ap (λ xs. get_or text at 0 ∷ (take m (drop (at + 1) text) ++ text_value 0 xs)) rest
    ∙ sym (ap (λ xs. xs ++ text_value 0 (drop end text)) taken)

pub value_of_none : (text : List ℕ) (at : ℕ) → length text ≤ at → text_value 0 (drop at text) ≡ []
unfolding text_value
value_of_none text at past = ap (text_value 0) (drop_all at text past)

-- ---- borders

pub border_of_run : (text : List ℕ) (at end : ℕ) → at < length text → end ≡ at + 1 + prefix_len is_plain_byte (drop (at + 1) text) → (end ≤ length text) × IsCharBoundary text end
border_of_run text at end below is =
    let within : end ≤ length text = omega (arith, is, prefix_len-le-length is_plain_byte (drop (at + 1) text), length-drop (at + 1) text, below) in (
      within,
      elim (cases_lt end (length text)) [
        | inl inside ↦ IsCharBoundary-before_ascii text end inside (stop inside)
        | inr past ↦ let same : length text ≡ end = omega (arith, past, within) in subst (IsCharBoundary text) same (IsCharBoundary-end text)
      ],
    )
  where
    not_plain : (c : ℕ) → is_plain_byte c ≡ false → c < 128
    not_plain c no_plain = elim (cases_Bool (c == 92)) [
      | inl t ↦ omega (arith, eqb-true c 92 t)
      | inr f ↦ absurd (let no_way : true ≡ false = sym (ap not f) ∙ no_plain in cc)
    ]

    stop : end < length text → get_or text end 0 < 128
    stop inside =
        let place : at + 1 + prefix_len is_plain_byte (drop (at + 1) text) ≡ end = sym is in
        let here : get_or (drop (at + 1) text) (prefix_len is_plain_byte (drop (at + 1) text)) 0 ≡ get_or text end 0 = get_or-drop (at + 1) text (prefix_len is_plain_byte (drop (at + 1) text)) 0 ∙ ap (λ k. get_or text k 0) place in
        not_plain (get_or text end 0) (sym (ap is_plain_byte here) ∙ prefix_len_stops is_plain_byte (drop (at + 1) text) 0 (omega (arith, is, inside, length-drop (at + 1) text, below)))

pub border_of_escape : (text : List ℕ) (at size : ℕ) → IsUtf8 text → 0 < size → at + size ≤ length text → get_or (drop at text) (size - 1) 0 < 128 → IsCharBoundary text (at + size)
border_of_escape text at size utf8 some within small =
    let place : at + (size - 1) + 1 ≡ at + size = omega (arith, some) in
    subst (IsCharBoundary text) place (IsCharBoundary-after_ascii text (at + (size - 1)) utf8 (omega (arith, some, within)) (subst (λ b. b < 128) (get_or-drop at text (size - 1) 0) small))

-- what is added to the value so far is the value of what is left in front
pub added : (old more new left rest whole : List ℕ) → new ≡ old ++ more → left ≡ more ++ rest → old ++ left ≡ whole → new ++ rest ≡ whole
added old more new left rest whole grown parts so_far =
    ap (λ xs. xs ++ rest) grown ∙ append_assoc old more rest ∙ ap (λ xs. old ++ xs) (sym parts) ∙ so_far

pub nothing_added : (old left whole : List ℕ) → left ≡ [] → old ++ left ≡ whole → old ≡ whole
nothing_added old left whole none so_far = sym (append-nil old) ∙ ap (λ xs. old ++ xs) (sym none) ∙ so_far
