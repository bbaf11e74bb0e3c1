-- The places where strings are closed, and their faults, byte by byte.
use Rattle.std.proofs.Common.{◌≡◌, ◌⊎◌, inl, inr, ℕ, zero, suc, ◌+◌, ◌-◌, ◌<◌, ◌≤◌, Bool, true, false, not, ◌==◌, ◌&&◌, List, [], ◌∷◌, length, drop, get_or, refl, sym, ap, ◌∙◌, arith, Option, Some, None}
use Rattle.std.specs.Option.{IsSome, IfSome}
use Rattle.std.proofs.lemmas.List.{drop_all, drop-drop}
use Rattle.std.proofs.Math.Bool.{and-false}
use Rattle.std.proofs.lemmas.Bool.{lt-ltb, le-ltb}
use Rattle.gql_base.specs.declared.lexical.strings.Escape.{Escape}
use Rattle.std.specs.List.{prefix_len}
use Rattle.std.proofs.lemmas.Bool.Decides.{nat_tests}
use Rattle.gql_base.specs.declared.lexical.lexing.LexFault.TheVariants.{BadChar}
use Rattle.gql_base.specs.lexical.Characters.{is_line_end, is_block_byte}
use Rattle.gql_base.specs.lexical.Strings.{begins_with_marks}
use Rattle.gql_base.specs.lexical.Scans.{closed_at, block_closed_at, text_step, text_fault_at, text_fault, block_fault}

pub drop_head : (text : List ℕ) (at : ℕ) → at < length text → drop at text ≡ get_or text at 0 ∷ drop (at + 1) text
drop_head [] at below = absurd (omega (arith, below))
drop_head (c ∷ cs) zero below = refl
drop_head (c ∷ cs) (suc n) below = let e : suc n + 1 ≡ suc (n + 1) = omega arith in rw e (drop_head cs n (omega (arith, below)))

pub drop_past : (text : List ℕ) (at : ℕ) → length text ≤ at → drop at text ≡ []
drop_past text at past = drop_all at text past

-- the escape of code units fits where they stand
pub escape_within : (e : Option Escape) (unit next : Option ℕ) (n m : ℕ) → IfSome e (λ escape. (IsSome unit × (escape.length ≡ 6)) ⊎ ((escape.length ≡ 12) × IsSome next)) → IfSome unit (λ x. (x < 65536) × (6 ≤ n)) → IfSome next (λ x. (x < 65536) × (6 ≤ m)) → m ≤ n - 6 → IfSome e (λ escape. (0 < escape.length) × (escape.length ≤ n))
escape_within None unit next n m is first second rest = tt
escape_within (Some e) None None n m is first second rest = elim is [
  | inl h ↦ absurd (let no : false ≡ true = h.0 in cc)
  | inr h ↦ absurd (let no : false ≡ true = h.1 in cc)
]
escape_within (Some e) None (Some y) n m is first second rest = elim is [
  | inl h ↦ absurd (let no : false ≡ true = h.0 in cc)
  | inr h ↦ (omega (arith, h.0), omega (arith, h.0, second.1, rest))
]
escape_within (Some e) (Some x) None n m is first second rest = elim is [
  | inl h ↦ (omega (arith, h.1), omega (arith, h.1, first.1))
  | inr h ↦ absurd (let no : false ≡ true = h.1 in cc)
]
escape_within (Some e) (Some x) (Some y) n m is first second rest = elim is [
  | inl h ↦ (omega (arith, h.1), omega (arith, h.1, first.1))
  | inr h ↦ (omega (arith, h.0), omega (arith, h.0, second.1, rest))
]

-- ---- strings

and_true : (b : Bool) → (b && true) ≡ false → b ≡ false
and_true true e = cc
and_true false e = refl

closed_here : (c at : ℕ) (cs : List ℕ) → (c == 34) ≡ true → closed_at false at (c ∷ cs) ≡ Some at
unfolding closed_at
closed_here c at cs is = rw is refl

closed_nowhere : (e : Bool) (c at : ℕ) (cs : List ℕ) → ((c == 34) && not e) ≡ false → is_line_end c ≡ true → closed_at e at (c ∷ cs) ≡ None
unfolding closed_at
closed_nowhere true c at cs other is = rw is refl
closed_nowhere false c at cs other is = rw (and_true (c == 34) other) (rw is refl)

closed_later : (e : Bool) (c at : ℕ) (cs : List ℕ) → ((c == 34) && not e) ≡ false → is_line_end c ≡ false → closed_at e at (c ∷ cs) ≡ closed_at ((c == 92) && not e) (at + 1) cs
unfolding closed_at
closed_later true c at cs other is = rw is (rw (and-false (c == 92)) refl)
closed_later false c at cs other is = rw (and_true (c == 34) other) (rw is (and_again (c == 92)))
  where
    and_again : (b : Bool) → closed_at b (at + 1) cs ≡ closed_at (b && true) (at + 1) cs
    and_again true = refl
    and_again false = refl

closed_in_none : (e : Bool) (at : ℕ) → closed_at e at [] ≡ None
unfolding closed_at
closed_in_none true at = refl
closed_in_none false at = refl

pub string_closes : (text : List ℕ) (at : ℕ) → at < length text → (get_or text at 0 == 34) ≡ true → closed_at false at (drop at text) ≡ Some at
string_closes text at below is = ap (closed_at false at) (drop_head text at below) ∙ closed_here (get_or text at 0) at (drop (at + 1) text) is

pub closes_unescaped : (e : Bool) (text : List ℕ) (at : ℕ) → at < length text → ((get_or text at 0 == 34) && not e) ≡ true → closed_at e at (drop at text) ≡ Some at
closes_unescaped true text at below is = absurd (let no : ((get_or text at 0 == 34) && false) ≡ false = and-false (get_or text at 0 == 34) in cc)
closes_unescaped false text at below is = string_closes text at below (and_is (get_or text at 0 == 34) is)
  where
    and_is : (b : Bool) → (b && true) ≡ true → b ≡ true
    and_is true e = refl
    and_is false e = e

pub string_breaks : (e : Bool) (text : List ℕ) (at : ℕ) → at < length text → ((get_or text at 0 == 34) && not e) ≡ false → is_line_end (get_or text at 0) ≡ true → closed_at e at (drop at text) ≡ None
string_breaks e text at below other is = ap (closed_at e at) (drop_head text at below) ∙ closed_nowhere e (get_or text at 0) at (drop (at + 1) text) other is

pub string_goes_on : (e : Bool) (text : List ℕ) (at : ℕ) → at < length text → ((get_or text at 0 == 34) && not e) ≡ false → is_line_end (get_or text at 0) ≡ false → closed_at e at (drop at text) ≡ closed_at ((get_or text at 0 == 92) && not e) (at + 1) (drop (at + 1) text)
string_goes_on e text at below other is = ap (closed_at e at) (drop_head text at below) ∙ closed_later e (get_or text at 0) at (drop (at + 1) text) other is

pub string_stays_open : (e : Bool) (text : List ℕ) (at : ℕ) → length text ≤ at → closed_at e at (drop at text) ≡ None
string_stays_open e text at past = ap (closed_at e at) (drop_past text at past) ∙ closed_in_none e at

-- ---- block strings

block_here : (c at : ℕ) (cs : List ℕ) → begins_with_marks (c ∷ cs) ≡ true → block_closed_at 0 at (c ∷ cs) ≡ Some at
unfolding block_closed_at
block_here c at cs is = rw is refl

block_past : (c at : ℕ) (cs : List ℕ) → begins_with_marks (c ∷ cs) ≡ false → ((c == 92) && begins_with_marks cs) ≡ true → block_closed_at 0 at (c ∷ cs) ≡ block_closed_at 3 (at + 1) cs
unfolding block_closed_at
block_past c at cs other is = rw other (rw is refl)

pub block_later : (c at : ℕ) (cs : List ℕ) → begins_with_marks (c ∷ cs) ≡ false → ((c == 92) && begins_with_marks cs) ≡ false → block_closed_at 0 at (c ∷ cs) ≡ block_closed_at 0 (at + 1) cs
unfolding block_closed_at
block_later c at cs other is = rw other (rw is refl)

block_in_none : (n at : ℕ) → block_closed_at n at [] ≡ None
unfolding block_closed_at
block_in_none n at = refl

block_skip : (n at : ℕ) (text : List ℕ) → block_closed_at n at text ≡ block_closed_at 0 (at + n) (drop n text)
unfolding block_closed_at
block_skip zero at text = ap (λ m. block_closed_at 0 m text) (let e : at ≡ at + 0 = omega arith in e)
block_skip (suc n) at [] = refl
block_skip (suc n) at (c ∷ cs) =
    let e : at + 1 + n ≡ at + suc n = omega arith in
    block_skip n (at + 1) cs ∙ ap (λ m. block_closed_at 0 m (drop n cs)) e

pub block_closes : (text : List ℕ) (at : ℕ) → at < length text → begins_with_marks (drop at text) ≡ true → block_closed_at 0 at (drop at text) ≡ Some at
block_closes text at below is =
    ap (block_closed_at 0 at) (drop_head text at below) ∙ block_here (get_or text at 0) at (drop (at + 1) text) (sym (ap begins_with_marks (drop_head text at below)) ∙ is)

pub block_passes : (text : List ℕ) (at : ℕ) → at < length text → begins_with_marks (drop at text) ≡ false → ((get_or text at 0 == 92) && begins_with_marks (drop (at + 1) text)) ≡ true → block_closed_at 0 at (drop at text) ≡ block_closed_at 0 (at + 4) (drop (at + 4) text)
block_passes text at below other is =
    let e : at + 1 + 3 ≡ at + 4 = omega arith in
    ap (block_closed_at 0 at) (drop_head text at below)
    ∙ block_past (get_or text at 0) at (drop (at + 1) text) (sym (ap begins_with_marks (drop_head text at below)) ∙ other) is
    ∙ block_skip 3 (at + 1) (drop (at + 1) text)
    ∙ ap (block_closed_at 0 (at + 1 + 3)) (drop-drop 3 (at + 1) text)
    ∙ ap (λ m. block_closed_at 0 m (drop m text)) e

pub block_goes_on : (text : List ℕ) (at : ℕ) → at < length text → begins_with_marks (drop at text) ≡ false → ((get_or text at 0 == 92) && begins_with_marks (drop (at + 1) text)) ≡ false → block_closed_at 0 at (drop at text) ≡ block_closed_at 0 (at + 1) (drop (at + 1) text)
block_goes_on text at below other is =
    ap (block_closed_at 0 at) (drop_head text at below)
    ∙ block_later (get_or text at 0) at (drop (at + 1) text) (sym (ap begins_with_marks (drop_head text at below)) ∙ other) is

pub block_stays_open : (text : List ℕ) (at : ℕ) → length text ≤ at → block_closed_at 0 at (drop at text) ≡ None
block_stays_open text at past = ap (block_closed_at 0 at) (drop_past text at past) ∙ block_in_none 0 at

-- ---- faults

fault_here : (c at : ℕ) (cs : List ℕ) → (text_step (c ∷ cs) == 0) ≡ true → text_fault 0 at (c ∷ cs) ≡ Some (text_fault_at c at)
unfolding text_fault
fault_here c at cs is = rw is refl

fault_skip : (n at : ℕ) (text : List ℕ) → text_fault n at text ≡ text_fault 0 (at + n) (drop n text)
unfolding text_fault
fault_skip zero at text = ap (λ m. text_fault 0 m text) (let e : at ≡ at + 0 = omega arith in e)
fault_skip (suc n) at [] = refl
fault_skip (suc n) at (c ∷ cs) =
    let e : at + 1 + n ≡ at + suc n = omega arith in
    fault_skip n (at + 1) cs ∙ ap (λ m. text_fault 0 m (drop n cs)) e

fault_later : (c at : ℕ) (cs : List ℕ) → (text_step (c ∷ cs) == 0) ≡ false → text_fault 0 at (c ∷ cs) ≡ text_fault (text_step (c ∷ cs) - 1) (at + 1) cs
unfolding text_fault
fault_later c at cs is = rw is refl

fault_in_none : (n at : ℕ) → text_fault n at [] ≡ None
unfolding text_fault
fault_in_none n at = refl

pub text_fault_found : (text : List ℕ) (at : ℕ) → at < length text → (text_step (drop at text) == 0) ≡ true → text_fault 0 at (drop at text) ≡ Some (text_fault_at (get_or text at 0) at)
text_fault_found text at below is =
    ap (text_fault 0 at) (drop_head text at below) ∙ fault_here (get_or text at 0) at (drop (at + 1) text) (sym (ap (λ t. text_step t == 0) (drop_head text at below)) ∙ is)

pub text_fault_later : (text : List ℕ) (at size : ℕ) → at < length text → text_step (drop at text) ≡ size → (size == 0) ≡ false → 0 < size → text_fault 0 at (drop at text) ≡ text_fault 0 (at + size) (drop (at + size) text)
text_fault_later text at size below is some more =
    let whole : drop at text ≡ get_or text at 0 ∷ drop (at + 1) text = drop_head text at below in
    let step : text_step (get_or text at 0 ∷ drop (at + 1) text) ≡ size = sym (ap text_step whole) ∙ is in
    let e : at + 1 + (size - 1) ≡ at + size = omega (arith, more) in
    ap (text_fault 0 at) whole
    ∙ fault_later (get_or text at 0) at (drop (at + 1) text) (ap (λ n. n == 0) step ∙ some)
    ∙ ap (λ n. text_fault (n - 1) (at + 1) (drop (at + 1) text)) step
    ∙ fault_skip (size - 1) (at + 1) (drop (at + 1) text)
    ∙ ap (text_fault 0 (at + 1 + (size - 1))) (drop-drop (size - 1) (at + 1) text)
    ∙ ap (λ m. text_fault 0 m (drop m text)) e

pub text_fault_nowhere : (text : List ℕ) (at : ℕ) → length text ≤ at → text_fault 0 at (drop at text) ≡ None
text_fault_nowhere text at past = ap (text_fault 0 at) (drop_past text at past) ∙ fault_in_none 0 at

pub zero_test : (n : ℕ) → n ≡ 0 → (n == 0) ≡ true
zero_test n is = rw is refl

pub more_test : (n : ℕ) → 0 < n → (n == 0) ≡ false
more_test n more = grind (arith, nat_tests)

pub block_faulty : (text body : List ℕ) (good : ℕ) → body ≡ drop 3 text → good ≡ prefix_len is_block_byte body → good < length body → Some (BadChar (3 + good)) ≡ block_fault 3 (drop 3 text)
block_faulty text body good is run below = rw (sym is) (rw (sym run) (rw (lt-ltb good (length body) below) refl))

pub block_sound : (text body : List ℕ) (good : ℕ) → body ≡ drop 3 text → good ≡ prefix_len is_block_byte body → length body ≤ good → None ≡ block_fault 3 (drop 3 text)
block_sound text body good is run above = rw (sym is) (rw (sym run) (rw (le-ltb good (length body) above) refl))
