-- Two faults of the same bytes are one, but for want of memory and what the grammar of heads leaves open.
use Rattle.std.proofs.Common.{◌≡◌, ℕ, ◌<◌, ◌≤◌, ◌⊎◌, ◌-◌, inl, inr, List, [], ◌∷◌, length, refl, sym, ap, ◌∙◌, subst, arith, Bool, true, false, cond, Result, Ok, Err}
use Rattle.std.specs.Prelude.{IsTrue, nat_lt}
use Rattle.std.proofs.lemmas.Bool.{lt-ltb, ltb-true}
use Rattle.std.proofs.lemmas.List.{append-nil}
use Rattle.std.proofs.lemmas.List.Elements.{All-cons}
use Rattle.httparse.specs.Grammar.{RequestHead, print_request, IsRequestHead, is_token_byte, is_uri_byte, lf}
use Rattle.http_front.specs.declared.fault.FrontFault.{FrontFault}
use Rattle.http_front.specs.declared.fault.FrontFault.TheVariants as fault
use Rattle.http_front.specs.Heads.{Wants, wanted}
use Rattle.http_front.specs.Asks.{behind, BeginsWithHead, IsNoHead, IsPartOfHead, HasTooManyFields, IsRefused, Lacks, HasFault, IsBeforeHead, IsLeftOpen, AreOne}
use Rattle.http_front.proofs.OneAnswer.{head_one, wants_one, not_open, not_bad, not_many, not_refused, not_empty}

-- ---- why a fault stands

-- a whole head is refused
abbrev Refused : List ℕ → FrontFault → Type 0
Refused bytes f = IsRefused bytes f

-- the body isn't whole
abbrev Short : List ℕ → Bool → FrontFault → Type 0
Short bytes ended f = (missing : ℕ) × Lacks bytes missing × (((f ≡ fault.Truncated missing) × IsTrue ended) ⊎ ((f ≡ fault.ReadFault) × (ended ≡ false)))

-- the fault where a head isn't whole and the end is met
end_fault : List ℕ → FrontFault
end_fault [] = fault.End
end_fault (byte ∷ bytes) = fault.BadHead

-- the fault where it isn't whole, from the length and the end
cut_fault : List ℕ → Bool → FrontFault
cut_fault bytes ended = cond ended (end_fault bytes) fault.ReadFault

part_fault : List ℕ → Bool → FrontFault
part_fault bytes ended = cond (nat_lt (length bytes) 16384) (cut_fault bytes ended) fault.HeadTooLarge

short_part : (bytes : List ℕ) (ended : Bool) → length bytes < 16384 → part_fault bytes ended ≡ cut_fault bytes ended
unfolding part_fault
short_part bytes ended short = ap (λ t. cond t (cut_fault bytes ended) fault.HeadTooLarge) (lt-ltb (length bytes) 16384 short)

long_part : (bytes : List ℕ) (ended : Bool) → 16384 ≤ length bytes → part_fault bytes ended ≡ fault.HeadTooLarge
unfolding part_fault
long_part bytes ended long = by_test (nat_lt (length bytes) 16384) refl
  where
    by_test : (t : Bool) → nat_lt (length bytes) 16384 ≡ t → cond (nat_lt (length bytes) 16384) (cut_fault bytes ended) fault.HeadTooLarge ≡ fault.HeadTooLarge
    by_test false e = ap (λ t. cond t (cut_fault bytes ended) fault.HeadTooLarge) e
    by_test true e = absurd (omega (arith, ltb-true (length bytes) 16384 e, long))

-- no head stands there yet, or there can be none
abbrev Before : List ℕ → Bool → FrontFault → Type 0
Before bytes ended f =
    ((f ≡ part_fault bytes ended) × ((bytes ≡ []) ⊎ IsPartOfHead bytes)) ⊎ (((f ≡ fault.BadHead) × IsNoHead bytes) ⊎ ((f ≡ fault.HeadTooLarge) × HasTooManyFields bytes))

abbrev Why : List ℕ → Bool → FrontFault → Type 0
Why bytes ended f = Refused bytes f ⊎ (Short bytes ended f ⊎ Before bytes ended f)

empty_cut : (bytes : List ℕ) (ended : Bool) → bytes ≡ [] → IsTrue ended → fault.End ≡ part_fault bytes ended
unfolding cut_fault end_fault
empty_cut bytes ended none end =
    sym (short_part bytes ended (omega (arith, ap length none)) ∙ ap (λ t. cond t (end_fault bytes) fault.ReadFault) end ∙ ap end_fault none)

end_inside : (bytes : List ℕ) → 0 < length bytes → end_fault bytes ≡ fault.BadHead
unfolding end_fault
end_inside [] some = absurd (omega (arith, some))
end_inside (byte ∷ bytes) some = refl

ended_cut : (bytes : List ℕ) (ended : Bool) → 0 < length bytes → IsTrue ended → fault.BadHead ≡ cut_fault bytes ended
unfolding cut_fault
ended_cut bytes ended some end = sym (ap (λ t. cond t (end_fault bytes) fault.ReadFault) end ∙ end_inside bytes some)

open_cut : (bytes : List ℕ) (ended : Bool) → ended ≡ false → fault.ReadFault ≡ cut_fault bytes ended
unfolding cut_fault
open_cut bytes ended e = sym (ap (λ t. cond t (end_fault bytes) fault.ReadFault) e)

why : (bytes : List ℕ) (ended : Bool) (f : FrontFault) → HasFault bytes ended f → (f ≡ fault.Memory) ⊎ Why bytes ended f
why bytes ended fault.End k = inr (inr (inr (inl (empty_cut bytes ended k.0 k.1, inl k.0))))
why bytes ended fault.BadHead (inl never) = inr (inr (inr (inr (inl (refl, never)))))
why bytes ended fault.BadHead (inr k) = inr (inr (inr (inl (ended_cut bytes ended k.2 k.3 ∙ sym (short_part bytes ended k.1), inr k.0))))
why bytes ended fault.HeadTooLarge (inl many) = inr (inr (inr (inr (inr (refl, many)))))
why bytes ended fault.HeadTooLarge (inr k) = inr (inr (inr (inl (sym (long_part bytes ended k.1), inr k.0))))
why bytes ended fault.NotFound k = inr (inl k)
why bytes ended fault.BadMethod k = inr (inl k)
why bytes ended fault.NoKey k = inr (inl k)
why bytes ended fault.Coded k = inr (inl k)
why bytes ended fault.BadMedia k = inr (inl k)
why bytes ended fault.Chunked k = inr (inl k)
why bytes ended fault.NoLength k = inr (inl k)
why bytes ended fault.BadLength k = inr (inl k)
why bytes ended (fault.BodyTooLarge n) k = inr (inl k)
why bytes ended (fault.Truncated n) k = inr (inr (inl (n, k.0, inl (refl, k.1))))
why bytes ended fault.ReadFault k = elim k.0 [
  | inl part ↦ inr (inr (inr (inl (open_cut bytes ended k.1 ∙ sym (short_part bytes ended part.1), inr part.0))))
  | inr l ↦ inr (inr (inl (l.0, l.1, inr (refl, k.1))))
]
why bytes ended fault.Memory k = inl refl

-- ---- two reasons

-- some head can be read, so that the empty bytes may become one
some_head : RequestHead
some_head = record { blank = []; method = 97 ∷ []; target = 97 ∷ []; minor = 0; line_end = lf; fields = []; last = lf }

some_is : IsRequestHead some_head
unfolding some_head is_token_byte lib.Utf8.encode
some_is = record {
  method = (omega arith, All-cons (λ b. IsTrue (is_token_byte b)) 97 [] refl (λ k d inside. absurd (omega (arith, inside))));
  target = (omega arith, All-cons (λ b. IsTrue (is_uri_byte b)) 97 [] refl (λ k d inside. absurd (omega (arith, inside))));
  target_text = (97 ∷ [], (refl, refl));
  minor = omega arith;
  fields = λ k d inside. absurd (omega (arith, inside));
}

empty_begins : (bytes : List ℕ) → bytes ≡ [] → IsNoHead bytes → ⊥
empty_begins [] none never = never (print_request some_head) some_head [] (some_is, sym (append-nil (print_request some_head)))
empty_begins (byte ∷ bytes) none never = absurd (cc none)

open_or : (bytes : List ℕ) → IsNoHead bytes → IsPartOfHead bytes → IsLeftOpen bytes
open_or bytes never part = elim part.1 [ inl more ↦ absurd (never more.0 more.1 [] more.2) | inr target ↦ inl (never, target) ]

end_before : (bytes : List ℕ) → IsBeforeHead (end_fault bytes)
unfolding end_fault
end_before [] = tt
end_before (byte ∷ bytes) = tt

cut_before : (bytes : List ℕ) (ended : Bool) → IsBeforeHead (cut_fault bytes ended)
unfolding cut_fault
cut_before bytes true = end_before bytes
cut_before bytes false = tt

part_before : (bytes : List ℕ) (ended : Bool) → IsBeforeHead (part_fault bytes ended)
unfolding part_fault
part_before bytes ended = by_test (nat_lt (length bytes) 16384)
  where
    by_test : (t : Bool) → IsBeforeHead (cond t (cut_fault bytes ended) fault.HeadTooLarge)
    by_test true = cut_before bytes ended
    by_test false = tt

before_is : (bytes : List ℕ) (ended : Bool) (f : FrontFault) → Before bytes ended f → IsBeforeHead f
before_is bytes ended f (inl k) = subst IsBeforeHead (sym k.0) (part_before bytes ended)
before_is bytes ended f (inr (inl k)) = subst IsBeforeHead (sym k.0) tt
before_is bytes ended f (inr (inr k)) = subst IsBeforeHead (sym k.0) tt

part_and_none : (bytes : List ℕ) → (bytes ≡ []) ⊎ IsPartOfHead bytes → IsNoHead bytes → IsLeftOpen bytes
part_and_none bytes (inl none) never = absurd (empty_begins bytes none never)
part_and_none bytes (inr part) never = open_or bytes never part

-- both before a whole head
both_before : (bytes : List ℕ) (ended : Bool) (f g : FrontFault) → Before bytes ended f → Before bytes ended g → (f ≡ g) ⊎ IsLeftOpen bytes
both_before bytes ended f g (inl x) (inl y) = inl (x.0 ∙ sym y.0)
both_before bytes ended f g (inl x) (inr (inl y)) = inr (part_and_none bytes x.1 y.1)
both_before bytes ended f g (inl x) (inr (inr y)) = inr (inr y.1)
both_before bytes ended f g (inr (inl x)) (inl y) = inr (part_and_none bytes y.1 x.1)
both_before bytes ended f g (inr (inl x)) (inr (inl y)) = inl (x.0 ∙ sym y.0)
both_before bytes ended f g (inr (inl x)) (inr (inr y)) = inr (inr y.1)
both_before bytes ended f g (inr (inr x)) y = inr (inr x.1)

-- a whole head stands, or not yet
not_before : (bytes : List ℕ) (ended : Bool) (f : FrontFault) (h : RequestHead) → BeginsWithHead bytes h → Before bytes ended f → ⊥
not_before bytes ended f h begins (inl (is, inl none)) = not_empty bytes h begins none
not_before bytes ended f h begins (inl (is, inr part)) = not_open bytes h begins part
not_before bytes ended f h begins (inr (inl k)) = not_bad bytes h begins k.1
not_before bytes ended f h begins (inr (inr k)) = not_many bytes h begins k.1

err_or : FrontFault → Result Wants FrontFault → FrontFault
err_or d (Ok w) = d
err_or d (Err f) = f

both_refused : (bytes : List ℕ) (f g : FrontFault) → Refused bytes f → Refused bytes g → f ≡ g
unfolding err_or
both_refused bytes f g x y = ap (err_or f) (sym x.2 ∙ ap (wanted) (head_one bytes x.0 y.0 x.1 y.1) ∙ y.2)

lacks_one : (bytes : List ℕ) (m n : ℕ) → Lacks bytes m → Lacks bytes n → m ≡ n
lacks_one bytes m n x y =
    let same = wants_one bytes x.head y.head x.wants y.wants x.asks y.asks in
    x.missing_is ∙ (λ i. (same.1 i).length - length (behind (same.0 i) bytes)) ∙ sym y.missing_is

both_short : (bytes : List ℕ) (ended : Bool) (f g : FrontFault) → Short bytes ended f → Short bytes ended g → f ≡ g
both_short bytes ended f g (m, l, inl x) (n, k, inl y) = x.0 ∙ ap fault.Truncated (lacks_one bytes m n l k) ∙ sym y.0
both_short bytes ended f g (m, l, inl x) (n, k, inr y) = absurd (cc (sym x.1 ∙ y.1))
both_short bytes ended f g (m, l, inr x) (n, k, inl y) = absurd (cc (sym y.1 ∙ x.1))
both_short bytes ended f g (m, l, inr x) (n, k, inr y) = x.0 ∙ sym y.0

two_reasons : (bytes : List ℕ) (ended : Bool) (f g : FrontFault) → Why bytes ended f → Why bytes ended g → (f ≡ g) ⊎ (IsBeforeHead f × IsBeforeHead g × IsLeftOpen bytes)
two_reasons bytes ended f g (inl x) (inl y) = inl (both_refused bytes f g x y)
two_reasons bytes ended f g (inl x) (inr (inl y)) = absurd (not_refused bytes y.1.head y.1.wants f y.1.asks x)
two_reasons bytes ended f g (inl x) (inr (inr y)) = absurd (not_before bytes ended g x.0 x.1 y)
two_reasons bytes ended f g (inr (inl x)) (inl y) = absurd (not_refused bytes x.1.head x.1.wants g x.1.asks y)
two_reasons bytes ended f g (inr (inl x)) (inr (inl y)) = inl (both_short bytes ended f g x y)
two_reasons bytes ended f g (inr (inl x)) (inr (inr y)) = absurd (not_before bytes ended g x.1.head x.1.asks.0 y)
two_reasons bytes ended f g (inr (inr x)) (inl y) = absurd (not_before bytes ended f y.0 y.1 x)
two_reasons bytes ended f g (inr (inr x)) (inr (inl y)) = absurd (not_before bytes ended f y.1.head y.1.asks.0 x)
two_reasons bytes ended f g (inr (inr x)) (inr (inr y)) = elim (both_before bytes ended f g x y) [
  | inl same ↦ inl same
  | inr left ↦ inr (before_is bytes ended f x, before_is bytes ended g y, left)
]

pub one_fault : (bytes : List ℕ) (ended : Bool) (f g : FrontFault) → HasFault bytes ended f → HasFault bytes ended g → AreOne bytes f g
one_fault bytes ended f g x y = elim (why bytes ended f x) [
  | inl memory ↦ inr (inl memory)
  | inr a ↦ elim (why bytes ended g y) [
    | inl memory ↦ inr (inr (inl memory))
    | inr b ↦ elim (two_reasons bytes ended f g a b) [ inl same ↦ inl same | inr left ↦ inr (inr (inr left)) ]
  ]
]
