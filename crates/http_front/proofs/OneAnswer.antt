-- Bytes have one answer, whatever comes after them.
use Rattle.std.proofs.Common.{◌≡◌, ℕ, ◌≤◌, inl, inr, List, [], ◌∷◌, ◌++◌, map, length, take, drop, refl, sym, ap, ◌∙◌, subst, append_assoc, arith, Bool, Result, Ok, Err}
use Rattle.std.proofs.lemmas.Grind.{common_steps}
use Rattle.std.proofs.lemmas.List.{append-nil, take-append-le, length-append, length-take, drop-append-le}
use Rattle.http_fields.proofs.Fronts.{take_grows}
use Rattle.httparse.specs.Grammar.{RequestHead, print_request, ReadsRequest, HasNoRequest, print_blank, print_version, print_end, print_section}
use Rattle.httparse.proofs.GrammarLemmas.{request_unique, print_request-append}
use Rattle.http_front.specs.declared.fault.FrontFault.{FrontFault}
use Rattle.http_front.specs.declared.fault.FrontFault.TheVariants as fault
use Rattle.http_front.specs.declared.front.Ask.{Ask}
use Rattle.http_front.specs.Heads.{Wants, wanted}
use Rattle.http_front.specs.Passed.{passed_lines}
use Rattle.httparse.specs.Spans.{name_and_value}
use Rattle.http_front.specs.Asks.{in_room, behind, BeginsWithHead, IsPartOfHead, IsNoHead, HasTooManyFields, AsksFor, IsRefused, HasFault, Lacks, IsAsk}
use Rattle.http_front.proofs.Fronts.{head_stays}

ok_or : Wants → Result Wants FrontFault → Wants
ok_or d (Ok w) = w
ok_or d (Err f) = d

pub head_one : (bytes : List ℕ) (h k : RequestHead) → BeginsWithHead bytes h → BeginsWithHead bytes k → h ≡ k
head_one bytes h k x y = (request_unique (in_room bytes) h k x.0 y.0 x.1 y.1).0

pub wants_one : (bytes : List ℕ) (h k : RequestHead) (w v : Wants) → AsksFor bytes h w → AsksFor bytes k v → (h ≡ k) × (w ≡ v)
unfolding ok_or
wants_one bytes h k w v x y =
    let e = head_one bytes h k x.0 y.0 in (e, ap (ok_or w) (sym x.1 ∙ ap (wanted) e ∙ y.1))

pub not_open : (bytes : List ℕ) (h : RequestHead) → BeginsWithHead bytes h → IsPartOfHead bytes → ⊥
not_open bytes h x o = o.0 h x.0 x.1

pub not_bad : (bytes : List ℕ) (h : RequestHead) → BeginsWithHead bytes h → IsNoHead bytes → ⊥
not_bad bytes h x never = never [] h x.0 (subst (λ l. ReadsRequest l h x.0) (sym (append-nil (in_room bytes))) x.1)

pub not_many : (bytes : List ℕ) (h : RequestHead) → BeginsWithHead bytes h → HasTooManyFields bytes → ⊥
not_many bytes h x many =
    let over = many.1 [] h x.0 (subst (λ l. ReadsRequest l h x.0) (sym (append-nil (in_room bytes))) x.1) in
    let fits = x.2 in
    absurd (omega (arith, over, fits))

pub not_refused : (bytes : List ℕ) (h : RequestHead) (w : Wants) (f : FrontFault) → AsksFor bytes h w → IsRefused bytes f → ⊥
not_refused bytes h w f x r =
    let e : Ok w ≡ Err f = sym x.1 ∙ ap (wanted) (head_one bytes h r.0 x.0 r.1) ∙ r.2 in absurd (cc e)

not_short : (bytes : List ℕ) (h : RequestHead) (w : Wants) (m : ℕ) → AsksFor bytes h w → w.length ≤ length (behind h bytes) → Lacks bytes m → ⊥
not_short bytes h w m x enough l =
    let same = wants_one bytes h l.head w l.wants x l.asks in
    let one : length (behind h bytes) ≡ length (behind l.head bytes) = ap (λ k. length (behind k bytes)) same.0 in
    let two : w.length ≡ l.wants.length = ap (λ v. v.length) same.1 in
    let short = l.short in
    absurd (omega (arith, one, two, short, enough))

pub not_empty : (bytes : List ℕ) (h : RequestHead) → BeginsWithHead bytes h → bytes ≡ [] → ⊥
not_empty bytes h x none =
    let e : [] ≡ print_request h ++ x.0 = ap in_room (sym none) ∙ x.1.1 in
    let long : 0 ≡ length (print_blank h.blank ++ (h.method ++ 32 ∷ (h.target ++ 32 ∷ (print_version h.minor ++ (print_end h.line_end ++ (print_section h.fields h.last ++ x.0)))))) =
    ap length (e ∙ print_request-append h x.0) in
    absurd (grind (arith, common_steps))

-- where there is an ask, there is no fault, but for want of memory
pub no_fault : (names : List (List ℕ)) (bytes rest : List ℕ) (ended : Bool) (ask : Ask) (f : FrontFault) → IsAsk names bytes ask rest → HasFault bytes ended f → f ≡ fault.Memory
no_fault names bytes rest ended ask fault.End a k = absurd (not_empty bytes a.head a.asks.0 k.0)
no_fault names bytes rest ended ask fault.BadHead a k = elim k [ inl b ↦ absurd (not_bad bytes a.head a.asks.0 b) | inr o ↦ absurd (not_open bytes a.head a.asks.0 o.0) ]
no_fault names bytes rest ended ask fault.HeadTooLarge a k = elim k [ inl m ↦ absurd (not_many bytes a.head a.asks.0 m) | inr o ↦ absurd (not_open bytes a.head a.asks.0 o.0) ]
no_fault names bytes rest ended ask fault.NotFound a k = absurd (not_refused bytes a.head a.wants _ a.asks k)
no_fault names bytes rest ended ask fault.BadMethod a k = absurd (not_refused bytes a.head a.wants _ a.asks k)
no_fault names bytes rest ended ask fault.NoKey a k = absurd (not_refused bytes a.head a.wants _ a.asks k)
no_fault names bytes rest ended ask fault.Coded a k = absurd (not_refused bytes a.head a.wants _ a.asks k)
no_fault names bytes rest ended ask fault.BadMedia a k = absurd (not_refused bytes a.head a.wants _ a.asks k)
no_fault names bytes rest ended ask fault.Chunked a k = absurd (not_refused bytes a.head a.wants _ a.asks k)
no_fault names bytes rest ended ask fault.NoLength a k = absurd (not_refused bytes a.head a.wants _ a.asks k)
no_fault names bytes rest ended ask fault.BadLength a k = absurd (not_refused bytes a.head a.wants _ a.asks k)
no_fault names bytes rest ended ask (fault.BodyTooLarge n) a k = absurd (not_refused bytes a.head a.wants _ a.asks k)
no_fault names bytes rest ended ask (fault.Truncated n) a k = absurd (not_short bytes a.head a.wants n a.asks a.enough k.0)
no_fault names bytes rest ended ask fault.ReadFault a k = elim k.0 [ inl o ↦ absurd (not_open bytes a.head a.asks.0 o.0) | inr l ↦ absurd (not_short bytes a.head a.wants l.0 a.asks a.enough l.1) ]
no_fault names bytes rest ended ask fault.Memory a k = refl

-- two asks at the front of the same bytes are the same
pub one_ask : (names : List (List ℕ)) (bytes rest other : List ℕ) (a b : Ask) → IsAsk names bytes a rest → IsAsk names bytes b other
    → (a.key ≡ b.key) × (a.body.items ≡ b.body.items) × (a.passed.items ≡ b.passed.items) × (a.close ≡ b.close) × (rest ≡ other)
one_ask names bytes rest other a b x y =
    let same = wants_one bytes x.head y.head x.wants y.wants x.asks y.asks in
    let tails : behind x.head bytes ≡ behind y.head bytes = ap (λ k. behind k bytes) same.0 in
    let lengths : x.wants.length ≡ y.wants.length = ap (λ v. v.length) same.1 in (
      x.key ∙ ap (λ v. v.key) same.1 ∙ sym y.key,
      x.body ∙ (λ i. take (lengths i) (tails i)) ∙ sym y.body,
      x.passed ∙ ap (λ h. passed_lines names (map name_and_value h.fields)) same.0 ∙ sym y.passed,
      x.close ∙ ap (λ v. v.close) same.1 ∙ sym y.close,
      x.rest_is ∙ (λ i. drop (lengths i) (tails i)) ∙ sym y.rest_is,
    )

pub head_inside : (bytes : List ℕ) (h : RequestHead) → BeginsWithHead bytes h → length (print_request h) ≤ length bytes
head_inside bytes h x = let e : length (in_room bytes) ≡ length (print_request h ++ x.0) = ap length x.1.1 in omega (arith, e, length-append (print_request h) x.0, length-take 16384 bytes)

-- the bytes after an ask don't change it
pub ask_stays : (names : List (List ℕ)) (bytes rest more : List ℕ) (a : Ask) → IsAsk names bytes a rest → IsAsk names (bytes ++ more) a (rest ++ more)
ask_stays names bytes rest more a x =
    let tail : behind x.head (bytes ++ more) ≡ behind x.head bytes ++ more = drop-append-le (length (print_request x.head)) bytes more (head_inside bytes x.head x.asks.0) in
    let enough = x.enough in
    record {
      head = x.head;
      wants = x.wants;
      asks = (head_stays bytes more x.head x.asks.0, x.asks.1);
      key = x.key;
      close = x.close;
      passed = x.passed;
      enough = subst (λ l. x.wants.length ≤ length l) (sym tail) (grind (arith, common_steps));
      body = x.body ∙ sym (ap (take x.wants.length) tail ∙ take-append-le x.wants.length (behind x.head bytes) more enough);
      rest_is = ap (λ l. l ++ more) x.rest_is ∙ sym (ap (drop x.wants.length) tail ∙ drop-append-le x.wants.length (behind x.head bytes) more enough);
    }

-- no more than a fault that is sure without the end of the bytes
pub bad_stays : (bytes more : List ℕ) → IsNoHead bytes → IsNoHead (bytes ++ more)
bad_stays bytes more never =
    let grown = take_grows 16384 bytes more in
    λ others. subst (λ l. HasNoRequest l) (sym (ap (λ l. l ++ others) grown.1 ∙ append_assoc (in_room bytes) grown.0 others)) (never (grown.0 ++ others))

pub refusal_stays : (bytes more : List ℕ) (f : FrontFault) → IsRefused bytes f → IsRefused (bytes ++ more) f
refusal_stays bytes more f r = (r.0, head_stays bytes more r.0 r.1, r.2)
