-- Heads at the front of bytes.
use Rattle.std.proofs.Common.{◌≡◌, ℕ, ◌≤◌, inl, List, [], ◌∷◌, ◌++◌, length, refl, sym, ap, subst, arith, Bool, false, Option, None, Ok, Err}
use Rattle.std.proofs.lemmas.List.{length-append, length-take, drop-append-le}
use Rattle.http_fields.proofs.Fronts.{take_grows}
use Rattle.httparse.specs.declared.spans.ResponseSpans.{ResponseSpans}
use Rattle.httparse.specs.declared.Error.{Error}
use Rattle.httparse.specs.declared.Status.{Status}
use Rattle.httparse.specs.declared.Status.TheVariants.{Complete, Partial}
use Rattle.httparse.specs.Outcome.{IfComplete, OnPartial}
use Rattle.httparse.specs.Grammar.{ResponseHead, print_response, ReadsResponse}
use Rattle.httparse.proofs.GrammarLemmas.{ReadsResponse-append}
use Rattle.upstream_link.specs.declared.fault.LinkFault.{LinkFault}
use Rattle.upstream_link.specs.declared.fault.LinkFault.TheVariants as fault
use Rattle.upstream_link.specs.declared.heads.Head.{Head}
use Rattle.upstream_link.specs.Chunks.{room}
use Rattle.upstream_link.specs.Received.{is_failure}
use Rattle.upstream_link.specs.ReplyHeads.{HasHead, after_head, HasOpenHead, IsInterim, HeadsTo, HasHeadFault}
use Rattle.upstream_link.specs.Service.{HeadLookSays, HeadSays}

pub complete_at : (P : ResponseSpans → Type 0) (s : Status ResponseSpans) (r : ResponseSpans) → s ≡ Complete r → IfComplete {A = ResponseSpans} {E = Error} (Ok s) P → P r
complete_at P s r e k = subst (λ x. IfComplete {A = ResponseSpans} {E = Error} (Ok x) P) e k

pub partial_at : (P : Type 0) (s : Status ResponseSpans) → s ≡ Partial → OnPartial {A = ResponseSpans} {E = Error} (Ok s) P → P
partial_at P s e k = subst (λ x. OnPartial {A = ResponseSpans} {E = Error} (Ok x) P) e k

pub bad_head : (here new : List ℕ) (ended : Bool) (f : LinkFault) → HeadLookSays here (Err f) → HeadSays new (Err f) here ended
bad_head here new ended fault.Down k = absurd k
bad_head here new ended fault.Failed k = absurd k
bad_head here new ended fault.BadReplyHead k = k
bad_head here new ended fault.Coded k = absurd k
bad_head here new ended fault.TooLarge k = absurd k
bad_head here new ended fault.Truncated k = absurd k
bad_head here new ended fault.BadChunk k = absurd k
bad_head here new ended fault.Memory k = absurd k

pub head_no_failure : (here : List ℕ) (f : LinkFault) → HeadLookSays here (Err f) → is_failure f ≡ false
head_no_failure here fault.Down k = refl
head_no_failure here fault.Failed k = absurd k
head_no_failure here fault.BadReplyHead k = refl
head_no_failure here fault.Coded k = refl
head_no_failure here fault.TooLarge k = refl
head_no_failure here fault.Truncated k = refl
head_no_failure here fault.BadChunk k = refl
head_no_failure here fault.Memory k = refl

pub head_fault : (passed : ℕ) (here new : List ℕ) (ended : Bool) (f : LinkFault) → HeadSays new (Err f) here ended → HasHeadFault passed here ended f
head_fault passed here new ended fault.Down k = absurd k
head_fault passed here new ended fault.Failed k = k
head_fault passed here new ended fault.BadReplyHead k = inl k
head_fault passed here new ended fault.Coded k = absurd k
head_fault passed here new ended fault.TooLarge k = absurd k
head_fault passed here new ended fault.Truncated k = k
head_fault passed here new ended fault.BadChunk k = absurd k
head_fault passed here new ended fault.Memory k = tt

pub seen_head : (l k : List ℕ) (o : Option Head) → l ≡ k → o ≡ None → HeadLookSays l (Ok o) → HasOpenHead k
seen_head l k o same none is = subst (λ x. HeadLookSays x (Ok None)) same (subst (λ x. HeadLookSays l (Ok x)) none is)

-- ---- heads, and more bytes

pub head_stays : (here more : List ℕ) (h : ResponseHead) → HasHead here h → HasHead (here ++ more) h
head_stays here more h x =
    let grown = take_grows 16384 here more in
    (x.0 ++ grown.0, subst (λ r. ReadsResponse r h (x.0 ++ grown.0)) (sym grown.1) (ReadsResponse-append (room here) h x.0 grown.0 x.1), x.2)

pub head_inside : (here : List ℕ) (h : ResponseHead) → HasHead here h → length (print_response h) ≤ length here
head_inside here h x = let e : length (room here) ≡ length (print_response h ++ x.0) = ap length x.1.1 in omega (arith, e, length-append (print_response h) x.0, length-take 16384 here)

pub heads_grow : (bytes : List ℕ) (hs : List ResponseHead) (here more : List ℕ) → HeadsTo bytes hs here → HeadsTo (bytes ++ more) hs (here ++ more)
unfolding HeadsTo
heads_grow bytes [] here more x = ap (λ l. l ++ more) x
heads_grow bytes (h ∷ hs) here more x = (
  head_stays bytes more h x.0,
  x.1,
  subst (λ l. HeadsTo l hs (here ++ more)) (sym (drop-append-le (length (print_response h)) bytes more (head_inside bytes h x.0))) (heads_grow (after_head h bytes) hs here more x.2),
)

pub heads_more : (bytes : List ℕ) (hs : List ResponseHead) (h : ResponseHead) (here : List ℕ) → HeadsTo bytes hs here → HasHead here h → IsInterim h → HeadsTo bytes (hs ++ h ∷ []) (after_head h here)
unfolding HeadsTo
heads_more bytes [] h here x has interim = (subst (λ l. HasHead l h) (sym x) has, interim, ap (after_head h) x)
heads_more bytes (k ∷ hs) h here x has interim = (x.0, x.1, heads_more (after_head k bytes) hs h here x.2 has interim)

pub heads_none : (bytes : List ℕ) → HeadsTo bytes [] bytes
unfolding HeadsTo
heads_none bytes = refl
