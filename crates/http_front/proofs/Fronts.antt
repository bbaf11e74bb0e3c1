-- A head at the front of bytes, and what stays when more bytes come.
use Rattle.std.proofs.Common.{◌≡◌, ℕ, ◌+◌, ◌-◌, ◌≤◌, ◌<◌, inr, List, [], ◌++◌, length, take, drop, refl, sym, ap, ◌∙◌, subst, arith, Bool, true, false, Option, Some, Ok, Err}
use Rattle.std.proofs.lemmas.Grind.{common_steps}
use Rattle.std.proofs.lemmas.List.{length-drop, drop-drop}
use Rattle.http_fields.proofs.Fronts.{take_grows}
use Rattle.httparse.specs.declared.spans.HeaderSpan.{HeaderSpan}
use Rattle.httparse.specs.declared.spans.RequestSpans.{RequestSpans}
use Rattle.httparse.specs.declared.Error.{Error}
use Rattle.httparse.specs.declared.Status.{Status}
use Rattle.httparse.specs.declared.Status.TheVariants.{Complete, Partial}
use Rattle.httparse.specs.Outcome.{IfComplete, OnPartial}
use Rattle.httparse.specs.Grammar.{RequestHead, print_request, ReadsRequest}
use Rattle.httparse.proofs.GrammarLemmas.{ReadsRequest-append}
use Rattle.http_front.specs.declared.fault.FrontFault.{FrontFault}
use Rattle.http_front.specs.declared.fault.FrontFault.TheVariants as fault
use Rattle.http_front.specs.declared.head.Head.{Head}
use Rattle.http_front.specs.declared.front.Ask.{Ask}
use Rattle.http_front.specs.Heads.{wants}
use Rattle.http_front.specs.Asks.{in_room, BeginsWithHead, IsPartOfHead, IsRefused, HasFault, IsOfBytes, Lacks, IsAsk}
use Rattle.http_front.specs.Service.{IsOfHead, AtEndIs, PieceSays, HeadFound, FoundIs, HeadIs, BodySays}

-- a fault of a head's tests is the first fault
pub refused_by : (bytes : List ℕ) (f : FrontFault) → IsOfHead f → IsRefused bytes f → HasFault bytes false f
refused_by bytes fault.End k r = absurd k
refused_by bytes fault.BadHead k r = absurd k
refused_by bytes fault.HeadTooLarge k r = absurd k
refused_by bytes fault.NotFound k r = r
refused_by bytes fault.BadMethod k r = r
refused_by bytes fault.NoKey k r = r
refused_by bytes fault.Coded k r = r
refused_by bytes fault.BadMedia k r = r
refused_by bytes fault.Chunked k r = r
refused_by bytes fault.NoLength k r = r
refused_by bytes fault.BadLength k r = r
refused_by bytes (fault.BodyTooLarge n) k r = r
refused_by bytes (fault.Truncated n) k r = absurd k
refused_by bytes fault.ReadFault k r = absurd k
refused_by bytes fault.Memory k r = absurd k

pub of_memory : (bytes : List ℕ) (ended : Bool) (f : FrontFault) → f ≡ fault.Memory → HasFault bytes ended f
of_memory bytes ended f e = subst (λ x. HasFault bytes ended x) (sym e) tt

-- a fault of a head's tests isn't one of reading
pub not_read : (f : FrontFault) → IsOfHead f → f ≡ fault.ReadFault → ⊥
not_read f k e = subst IsOfHead e k

not_memory : (f : FrontFault) → IsOfHead f → f ≡ fault.Memory → ⊥
not_memory f k e = subst IsOfHead e k

pub of_bytes : (f : FrontFault) → IsOfHead f → IsOfBytes f
of_bytes f k = (not_read f k, not_memory f k)

-- a head that stands in the room still stands there when more bytes come
pub head_stays : (bytes more : List ℕ) (h : RequestHead) → BeginsWithHead bytes h → BeginsWithHead (bytes ++ more) h
head_stays bytes more h x =
    let grown = take_grows 16384 bytes more in
    (x.0 ++ grown.0, subst (λ room. ReadsRequest room h (x.0 ++ grown.0)) (sym grown.1) (ReadsRequest-append (in_room bytes) h x.0 grown.0 x.1), x.2)

pub at_end : (bytes : List ℕ) (f : FrontFault) → AtEndIs bytes f → IsPartOfHead bytes × (length bytes < 16384) → HasFault bytes true f
at_end bytes fault.End k started = (k, refl)
at_end bytes fault.BadHead k started = inr (started.0, started.1, k, refl)
at_end bytes fault.HeadTooLarge k started = absurd k
at_end bytes fault.NotFound k started = absurd k
at_end bytes fault.BadMethod k started = absurd k
at_end bytes fault.NoKey k started = absurd k
at_end bytes fault.Coded k started = absurd k
at_end bytes fault.BadMedia k started = absurd k
at_end bytes fault.Chunked k started = absurd k
at_end bytes fault.NoLength k started = absurd k
at_end bytes fault.BadLength k started = absurd k
at_end bytes (fault.BodyTooLarge n) k started = absurd k
at_end bytes (fault.Truncated n) k started = absurd k
at_end bytes fault.ReadFault k started = absurd k
at_end bytes fault.Memory k started = absurd k

-- a piece that isn't there for a fault
pub piece_fails : (Q : FrontFault → Type 0) (old new piece : List ℕ) (f : FrontFault) → PieceSays old new piece (Err f)
    → (piece ≡ [] → Q fault.ReadFault) → Q fault.Memory → Q f
piece_fails Q old new piece fault.End k r m = absurd k
piece_fails Q old new piece fault.BadHead k r m = absurd k
piece_fails Q old new piece fault.HeadTooLarge k r m = absurd k
piece_fails Q old new piece fault.NotFound k r m = absurd k
piece_fails Q old new piece fault.BadMethod k r m = absurd k
piece_fails Q old new piece fault.NoKey k r m = absurd k
piece_fails Q old new piece fault.Coded k r m = absurd k
piece_fails Q old new piece fault.BadMedia k r m = absurd k
piece_fails Q old new piece fault.Chunked k r m = absurd k
piece_fails Q old new piece fault.NoLength k r m = absurd k
piece_fails Q old new piece fault.BadLength k r m = absurd k
piece_fails Q old new piece (fault.BodyTooLarge n) k r m = absurd k
piece_fails Q old new piece (fault.Truncated n) k r m = absurd k
piece_fails Q old new piece fault.ReadFault k r m = r k
piece_fails Q old new piece fault.Memory k r m = m

-- a body that ends too early
pub lacks : (names : List (List ℕ)) (bytes more : List ℕ) (head : Head) → HeadIs names bytes head → head.len ≤ length bytes
    → length (bytes ++ more) < head.len + head.length
    → Lacks (bytes ++ more) (head.len + head.length - length (bytes ++ more))
lacks names bytes more head is inside short =
    let long : length bytes ≤ length (bytes ++ more) = grind (arith, common_steps) in record {
      head = is.of;
      wants = wants head.key head.length head.close;
      asks = (head_stays bytes more is.of is.asks.0, is.asks.1);
      short = omega (arith, length-drop (length (print_request is.of)) (bytes ++ more), is.len);
      missing_is = omega (arith, length-drop (length (print_request is.of)) (bytes ++ more), is.len);
    }

pub body_fails : (names : List (List ℕ)) (bytes more new : List ℕ) (ended : Bool) (head : Head) (f : FrontFault) → HeadIs names bytes head → head.len ≤ length bytes
    → BodySays (head.len + head.length) new (Err f) (bytes ++ more) ended → HasFault (bytes ++ more) ended f
body_fails names bytes more new ended head fault.End is inside k = absurd k
body_fails names bytes more new ended head fault.BadHead is inside k = absurd k
body_fails names bytes more new ended head fault.HeadTooLarge is inside k = absurd k
body_fails names bytes more new ended head fault.NotFound is inside k = absurd k
body_fails names bytes more new ended head fault.BadMethod is inside k = absurd k
body_fails names bytes more new ended head fault.NoKey is inside k = absurd k
body_fails names bytes more new ended head fault.Coded is inside k = absurd k
body_fails names bytes more new ended head fault.BadMedia is inside k = absurd k
body_fails names bytes more new ended head fault.Chunked is inside k = absurd k
body_fails names bytes more new ended head fault.NoLength is inside k = absurd k
body_fails names bytes more new ended head fault.BadLength is inside k = absurd k
body_fails names bytes more new ended head (fault.BodyTooLarge n) is inside k = absurd k
body_fails names bytes more new ended head (fault.Truncated n) is inside k =
    (subst (λ m. Lacks (bytes ++ more) m) (sym k.1) (lacks names bytes more head is inside k.0), k.2)
body_fails names bytes more new ended head fault.ReadFault is inside k = (inr (_, lacks names bytes more head is inside k.0), k.1)
body_fails names bytes more new ended head fault.Memory is inside k = tt

-- a whole ask
pub asks : (names : List (List ℕ)) (bytes more new rest : List ℕ) (head : Head) (ask : Ask) → HeadIs names bytes head → head.len ≤ length bytes
    → head.len + head.length ≤ length (bytes ++ more) → new ≡ bytes ++ more
    → ask.key ≡ head.key → ask.close ≡ head.close → ask.passed.items ≡ head.passed.items → ask.body.items ≡ take (head.len + head.length - head.len) (drop head.len new)
    → rest ≡ drop (head.len + head.length) new
    → IsAsk names (bytes ++ more) ask rest
asks names bytes more new rest head ask is inside enough grown key close passed body left =
    let cut : take (head.len + head.length - head.len) (drop head.len new) ≡ take head.length (drop (length (print_request is.of)) (bytes ++ more)) =
    rw (grown) (rw (sym is.len) (ap (λ n. take n (drop head.len (bytes ++ more))) (omega arith))) in
    let remains : drop (head.len + head.length) new ≡ drop head.length (drop (length (print_request is.of)) (bytes ++ more)) =
    rw (grown) (rw (sym is.len) (sym (drop-drop head.length head.len (bytes ++ more) ∙ ap (λ n. drop n (bytes ++ more)) (omega arith)))) in
    record {
      head = is.of;
      wants = wants head.key head.length head.close;
      asks = (head_stays bytes more is.of is.asks.0, is.asks.1);
      key = key;
      close = close;
      passed = passed ∙ is.passed;
      enough = omega (arith, length-drop (length (print_request is.of)) (bytes ++ more), is.len, enough);
      body = body ∙ cut;
      rest_is = left ∙ remains;
    }

pub complete_at : (P : RequestSpans → Type 0) (s : Status RequestSpans) (r : RequestSpans) → s ≡ Complete r → IfComplete {A = RequestSpans} {E = Error} (Ok s) P → P r
complete_at P s r e k = subst (λ x. IfComplete {A = RequestSpans} {E = Error} (Ok x) P) e k

pub partial_at : (P : Type 0) (s : Status RequestSpans) → s ≡ Partial → OnPartial {A = RequestSpans} {E = Error} (Ok s) P → P
partial_at P s e k = subst (λ x. OnPartial {A = RequestSpans} {E = Error} (Ok x) P) e k

pub found_at : (bytes : List ℕ) (headers : List HeaderSpan) (o : Option RequestSpans) (spans : RequestSpans) → o ≡ Some spans → FoundIs bytes headers (Ok o) → HeadFound bytes headers spans
found_at bytes headers o spans is found = subst (λ (x : Option RequestSpans). FoundIs bytes headers (Ok x)) is found
