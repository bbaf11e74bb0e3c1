-- What is received in two pieces is received.
use Rattle.std.proofs.Common.{◌≡◌, ℕ, List, [], ◌∷◌, ◌++◌, refl, sym, ap, ◌∙◌, subst, append_assoc, Bool, true, false}
use Rattle.std.specs.Prelude.{Option, Some, None, ◌||◌}
use Rattle.std.specs.Io.KnownBytes.{IsAtEnd}
use Rattle.std.proofs.lemmas.List.{append-nil}
use Rattle.std.proofs.Math.Bool.{or-false}
use Rattle.outside.specs.Taken.{Took}
use Rattle.outside.specs.Dials.{Dial, LastBecomes, with_last, takes, fails}
use Rattle.outside.proofs.Taking.{took_none, took_more}
use Rattle.outside.proofs.Dialling.{last_then}
use Rattle.upstream_link.specs.Received.{receives, Told, Brings, Received}

receives_none : (d : Dial) → d ≡ receives [] false false d
receives_none d = λ i. record { answered = d.answered; sent = d.sent; taken = sym (append-nil d.taken) i; ended = sym (or-false d.ended) i; failed = sym (or-false d.failed) i }

receives_then : (first second : List ℕ) (ended failed : Bool) (d : Dial) → receives second ended failed (receives first false false d) ≡ receives (first ++ second) ended failed d
receives_then first second ended failed d =
    λ i. record { answered = d.answered; sent = d.sent; taken = append_assoc d.taken first second i; ended = ap (λ a. a || ended) (or-false d.ended) i; failed = ap (λ a. a || failed) (or-false d.failed) i }

takes_receives : (bytes : List ℕ) (ended : Bool) (d : Dial) → takes bytes ended d ≡ receives bytes ended false d
takes_receives bytes ended d = λ i. record { answered = d.answered; sent = d.sent; taken = d.taken ++ bytes; ended = d.ended || ended; failed = sym (or-false d.failed) i }

or_true : (a : Bool) → true ≡ (a || true)
or_true true = refl
or_true false = refl

fails_receives : (d : Dial) → fails d ≡ receives [] false true d
fails_receives d = λ i. record { answered = d.answered; sent = d.sent; taken = sym (append-nil d.taken) i; ended = sym (or-false d.ended) i; failed = or_true d.failed i }

pub same_last : (change other : Dial → Dial) → ((d : Dial) → change d ≡ other d) → (a b : Option (List Dial)) → LastBecomes change a b → LastBecomes other a b
same_last change other same a b x = subst (λ (f : Dial → Dial). LastBecomes f a b) (λ i d. same d i) x

pub with_last_none : (change : Dial → Dial) → ((d : Dial) → d ≡ change d) → (xs : List Dial) → xs ≡ with_last change xs
unfolding with_last
with_last_none change same [] = refl
with_last_none change same (x ∷ []) = ap (λ d. d ∷ []) (same x)
with_last_none change same (x ∷ y ∷ rest) = ap (λ l. x ∷ l) (with_last_none change same (y ∷ rest))

last_none : (log : Option (List Dial)) → LastBecomes (receives [] false false) log log
last_none None = refl
last_none (Some log) = ap Some (with_last_none (receives [] false false) receives_none log)

-- nothing was received
pub brings_none : (told : Told) → Brings told [] false false told
brings_none told = (took_none told.0, last_none told.1)

-- some bytes were received, and then some more
pub brings_more : (a b c : Told) (first second : List ℕ) (ended failed : Bool) → Brings a first false false b → Brings b second ended failed c → Brings a (first ++ second) ended failed c
brings_more a b c first second ended failed x y = (
  took_more a.0 b.0 c.0 first second x.0 y.0,
  same_last (λ d. receives second ended failed (receives first false false d)) (receives (first ++ second) ended failed) (receives_then first second ended failed) a.1 c.1
      (last_then (receives first false false) (receives second ended failed) a.1 b.1 c.1 x.1 y.1),
)

-- a read that gave some bytes, or met the end
pub brings_read : (a b : Told) (bytes : List ℕ) (ended : Bool) → Took a.0 bytes b.0 → LastBecomes (takes bytes ended) a.1 b.1 → Brings a bytes ended false b
brings_read a b bytes ended took logged = (took, same_last (takes bytes ended) (receives bytes ended false) (takes_receives bytes ended) a.1 b.1 logged)

-- a read that failed
pub brings_failure : (a b : Told) → Took a.0 [] b.0 → LastBecomes fails a.1 b.1 → Brings a [] false true b
brings_failure a b took logged = (took, same_last fails (receives [] false true) fails_receives a.1 b.1 logged)

-- one piece more behind what was received
pub piece_behind : (kept now new : List ℕ) (a b c : Told) (so_far piece : List ℕ) (ended failed : Bool) → Brings a so_far false false b → now ≡ kept ++ so_far → Brings b piece ended failed c → new ≡ now ++ piece
    → (bytes : List ℕ) × Brings a bytes ended failed c × (new ≡ kept ++ bytes)
piece_behind kept now new a b c so_far piece ended failed before is more grown =
    (so_far ++ piece, brings_more a b c so_far piece ended failed before more, grown ∙ ap (λ l. l ++ piece) is ∙ append_assoc kept so_far piece)

-- the end was not met
pub received_open : {Says : List ℕ → Bool → Type 0} (kept now : List ℕ) (a b : Told) (failed : Bool) (bytes : List ℕ) → Brings a bytes false failed b → now ≡ kept ++ bytes → Says now false
    → Received kept a b failed Says
received_open {Says} kept now a b failed bytes brings is says =
    record { bytes = bytes; ended = false; brings = brings; at_end = λ e. cc e; says = subst (λ l. Says l false) is says }

-- the end was met
pub received_ended : {Says : List ℕ → Bool → Type 0} (kept now : List ℕ) (a b : Told) (failed : Bool) (bytes : List ℕ) → Brings a bytes true failed b → now ≡ kept ++ bytes → IsAtEnd b.0 → Says now true
    → Received kept a b failed Says
received_ended {Says} kept now a b failed bytes brings is over says =
    record { bytes = bytes; ended = true; brings = brings; at_end = λ e. over; says = subst (λ l. Says l true) is says }

-- the same, said otherwise
pub received_says : {P Q : List ℕ → Bool → Type 0} (kept : List ℕ) (a b : Told) (failed other : Bool) (t : Received kept a b failed P) → failed ≡ other
    → (P (kept ++ t.bytes) t.ended → Q (kept ++ t.bytes) t.ended) → Received kept a b other Q
received_says {P} {Q} kept a b failed other t same gives =
    record { bytes = t.bytes; ended = t.ended; brings = subst (λ f. Brings a t.bytes t.ended f b) same t.brings; at_end = t.at_end; says = gives t.says }

-- bytes that were received already, and more from there
pub received_after : {Q R : List ℕ → Bool → Type 0} (kept now : List ℕ) (a b c : Told) (failed other : Bool) (bytes : List ℕ) → Brings a bytes false false b → now ≡ kept ++ bytes → Received now b c failed Q → failed ≡ other
    → ((more : List ℕ) (ended : Bool) → Q (now ++ more) ended → R (now ++ more) ended) → Received kept a c other R
received_after {Q} {R} kept now a b c failed other bytes brings is second same gives = record {
  bytes = bytes ++ second.bytes;
  ended = second.ended;
  brings = subst (λ f. Brings a (bytes ++ second.bytes) second.ended f c) same (brings_more a b c bytes second.bytes second.ended failed brings second.brings);
  at_end = second.at_end;
  says = subst (λ l. R l second.ended) (ap (λ l. l ++ second.bytes) is ∙ append_assoc kept bytes second.bytes) (gives second.bytes second.ended second.says);
}

-- what was received without meeting the end, and more from there
pub received_then : {P Q R : List ℕ → Bool → Type 0} (kept now : List ℕ) (a b c : Told) (failed other : Bool) (first : Received kept a b false P) → first.ended ≡ false → now ≡ kept ++ first.bytes → Received now b c failed Q
    → failed ≡ other → ((more : List ℕ) (ended : Bool) → Q (now ++ more) ended → R (now ++ more) ended) → Received kept a c other R
received_then {P} {Q} {R} kept now a b c failed other first still is second same gives =
    received_after kept now a b c failed other first.bytes (subst (λ e. Brings a first.bytes e false b) still first.brings) is second same gives

-- what was received after bytes that are done with
pub received_on : {Q R : List ℕ → Bool → Type 0} (kept here : List ℕ) (a b c : Told) (failed other : Bool) (bytes : List ℕ) → Brings a bytes false false b → (second : Received here b c failed Q) → failed ≡ other
    → ((ended : Bool) → Q (here ++ second.bytes) ended → R ((kept ++ bytes) ++ second.bytes) ended) → Received kept a c other R
received_on {Q} {R} kept here a b c failed other bytes brings second same gives = record {
  bytes = bytes ++ second.bytes;
  ended = second.ended;
  brings = subst (λ f. Brings a (bytes ++ second.bytes) second.ended f c) same (brings_more a b c bytes second.bytes second.ended failed brings second.brings);
  at_end = second.at_end;
  says = subst (λ l. R l second.ended) (append_assoc kept bytes second.bytes) (gives second.ended second.says);
}
