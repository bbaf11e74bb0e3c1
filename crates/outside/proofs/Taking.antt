-- What is taken in two pieces is taken.
use Rattle.std.proofs.Common.{◌≡◌, ℕ, List, [], ◌++◌, refl, sym, ap, ◌∙◌, subst, append_assoc, Bool, true, false}
use Rattle.std.specs.Prelude.{Option, Some, None}
use Rattle.std.specs.Io.KnownBytes.{IsAtEnd}
use Rattle.outside.specs.Taken.{Took, Taken}

-- nothing was taken
pub took_none : (left : Option (List ℕ)) → Took left [] left
took_none None = refl
took_none (Some bytes) = (bytes, refl, refl)

-- some bytes were taken, and then some more
pub took_more : (a b c : Option (List ℕ)) (first second : List ℕ) → Took a first b → Took b second c → Took a (first ++ second) c
took_more None b c first second x y = subst (λ (o : Option (List ℕ)). Took o second c) x y
took_more (Some bytes) b c first second x y =
    let later : Took (Some x.0) second c = subst (λ (o : Option (List ℕ)). Took o second c) x.1 y in
    (later.0, later.1, x.2 ∙ (ap (λ (l : List ℕ). first ++ l) later.2 ∙ sym (append_assoc first second later.0)))

-- one piece more was taken behind what is kept
pub after_piece : (kept now new : List ℕ) (a b c : Option (List ℕ)) (so_far piece : List ℕ) → Took a so_far b → now ≡ kept ++ so_far → Took b piece c → new ≡ now ++ piece
    → (bytes : List ℕ) × Took a bytes c × (new ≡ kept ++ bytes)
after_piece kept now new a b c so_far piece before is took grown =
    (so_far ++ piece, took_more a b c so_far piece before took, grown ∙ ap (λ l. l ++ piece) is ∙ append_assoc kept so_far piece)

-- a `Taken` that didn't meet the end
pub taken_open : {Says : List ℕ → Bool → Type 0} (kept now : List ℕ) (a b : Option (List ℕ)) (bytes : List ℕ) → Took a bytes b → now ≡ kept ++ bytes → Says now false
    → Taken kept a b Says
taken_open {Says} kept now a b bytes took is says =
    record { bytes = bytes; ended = false; took = took; at_end = λ e. cc e; says = subst (λ l. Says l false) is says }

-- a `Taken` that met the end
pub taken_ended : {Says : List ℕ → Bool → Type 0} (kept now : List ℕ) (a b : Option (List ℕ)) (bytes : List ℕ) → Took a bytes b → now ≡ kept ++ bytes → IsAtEnd b → Says now true
    → Taken kept a b Says
taken_ended {Says} kept now a b bytes took is over says =
    record { bytes = bytes; ended = true; took = took; at_end = λ e. over; says = subst (λ l. Says l true) is says }

-- the same, said otherwise
pub taken_says : {P Q : List ℕ → Bool → Type 0} (kept : List ℕ) (a b : Option (List ℕ)) (t : Taken kept a b P) → (P (kept ++ t.bytes) t.ended → Q (kept ++ t.bytes) t.ended) → Taken kept a b Q
taken_says {P} {Q} kept a b t gives = record { bytes = t.bytes; ended = t.ended; took = t.took; at_end = t.at_end; says = gives t.says }

-- bytes that were taken already, and a `Taken` from there
pub taken_after : {Q R : List ℕ → Bool → Type 0} (kept now : List ℕ) (a b c : Option (List ℕ)) (bytes : List ℕ) → Took a bytes b → now ≡ kept ++ bytes → Taken now b c Q
    → ((more : List ℕ) (ended : Bool) → Q (now ++ more) ended → R (now ++ more) ended) → Taken kept a c R
taken_after {Q} {R} kept now a b c bytes took is second gives = record {
  bytes = bytes ++ second.bytes;
  ended = second.ended;
  took = took_more a b c bytes second.bytes took second.took;
  at_end = second.at_end;
  says = subst (λ l. R l second.ended) (ap (λ l. l ++ second.bytes) is ∙ append_assoc kept bytes second.bytes) (gives second.bytes second.ended second.says);
}

-- a `Taken`, and then another one from there
pub taken_then : {P Q R : List ℕ → Bool → Type 0} (kept now : List ℕ) (a b c : Option (List ℕ)) (first : Taken kept a b P) → now ≡ kept ++ first.bytes → Taken now b c Q
    → ((more : List ℕ) (ended : Bool) → Q (now ++ more) ended → R (now ++ more) ended) → Taken kept a c R
taken_then {P} {Q} {R} kept now a b c first is second gives = taken_after kept now a b c first.bytes first.took is second gives
