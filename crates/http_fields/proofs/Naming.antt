-- The values of fields by name.
use Rattle.std.proofs.Common.{◌≡◌, ℕ, ◌<◌, ◌+◌, suc, cond, List, [], ◌∷◌, length, drop, get_or, map, ap, ◌∙◌, arith, ◌≤◌, add-one, true, false}
use Rattle.http_fields.specs.Fields.{same_in_any_case, values_of}
use Rattle.std.proofs.Math.Seq.{drop-cons}
use Rattle.std.proofs.Math.ListN.{drop_of_length-le}
use Rattle.std.proofs.lemmas.List.{length-map, get_or-map}
use Rattle.httparse.specs.declared.spans.HeaderSpan.{HeaderSpan}
use Rattle.httparse.specs.Spans.{header_bytes}

at_drop : (f : HeaderSpan → List ℕ × List ℕ) (hs : List HeaderSpan) (at : ℕ) (d : HeaderSpan) → at < length hs → drop at (map f hs) ≡ f (get_or hs at d) ∷ drop (at + 1) (map f hs)
at_drop f hs at d inside =
    rw (add-one) (drop-cons (map f hs) at (f d) (omega (arith, length-map hs f, inside)) ∙ ap (λ x. x ∷ drop (suc at) (map f hs)) (get_or-map f hs at d (f d) inside))

pub values_found : (name : List ℕ) (bytes : List ℕ) (hs : List HeaderSpan) (at : ℕ) (d : HeaderSpan) → at < length hs
    → same_in_any_case (header_bytes bytes (get_or hs at d)).0 name ≡ true
    → values_of name (drop at (map (header_bytes bytes) hs)) ≡ (header_bytes bytes (get_or hs at d)).1 ∷ values_of name (drop (at + 1) (map (header_bytes bytes) hs))
unfolding values_of
values_found name bytes hs at d inside same =
    let f = header_bytes bytes in
    let R = values_of name (drop (at + 1) (map f hs)) in
    ap (values_of name) (at_drop f hs at d inside) ∙ ap (λ t. cond t ((f (get_or hs at d)).1 ∷ R) R) same

pub values_passed : (name : List ℕ) (bytes : List ℕ) (hs : List HeaderSpan) (at : ℕ) (d : HeaderSpan) → at < length hs
    → same_in_any_case (header_bytes bytes (get_or hs at d)).0 name ≡ false
    → values_of name (drop at (map (header_bytes bytes) hs)) ≡ values_of name (drop (at + 1) (map (header_bytes bytes) hs))
unfolding values_of
values_passed name bytes hs at d inside other =
    let f = header_bytes bytes in
    let R = values_of name (drop (at + 1) (map f hs)) in
    ap (values_of name) (at_drop f hs at d inside) ∙ ap (λ t. cond t ((f (get_or hs at d)).1 ∷ R) R) other

pub values_over : (name : List ℕ) (bytes : List ℕ) (hs : List HeaderSpan) (at : ℕ) → length hs ≤ at → values_of name (drop at (map (header_bytes bytes) hs)) ≡ []
unfolding values_of
values_over name bytes hs at over =
    ap (values_of name) (drop_of_length-le (map (header_bytes bytes) hs) (omega (arith, length-map hs (header_bytes bytes), over)))
