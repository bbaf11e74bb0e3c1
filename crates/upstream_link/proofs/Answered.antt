-- A head, and the body behind it.
use Rattle.std.proofs.Common.{◌≡◌, ℕ, List, ◌++◌, Bool, true, false, cond, Ok, Err, None, Some, refl, sym, ap, ◌∙◌, subst, drop, length}
use Rattle.std.specs.Prelude.{Result, nat_lt, ⊤, Option, map}
use Rattle.std.proofs.lemmas.List.{drop-append-le}
use Rattle.httparse.specs.Grammar.{ResponseHead, status_code, print_response}
use Rattle.httparse.specs.Spans.{name_and_value}
use Rattle.upstream_link.specs.declared.fault.LinkFault.{LinkFault}
use Rattle.upstream_link.specs.declared.fault.LinkFault.TheVariants as fault
use Rattle.upstream_link.specs.declared.framing.Framing.{Framing}
use Rattle.upstream_link.specs.declared.framing.Framing.TheVariants as framing
use Rattle.upstream_link.specs.Received.{is_failure}
use Rattle.http_fields.specs.declared.lengths.BadLength.{BadLength}
use Rattle.http_fields.specs.Fields.{NameAndValue, is_coded, has_transfer_coding, length_in}
use Rattle.upstream_link.specs.Framing.{has_no_body, has_other_coding, framed_by_length, framed_with, framing_of}
use Rattle.upstream_link.specs.ReplyHeads.{HasHead, ReplyHeadAt, after_head}
use Rattle.upstream_link.proofs.Fronts.{heads_grow, head_stays, head_inside}

-- a fault, if there is one, is no failed transfer
abbrev pub IsOfBytes : {A : Type 0} → Result A LinkFault → Type 0
IsOfBytes (Ok value) = ⊤
IsOfBytes (Err f) = is_failure f ≡ false

either : {A : Type 0} (P : A → Type 0) (t : Bool) (a b : A) → P a → P b → P (cond t a b)
either P true a b x y = x
either P false a b x y = y

by_length : (size : Option ℕ) → IsOfBytes (framed_by_length size)
by_length None = tt
by_length (Some size) = either (IsOfBytes {A = Framing}) (nat_lt 4194304 size) (Err fault.TooLarge) (Ok (framing.Length size)) refl tt

of_fields : (code : ℕ) (fields : List NameAndValue) (r : Result (Option ℕ) BadLength) → IsOfBytes (framed_with code fields r)
of_fields code fields (Err bad) = refl
of_fields code fields (Ok size) =
    either (IsOfBytes {A = Framing}) (is_coded fields) (Err fault.Coded) _ refl
    (either (IsOfBytes {A = Framing}) (has_no_body code) (Ok framing.NoBody) _ tt
    (either (IsOfBytes {A = Framing}) (has_transfer_coding fields) (Ok framing.Chunked) (framed_by_length size) tt (by_length size)))

pub framing_fault : (h : ResponseHead) (f : LinkFault) → framing_of h ≡ Err f → is_failure f ≡ false
framing_fault h f e =
    let fields = map name_and_value h.fields in
    subst (IsOfBytes {A = Framing}) e
    (either (IsOfBytes {A = Framing}) (has_other_coding fields) (Err fault.BadReplyHead) _ refl
    (of_fields (status_code h) fields (length_in fields)))

-- the head of the reply stays when more bytes come
pub reply_head_stays : (bytes here more : List ℕ) (h : ResponseHead) → ReplyHeadAt bytes here h → ReplyHeadAt (bytes ++ more) (here ++ more) h
reply_head_stays bytes here more h x = (x.0, heads_grow bytes x.0 here more x.1, x.2, head_stays here more h x.3, x.4)

-- the bytes behind the head, with more
pub behind : (here more : List ℕ) (h : ResponseHead) (len : ℕ) → HasHead here h → len ≡ length (print_response h) → drop len here ++ more ≡ after_head h (here ++ more)
behind here more h len has is = ap (λ n. drop n here ++ more) is ∙ sym (drop-append-le (length (print_response h)) here more (head_inside here h has))
