-- A request is one head, and its body behind it.
use Rattle.std.proofs.Common.{◌≡◌, ◌<◌, ◌≤◌, ◌^◌, ◌++◌, ℕ, List, [], ◌∷◌, Bool, true, IsTrue, length, refl, sym, ap, ◌∙◌, subst, append_assoc, arith}
use Rattle.std.specs.Prelude.{All, codes}
use Rattle.std.specs.List.{flat_map, list_all}
use Rattle.std.specs.Fmt.{decimal}
use Rattle.std.specs.Str.Parse.{AllDigits}
use Rattle.std.specs.Char.{digit_value}
use Rattle.std.proofs.lemmas.Fmt.{decimal_is_IsNumeral}
use Rattle.std.proofs.lemmas.Str.Parse.{digit_from_value}
use Rattle.std.proofs.lemmas.Bool.{and_from}
use Rattle.std.proofs.lemmas.Bool.Decides.{nat_tests}
use Rattle.std.proofs.lemmas.List.Elements.{All-cons}
use Rattle.std.proofs.lemmas.List.Sums.{AllPass-from_list_all}
use Rattle.httparse.specs.Grammar.{RequestHead, IsRequestHead, ReadsRequest, Field, IsField, LineEnd, crlf, AllPass, IsToken, is_token_byte, is_value_byte, print_field, print_request, print_section}
use Rattle.httparse.proofs.GrammarLemmas.{request_unique, print_request-append}
use Rattle.upstream_link.specs.RequestBytes.{start_bytes, fields_bytes, length_bytes, end_bytes, head_bytes, request_bytes, written_field, written_fields, request_head, MayBeSent, IsReadAsOne, bytes_with, head_with}

-- ---- the fields

digit_is_value : (c : ℕ) → digit_value c < 10 → is_value_byte c ≡ true
digit_is_value c is = let range = digit_from_value c is in grind (arith, nat_tests)

digits_are_value : (text : List ℕ) → AllDigits 10 text → list_all is_value_byte text ≡ true
digits_are_value [] all = refl
digits_are_value (c ∷ cs) all = and_from _ _ (digit_is_value c all.0) (digits_are_value cs all.1)

is_number : (n : ℕ) → n < 2 ^ 64 → AllPass is_value_byte (decimal n)
is_number n short = AllPass-from_list_all is_value_byte (decimal n) (digits_are_value (decimal n) (decimal_is_IsNumeral n short).0.1)

is_field : (name value : List ℕ) → 0 < length name → list_all is_token_byte name ≡ true → AllPass is_value_byte value → IsField (written_field name value)
is_field name value some token value_is = record {
  name = (some, AllPass-from_list_all is_token_byte name token);
  raw = All-cons (λ b. IsTrue (is_value_byte b)) 32 value refl value_is;
}

text_is_value : (text : List ℕ) → list_all is_value_byte text ≡ true → AllPass is_value_byte text
text_is_value text each = AllPass-from_list_all is_value_byte text each

are_fields : (host : List ℕ) (n : ℕ) (further : List Field) → AllPass is_value_byte host → n < 2 ^ 64 → All IsField further → All IsField (written_fields host n ++ further)
unfolding is_token_byte
are_fields host n further is_host short each =
    let json = codes "application/json" in
    let from_length = written_field (codes "content-length") (decimal n) ∷ further in
    let from_connection = written_field (codes "connection") (codes "close") ∷ from_length in
    let from_coding = written_field (codes "accept-encoding") (codes "identity") ∷ from_connection in
    let from_accept = written_field (codes "accept") json ∷ from_coding in
    let from_type = written_field (codes "content-type") json ∷ from_accept in
    All-cons IsField (written_field (codes "host") host) from_type (is_field (codes "host") host (omega arith) refl is_host)
    (All-cons IsField (written_field (codes "content-type") json) from_accept (is_field (codes "content-type") json (omega arith) refl (text_is_value json refl))
    (All-cons IsField (written_field (codes "accept") json) from_coding (is_field (codes "accept") json (omega arith) refl (text_is_value json refl))
    (All-cons IsField (written_field (codes "accept-encoding") (codes "identity")) from_connection (is_field (codes "accept-encoding") (codes "identity") (omega arith) refl (text_is_value (codes "identity") refl))
    (All-cons IsField (written_field (codes "connection") (codes "close")) from_length (is_field (codes "connection") (codes "close") (omega arith) refl (text_is_value (codes "close") refl))
    (All-cons IsField (written_field (codes "content-length") (decimal n)) further (is_field (codes "content-length") (decimal n) (omega arith) refl (is_number n short)) each)))))

post_is_token : IsToken (codes "POST")
unfolding is_token_byte
post_is_token = (omega arith, AllPass-from_list_all is_token_byte (codes "POST") refl)

is_head : (host target : List ℕ) (further : List Field) (body : List ℕ) → MayBeSent host target further body → IsRequestHead (head_with host target further body)
is_head host target further body may = record {
  method = post_is_token;
  target = (may.some, may.is_target);
  target_text = may.is_text;
  minor = omega arith;
  fields = are_fields host (length body) further may.is_host may.short may.are_fields;
}

-- ---- the bytes

as_sent : (p t c h f q l e b : List ℕ) → (((p ++ t) ++ c) ++ h) ++ (f ++ (q ++ (l ++ e))) ++ b ≡ p ++ (t ++ (c ++ (h ++ (f ++ (q ++ (l ++ (e ++ b)))))))
as_sent p t c h f q l e b = simp (append_assoc)

as_read : (h e g q l b : List ℕ) → (((h ++ e) ++ (g ++ (q ++ l))) ++ e) ++ b ≡ h ++ (e ++ (g ++ (q ++ (l ++ (e ++ b)))))
as_read h e g q l b = simp (append_assoc)

-- the fields behind the host, up to the number
between : List ℕ
between = codes "content-type: application/json\r\naccept: application/json\r\naccept-encoding: identity\r\nconnection: close\r\ncontent-length: "

same_bytes : (host target body : List ℕ) (further : List Field) (n : ℕ)
    → head_bytes host target (flat_map print_field further) n ++ body ≡ print_request (request_head host target further n) ++ body
unfolding head_bytes between
same_bytes host target body further n =
    let lines = flat_map print_field further in
    let start = codes " HTTP/1.1\r\nhost: " in
    let end = codes "\r\n" in
    as_sent (codes "POST ") target start host fields_bytes (decimal n ++ end) lines end body
    ∙ sym (print_request-append (request_head host target further n) body
    ∙ ap (λ (l : List ℕ). codes "POST " ++ (target ++ (start ++ l))) (as_read host end between (decimal n ++ end) lines body))

pub reads_head : (host target body : List ℕ) (further : List Field) → MayBeSent host target further body → ReadsRequest (bytes_with host target further body) (head_with host target further body) body
reads_head host target body further may = (is_head host target further body may, same_bytes host target body further (length body))

pub one_head : (host target body : List ℕ) (further : List Field) → MayBeSent host target further body
    → IsReadAsOne (bytes_with host target further body) (head_with host target further body) body
one_head host target body further may = λ read rest reads.
    request_unique (bytes_with host target further body) read (head_with host target further body) rest body reads (reads_head host target body further may)
