-- How the body of a reply is framed, or why it can't be read (RFC 9112, section 6.3).
use Rattle.std.specs.Prelude.{ℕ, Bool, not, ◌||◌, List, map, Option, Some, None, Result, Ok, Err, if◌then◌else◌, nat_eq, nat_lt, codes}
use Rattle.std.specs.List.{list_all}
use Rattle.httparse.specs.Grammar.{ResponseHead, status_code}
use Rattle.httparse.specs.Spans.{name_and_value}
use Rattle.http_fields.specs.declared.lengths.BadLength.{BadLength}
use Rattle.http_fields.specs.Fields.{NameAndValue, same_in_any_case, values_of, is_coded, has_transfer_coding, length_in}
use Rattle.upstream_link.specs.declared.fault.LinkFault.{LinkFault}
use Rattle.upstream_link.specs.declared.fault.LinkFault.TheVariants.{BadReplyHead, Coded, TooLarge}
use Rattle.upstream_link.specs.Chunks.{body_limit}
use Rattle.upstream_link.specs.declared.framing.Framing.{Framing}
use Rattle.upstream_link.specs.declared.framing.Framing.TheVariants as framing

-- a reply of this status has no body
abbrev pub has_no_body : ℕ → Bool
has_no_body code = nat_eq code 204 || nat_eq code 304

-- a transfer coding stands that is not `chunked`
abbrev pub has_other_coding : List NameAndValue → Bool
has_other_coding fields = not (list_all (λ value. same_in_any_case value (codes "chunked")) (values_of (codes "transfer-encoding") fields))

-- a body of this length, which has a limit, or one that goes on to the end
abbrev pub framed_by_length : Option ℕ → Result Framing LinkFault
framed_by_length None = Ok framing.UntilEnd
framed_by_length (Some length) = if nat_lt body_limit length then Err TooLarge else Ok (framing.Length length)

-- a `content-length` is looked at beside `chunked` too, but not used there
abbrev pub framed_with : ℕ → List NameAndValue → Result (Option ℕ) BadLength → Result Framing LinkFault
framed_with code fields (Err bad) = Err BadReplyHead
framed_with code fields (Ok length) =
    if is_coded fields then Err Coded
    else if has_no_body code then Ok framing.NoBody
    else if has_transfer_coding fields then Ok framing.Chunked else framed_by_length length

-- how the body is framed, from the status and the fields
abbrev pub framing_by : ℕ → List NameAndValue → Result Framing LinkFault
framing_by code fields = if has_other_coding fields then Err BadReplyHead else framed_with code fields (length_in fields)

-- how the body behind a head is framed
abbrev pub framing_of : ResponseHead → Result Framing LinkFault
framing_of head = framing_by (status_code head) (map name_and_value head.fields)
