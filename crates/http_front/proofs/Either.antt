-- Bytes hold a request or a fault, or it takes more of them to tell.
use Rattle.std.proofs.Common.{◌≡◌, ℕ, ◌⊎◌, inl, inr, List, [], ◌∷◌, map, length, refl, subst, arith, Bool, true, false, Result, Ok, Err, Option, Some, None}
use Rattle.std.specs.Prelude.{IfErr, if◌then◌else◌, nat_eq, nat_lt, codes, bytes_eq, ◌||◌}
use Rattle.std.proofs.lemmas.Bool.{cases_lt}
use Rattle.httparse.specs.Grammar.{RequestHead}
use Rattle.httparse.specs.Spans.{name_and_value}
use Rattle.httparse.specs.declared.spans.HeaderSpan.{HeaderSpan}
use Rattle.httparse.specs.declared.spans.RequestSpans.{RequestSpans}
use Rattle.http_fields.specs.declared.lengths.BadLength.{BadLength}
use Rattle.http_fields.specs.Fields.{NameAndValue, is_coded, has_transfer_coding, length_in}
use Rattle.http_front.specs.declared.fault.FrontFault.{FrontFault}
use Rattle.http_front.specs.declared.fault.FrontFault.TheVariants as fault
use Rattle.http_front.specs.Fields.{key_in, is_json, body_length, needed, says_close}
use Rattle.http_front.specs.Heads.{Wants, wants, with_body, with_key, wanted_by, wanted}
use Rattle.http_front.specs.Asks.{behind, BeginsWithHead, IsUndecided, HoldsRequest, HoldsFault}
use Rattle.http_front.specs.Service.{IsOfHead, FoundIs}
use Rattle.http_front.proofs.Fronts.{refused_by, of_bytes}

-- a fault that is told is one of the tests of a head
abbrev Tested : {A : Type 0} → Result A FrontFault → Type 0
Tested r = IfErr r IsOfHead

either_way : (test : Bool) (x y : Result Wants FrontFault) → Tested x → Tested y → Tested (if test then x else y)
either_way true x y p q = p
either_way false x y p q = q

of_needed : (length : Result (Option ℕ) BadLength) → Tested (needed length)
of_needed (Ok None) = tt
of_needed (Ok (Some length)) = tt
of_needed (Err bad) = tt

of_body : (key : List ℕ) (close : Bool) (length : Result ℕ FrontFault) → Tested length → Tested (with_body key close length)
of_body key close (Ok length) k = either_way (nat_lt 262144 length) (Err (fault.BodyTooLarge length)) (Ok (wants key length close)) tt tt
of_body key close (Err f) k = k

of_key : (close : Bool) (fields : List NameAndValue) (key : Option (List ℕ)) → Tested (with_key close fields key)
of_key close fields None = tt
of_key close fields (Some key) =
    let body : Result Wants FrontFault = with_body key close (body_length fields) in
    let chunked : Result Wants FrontFault = if has_transfer_coding fields then Err fault.Chunked else body in
    either_way (is_coded fields) (Err fault.Coded) (if is_json fields then chunked else Err fault.BadMedia) tt
    (either_way (is_json fields) chunked (Err fault.BadMedia)
    (either_way (has_transfer_coding fields) (Err fault.Chunked) body tt (of_body key close (body_length fields) (of_needed (length_in fields)))) tt)

of_tests : (method target : List ℕ) (minor : ℕ) (fields : List NameAndValue) → Tested (wanted_by method target minor fields)
of_tests method target minor fields =
    let by_key : Result Wants FrontFault = with_key (nat_eq minor 0 || says_close fields) fields (key_in fields) in
    either_way (bytes_eq target (codes "/graphql")) (if bytes_eq method (codes "POST") then by_key else Err fault.BadMethod) (Err fault.NotFound)
    (either_way (bytes_eq method (codes "POST")) by_key (Err fault.BadMethod) (of_key (nat_eq minor 0 || says_close fields) fields (key_in fields)) tt) tt

-- the fault with which a head is refused is one of its tests
pub of_head : (head : RequestHead) (f : FrontFault) → wanted head ≡ Err f → IsOfHead f
of_head head f e = subst (λ (r : Result Wants FrontFault). Tested r) e (of_tests head.method head.target head.minor (map name_and_value head.fields))

-- the bytes hold one or the other, or it takes more of them
abbrev pub Held : List ℕ → Type 0
Held bytes = HoldsRequest bytes ⊎ (HoldsFault bytes false ⊎ IsUndecided bytes)

by_wants : (bytes : List ℕ) (head : RequestHead) (r : Result Wants FrontFault) → BeginsWithHead bytes head → wanted head ≡ r → Held bytes
by_wants bytes head (Ok w) begins is = elim (cases_lt (length (behind head bytes)) w.length) [
  | inl short ↦ inr (inr (inr (_, record { head = head; wants = w; asks = (begins, is); short = short; missing_is = refl })))
  | inr enough ↦ inl (record { head = head; wants = w; asks = (begins, is); enough = enough })
]
by_wants bytes head (Err f) begins is =
    let of : IsOfHead f = of_head head f is in inr (inl (f, refused_by bytes f of (head, begins, is), of_bytes f of))

-- where a whole head stands at the front
by_head : (bytes : List ℕ) (head : RequestHead) → BeginsWithHead bytes head → Held bytes
by_head bytes head begins = by_wants bytes head (wanted head) begins refl

-- by what a look for a head found
pub held_by : (bytes : List ℕ) (headers : List HeaderSpan) (r : Result (Option RequestSpans) FrontFault) → FoundIs bytes headers r → Held bytes
held_by bytes headers (Ok (Some spans)) found = by_head bytes found.head found.begins
held_by bytes headers (Ok None) part = inr (inr (inl part))
held_by bytes headers (Err f) k = inr (inl (f, k.0, k.1))

-- where it takes more bytes and the end is met, there is a fault
pub ends : (bytes : List ℕ) → IsUndecided bytes → HoldsFault bytes true
ends [] (inl part) = (fault.End, (refl, refl), ((λ e. cc e), (λ e. cc e)))
ends (byte ∷ bytes) (inl part) = (fault.BadHead, inr (part.0, part.1, omega arith, refl), ((λ e. cc e), (λ e. cc e)))
ends bytes (inr lacks) = (fault.Truncated lacks.0, (lacks.1, refl), ((λ e. cc e), (λ e. cc e)))
