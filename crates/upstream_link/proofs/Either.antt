-- Bytes hold a reply or a fault, or it takes more of them or their end to tell.
use Rattle.std.proofs.Common.{◌≡◌, ℕ, ◌+◌, ◌-◌, ◌≤◌, ◌<◌, ◌⊎◌, inl, inr, List, [], ◌∷◌, ◌++◌, length, take, drop, map, zero, suc, refl, sym, subst, arith, Bool, true, false, Option, Some, None, Ok, Err}
use Rattle.std.specs.Prelude.{Result, IfErr, if◌then◌else◌, bytes_eq, nat_lt}
use Rattle.std.proofs.lemmas.Bool.{cases_lt, cases_Bool}
use Rattle.std.proofs.lemmas.List.{length-append, length-drop, drop-drop}
use Rattle.std.specs.Cmp.Lexicographic.{bytes_decides}
use Rattle.httparse.specs.Grammar.{ResponseHead, print_response, status_code}
use Rattle.httparse.specs.Spans.{name_and_value}
use Rattle.http_fields.specs.declared.lengths.BadLength.{BadLength}
use Rattle.http_fields.specs.Fields.{NameAndValue, is_coded, has_transfer_coding, length_in}
use Rattle.upstream_link.specs.declared.fault.LinkFault.{LinkFault}
use Rattle.upstream_link.specs.declared.fault.LinkFault.TheVariants as fault
use Rattle.upstream_link.specs.declared.framing.Framing.{Framing}
use Rattle.upstream_link.specs.declared.framing.Framing.TheVariants as framing
use Rattle.upstream_link.specs.declared.heads.Head.{Head}
use Rattle.upstream_link.specs.Bodies.{BodyIs}
use Rattle.upstream_link.specs.Chunks.{room, line_end, body_limit, ChunksTo, trailer_length}
use Rattle.upstream_link.specs.Framing.{has_no_body, has_other_coding, framed_by_length, framed_with, framing_of}
use Rattle.upstream_link.specs.ReplyHeads.{HasHead, IsInterim, HeadsTo, ReplyHeadAt, after_head}
use Rattle.upstream_link.specs.Replies.{HoldsReply, HoldsFault, IsOfBytes, IsUndecided}
use Rattle.upstream_link.specs.Service.{HeadLookSays, LookSays, LineIs, IsSeen, AreSeen}
use Rattle.upstream_link.proofs.Lines.{trailer_fault, data_fault, no_end, ends, chunk_here, none_yet, one_more}
use Rattle.upstream_link.proofs.Fronts.{head_inside, heads_none, heads_more}

-- ---- a head that says its body can't be read

-- a fault that is told is one of the bytes
abbrev Tells : Result Framing LinkFault → Type 0
Tells r = IfErr r IsOfBytes

either_way : (test : Bool) (x y : Result Framing LinkFault) → Tells x → Tells y → Tells (if test then x else y)
either_way true x y p q = p
either_way false x y p q = q

of_length : (length : Option ℕ) → Tells (framed_by_length length)
of_length None = tt
of_length (Some length) = either_way (nat_lt body_limit length) (Err fault.TooLarge) (Ok (framing.Length length)) ((λ e. cc e), (λ e. cc e)) tt

of_fields : (code : ℕ) (fields : List NameAndValue) (length : Result (Option ℕ) BadLength) → Tells (framed_with code fields length)
of_fields code fields (Err bad) = ((λ e. cc e), (λ e. cc e))
of_fields code fields (Ok length) =
    let sized = framed_by_length length in
    let chunked : Result Framing LinkFault = if has_transfer_coding fields then Ok framing.Chunked else sized in
    either_way (is_coded fields) (Err fault.Coded) (if has_no_body code then Ok framing.NoBody else chunked) ((λ e. cc e), (λ e. cc e))
    (either_way (has_no_body code) (Ok framing.NoBody) chunked tt (either_way (has_transfer_coding fields) (Ok framing.Chunked) sized tt (of_length length)))

of_framing : (h : ResponseHead) (f : LinkFault) → framing_of h ≡ Err f → IsOfBytes f
of_framing h f e =
    let fields = map name_and_value h.fields in
    subst Tells e
    (either_way (has_other_coding fields) (Err fault.BadReplyHead) (framed_with (status_code h) fields (length_in fields)) ((λ x. cc x), (λ x. cc x))
    (of_fields (status_code h) fields (length_in fields)))

-- ---- places behind others

seen_behind : (n : ℕ) (bytes : List ℕ) → n ≤ length bytes → AreSeen bytes → AreSeen (drop n bytes)
seen_behind n bytes within seen at inside =
    subst IsSeen (sym (drop-drop at n bytes)) (seen (n + at) (omega (arith, length-drop n bytes, within, inside)))

-- ---- bodies

-- a body is held, or a fault, or it takes more to tell
abbrev BodyHeld : Framing → List ℕ → Type 0
BodyHeld framed bytes =
    ((body : List ℕ) × BodyIs framed (Ok body) bytes false)
    ⊎ (((f : LinkFault) × BodyIs framed (Err f) bytes false × IsOfBytes f) ⊎ BodyIs framed (Err fault.Failed) bytes false)

-- the last chunk, and its trailer
by_trailer : (bytes content here : List ℕ) (len size : ℕ) (o : Option ℕ) → ChunksTo bytes content here → LineIs here len size → size ≡ 0 → trailer_length (room (drop len here)) ≡ o
    → BodyHeld framing.Chunked bytes
by_trailer bytes content here len size (Some n) to is none whole = inl (content, (here, to, ends here len size n is none whole))
by_trailer bytes content here len size None to is none part = elim (cases_lt (length (drop len here)) 16384) [
  | inl short ↦ inr (inr (content, here, to, trailer_fault content here false len size fault.Failed is none to.fits (part, short, refl)))
  | inr long ↦ inr (inl (fault.BadChunk, (content, here, to, trailer_fault content here false len size fault.BadChunk is none to.fits (part, long)), ((λ e. cc e), (λ e. cc e))))
]

-- whole chunks, and so on behind them
abbrev Goes : List ℕ → List ℕ → Type 0
Goes bytes here = (content left : List ℕ) → ChunksTo bytes content left → length left < length here → AreSeen left → BodyHeld framing.Chunked bytes

-- a size line that isn't the last, with its data
by_data : (bytes content here : List ℕ) (len size : ℕ) → Goes bytes here → ChunksTo bytes content here → AreSeen here → LineIs here len size → ¬ (size ≡ 0)
    → length content + size ≤ body_limit → len + size + 2 ≤ length here → (take 2 (drop (len + size) here) ≡ line_end) ⊎ (¬ (take 2 (drop (len + size) here) ≡ line_end))
    → BodyHeld framing.Chunked bytes
by_data bytes content here len size goes to seen is some fits enough (inl end) =
    let new = content ++ take (len + size - len) (drop len here) in
    let left = drop (len + size + 2) here in
    let more = chunk_here content new here left len size is some fits enough end refl refl false refl in
    goes new left (one_more bytes content new here left more.chunk to more.is more.here_is more.grown more.fits)
    (omega (arith, length-drop (len + size + 2) here, enough)) (seen_behind (len + size + 2) here enough seen)
by_data bytes content here len size goes to seen is some fits enough (inr other) =
    inr (inl (fault.BadChunk, (content, here, to, no_end content here false len size is some fits enough other), ((λ e. cc e), (λ e. cc e))))

decided : (xs ys : List ℕ) → (xs ≡ ys) ⊎ (¬ (xs ≡ ys))
decided xs ys = elim (cases_Bool (bytes_eq xs ys)) [
  | inl same ↦ inl ((bytes_decides xs ys).0 same)
  | inr other ↦ inr (λ e. absurd (cc ((bytes_decides xs ys).1 e, other)))
]

-- a size line
by_line : (bytes content here : List ℕ) (len size : ℕ) → Goes bytes here → ChunksTo bytes content here → AreSeen here → LineIs here len size → BodyHeld framing.Chunked bytes
by_line bytes content here len size goes to seen is = elim (cases_lt body_limit (length content + size)) [
  | inl over ↦ inr (inl (fault.TooLarge, (content, here, to, (is.0, is.1, omega (arith, is.3, over))), ((λ e. cc e), (λ e. cc e))))
  | inr fits ↦ elim (cases_lt 0 size) [
    | inl some ↦ elim (cases_lt (length here) (len + size + 2)) [
      | inl short ↦ inr (inr (content, here, to, data_fault content here [] false len size fault.Failed is (λ e. absurd (omega (arith, e, some))) fits (short, refl)))
      | inr enough ↦ by_data bytes content here len size goes to seen is (λ e. absurd (omega (arith, e, some))) fits enough (decided (take 2 (drop (len + size) here)) line_end)
    ]
    | inr none ↦ by_trailer bytes content here len size (trailer_length (room (drop len here))) to is (omega (arith, none)) refl
  ]
]

by_look : (bytes content here : List ℕ) (r : Result (Option (ℕ × ℕ)) LinkFault) → Goes bytes here → ChunksTo bytes content here → AreSeen here → LookSays here r
    → BodyHeld framing.Chunked bytes
by_look bytes content here (Ok (Some line)) goes to seen is = by_line bytes content here line.0 line.1 goes to seen is
by_look bytes content here (Ok None) goes to seen part = inr (inr (content, here, to, (inl part, refl)))
by_look bytes content here (Err fault.Down) goes to seen k = absurd k
by_look bytes content here (Err fault.Failed) goes to seen k = absurd k
by_look bytes content here (Err fault.BadReplyHead) goes to seen k = absurd k
by_look bytes content here (Err fault.Coded) goes to seen k = absurd k
by_look bytes content here (Err fault.TooLarge) goes to seen k = absurd k
by_look bytes content here (Err fault.Truncated) goes to seen k = absurd k
by_look bytes content here (Err fault.BadChunk) goes to seen bad = inr (inl (fault.BadChunk, (content, here, to, inl bad), ((λ e. cc e), (λ e. cc e))))
by_look bytes content here (Err fault.Memory) goes to seen k = absurd k

chunks_held : (most : ℕ) (bytes content here : List ℕ) → length here ≤ most → ChunksTo bytes content here → AreSeen here → BodyHeld framing.Chunked bytes
chunks_held zero bytes content here few to seen =
    let look = (seen 0 (omega arith)).1 in by_look bytes content here look.0 (λ new left on short s. absurd (omega (arith, short, few))) to seen look.1
chunks_held (suc most) bytes content here few to seen =
    let look = (seen 0 (omega arith)).1 in
    by_look bytes content here look.0 (λ new left on short s. chunks_held most bytes new left (omega (arith, short, few)) on s) to seen look.1

body_held : (framed : Framing) (bytes : List ℕ) → AreSeen bytes → BodyHeld framed bytes
body_held framing.NoBody bytes seen = inl ([], refl)
body_held framing.Chunked bytes seen = chunks_held (length bytes) bytes [] bytes (omega arith) (none_yet bytes) seen
body_held (framing.Length size) bytes seen = elim (cases_lt (length bytes) size) [
  | inl short ↦ inr (inr (short, refl))
  | inr enough ↦ inl (take size bytes, (enough, refl))
]
body_held framing.UntilEnd bytes seen = elim (cases_lt body_limit (length bytes)) [
  | inl long ↦ inr (inl (fault.TooLarge, long, ((λ e. cc e), (λ e. cc e))))
  | inr fits ↦ inr (inr (fits, refl))
]

-- ---- heads

abbrev Held : List ℕ → Type 0
Held bytes = HoldsReply bytes false ⊎ (HoldsFault bytes false ⊎ IsUndecided bytes)

by_framing : (bytes here : List ℕ) (h : ResponseHead) (r : Result Framing LinkFault) → ReplyHeadAt bytes here h → framing_of h ≡ r → AreSeen (after_head h here) → Held bytes
by_framing bytes here h (Err f) at is seen = inr (inl (f, inr (here, h, at, inl is), of_framing h f is))
by_framing bytes here h (Ok framed) at is seen = elim (body_held framed (after_head h here) seen) [
  | inl body ↦ inl (status_code h, body.0, (here, h, at, refl, (framed, is, body.1)))
  | inr other ↦ elim other [
    | inl wrong ↦ inr (inl (wrong.0, inr (here, h, at, inr (framed, is, wrong.1)), wrong.2))
    | inr part ↦ inr (inr (inr (here, h, at, inr (framed, is, part))))
  ]
]

decided_interim : (h : ResponseHead) → IsInterim h ⊎ (IsInterim h → ⊥)
decided_interim h = elim (cases_lt (status_code h) 100) [
  | inl less ↦ inr (λ i. absurd (omega (arith, less, i.0)))
  | inr at_least ↦ elim (cases_lt (status_code h) 200) [ inl below ↦ inl (at_least, below) | inr above ↦ inr (λ i. absurd (omega (arith, above, i.1))) ]
]

-- so many heads are passed over, and so on behind them
abbrev Passes : ℕ → List ℕ → Type 0
Passes passed bytes = (hs : List ResponseHead) (left : List ℕ) → length hs ≡ passed → HeadsTo bytes hs left → AreSeen left → Held bytes

by_head : (bytes here : List ℕ) (hs : List ResponseHead) (h : ResponseHead) → length hs ≤ 8 → (length hs ≡ 8) ⊎ Passes (length hs + 1) bytes → HeadsTo bytes hs here → AreSeen here
    → HasHead here h → IsInterim h ⊎ (IsInterim h → ⊥) → Held bytes
by_head bytes here hs h few goes to seen has (inr plain) =
    by_framing bytes here h (framing_of h) (hs, to, few, has, plain) refl (seen_behind (length (print_response h)) here (head_inside here h has) seen)
by_head bytes here hs h few (inl full) to seen has (inl interim) =
    inr (inl (fault.BadReplyHead, inl (hs, here, to, few, inr (h, has, interim, full)), ((λ e. cc e), (λ e. cc e))))
by_head bytes here hs h few (inr goes) to seen has (inl interim) =
    goes (hs ++ h ∷ []) (after_head h here) (length-append hs (h ∷ [])) (heads_more bytes hs h here to has interim)
    (seen_behind (length (print_response h)) here (head_inside here h has) seen)

by_head_look : (bytes here : List ℕ) (hs : List ResponseHead) (r : Result (Option Head) LinkFault) → length hs ≤ 8 → (length hs ≡ 8) ⊎ Passes (length hs + 1) bytes
    → HeadsTo bytes hs here → AreSeen here → HeadLookSays here r → Held bytes
by_head_look bytes here hs (Ok (Some head)) few goes to seen is = by_head bytes here hs is.h few goes to seen is.has (decided_interim is.h)
by_head_look bytes here hs (Ok None) few goes to seen part = inr (inr (inl (hs, here, to, few, (part, refl))))
by_head_look bytes here hs (Err fault.Down) few goes to seen k = absurd k
by_head_look bytes here hs (Err fault.Failed) few goes to seen k = absurd k
by_head_look bytes here hs (Err fault.BadReplyHead) few goes to seen bad = inr (inl (fault.BadReplyHead, inl (hs, here, to, few, inl bad), ((λ e. cc e), (λ e. cc e))))
by_head_look bytes here hs (Err fault.Coded) few goes to seen k = absurd k
by_head_look bytes here hs (Err fault.TooLarge) few goes to seen k = absurd k
by_head_look bytes here hs (Err fault.Truncated) few goes to seen k = absurd k
by_head_look bytes here hs (Err fault.BadChunk) few goes to seen k = absurd k
by_head_look bytes here hs (Err fault.Memory) few goes to seen k = absurd k

-- behind these heads, with so many more at most
heads_held : (more : ℕ) (bytes here : List ℕ) (hs : List ResponseHead) → length hs + more ≡ 8 → HeadsTo bytes hs here → AreSeen here → Held bytes
heads_held zero bytes here hs e to seen =
    let look = (seen 0 (omega arith)).0 in by_head_look bytes here hs look.0 (omega (arith, e)) (inl (omega (arith, e))) to seen look.1
heads_held (suc more) bytes here hs e to seen =
    let look = (seen 0 (omega arith)).0 in
    by_head_look bytes here hs look.0 (omega (arith, e)) (inr (λ ks left long on s. heads_held more bytes left ks (omega (arith, e, long)) on s)) to seen look.1

pub held : (bytes : List ℕ) → AreSeen bytes → Held bytes
held bytes seen = heads_held 8 bytes bytes [] refl (heads_none bytes) seen

-- ---- at the end

body_ends : (framed : Framing) (bytes : List ℕ) → BodyIs framed (Err fault.Failed) bytes false → ((body : List ℕ) × BodyIs framed (Ok body) bytes true) ⊎ BodyIs framed (Err fault.Truncated) bytes true
body_ends framing.NoBody bytes k = absurd (cc k)
body_ends framing.Chunked bytes (content, here, to, k) = inr (content, here, to, (k.0, refl))
body_ends (framing.Length size) bytes k = inr (k.0, refl)
body_ends framing.UntilEnd bytes k = inl (bytes, (refl, k.0, refl))

pub ends_held : (bytes : List ℕ) → IsUndecided bytes → HoldsReply bytes true ⊎ HoldsFault bytes true
ends_held bytes (inl (hs, here, to, few, k)) = inr (fault.Truncated, inl (hs, here, to, few, (k.0, refl)), ((λ e. cc e), (λ e. cc e)))
ends_held bytes (inr (here, h, at, inl bad)) = absurd ((of_framing h fault.Failed bad).0 refl)
ends_held bytes (inr (here, h, at, inr (framed, is, body))) = elim (body_ends framed (after_head h here) body) [
  | inl whole ↦ inl (status_code h, whole.0, (here, h, at, refl, (framed, is, whole.1)))
  | inr cut ↦ inr (fault.Truncated, inr (here, h, at, inr (framed, is, cut)), ((λ e. cc e), (λ e. cc e)))
]
