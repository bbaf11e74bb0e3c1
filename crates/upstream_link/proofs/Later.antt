-- A reply that is whole stays when more bytes come.
use Rattle.std.proofs.Common.{◌≡◌, ℕ, ◌+◌, List, [], ◌∷◌, ◌++◌, length, Ok, inl, inr, refl, sym, ap, ◌∙◌, subst, arith, cond, Bool, true, false}
use Rattle.std.specs.Prelude.{Option, None, Some, ◌⊎◌, ◌==◌, ◌&&◌, nat_lt}
use Rattle.std.specs.Option.{option_map}
use Rattle.std.proofs.lemmas.List.{take-append-le, length-append, drop-append-le}
use Rattle.http_fields.proofs.Fronts.{take_grows}
use Rattle.httparse.specs.Grammar.{print_chunk_line}
use Rattle.upstream_link.specs.declared.reply.UpstreamReply.{UpstreamReply}
use Rattle.upstream_link.specs.declared.framing.Framing.{Framing}
use Rattle.upstream_link.specs.declared.framing.Framing.TheVariants as framing
use Rattle.upstream_link.specs.Bodies.{BodyIs}
use Rattle.upstream_link.specs.Chunks.{room, line_state, trailer_from, after_line, Ends}
use Rattle.upstream_link.specs.Replies.{HasBody, ReplyOf}
use Rattle.upstream_link.specs.ReplyHeads.{after_head}
use Rattle.upstream_link.proofs.Lines.{line_stays, line_inside, chunks_grow}
use Rattle.upstream_link.proofs.Fronts.{head_inside}
use Rattle.upstream_link.proofs.Answered.{reply_head_stays}

-- one byte of a trailer, before two rests of which the first has no end or both have the same
one_byte : (ends : Bool) (a b : Option ℕ) → (a ≡ None) ⊎ (b ≡ a)
    → (cond ends (Some 1) (option_map (λ n. n + 1) a) ≡ None) ⊎ (cond ends (Some 1) (option_map (λ n. n + 1) b) ≡ cond ends (Some 1) (option_map (λ n. n + 1) a))
one_byte true a b x = inr refl
one_byte false a b (inl e) = inl (ap (option_map (λ n. n + 1)) e)
one_byte false a b (inr e) = inr (ap (option_map (λ n. n + 1)) e)

-- a trailer has no end yet, or keeps its length
trailer_stays : (state : ℕ) (xs more : List ℕ) → (trailer_from state xs ≡ None) ⊎ (trailer_from state (xs ++ more) ≡ trailer_from state xs)
unfolding trailer_from
trailer_stays state [] more = inl refl
trailer_stays state (byte ∷ xs) more =
    one_byte ((byte == 10) && nat_lt state 2) (trailer_from (line_state state byte) xs) (trailer_from (line_state state byte) (xs ++ more)) (trailer_stays (line_state state byte) xs more)

trailer_whole : (xs more : List ℕ) (n : ℕ) → trailer_from 0 xs ≡ Some n → trailer_from 0 (xs ++ more) ≡ Some n
trailer_whole xs more n is = elim (trailer_stays 0 xs more) [ inl none ↦ cc (sym none ∙ is) | inr same ↦ same ∙ is ]

ends_later : (here more : List ℕ) → Ends here → Ends (here ++ more)
ends_later here more x =
    let l = x.0 in
    let after : after_line l (here ++ more) ≡ after_line l here ++ more = drop-append-le (length (print_chunk_line l)) here more (line_inside here l x.1).0 in
    let in_room = take_grows 16384 (after_line l here) more in
    let whole : room (after_line l (here ++ more)) ≡ room (after_line l here) ++ in_room.0 = ap room after ∙ in_room.1 in
    (l, line_stays here more l x.1, x.2, (x.3.0, ap (trailer_from 0) whole ∙ trailer_whole (room (after_line l here)) in_room.0 x.3.0 x.3.1))

body_later : (f : Framing) (body bytes more : List ℕ) (ended : Bool) → BodyIs f (Ok body) bytes false → BodyIs f (Ok body) (bytes ++ more) ended
body_later framing.NoBody body bytes more ended x = x
body_later framing.Chunked body bytes more ended x = (x.0 ++ more, chunks_grow bytes body x.0 more x.1, ends_later x.0 more x.2)
body_later (framing.Length size) body bytes more ended x =
    (omega (arith, x.0, length-append bytes more), x.1 ∙ sym (take-append-le size bytes more x.0))
body_later framing.UntilEnd body bytes more ended x = cc x.2

pub reply_later : (bytes more : List ℕ) (ended : Bool) (reply : UpstreamReply) → ReplyOf (Ok reply) bytes false → ReplyOf (Ok reply) (bytes ++ more) ended
reply_later bytes more ended reply x =
    let here = x.0 in
    let h = x.1 in
    let f = x.4.0 in
    let after : after_head h (here ++ more) ≡ after_head h here ++ more = drop-append-le _ here more (head_inside here h x.2.3) in
    let body : HasBody h (Ok reply.body.items) (after_head h (here ++ more)) ended =
    (f, x.4.1, subst (λ l. BodyIs f (Ok reply.body.items) l ended) (sym after) (body_later f reply.body.items (after_head h here) more ended x.4.2)) in
    (here ++ more, h, reply_head_stays bytes here more h x.2, x.3, body)
