-- Bytes that begin with a whole reply have no fault but want of memory.
use Rattle.std.proofs.Common.{◌≡◌, ℕ, ◌+◌, ◌≤◌, List, [], ◌∷◌, ◌++◌, length, take, drop, Ok, Err, inl, inr, refl, sym, ap, ◌∙◌, subst, append_assoc, arith, Bool}
use Rattle.std.specs.List.{AllByRecursion}
use Rattle.std.proofs.lemmas.List.{append-nil, length-append, drop_at}
use Rattle.std.proofs.Math.Seq.{drop-append_seam}
use Rattle.httparse.specs.Grammar.{ChunkLine, print_chunk_line, chunk_size, ResponseHead, ReadsResponse, ReadsChunkLine}
use Rattle.upstream_link.specs.declared.fault.LinkFault.{LinkFault}
use Rattle.upstream_link.specs.declared.fault.LinkFault.TheVariants as fault
use Rattle.upstream_link.specs.declared.framing.Framing.{Framing}
use Rattle.upstream_link.specs.declared.framing.Framing.TheVariants as framing
use Rattle.upstream_link.specs.declared.reply.UpstreamReply.{UpstreamReply}
use Rattle.upstream_link.specs.Bodies.{BodyIs}
use Rattle.upstream_link.specs.Chunks.{room, line_end, body_limit, Chunk, print_chunk, print_chunks, data_of, IsChunk, HasLine, after_line, HasBadLine, HasOpenLine, IsCut, HasChunkFault, Ends, ChunkedIs}
use Rattle.upstream_link.specs.Framing.{framing_of}
use Rattle.upstream_link.specs.Replies.{ReplyOf}
use Rattle.upstream_link.specs.ReplyHeads.{HasHead, HasBadHead, HasOpenHead, HasHeadFault, IsInterim, HeadsTo, after_head}
use Rattle.upstream_link.proofs.OneReply.{head_one, heads_one, print_chunk_then, line_of, line_one, no_chunk, chunk_one, ok_or}

-- want of memory, which is free
abbrev pub IsFree : LinkFault → Type 0
IsFree f = f ≡ fault.Memory

-- ---- heads

pub not_open_head : (here : List ℕ) (h : ResponseHead) → HasHead here h → HasOpenHead here → ⊥
not_open_head here h x o = o.0 h x.0 x.1

not_bad_head : (here : List ℕ) (h : ResponseHead) → HasHead here h → HasBadHead here → ⊥
not_bad_head here h x (inl never) = never [] h x.0 (subst (λ l. ReadsResponse l h x.0) (sym (append-nil (room here))) x.1)
not_bad_head here h x (inr (inl many)) =
    let over = many.1 [] h x.0 (subst (λ l. ReadsResponse l h x.0) (sym (append-nil (room here))) x.1) in
    let fits = x.2 in
    absurd (omega (arith, over, fits))
not_bad_head here h x (inr (inr long)) = long.0 h x.0 x.1

pub head_fault : (passed : ℕ) (here : List ℕ) (ended : Bool) (f : LinkFault) (h : ResponseHead) → HasHead here h → (IsInterim h → passed ≡ 8 → ⊥) → HasHeadFault passed here ended f → IsFree f
head_fault passed here ended fault.Down h x few k = absurd k
head_fault passed here ended fault.Failed h x few k = absurd (not_open_head here h x k.0)
head_fault passed here ended fault.BadReplyHead h x few (inl bad) = absurd (not_bad_head here h x bad)
head_fault passed here ended fault.BadReplyHead h x few (inr ninth) = absurd (few (subst IsInterim (sym (head_one here h ninth.0 x ninth.1)) ninth.2) ninth.3)
head_fault passed here ended fault.Coded h x few k = absurd k
head_fault passed here ended fault.TooLarge h x few k = absurd k
head_fault passed here ended fault.Truncated h x few k = absurd (not_open_head here h x k.0)
head_fault passed here ended fault.BadChunk h x few k = absurd k
head_fault passed here ended fault.Memory h x few k = refl

pub heads_fault : (n : ℕ) (bytes : List ℕ) (hs ks : List ResponseHead) (here there : List ℕ) (ended : Bool) (f : LinkFault) (h : ResponseHead)
    → HeadsTo bytes hs here → HasHead here h → (IsInterim h → ⊥) → n + length hs ≤ 8 → HeadsTo bytes ks there → HasHeadFault (n + length ks) there ended f → IsFree f
unfolding HeadsTo
heads_fault n bytes [] [] here there ended f h to has plain most other k =
    head_fault (n + 0) there ended f h (subst (λ l. HasHead l h) (sym to ∙ other) has) (λ i e. plain i) k
heads_fault n bytes [] (j ∷ ks) here there ended f h to has plain most other k =
    let same = head_one bytes h j (subst (λ l. HasHead l h) (sym to) has) other.0 in absurd (plain (subst IsInterim (sym same) other.1))
heads_fault n bytes (i ∷ hs) [] here there ended f h to has plain most other k =
    head_fault (n + 0) there ended f i (subst (λ l. HasHead l i) other to.0) (λ _ e. absurd (omega (arith, e, most))) k
heads_fault n bytes (i ∷ hs) (j ∷ ks) here there ended f h to has plain most other k =
    let same = head_one bytes i j to.0 other.0 in
    heads_fault (n + 1) (after_head j bytes) hs ks here there ended f h (subst (λ g. HeadsTo (after_head g bytes) hs here) same to.2) has plain (omega (arith, most)) other.2
    (subst (λ m. HasHeadFault m there ended f) (omega arith) k)

-- ---- chunks

pub not_open_line : (here : List ℕ) (l : ChunkLine) → HasLine here l → HasOpenLine here → ⊥
not_open_line here l x o = o.0 l x.0 x.1

pub not_bad_line : (here : List ℕ) (l : ChunkLine) → HasLine here l → HasBadLine here → ⊥
not_bad_line here l x (inl never) = never [] l x.0 (subst (λ b. ReadsChunkLine b l x.0) (sym (append-nil (room here))) x.1)
not_bad_line here l x (inr long) = long.0 l x.0 x.1

-- where the last chunk stands nothing is cut
not_cut_at_end : (content here : List ℕ) → Ends here → IsCut content here → ⊥
not_cut_at_end content here x (inl part) = not_open_line here x.0 x.1 part
not_cut_at_end content here x (inr (l, line, fits, inl lacks)) =
    let same = ap chunk_size (line_one here x.0 l x.1 line) in absurd (omega (arith, same, x.2, lacks.0))
not_cut_at_end content here x (inr (l, line, fits, inr tail)) =
    let same = line_one here x.0 l x.1 line in cc (x.3.1, tail.1, same)

fault_at_end : (content here : List ℕ) (ended : Bool) (f : LinkFault) → Ends here → length content ≤ body_limit → HasChunkFault content here ended f → IsFree f
fault_at_end content here ended fault.Down x most k = absurd k
fault_at_end content here ended fault.Failed x most k = absurd (not_cut_at_end content here x k.0)
fault_at_end content here ended fault.BadReplyHead x most k = absurd k
fault_at_end content here ended fault.Coded x most k = absurd k
fault_at_end content here ended fault.TooLarge x most k =
    let same = ap chunk_size (line_one here x.0 k.0 x.1 k.1) in absurd (omega (arith, same, x.2, most, k.2))
fault_at_end content here ended fault.Truncated x most k = absurd (not_cut_at_end content here x k.0)
fault_at_end content here ended fault.BadChunk x most (inl bad) = absurd (not_bad_line here x.0 x.1 bad)
fault_at_end content here ended fault.BadChunk x most (inr (l, line, fits, inl lacks)) =
    let same = ap chunk_size (line_one here x.0 l x.1 line) in absurd (omega (arith, same, x.2, lacks.0))
fault_at_end content here ended fault.BadChunk x most (inr (l, line, fits, inr long)) =
    let same = line_one here x.0 l x.1 line in absurd (cc (x.3.1, long.1, same))
fault_at_end content here ended fault.Memory x most k = refl

-- the bytes behind the size line of a whole chunk
behind_line : (c : Chunk) (rest : List ℕ) → after_line c.line (print_chunk c ++ rest) ≡ c.bytes ++ (line_end ++ rest)
behind_line c rest = ap (drop (length (print_chunk_line c.line))) (print_chunk_then c rest) ∙ drop-append_seam (print_chunk_line c.line) (c.bytes ++ (line_end ++ rest))

long_behind : (c : Chunk) (rest : List ℕ) → IsChunk c → chunk_size c.line + 2 ≤ length (after_line c.line (print_chunk c ++ rest))
long_behind c rest is =
    omega (arith, is.whole, ap length (behind_line c rest), length-append c.bytes (line_end ++ rest), length-append line_end rest)

end_behind : (c : Chunk) (rest : List ℕ) → IsChunk c → take 2 (drop (chunk_size c.line) (after_line c.line (print_chunk c ++ rest))) ≡ line_end
end_behind c rest is = ap (λ l. take 2 (drop (chunk_size c.line) l)) (behind_line c rest) ∙ ap (take 2) (drop_at c.bytes (line_end ++ rest) (chunk_size c.line) is.whole)

not_cut_at_chunk : (content : List ℕ) (c : Chunk) (rest : List ℕ) → IsChunk c → IsCut content (print_chunk c ++ rest) → ⊥
not_cut_at_chunk content c rest is (inl part) = not_open_line (print_chunk c ++ rest) c.line (line_of c rest is) part
not_cut_at_chunk content c rest is (inr (l, line, fits, inl lacks)) =
    let same = line_one (print_chunk c ++ rest) c.line l (line_of c rest is) line in
    let enough : chunk_size l + 2 ≤ length (after_line l (print_chunk c ++ rest)) = subst (λ k. chunk_size k + 2 ≤ length (after_line k (print_chunk c ++ rest))) same (long_behind c rest is) in
    absurd (omega (arith, enough, lacks.1))
not_cut_at_chunk content c rest is (inr (l, line, fits, inr tail)) =
    let same = ap chunk_size (line_one (print_chunk c ++ rest) c.line l (line_of c rest is) line) in absurd (omega (arith, same, is.some, tail.0))

pub fault_at_chunk : (content : List ℕ) (c : Chunk) (rest : List ℕ) (ended : Bool) (f : LinkFault) → IsChunk c → length content + length c.bytes ≤ body_limit → HasChunkFault content (print_chunk c ++ rest) ended f → IsFree f
fault_at_chunk content c rest ended fault.Down is most k = absurd k
fault_at_chunk content c rest ended fault.Failed is most k = absurd (not_cut_at_chunk content c rest is k.0)
fault_at_chunk content c rest ended fault.BadReplyHead is most k = absurd k
fault_at_chunk content c rest ended fault.Coded is most k = absurd k
fault_at_chunk content c rest ended fault.TooLarge is most k =
    let same = ap chunk_size (line_one (print_chunk c ++ rest) c.line k.0 (line_of c rest is) k.1) in absurd (omega (arith, same, is.whole, most, k.2))
fault_at_chunk content c rest ended fault.Truncated is most k = absurd (not_cut_at_chunk content c rest is k.0)
fault_at_chunk content c rest ended fault.BadChunk is most (inl bad) = absurd (not_bad_line (print_chunk c ++ rest) c.line (line_of c rest is) bad)
fault_at_chunk content c rest ended fault.BadChunk is most (inr (l, line, fits, inl lacks)) =
    let same = line_one (print_chunk c ++ rest) c.line l (line_of c rest is) line in
    absurd (lacks.2 (subst (λ k. take 2 (drop (chunk_size k) (after_line k (print_chunk c ++ rest))) ≡ line_end) same (end_behind c rest is)))
fault_at_chunk content c rest ended fault.BadChunk is most (inr (l, line, fits, inr long)) =
    let same = ap chunk_size (line_one (print_chunk c ++ rest) c.line l (line_of c rest is) line) in absurd (omega (arith, same, is.some, long.0))
fault_at_chunk content c rest ended fault.Memory is most k = refl

chunks_fault : (n : ℕ) (content : List ℕ) (cs ds : List Chunk) (here there : List ℕ) (ended : Bool) (f : LinkFault)
    → AllByRecursion IsChunk cs → AllByRecursion IsChunk ds → print_chunks cs ++ here ≡ print_chunks ds ++ there → Ends here
    → n + length (data_of cs) ≤ body_limit → length content ≡ n + length (data_of ds) → HasChunkFault content there ended f → IsFree f
unfolding print_chunks data_of
chunks_fault n content [] [] here there ended f x y e a most long k =
    fault_at_end content there ended f (subst Ends e a) (omega (arith, most, long)) k
chunks_fault n content [] (d ∷ ds) here there ended f x y e a most long k =
    absurd (no_chunk here d (print_chunks ds ++ there) a y.0 (e ∙ append_assoc (print_chunk d) (print_chunks ds) there))
chunks_fault n content (c ∷ cs) [] here there ended f x y e a most long k =
    fault_at_chunk content c (print_chunks cs ++ here) ended f x.0 (omega (arith, most, long, length-append c.bytes (data_of cs)))
    (subst (λ l. HasChunkFault content l ended f) (sym e ∙ append_assoc (print_chunk c) (print_chunks cs) here) k)
chunks_fault n content (c ∷ cs) (d ∷ ds) here there ended f x y e a most long k =
    let one = chunk_one c d (print_chunks cs ++ here) (print_chunks ds ++ there) x.0 y.0
    (sym (append_assoc (print_chunk c) (print_chunks cs) here) ∙ e ∙ append_assoc (print_chunk d) (print_chunks ds) there) in
    chunks_fault (n + length c.bytes) content cs ds here there ended f x.1 y.1 one.1 a (omega (arith, most, length-append c.bytes (data_of cs)))
    (omega (arith, long, length-append d.bytes (data_of ds), ap length one.0)) k

-- ---- bodies and replies

chunked_fault : (body bytes : List ℕ) (ended : Bool) (f : LinkFault) → ChunkedIs (Ok body) bytes ended → ChunkedIs (Err f) bytes ended → IsFree f
chunked_fault body bytes ended f x y =
    let c = x.1 in
    let d = y.2 in
    chunks_fault 0 y.0 c.chunks d.chunks x.0 y.1 ended f c.each d.each (sym c.bytes_are ∙ d.bytes_are) x.2 (omega (arith, c.fits, ap length c.content_is)) (omega (arith, ap length d.content_is)) y.3

body_fault : (g : Framing) (body bytes : List ℕ) (ended : Bool) (f : LinkFault) → BodyIs g (Ok body) bytes ended → BodyIs g (Err f) bytes ended → IsFree f
body_fault framing.NoBody body bytes ended f x y = absurd (cc y)
body_fault framing.Chunked body bytes ended f x y = chunked_fault body bytes ended f x y
body_fault (framing.Length size) body bytes ended fault.Down x y = absurd y
body_fault (framing.Length size) body bytes ended fault.Failed x y = absurd (omega (arith, x.0, y.0))
body_fault (framing.Length size) body bytes ended fault.BadReplyHead x y = absurd y
body_fault (framing.Length size) body bytes ended fault.Coded x y = absurd y
body_fault (framing.Length size) body bytes ended fault.TooLarge x y = absurd y
body_fault (framing.Length size) body bytes ended fault.Truncated x y = absurd (omega (arith, x.0, y.0))
body_fault (framing.Length size) body bytes ended fault.BadChunk x y = absurd y
body_fault (framing.Length size) body bytes ended fault.Memory x y = refl
body_fault framing.UntilEnd body bytes ended fault.Down x y = absurd y
body_fault framing.UntilEnd body bytes ended fault.Failed x y = absurd (cc (sym x.2 ∙ y.1))
body_fault framing.UntilEnd body bytes ended fault.BadReplyHead x y = absurd y
body_fault framing.UntilEnd body bytes ended fault.Coded x y = absurd y
body_fault framing.UntilEnd body bytes ended fault.TooLarge x y = absurd (omega (arith, x.1, y))
body_fault framing.UntilEnd body bytes ended fault.Truncated x y = absurd y
body_fault framing.UntilEnd body bytes ended fault.BadChunk x y = absurd y
body_fault framing.UntilEnd body bytes ended fault.Memory x y = refl

pub no_fault : (bytes : List ℕ) (ended : Bool) (reply : UpstreamReply) (f : LinkFault) → ReplyOf (Ok reply) bytes ended → ReplyOf (Err f) bytes ended → IsFree f
unfolding ok_or
no_fault bytes ended reply f x (inl y) =
    heads_fault 0 bytes x.2.0 y.0 x.0 y.1 ended f x.1 x.2.1 x.2.3 x.2.4 (omega (arith, x.2.2)) y.2 (subst (λ m. HasHeadFault m y.1 ended f) (omega arith) y.4)
no_fault bytes ended reply f x (inr (there, k, at, inl bad)) =
    let same = heads_one bytes x.2.0 at.0 x.0 there x.1 k (x.2.1, x.2.3, x.2.4) (at.1, at.3, at.4) in
    let e : Ok x.4.0 ≡ Err f = sym x.4.1 ∙ ap framing_of same.1 ∙ bad in absurd (cc e)
no_fault bytes ended reply f x (inr (there, k, at, inr has)) =
    let same = heads_one bytes x.2.0 at.0 x.0 there x.1 k (x.2.1, x.2.3, x.2.4) (at.1, at.3, at.4) in
    let framed : x.4.0 ≡ has.0 = ap (ok_or x.4.0) (sym x.4.1 ∙ ap framing_of same.1 ∙ has.1) in
    let behind : after_head x.1 x.0 ≡ after_head k there = (λ i. after_head (same.1 i) (same.0 i)) in
    let body = subst (λ l. BodyIs has.0 (Ok reply.body.items) l ended) behind (subst (λ g. BodyIs g (Ok reply.body.items) (after_head x.1 x.0) ended) framed x.4.2) in
    body_fault has.0 reply.body.items (after_head k there) ended f body has.2
