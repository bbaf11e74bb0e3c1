-- Bytes hold one reply.
use Rattle.std.proofs.Common.{◌≡◌, ℕ, ◌≤◌, List, [], ◌∷◌, ◌++◌, length, take, drop, Ok, Err, refl, sym, ap, ◌∙◌, subst, append_assoc, arith, zero, suc, Bool}
use Rattle.std.specs.Prelude.{Result}
use Rattle.std.specs.List.{AllByRecursion}
use Rattle.std.proofs.lemmas.List.{take_at, drop_at}
use Rattle.std.proofs.Math.Seq.{take-append_seam, drop-append_seam}
use Rattle.httparse.specs.Grammar.{ChunkLine, print_chunk_line, chunk_size, ResponseHead, status_code}
use Rattle.httparse.proofs.ChunkLemmas.{chunk_line_unique}
use Rattle.httparse.proofs.GrammarLemmas.{response_unique}
use Rattle.upstream_link.specs.declared.fault.LinkFault.{LinkFault}
use Rattle.upstream_link.specs.declared.framing.Framing.{Framing}
use Rattle.upstream_link.specs.declared.framing.Framing.TheVariants as framing
use Rattle.upstream_link.specs.declared.reply.UpstreamReply.{UpstreamReply}
use Rattle.upstream_link.specs.Bodies.{BodyIs}
use Rattle.upstream_link.specs.Chunks.{room, line_end, Chunk, print_chunk, print_chunks, data_of, IsChunk, HasLine, Ends}
use Rattle.upstream_link.specs.Framing.{framing_of}
use Rattle.upstream_link.specs.Replies.{ReplyOf}
use Rattle.upstream_link.specs.ReplyHeads.{HasHead, IsInterim, HeadsTo, after_head}

-- ---- heads

pub head_one : (here : List ℕ) (h k : ResponseHead) → HasHead here h → HasHead here k → h ≡ k
head_one here h k x y = (response_unique (room here) h k x.0 y.0 x.1 y.1).0

-- the head of a reply and where it stands
abbrev pub Heads : List ℕ → List ResponseHead → List ℕ → ResponseHead → Type 0
Heads bytes hs here h = HeadsTo bytes hs here × HasHead here h × (IsInterim h → ⊥)

pub heads_one : (bytes : List ℕ) (hs ks : List ResponseHead) (here there : List ℕ) (h k : ResponseHead) → Heads bytes hs here h → Heads bytes ks there k → (here ≡ there) × (h ≡ k)
unfolding HeadsTo
heads_one bytes [] [] here there h k x y =
    let same : here ≡ there = sym x.0 ∙ y.0 in (same, head_one there h k (subst (λ l. HasHead l h) same x.1) y.1)
heads_one bytes [] (i ∷ ks) here there h k x y =
    let same = head_one bytes h i (subst (λ l. HasHead l h) (sym x.0) x.1) y.0.0 in absurd (x.2 (subst IsInterim (sym same) y.0.1))
heads_one bytes (i ∷ hs) [] here there h k x y =
    let same = head_one bytes k i (subst (λ l. HasHead l k) (sym y.0) y.1) x.0.0 in absurd (y.2 (subst IsInterim (sym same) x.0.1))
heads_one bytes (i ∷ hs) (j ∷ ks) here there h k x y =
    let same = head_one bytes i j x.0.0 y.0.0 in
    heads_one (after_head j bytes) hs ks here there h k (subst (λ g. HeadsTo (after_head g bytes) hs here) same x.0.2, x.1, x.2) (y.0.2, y.1, y.2)

-- ---- chunks

take_front : (n : ℕ) (xs ys : List ℕ) → length xs ≤ n → (rest : List ℕ) × (take n (xs ++ ys) ≡ xs ++ rest)
take_front n [] ys within = (take n ys, refl)
take_front zero (x ∷ xs) ys within = absurd (omega (arith, within))
take_front (suc n) (x ∷ xs) ys within = let t = take_front n xs ys (omega (arith, within)) in (t.0, ap (λ l. x ∷ l) t.1)

pub print_chunk_then : (c : Chunk) (rest : List ℕ) → print_chunk c ++ rest ≡ print_chunk_line c.line ++ (c.bytes ++ (line_end ++ rest))
print_chunk_then c rest = append_assoc (print_chunk_line c.line) (c.bytes ++ line_end) rest ∙ ap (λ l. print_chunk_line c.line ++ l) (append_assoc c.bytes line_end rest)

-- the size line of a chunk stands before it
pub line_of : (c : Chunk) (rest : List ℕ) → IsChunk c → HasLine (print_chunk c ++ rest) c.line
line_of c rest is =
    let t = take_front 16384 (print_chunk_line c.line) (c.bytes ++ (line_end ++ rest)) is.short in (t.0, (is.line, ap (take 16384) (print_chunk_then c rest) ∙ t.1))

pub line_one : (here : List ℕ) (l k : ChunkLine) → HasLine here l → HasLine here k → l ≡ k
line_one here l k x y = (chunk_line_unique (room here) l k x.0 y.0 x.1 y.1).0

-- no chunk stands where the chunks end
pub no_chunk : (here : List ℕ) (d : Chunk) (rest : List ℕ) → Ends here → IsChunk d → here ≡ print_chunk d ++ rest → ⊥
no_chunk here d rest ends is e =
    let same = line_one here ends.0 d.line ends.1 (subst (λ l. HasLine l d.line) (sym e) (line_of d rest is)) in
    omega (arith, is.some, ap chunk_size same, ends.2)

pub chunk_one : (c d : Chunk) (first second : List ℕ) → IsChunk c → IsChunk d → print_chunk c ++ first ≡ print_chunk d ++ second → (c.bytes ≡ d.bytes) × (first ≡ second)
chunk_one c d first second is_c is_d e =
    let same = line_one (print_chunk d ++ second) c.line d.line (subst (λ l. HasLine l c.line) e (line_of c first is_c)) (line_of d second is_d) in
    let whole = sym (print_chunk_then c first) ∙ e ∙ print_chunk_then d second in
    let line = length (print_chunk_line d.line) in
    let behind : c.bytes ++ (line_end ++ first) ≡ d.bytes ++ (line_end ++ second) =
    sym (drop_at (print_chunk_line c.line) (c.bytes ++ (line_end ++ first)) line (ap (λ l. length (print_chunk_line l)) same))
    ∙ ap (drop line) whole ∙ drop-append_seam (print_chunk_line d.line) (d.bytes ++ (line_end ++ second)) in
    let size = length d.bytes in
    let long : length c.bytes ≡ size = is_c.whole ∙ ap chunk_size same ∙ sym is_d.whole in (
      sym (take_at c.bytes (line_end ++ first) size long) ∙ ap (take size) behind ∙ take-append_seam d.bytes (line_end ++ second),
      ap (drop 2) (sym (drop_at c.bytes (line_end ++ first) size long) ∙ ap (drop size) behind ∙ drop-append_seam d.bytes (line_end ++ second)),
    )

chunks_one : (cs ds : List Chunk) (here there : List ℕ) → AllByRecursion IsChunk cs → AllByRecursion IsChunk ds → print_chunks cs ++ here ≡ print_chunks ds ++ there → Ends here → Ends there
    → data_of cs ≡ data_of ds
unfolding print_chunks data_of
chunks_one [] [] here there x y e a b = refl
chunks_one [] (d ∷ ds) here there x y e a b = absurd (no_chunk here d (print_chunks ds ++ there) a y.0 (e ∙ append_assoc (print_chunk d) (print_chunks ds) there))
chunks_one (c ∷ cs) [] here there x y e a b = absurd (no_chunk there c (print_chunks cs ++ here) b x.0 (sym e ∙ append_assoc (print_chunk c) (print_chunks cs) here))
chunks_one (c ∷ cs) (d ∷ ds) here there x y e a b =
    let one = chunk_one c d (print_chunks cs ++ here) (print_chunks ds ++ there) x.0 y.0
    (sym (append_assoc (print_chunk c) (print_chunks cs) here) ∙ e ∙ append_assoc (print_chunk d) (print_chunks ds) there) in
    let more = chunks_one cs ds here there x.1 y.1 one.1 a b in
    ap (λ l. l ++ data_of cs) one.0 ∙ ap (λ l. d.bytes ++ l) more

-- ---- bodies and replies

body_one : (f : Framing) (a b bytes : List ℕ) (ended : Bool) → BodyIs f (Ok a) bytes ended → BodyIs f (Ok b) bytes ended → a ≡ b
body_one framing.NoBody a b bytes ended x y = cc (x, y)
body_one framing.Chunked a b bytes ended x y =
    let c = x.1 in
    let d = y.1 in
    c.content_is ∙ chunks_one c.chunks d.chunks x.0 y.0 c.each d.each (sym c.bytes_are ∙ d.bytes_are) x.2 y.2 ∙ sym d.content_is
body_one (framing.Length size) a b bytes ended x y = x.1 ∙ sym y.1
body_one framing.UntilEnd a b bytes ended x y = x.0 ∙ sym y.0

unfoldable pub ok_or : Framing → Result Framing LinkFault → Framing
ok_or d (Ok f) = f
ok_or d (Err e) = d

pub one_reply : (bytes : List ℕ) (ended : Bool) (a b : UpstreamReply) → ReplyOf (Ok a) bytes ended → ReplyOf (Ok b) bytes ended → (a.status ≡ b.status) × (a.body.items ≡ b.body.items)
unfolding ok_or
one_reply bytes ended a b x y =
    let same = heads_one bytes x.2.0 y.2.0 x.0 y.0 x.1 y.1 (x.2.1, x.2.3, x.2.4) (y.2.1, y.2.3, y.2.4) in
    let framed : x.4.0 ≡ y.4.0 = ap (ok_or x.4.0) (sym x.4.1 ∙ ap framing_of same.1 ∙ y.4.1) in
    let here : after_head x.1 x.0 ≡ after_head y.1 y.0 = (λ i. after_head (same.1 i) (same.0 i)) in
    let body = subst (λ l. BodyIs y.4.0 (Ok a.body.items) l ended) here (subst (λ f. BodyIs f (Ok a.body.items) (after_head x.1 x.0) ended) framed x.4.2) in
    (x.3 ∙ ap status_code same.1 ∙ sym y.3, body_one y.4.0 a.body.items b.body.items (after_head y.1 y.0) ended body y.4.2)
