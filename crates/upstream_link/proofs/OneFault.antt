-- Two faults of the same bytes are one, but for want of memory and what the grammar of heads leaves open.
use Rattle.std.proofs.Common.{◌≡◌, ℕ, ◌+◌, ◌≤◌, ◌<◌, List, [], ◌∷◌, ◌++◌, length, Ok, Err, inl, inr, refl, sym, ap, ◌∙◌, subst, append_assoc, arith, Bool, true, false}
use Rattle.std.specs.Prelude.{◌⊎◌, Result}
use Rattle.std.specs.List.{AllByRecursion}
use Rattle.std.proofs.lemmas.List.{length-append}
use Rattle.httparse.specs.Grammar.{ChunkLine, chunk_size, ResponseHead}
use Rattle.upstream_link.specs.declared.fault.LinkFault.{LinkFault}
use Rattle.upstream_link.specs.declared.fault.LinkFault.TheVariants as fault
use Rattle.upstream_link.specs.declared.framing.Framing.{Framing}
use Rattle.upstream_link.specs.declared.framing.Framing.TheVariants as framing
use Rattle.upstream_link.specs.Bodies.{SizedIs, RestIs, BodyIs}
use Rattle.upstream_link.specs.Chunks.{body_limit, Chunk, print_chunk, print_chunks, data_of, IsChunk, HasLine, HasBadLine, HasOpenLine, LacksData, LacksEnd, HasOpenTrailer, HasLongTrailer, HasChunkFault}
use Rattle.upstream_link.specs.Replies.{ReplyOf, BodyFails, IsBeforeHead, AreOne}
use Rattle.upstream_link.specs.ReplyHeads.{HasBadHead, HasOpenHead, HasTooManyFields, HasNinth, HasHeadFault, HeadsTo, ReplyHeadAt, ReplyHeadFails, after_head}
use Rattle.upstream_link.proofs.OneReply.{head_one, heads_one, line_one, chunk_one, ok_or}
use Rattle.upstream_link.proofs.NoFault.{not_open_head, head_fault, heads_fault, not_open_line, not_bad_line, fault_at_chunk}

-- the fault where more bytes were needed
cut : Bool → LinkFault
cut true = fault.Truncated
cut false = fault.Failed

truncated : (ended : Bool) → ended ≡ true → fault.Truncated ≡ cut ended
unfolding cut
truncated ended e = sym (ap cut e)

failed : (ended : Bool) → ended ≡ false → fault.Failed ≡ cut ended
unfolding cut
failed ended e = sym (ap cut e)

cut_before : (ended : Bool) → IsBeforeHead (cut ended)
unfolding cut
cut_before true = tt
cut_before false = tt

-- ---- heads

-- no head can be read here, or it takes more bytes
abbrev HeadWhy : ℕ → List ℕ → Bool → LinkFault → Type 0
HeadWhy passed here ended f = ((f ≡ fault.BadReplyHead) × (HasBadHead here ⊎ HasNinth passed here)) ⊎ ((f ≡ cut ended) × HasOpenHead here)

head_why : (passed : ℕ) (here : List ℕ) (ended : Bool) (f : LinkFault) → HasHeadFault passed here ended f → (f ≡ fault.Memory) ⊎ HeadWhy passed here ended f
head_why passed here ended fault.Down k = absurd k
head_why passed here ended fault.Failed k = inr (inr (failed ended k.1, k.0))
head_why passed here ended fault.BadReplyHead k = inr (inl (refl, k))
head_why passed here ended fault.Coded k = absurd k
head_why passed here ended fault.TooLarge k = absurd k
head_why passed here ended fault.Truncated k = inr (inr (truncated ended k.1, k.0))
head_why passed here ended fault.BadChunk k = absurd k
head_why passed here ended fault.Memory k = inl refl

bad_and_open : (passed : ℕ) (here : List ℕ) → HasBadHead here ⊎ HasNinth passed here → HasOpenHead here → HasTooManyFields here
bad_and_open passed here (inl (inl never)) o = absurd (never o.1.0 o.1.1 [] o.1.2)
bad_and_open passed here (inl (inr (inl many))) o = many
bad_and_open passed here (inl (inr (inr long))) o = absurd (omega (arith, long.1, o.2))
bad_and_open passed here (inr ninth) o = absurd (not_open_head here ninth.0 ninth.1 o)

-- two faults are one, where `Left` is what is left open
abbrev One : Type 0 → LinkFault → LinkFault → Type 0
One Left f g = (f ≡ g) ⊎ ((f ≡ fault.Memory) ⊎ ((g ≡ fault.Memory) ⊎ (IsBeforeHead f × IsBeforeHead g × Left)))

one_says : {A B : Type 0} (f g : LinkFault) → (A → B) → One A f g → One B f g
one_says f g gives (inl same) = inl same
one_says f g gives (inr (inl memory)) = inr (inl memory)
one_says f g gives (inr (inr (inl memory))) = inr (inr (inl memory))
one_says f g gives (inr (inr (inr (a, b, left)))) = inr (inr (inr (a, b, gives left)))

head_whys : (passed : ℕ) (here : List ℕ) (ended : Bool) (f g : LinkFault) → HeadWhy passed here ended f → HeadWhy passed here ended g → One (HasOpenHead here × HasTooManyFields here) f g
head_whys passed here ended f g (inl x) (inl y) = inl (x.0 ∙ sym y.0)
head_whys passed here ended f g (inl x) (inr y) =
    inr (inr (inr (subst IsBeforeHead (sym x.0) tt, subst IsBeforeHead (sym y.0) (cut_before ended), (y.1, bad_and_open passed here x.1 y.1))))
head_whys passed here ended f g (inr x) (inl y) =
    inr (inr (inr (subst IsBeforeHead (sym x.0) (cut_before ended), subst IsBeforeHead (sym y.0) tt, (x.1, bad_and_open passed here y.1 x.1))))
head_whys passed here ended f g (inr x) (inr y) = inl (x.0 ∙ sym y.0)

head_pair : (passed : ℕ) (here : List ℕ) (ended : Bool) (f g : LinkFault) → HasHeadFault passed here ended f → HasHeadFault passed here ended g → One (HasOpenHead here × HasTooManyFields here) f g
head_pair passed here ended f g x y = elim (head_why passed here ended f x) [
  | inl memory ↦ inr (inl memory)
  | inr a ↦ elim (head_why passed here ended g y) [ inl memory ↦ inr (inr (inl memory)) | inr b ↦ head_whys passed here ended f g a b ]
]

abbrev LeftOpen : List ℕ → Type 0
LeftOpen bytes = (hs : List ResponseHead) × (here : List ℕ) × HeadsTo bytes hs here × HasOpenHead here × HasTooManyFields here

heads_pair : (n : ℕ) (bytes : List ℕ) (hs ks : List ResponseHead) (here there : List ℕ) (ended : Bool) (f g : LinkFault)
    → HeadsTo bytes hs here → n + length hs ≤ 8 → HasHeadFault (n + length hs) here ended f
    → HeadsTo bytes ks there → n + length ks ≤ 8 → HasHeadFault (n + length ks) there ended g → One (LeftOpen bytes) f g
unfolding HeadsTo
heads_pair n bytes [] [] here there ended f g x few k y most l =
    one_says f g (λ left. ([], bytes, refl, left.0, left.1))
    (head_pair (n + 0) bytes ended f g (subst (λ b. HasHeadFault (n + 0) b ended f) (sym x) k) (subst (λ b. HasHeadFault (n + 0) b ended g) (sym y) l))
heads_pair n bytes [] (j ∷ ks) here there ended f g x few k y most l =
    inr (inl (head_fault (n + 0) bytes ended f j y.0 (λ i e. absurd (omega (arith, e, most))) (subst (λ b. HasHeadFault (n + 0) b ended f) (sym x) k)))
heads_pair n bytes (i ∷ hs) [] here there ended f g x few k y most l =
    inr (inr (inl (head_fault (n + 0) bytes ended g i x.0 (λ j e. absurd (omega (arith, e, few))) (subst (λ b. HasHeadFault (n + 0) b ended g) (sym y) l))))
heads_pair n bytes (i ∷ hs) (j ∷ ks) here there ended f g x few k y most l =
    let same = head_one bytes i j x.0 y.0 in
    one_says f g (λ left. (j ∷ left.0, left.1, (y.0, y.1, left.2), left.3, left.4))
    (heads_pair (n + 1) (after_head j bytes) hs ks here there ended f g
    (subst (λ h. HeadsTo (after_head h bytes) hs here) same x.2) (omega (arith, few)) (subst (λ m. HasHeadFault m here ended f) (omega arith) k)
    y.2 (omega (arith, most)) (subst (λ m. HasHeadFault m there ended g) (omega arith) l))

-- ---- chunks

-- what goes wrong behind a size line, behind so many bytes of content
abbrev LineWhy : ℕ → List ℕ → ChunkLine → Bool → LinkFault → Type 0
LineWhy size here l ended f =
    ((f ≡ fault.TooLarge) × (body_limit < size + chunk_size l))
    ⊎ ((size + chunk_size l ≤ body_limit)
    × (((f ≡ fault.BadChunk) × (LacksEnd here l ⊎ HasLongTrailer here l)) ⊎ ((f ≡ cut ended) × (LacksData here l ⊎ HasOpenTrailer here l))))

-- no size line can be read here, or it takes more bytes, or it is behind the line
abbrev ChunkWhy : ℕ → List ℕ → Bool → LinkFault → Type 0
ChunkWhy size here ended f =
    (((f ≡ fault.BadChunk) × HasBadLine here) ⊎ ((f ≡ cut ended) × HasOpenLine here)) ⊎ ((l : ChunkLine) × HasLine here l × LineWhy size here l ended f)

chunk_why : (content here : List ℕ) (ended : Bool) (f : LinkFault) → HasChunkFault content here ended f → (f ≡ fault.Memory) ⊎ ChunkWhy (length content) here ended f
chunk_why content here ended fault.Down k = absurd k
chunk_why content here ended fault.Failed (inl part, e) = inr (inl (inr (failed ended e, part)))
chunk_why content here ended fault.Failed (inr (l, line, fits, lacks), e) = inr (inr (l, line, inr (fits, inr (failed ended e, lacks))))
chunk_why content here ended fault.BadReplyHead k = absurd k
chunk_why content here ended fault.Coded k = absurd k
chunk_why content here ended fault.TooLarge k = inr (inr (k.0, k.1, inl (refl, k.2)))
chunk_why content here ended fault.Truncated (inl part, e) = inr (inl (inr (truncated ended e, part)))
chunk_why content here ended fault.Truncated (inr (l, line, fits, lacks), e) = inr (inr (l, line, inr (fits, inr (truncated ended e, lacks))))
chunk_why content here ended fault.BadChunk (inl bad) = inr (inl (inl (refl, bad)))
chunk_why content here ended fault.BadChunk (inr (l, line, fits, wrong)) = inr (inr (l, line, inr (fits, inl (refl, wrong))))
chunk_why content here ended fault.Memory k = inl refl

wrong_or_open : (here : List ℕ) (l : ChunkLine) → LacksEnd here l ⊎ HasLongTrailer here l → LacksData here l ⊎ HasOpenTrailer here l → ⊥
wrong_or_open here l (inl x) (inl y) = omega (arith, x.1, y.1)
wrong_or_open here l (inl x) (inr y) = omega (arith, x.0, y.0)
wrong_or_open here l (inr x) (inl y) = omega (arith, x.0, y.0)
wrong_or_open here l (inr x) (inr y) = omega (arith, x.2, y.2)

line_whys : (size : ℕ) (here : List ℕ) (l : ChunkLine) (ended : Bool) (f g : LinkFault) → LineWhy size here l ended f → LineWhy size here l ended g → f ≡ g
line_whys size here l ended f g (inl x) (inl y) = x.0 ∙ sym y.0
line_whys size here l ended f g (inl x) (inr y) = absurd (omega (arith, x.1, y.0))
line_whys size here l ended f g (inr x) (inl y) = absurd (omega (arith, x.0, y.1))
line_whys size here l ended f g (inr (fits, inl x)) (inr (most, inl y)) = x.0 ∙ sym y.0
line_whys size here l ended f g (inr (fits, inl x)) (inr (most, inr y)) = absurd (wrong_or_open here l x.1 y.1)
line_whys size here l ended f g (inr (fits, inr x)) (inr (most, inl y)) = absurd (wrong_or_open here l y.1 x.1)
line_whys size here l ended f g (inr (fits, inr x)) (inr (most, inr y)) = x.0 ∙ sym y.0

bad_or_open : (here : List ℕ) → HasBadLine here → HasOpenLine here → ⊥
bad_or_open here (inl never) o = never o.1.0 o.1.1 [] o.1.2
bad_or_open here (inr long) o = omega (arith, long.1, o.2)

chunk_whys : (size : ℕ) (here : List ℕ) (ended : Bool) (f g : LinkFault) → ChunkWhy size here ended f → ChunkWhy size here ended g → f ≡ g
chunk_whys size here ended f g (inl (inl x)) (inl (inl y)) = x.0 ∙ sym y.0
chunk_whys size here ended f g (inl (inl x)) (inl (inr y)) = absurd (bad_or_open here x.1 y.1)
chunk_whys size here ended f g (inl (inr x)) (inl (inl y)) = absurd (bad_or_open here y.1 x.1)
chunk_whys size here ended f g (inl (inr x)) (inl (inr y)) = x.0 ∙ sym y.0
chunk_whys size here ended f g (inl (inl x)) (inr y) = absurd (not_bad_line here y.0 y.1 x.1)
chunk_whys size here ended f g (inl (inr x)) (inr y) = absurd (not_open_line here y.0 y.1 x.1)
chunk_whys size here ended f g (inr x) (inl (inl y)) = absurd (not_bad_line here x.0 x.1 y.1)
chunk_whys size here ended f g (inr x) (inl (inr y)) = absurd (not_open_line here x.0 x.1 y.1)
chunk_whys size here ended f g (inr x) (inr y) =
    line_whys size here y.0 ended f g (subst (λ l. LineWhy size here l ended f) (line_one here x.0 y.0 x.1 y.1) x.2) y.2

-- two faults of which neither is left open
abbrev Same : LinkFault → LinkFault → Type 0
Same f g = (f ≡ g) ⊎ ((f ≡ fault.Memory) ⊎ (g ≡ fault.Memory))

chunk_pair : (n : ℕ) (content other here : List ℕ) (ended : Bool) (f g : LinkFault) → length content ≡ n → length other ≡ n
    → HasChunkFault content here ended f → HasChunkFault other here ended g → Same f g
chunk_pair n content other here ended f g long same x y = elim (chunk_why content here ended f x) [
  | inl memory ↦ inr (inl memory)
  | inr a ↦ elim (chunk_why other here ended g y) [
    | inl memory ↦ inr (inr memory)
    | inr b ↦ inl (chunk_whys n here ended f g (subst (λ m. ChunkWhy m here ended f) long a) (subst (λ m. ChunkWhy m here ended g) same b))
  ]
]

chunks_pair : (n : ℕ) (content other : List ℕ) (cs ds : List Chunk) (here there : List ℕ) (ended : Bool) (f g : LinkFault)
    → AllByRecursion IsChunk cs → AllByRecursion IsChunk ds → print_chunks cs ++ here ≡ print_chunks ds ++ there
    → length content ≡ n + length (data_of cs) → length content ≤ body_limit → length other ≡ n + length (data_of ds) → length other ≤ body_limit
    → HasChunkFault content here ended f → HasChunkFault other there ended g → Same f g
unfolding print_chunks data_of
chunks_pair n content other [] [] here there ended f g x y e long fits same most k l =
    chunk_pair n content other there ended f g (omega (arith, long)) (omega (arith, same)) (subst (λ b. HasChunkFault content b ended f) e k) l
chunks_pair n content other [] (d ∷ ds) here there ended f g x y e long fits same most k l =
    inr (inl (fault_at_chunk content d (print_chunks ds ++ there) ended f y.0 (omega (arith, long, same, most, length-append d.bytes (data_of ds)))
    (subst (λ b. HasChunkFault content b ended f) (e ∙ append_assoc (print_chunk d) (print_chunks ds) there) k)))
chunks_pair n content other (c ∷ cs) [] here there ended f g x y e long fits same most k l =
    inr (inr (fault_at_chunk other c (print_chunks cs ++ here) ended g x.0 (omega (arith, long, same, fits, length-append c.bytes (data_of cs)))
    (subst (λ b. HasChunkFault other b ended g) (sym e ∙ append_assoc (print_chunk c) (print_chunks cs) here) l)))
chunks_pair n content other (c ∷ cs) (d ∷ ds) here there ended f g x y e long fits same most k l =
    let one = chunk_one c d (print_chunks cs ++ here) (print_chunks ds ++ there) x.0 y.0
    (sym (append_assoc (print_chunk c) (print_chunks cs) here) ∙ e ∙ append_assoc (print_chunk d) (print_chunks ds) there) in
    chunks_pair (n + length c.bytes) content other cs ds here there ended f g x.1 y.1 one.1
    (omega (arith, long, length-append c.bytes (data_of cs))) fits (omega (arith, same, length-append d.bytes (data_of ds), ap length one.0)) most k l

-- ---- bodies and replies

sized_why : (size : ℕ) (bytes : List ℕ) (ended : Bool) (f : LinkFault) → SizedIs size (Err f) bytes ended → (f ≡ fault.Memory) ⊎ (f ≡ cut ended)
sized_why size bytes ended fault.Down k = absurd k
sized_why size bytes ended fault.Failed k = inr (failed ended k.1)
sized_why size bytes ended fault.BadReplyHead k = absurd k
sized_why size bytes ended fault.Coded k = absurd k
sized_why size bytes ended fault.TooLarge k = absurd k
sized_why size bytes ended fault.Truncated k = inr (truncated ended k.1)
sized_why size bytes ended fault.BadChunk k = absurd k
sized_why size bytes ended fault.Memory k = inl refl

abbrev RestWhy : List ℕ → LinkFault → Type 0
RestWhy bytes f = (f ≡ fault.Memory) ⊎ (((f ≡ fault.TooLarge) × (body_limit < length bytes)) ⊎ ((f ≡ fault.Failed) × (length bytes ≤ body_limit)))

rest_why : (bytes : List ℕ) (ended : Bool) (f : LinkFault) → RestIs (Err f) bytes ended → RestWhy bytes f
rest_why bytes ended fault.Down k = absurd k
rest_why bytes ended fault.Failed k = inr (inr (refl, k.0))
rest_why bytes ended fault.BadReplyHead k = absurd k
rest_why bytes ended fault.Coded k = absurd k
rest_why bytes ended fault.TooLarge k = inr (inl (refl, k))
rest_why bytes ended fault.Truncated k = absurd k
rest_why bytes ended fault.BadChunk k = absurd k
rest_why bytes ended fault.Memory k = inl refl

rest_whys : (bytes : List ℕ) (f g : LinkFault) → RestWhy bytes f → RestWhy bytes g → Same f g
rest_whys bytes f g (inl memory) b = inr (inl memory)
rest_whys bytes f g (inr a) (inl memory) = inr (inr memory)
rest_whys bytes f g (inr (inl a)) (inr (inl b)) = inl (a.0 ∙ sym b.0)
rest_whys bytes f g (inr (inl a)) (inr (inr b)) = absurd (omega (arith, a.1, b.1))
rest_whys bytes f g (inr (inr a)) (inr (inl b)) = absurd (omega (arith, a.1, b.1))
rest_whys bytes f g (inr (inr a)) (inr (inr b)) = inl (a.0 ∙ sym b.0)

body_pair : (framed : Framing) (bytes : List ℕ) (ended : Bool) (f g : LinkFault) → BodyIs framed (Err f) bytes ended → BodyIs framed (Err g) bytes ended → Same f g
body_pair framing.NoBody bytes ended f g x y = absurd (cc x)
body_pair framing.Chunked bytes ended f g x y =
    let c = x.2 in
    let d = y.2 in
    chunks_pair 0 x.0 y.0 c.chunks d.chunks x.1 y.1 ended f g c.each d.each (sym c.bytes_are ∙ d.bytes_are)
    (omega (arith, ap length c.content_is)) c.fits (omega (arith, ap length d.content_is)) d.fits x.3 y.3
body_pair (framing.Length size) bytes ended f g x y = elim (sized_why size bytes ended f x) [
  | inl memory ↦ inr (inl memory)
  | inr a ↦ elim (sized_why size bytes ended g y) [ inl memory ↦ inr (inr memory) | inr b ↦ inl (a ∙ sym b) ]
]
body_pair framing.UntilEnd bytes ended f g x y = rest_whys bytes f g (rest_why bytes ended f x) (rest_why bytes ended g y)

of_same : {Left : Type 0} (f g : LinkFault) → Same f g → One Left f g
of_same f g (inl same) = inl same
of_same f g (inr (inl memory)) = inr (inl memory)
of_same f g (inr (inr memory)) = inr (inr (inl memory))

err_or : LinkFault → Result Framing LinkFault → LinkFault
err_or d (Ok framed) = d
err_or d (Err f) = f

-- behind the same head
bodies_pair : (h : ResponseHead) (bytes : List ℕ) (ended : Bool) (f g : LinkFault) → BodyFails h f bytes ended → BodyFails h g bytes ended → Same f g
unfolding err_or ok_or
bodies_pair h bytes ended f g (inl x) (inl y) = inl (ap (err_or f) (sym x ∙ y))
bodies_pair h bytes ended f g (inl x) (inr y) = let e : ◌≡◌ {A = Result Framing LinkFault} (Err f) (Ok y.0) = sym x ∙ y.1 in absurd (cc e)
bodies_pair h bytes ended f g (inr x) (inl y) = let e : ◌≡◌ {A = Result Framing LinkFault} (Err g) (Ok x.0) = sym y ∙ x.1 in absurd (cc e)
bodies_pair h bytes ended f g (inr x) (inr y) =
    let framed : x.0 ≡ y.0 = ap (ok_or x.0) (sym x.1 ∙ y.1) in
    body_pair y.0 bytes ended f g (subst (λ k. BodyIs k (Err f) bytes ended) framed x.2) y.2

whole_head : (bytes here : List ℕ) (h : ResponseHead) (ended : Bool) (f : LinkFault) → ReplyHeadAt bytes here h → ReplyHeadFails f bytes ended → f ≡ fault.Memory
whole_head bytes here h ended f at y =
    heads_fault 0 bytes at.0 y.0 here y.1 ended f h at.1 at.3 at.4 (omega (arith, at.2)) y.2 (subst (λ m. HasHeadFault m y.1 ended f) (omega arith) y.4)

pub one_fault : (bytes : List ℕ) (ended : Bool) (f g : LinkFault) → ReplyOf (Err f) bytes ended → ReplyOf (Err g) bytes ended → AreOne bytes f g
one_fault bytes ended f g (inl x) (inl y) =
    heads_pair 0 bytes x.0 y.0 x.1 y.1 ended f g x.2 (omega (arith, x.3)) (subst (λ m. HasHeadFault m x.1 ended f) (omega arith) x.4)
    y.2 (omega (arith, y.3)) (subst (λ m. HasHeadFault m y.1 ended g) (omega arith) y.4)
one_fault bytes ended f g (inl x) (inr y) = inr (inl (whole_head bytes y.0 y.1 ended f y.2 x))
one_fault bytes ended f g (inr x) (inl y) = inr (inr (inl (whole_head bytes x.0 x.1 ended g x.2 y)))
one_fault bytes ended f g (inr (here, h, at, x)) (inr (there, k, to, y)) =
    let same = heads_one bytes at.0 to.0 here there h k (at.1, at.3, at.4) (to.1, to.3, to.4) in
    let moved : BodyFails k f (after_head k there) ended =
    subst (λ b. BodyFails k f b ended) (λ i. after_head (same.1 i) (same.0 i)) (subst (λ j. BodyFails j f (after_head h here) ended) same.1 x) in
    of_same f g (bodies_pair k (after_head k there) ended f g moved y)
