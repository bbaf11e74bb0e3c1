-- Size lines at the front of bytes.
use Rattle.std.proofs.Common.{◌≡◌, ℕ, ◌+◌, ◌-◌, ◌≤◌, ◌<◌, inl, inr, List, [], ◌∷◌, ◌++◌, length, take, drop, refl, sym, ap, ◌∙◌, subst, append_assoc, arith, Bool, true, false, cond, Option, Some, None, Ok, Err}
use Rattle.http_fields.proofs.Fronts.{take_grows}
use Rattle.httparse.specs.declared.Status.{Status}
use Rattle.httparse.specs.declared.Status.TheVariants.{Complete, Partial}
use Rattle.httparse.specs.declared.InvalidChunkSize.{InvalidChunkSize}
use Rattle.httparse.specs.Outcome.{IfComplete, OnPartial}
use Rattle.upstream_link.specs.declared.fault.LinkFault.{LinkFault}
use Rattle.upstream_link.specs.declared.fault.LinkFault.TheVariants as fault
use Rattle.upstream_link.specs.Chunks.{room, line_end, body_limit, Chunk, print_chunk, IsChunk, print_chunks, data_of, ChunksTo, HasLine, after_line, line_state, trailer_from, trailer_length, HasOpenLine, LacksData, HasOpenTrailer, Ends, HasChunkFault}
use Rattle.upstream_link.specs.Service.{PieceSays, LineIs, LookSays, LineSays, DataSays, TrailerSays, OneMore}
use Rattle.upstream_link.specs.Received.{is_failure}
use Rattle.httparse.specs.Grammar.{ChunkLine, print_chunk_line, chunk_size, ReadsChunkLine}
use Rattle.httparse.proofs.ChunkLemmas.{ReadsChunkLine-append}
use Rattle.std.proofs.lemmas.List.{append-nil, length-append, length-take, length-drop, take-append-drop, drop-drop}
use Rattle.std.proofs.Math.Seq.{drop-append_seam}
use Rattle.std.specs.Option.{option_map}
use Rattle.std.specs.List.{AllByRecursion}
use Rattle.std.specs.Prelude.{◌==◌, ◌&&◌, nat_lt}

-- a piece that didn't come, or found no memory
pub piece_fails : (Q : LinkFault → Type 0) (old new piece : List ℕ) (f : LinkFault) → PieceSays old new piece (Err f)
    → (piece ≡ [] → Q fault.Failed) → Q fault.Memory → Q f
piece_fails Q old new piece fault.Down k r m = absurd k
piece_fails Q old new piece fault.Failed k r m = r k
piece_fails Q old new piece fault.BadReplyHead k r m = absurd k
piece_fails Q old new piece fault.Coded k r m = absurd k
piece_fails Q old new piece fault.TooLarge k r m = absurd k
piece_fails Q old new piece fault.Truncated k r m = absurd k
piece_fails Q old new piece fault.BadChunk k r m = absurd k
piece_fails Q old new piece fault.Memory k r m = m

pub complete_at : (P : ℕ × ℕ → Type 0) (s : Status (ℕ × ℕ)) (r : ℕ × ℕ) → s ≡ Complete r → IfComplete {A = ℕ × ℕ} {E = InvalidChunkSize} (Ok s) P → P r
complete_at P s r e k = subst (λ x. IfComplete {A = ℕ × ℕ} {E = InvalidChunkSize} (Ok x) P) e k

pub partial_at : (P : Type 0) (s : Status (ℕ × ℕ)) → s ≡ Partial → OnPartial {A = ℕ × ℕ} {E = InvalidChunkSize} (Ok s) P → P
partial_at P s e k = subst (λ x. OnPartial {A = ℕ × ℕ} {E = InvalidChunkSize} (Ok x) P) e k

pub bad_line : (here new : List ℕ) (ended : Bool) (f : LinkFault) → LookSays here (Err f) → LineSays new (Err f) here ended
bad_line here new ended fault.Down k = absurd k
bad_line here new ended fault.Failed k = absurd k
bad_line here new ended fault.BadReplyHead k = absurd k
bad_line here new ended fault.Coded k = absurd k
bad_line here new ended fault.TooLarge k = absurd k
bad_line here new ended fault.Truncated k = absurd k
bad_line here new ended fault.BadChunk k = k
bad_line here new ended fault.Memory k = absurd k

pub line_no_failure : (here : List ℕ) (f : LinkFault) → LookSays here (Err f) → is_failure f ≡ false
line_no_failure here fault.Down k = refl
line_no_failure here fault.Failed k = absurd k
line_no_failure here fault.BadReplyHead k = refl
line_no_failure here fault.Coded k = refl
line_no_failure here fault.TooLarge k = refl
line_no_failure here fault.Truncated k = refl
line_no_failure here fault.BadChunk k = refl
line_no_failure here fault.Memory k = refl

pub seen_line : (l k : List ℕ) (o : Option (ℕ × ℕ)) → l ≡ k → o ≡ None → LookSays l (Ok o) → HasOpenLine k
seen_line l k o same none is = subst (λ x. LookSays x (Ok None)) same (subst (λ x. LookSays l (Ok x)) none is)

-- ---- a size line

pub line_stays : (here more : List ℕ) (l : ChunkLine) → HasLine here l → HasLine (here ++ more) l
line_stays here more l x =
    let grown = take_grows 16384 here more in
    (x.0 ++ grown.0, subst (λ r. ReadsChunkLine r l (x.0 ++ grown.0)) (sym grown.1) (ReadsChunkLine-append (room here) l x.0 grown.0 x.1))

pub line_inside : (here : List ℕ) (l : ChunkLine) → HasLine here l → (length (print_chunk_line l) ≤ length here) × (length (print_chunk_line l) ≤ 16384)
line_inside here l x =
    let e : length (room here) ≡ length (print_chunk_line l ++ x.0) = ap length x.1.1 in
    (omega (arith, e, length-append (print_chunk_line l) x.0, length-take 16384 here), omega (arith, e, length-append (print_chunk_line l) x.0, length-take 16384 here))

-- the bytes are the line and those after it
pub line_then : (here : List ℕ) (l : ChunkLine) → HasLine here l → here ≡ print_chunk_line l ++ after_line l here
line_then here l x = first_then 16384 here (print_chunk_line l) x.0 x.1.1
  where
    first_then : (n : ℕ) (xs front rest : List ℕ) → take n xs ≡ front ++ rest → xs ≡ front ++ drop (length front) xs
    first_then n xs front rest e =
        let whole : xs ≡ front ++ (rest ++ drop n xs) = sym (take-append-drop n xs) ∙ ap (λ l. l ++ drop n xs) e ∙ append_assoc front rest (drop n xs) in
        whole ∙ ap (λ l. front ++ l) (sym (ap (drop (length front)) whole ∙ drop-append_seam front (rest ++ drop n xs)))

pub line_is_stays : (here more : List ℕ) (len size : ℕ) → LineIs here len size → LineIs (here ++ more) len size
line_is_stays here more len size x = (x.0, line_stays here more x.0 x.1, x.2, x.3)

-- ---- the faults of one chunk

pub line_fault : (content here new : List ℕ) (ended : Bool) (f : LinkFault) → LineSays new (Err f) here ended → HasChunkFault content here ended f
line_fault content here new ended fault.Down k = absurd k
line_fault content here new ended fault.Failed k = (inl k.0, k.1)
line_fault content here new ended fault.BadReplyHead k = absurd k
line_fault content here new ended fault.Coded k = absurd k
line_fault content here new ended fault.TooLarge k = absurd k
line_fault content here new ended fault.Truncated k = (inl k.0, k.1)
line_fault content here new ended fault.BadChunk k = inl k
line_fault content here new ended fault.Memory k = tt

pub too_large : (content here : List ℕ) (ended : Bool) (len size : ℕ) → LineIs here len size → length content ≤ body_limit → body_limit - length content < size → HasChunkFault content here ended fault.TooLarge
too_large content here ended len size x fits more = (x.0, x.1, omega (arith, x.3, fits, more))

trailer_open : (here : List ℕ) (len size : ℕ) (x : LineIs here len size) → size ≡ 0 → trailer_length (room (drop len here)) ≡ None → length (drop len here) < 16384 → HasOpenTrailer here x.0
trailer_open here len size x zero_size none short =
    (sym x.3 ∙ zero_size, subst (λ n. trailer_length (room (drop n here)) ≡ None) x.2 none, subst (λ n. length (drop n here) < 16384) x.2 short)

pub trailer_fault : (content here : List ℕ) (ended : Bool) (len size : ℕ) (f : LinkFault) → LineIs here len size → size ≡ 0 → length content ≤ body_limit → TrailerSays len (Err f) here ended → HasChunkFault content here ended f
trailer_fault content here ended len size fault.Down x z fits k = absurd k
trailer_fault content here ended len size fault.Failed x z fits k = (inr (x.0, x.1, omega (arith, x.3, z, fits), inr (trailer_open here len size x z k.0 k.1)), k.2)
trailer_fault content here ended len size fault.BadReplyHead x z fits k = absurd k
trailer_fault content here ended len size fault.Coded x z fits k = absurd k
trailer_fault content here ended len size fault.TooLarge x z fits k = absurd k
trailer_fault content here ended len size fault.Truncated x z fits k = (inr (x.0, x.1, omega (arith, x.3, z, fits), inr (trailer_open here len size x z k.0 k.1)), k.2)
trailer_fault content here ended len size fault.BadChunk x z fits k =
    inr (x.0, x.1, omega (arith, x.3, z, fits), inr (sym x.3 ∙ z, subst (λ n. trailer_length (room (drop n here)) ≡ None) x.2 k.0, subst (λ n. 16384 ≤ length (drop n here)) x.2 k.1))
trailer_fault content here ended len size fault.Memory x z fits k = tt

pub ends : (here : List ℕ) (len size n : ℕ) → LineIs here len size → size ≡ 0 → trailer_length (room (drop len here)) ≡ Some n → Ends here
ends here len size n x z some = (x.0, x.1, sym x.3 ∙ z, (n, subst (λ k. trailer_length (room (drop k here)) ≡ Some n) x.2 some))

lacks : (here : List ℕ) (len size : ℕ) (x : LineIs here len size) → ¬ (size ≡ 0) → length here < len + size + 2 → LacksData here x.0
lacks here len size x some short =
    let inside = line_inside here x.0 x.1 in
    (omega (arith, x.3, some), omega (arith, x.2, x.3, length-drop (length (print_chunk_line x.0)) here, inside.0, short))

pub data_fault : (content here new : List ℕ) (ended : Bool) (len size : ℕ) (f : LinkFault) → LineIs here len size → ¬ (size ≡ 0) → length content + size ≤ body_limit → DataSays (len + size + 2) new (Err f) here ended → HasChunkFault content here ended f
data_fault content here new ended len size fault.Down x some fits k = absurd k
data_fault content here new ended len size fault.Failed x some fits k = (inr (x.0, x.1, omega (arith, x.3, fits), inl (lacks here len size x some k.0)), k.1)
data_fault content here new ended len size fault.BadReplyHead x some fits k = absurd k
data_fault content here new ended len size fault.Coded x some fits k = absurd k
data_fault content here new ended len size fault.TooLarge x some fits k = absurd k
data_fault content here new ended len size fault.Truncated x some fits k = (inr (x.0, x.1, omega (arith, x.3, fits), inl (lacks here len size x some k.0)), k.1)
data_fault content here new ended len size fault.BadChunk x some fits k = absurd k
data_fault content here new ended len size fault.Memory x some fits k = tt

pub no_end : (content here : List ℕ) (ended : Bool) (len size : ℕ) → LineIs here len size → ¬ (size ≡ 0) → length content + size ≤ body_limit → len + size + 2 ≤ length here
    → ¬ (take 2 (drop (len + size) here) ≡ line_end) → HasChunkFault content here ended fault.BadChunk
no_end content here ended len size x some fits enough other =
    inr (
      x.0,
      x.1,
      omega (arith, x.3, fits),
      inl (
        omega (arith, x.3, some),
        omega (arith, x.2, x.3, length-drop (length (print_chunk_line x.0)) here, enough),
        λ e. other (ap (take 2) (same here len size (length (print_chunk_line x.0)) (chunk_size x.0) x.2 x.3) ∙ e),
      ),
    )
  where
    same : (here : List ℕ) (len size a b : ℕ) → len ≡ a → size ≡ b → drop (len + size) here ≡ drop b (drop a here)
    same here len size a b e f = sym (drop-drop b a here ∙ ap (λ n. drop n here) (omega (arith, e, f)))

-- ---- a whole chunk

abbrev pub chunk_of : ChunkLine → List ℕ → Chunk
chunk_of l bytes = record { line = l; bytes = bytes }

cut : (n : ℕ) (xs end : List ℕ) → n + 2 ≤ length xs → take 2 (drop n xs) ≡ end → xs ≡ take n xs ++ (end ++ drop (n + 2) xs)
cut n xs end enough e =
    sym (take-append-drop n xs) ∙ ap (λ l. take n xs ++ l) (sym (take-append-drop 2 (drop n xs)) ∙ (λ i. e i ++ drop-drop 2 n xs i))

pub chunk_here : (old new here left : List ℕ) (len size : ℕ) (x : LineIs here len size) → ¬ (size ≡ 0) → length old + size ≤ body_limit → len + size + 2 ≤ length here
    → take 2 (drop (len + size) here) ≡ line_end → new ≡ old ++ take (len + size - len) (drop len here) → left ≡ drop (len + size + 2) here
    → (ended : Bool) → ended ≡ false → OneMore old new left here ended
chunk_here old new here left len size x some fits enough end grown left_is ended still =
    let l = x.0 in
    let rest = after_line l here in
    let long : length rest ≡ length here - len = length-drop (length (print_chunk_line l)) here ∙ ap (λ n. length here - n) (sym x.2) in
    let bytes = take size rest in
    let whole : length bytes ≡ size = length-take size rest ∙ omega (arith, long, enough) in
    let ending : take 2 (drop size rest) ≡ line_end =
    ap (take 2) (ap (λ n. drop size (drop n here)) (sym x.2) ∙ drop-drop size len here ∙ ap (λ n. drop n here) (omega arith)) ∙ end in
    let tail : drop (size + 2) rest ≡ left =
    ap (λ n. drop (size + 2) (drop n here)) (sym x.2) ∙ drop-drop (size + 2) len here ∙ ap (λ n. drop n here) (omega arith) ∙ sym left_is in
    let added : new ≡ old ++ bytes = grown ∙ (λ i. old ++ take (minus len size i) (drop (x.2 i) here)) in
    record {
      chunk = chunk_of l bytes;
      is = record { line = x.1.1.0; short = (line_inside here l x.1).1; some = omega (arith, x.3, some); whole = whole ∙ x.3 };
      here_is = line_then here l x.1 ∙ ap (λ k. print_chunk_line l ++ k) (cut size rest line_end (omega (arith, long, enough)) ending ∙ (λ i. bytes ++ (line_end ++ tail i)) ∙ sym (append_assoc bytes line_end left))
          ∙ sym (append_assoc (print_chunk_line l) (bytes ++ line_end) left);
      grown = added;
      fits = omega (arith, ap length added, length-append old bytes, whole, fits);
      goes_on = still;
    }
  where
    minus : (len size : ℕ) → len + size - len ≡ size
    minus len size = omega arith

-- ---- chunk after chunk

pub none_yet : (bytes : List ℕ) → ChunksTo bytes [] bytes
unfolding print_chunks data_of
none_yet bytes = record { chunks = []; each = tt; bytes_are = refl; content_is = refl; fits = omega arith }

pub chunks_grow : (bytes content here more : List ℕ) → ChunksTo bytes content here → ChunksTo (bytes ++ more) content (here ++ more)
chunks_grow bytes content here more x = record {
  chunks = x.chunks;
  each = x.each;
  bytes_are = ap (λ l. l ++ more) x.bytes_are ∙ append_assoc (print_chunks x.chunks) here more;
  content_is = x.content_is;
  fits = x.fits;
}

print_more : (cs : List Chunk) (c : Chunk) → print_chunks (cs ++ c ∷ []) ≡ print_chunks cs ++ print_chunk c
unfolding print_chunks
print_more [] c = append-nil (print_chunk c)
print_more (d ∷ cs) c = ap (λ l. print_chunk d ++ l) (print_more cs c) ∙ sym (append_assoc (print_chunk d) (print_chunks cs) (print_chunk c))

bytes_more : (cs : List Chunk) (c : Chunk) → data_of (cs ++ c ∷ []) ≡ data_of cs ++ c.bytes
unfolding data_of
bytes_more [] c = append-nil c.bytes
bytes_more (d ∷ cs) c = ap (λ l. d.bytes ++ l) (bytes_more cs c) ∙ sym (append_assoc d.bytes (data_of cs) c.bytes)

each_more : (cs : List Chunk) (c : Chunk) → AllByRecursion IsChunk cs → IsChunk c → AllByRecursion IsChunk (cs ++ c ∷ [])
each_more [] c each is = (is, tt)
each_more (d ∷ cs) c each is = (each.0, each_more cs c each.1 is)

pub one_more : (bytes content new here left : List ℕ) (c : Chunk) → ChunksTo bytes content here → IsChunk c → here ≡ print_chunk c ++ left → new ≡ content ++ c.bytes → length new ≤ body_limit → ChunksTo bytes new left
one_more bytes content new here left c x is here_is grown fits = record {
  chunks = x.chunks ++ c ∷ [];
  each = each_more x.chunks c x.each is;
  bytes_are = x.bytes_are ∙ ap (λ l. print_chunks x.chunks ++ l) here_is ∙ sym (append_assoc (print_chunks x.chunks) (print_chunk c) left) ∙ ap (λ l. l ++ left) (sym (print_more x.chunks c));
  content_is = grown ∙ ap (λ l. l ++ c.bytes) x.content_is ∙ sym (bytes_more x.chunks c);
  fits = fits;
}

-- ---- the trailer

shifted : (at : ℕ) (o : Option ℕ) → option_map (λ n. n + at) (option_map (λ n. n + 1) o) ≡ option_map (λ n. n + (at + 1)) o
shifted at None = refl
shifted at (Some n) = ap Some (omega arith)

pub unshifted : (o : Option ℕ) → option_map (λ n. n + 0) o ≡ o
unshifted None = refl
unshifted (Some n) = ap Some (omega arith)

pub trailer_ends : (s at b : ℕ) (rest : List ℕ) → ((b == 10) && nat_lt s 2) ≡ true → option_map (λ n. n + at) (trailer_from s (b ∷ rest)) ≡ Some (at + 1)
unfolding trailer_from
trailer_ends s at b rest e = ap (λ t. option_map (λ n. n + at) (cond t (Some 1) (option_map (λ n. n + 1) (trailer_from (line_state s b) rest)))) e ∙ ap Some (omega arith)

pub trailer_goes_on : (s at b : ℕ) (rest : List ℕ) → ((b == 10) && nat_lt s 2) ≡ false
    → option_map (λ n. n + at) (trailer_from s (b ∷ rest)) ≡ option_map (λ n. n + (at + 1)) (trailer_from (line_state s b) rest)
unfolding trailer_from
trailer_goes_on s at b rest e =
    ap (λ t. option_map (λ n. n + at) (cond t (Some 1) (option_map (λ n. n + 1) (trailer_from (line_state s b) rest)))) e ∙ shifted at (trailer_from (line_state s b) rest)

pub no_trailer : (s : ℕ) → trailer_from s [] ≡ None
unfolding trailer_from
no_trailer s = refl

pub longer : (old new : List ℕ) (c : Chunk) → IsChunk c → new ≡ old ++ c.bytes → length old < length new
longer old new c is grown = omega (arith, ap length grown, length-append old c.bytes, is.some, is.whole)
