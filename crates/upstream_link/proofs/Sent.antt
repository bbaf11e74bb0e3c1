-- Bytes that were sent one after the other, and fronts of them.
use Rattle.std.proofs.Common.{◌≡◌, ◌<◌, ◌++◌, ℕ, List, [], length, take, drop, refl, sym, ap, ◌∙◌, append_assoc, arith}
use Rattle.std.specs.Prelude.{Option, Some, None}
use Rattle.std.proofs.lemmas.List.{append-nil, length-drop, take-append-drop}
use Rattle.outside.specs.Dials.{Dial, LastBecomes, sends, fails}
use Rattle.outside.proofs.Dialling.{last_then, sends_then}
use Rattle.std.specs.Prelude.{Err}
use Rattle.upstream_link.specs.declared.fault.LinkFault.{LinkFault}
use Rattle.upstream_link.specs.declared.fault.LinkFault.TheVariants as fault
use Rattle.upstream_link.specs.Exchanges.{IsFrontOf, SendSays}
use Rattle.upstream_link.proofs.Receiving.{same_last, with_last_none}

sends_none : (d : Dial) → d ≡ sends [] d
sends_none d = λ i. record { answered = d.answered; sent = sym (append-nil d.sent) i; taken = d.taken; ended = d.ended; failed = d.failed }

-- nothing was sent
pub sent_none : (log : Option (List Dial)) → LastBecomes (sends []) log log
sent_none None = refl
sent_none (Some log) = ap Some (with_last_none (sends []) sends_none log)

-- some bytes were sent, and then some more
pub sent_more : (a b c : Option (List Dial)) (first second : List ℕ) → LastBecomes (sends first) a b → LastBecomes (sends second) b c → LastBecomes (sends (first ++ second)) a c
sent_more a b c first second x y =
    same_last (λ d. sends second (sends first d)) (sends (first ++ second)) (sends_then first second) a c (last_then (sends first) (sends second) a b c x y)

-- some bytes were sent, and then a transfer failed
pub sent_and_failed : (a b c : Option (List Dial)) (bytes : List ℕ) → LastBecomes (sends bytes) a b → LastBecomes fails b c → LastBecomes (λ d. fails (sends bytes d)) a c
sent_and_failed a b c bytes x y = last_then (sends bytes) fails a b c x y

-- some bytes were sent, and of those behind them a front, and then a transfer failed
pub sent_then_failed : (a b c : Option (List Dial)) (first front : List ℕ) → LastBecomes (sends first) a b → LastBecomes (λ d. fails (sends front d)) b c
    → LastBecomes (λ d. fails (sends (first ++ front) d)) a c
sent_then_failed a b c first front x y =
    same_last (λ d. fails (sends front (sends first d))) (λ d. fails (sends (first ++ front) d)) (λ d. ap fails (sends_then first front d)) a c
    (last_then (sends first) (λ d. fails (sends front d)) a b c x y)

-- the bytes before a place are a front
pub front_at : (place : ℕ) (bytes : List ℕ) → place < length bytes → IsFrontOf (take place bytes) bytes
front_at place bytes inside = (drop place bytes, sym (take-append-drop place bytes), omega (arith, inside, length-drop place bytes))

-- behind some bytes, a front of those that follow is a front of all
pub front_behind : (first front bytes : List ℕ) → IsFrontOf front bytes → IsFrontOf (first ++ front) (first ++ bytes)
front_behind first front bytes x = (x.0, ap (λ l. first ++ l) x.1 ∙ sym (append_assoc first front x.0), x.2)

-- some bytes were sent, and those behind them were not sent whole
pub not_sent : (a b c : Option (List Dial)) (first second : List ℕ) (f : LinkFault) → LastBecomes (sends first) a b → SendSays second (Err f) b c → SendSays (first ++ second) (Err f) a c
not_sent a b c first second fault.Down x y = y
not_sent a b c first second fault.Failed x y = (first ++ y.0, front_behind first y.0 second y.1, sent_then_failed a b c first y.0 x y.2)
not_sent a b c first second fault.BadReplyHead x y = y
not_sent a b c first second fault.Coded x y = y
not_sent a b c first second fault.TooLarge x y = y
not_sent a b c first second fault.Truncated x y = y
not_sent a b c first second fault.BadChunk x y = y
not_sent a b c first second fault.Memory x y = y
