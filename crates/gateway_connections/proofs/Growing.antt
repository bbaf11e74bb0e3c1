-- Exchanges one after the other: what they add up to.
use Rattle.std.proofs.Common.{inl, ◌≡◌, ℕ, ◌+◌, List, [], ◌∷◌, ◌++◌, length, refl, sym, ap, ◌∙◌, subst, append_assoc, arith}
use Rattle.std.proofs.lemmas.List.{append-nil}
use Rattle.std.specs.List.{AllByRecursion}
use Rattle.account_shared.specs.Gains.{ClientCall}
use Rattle.outside.specs.Dials.{Dial, Logged, LoggedBy}
use Rattle.outside.specs.Faults.{RoseBy}
use Rattle.outside.specs.Ticks.{Ticks}
use Rattle.outside.proofs.Dialling.{logged_none, logged_by_then}
use Rattle.outside.proofs.Readings.{ticks_none, ticks_then}
use Rattle.outside.proofs.Rises.{rose_by_none, rose_then}
use Rattle.doors.specs.Visits.{Told}
use Rattle.http_front.specs.Asks.{IsAsk}
use Rattle.http_front.proofs.OneAnswer.{ask_stays}
use Rattle.gateway_core.specs.Numbers.{numbers_taken}
use Rattle.gateway_core.proofs.TakenNumbers.{taken_none, taken_then}
use Rattle.gateway_connections.specs.Replies.{written}
use Rattle.gateway_connections.specs.Exchanges.{Service, Exchange, IsExchange, AreExchanges, downs, failures}
use Rattle.gateway_connections.specs.Connections.{AsksTo, calls_of, dials_of, moments_of, downs_of, failures_of, closes, replies_from}
use Rattle.gateway_connections.specs.Serving.{Leaves, Makes}

-- ---- lists of exchanges one after the other

pub calls_then : (xs ys : List Exchange) → calls_of (xs ++ ys) ≡ calls_of xs ++ calls_of ys
unfolding calls_of
calls_then [] ys = refl
calls_then (x ∷ xs) ys = ap (λ l. x.calls ++ l) (calls_then xs ys) ∙ sym (append_assoc x.calls (calls_of xs) (calls_of ys))

pub dials_then : (xs ys : List Exchange) → dials_of (xs ++ ys) ≡ dials_of xs ++ dials_of ys
unfolding dials_of
dials_then [] ys = refl
dials_then (x ∷ xs) ys = ap (λ l. x.dials ++ l) (dials_then xs ys) ∙ sym (append_assoc x.dials (dials_of xs) (dials_of ys))

pub moments_then : (xs ys : List Exchange) → moments_of (xs ++ ys) ≡ moments_of xs ++ moments_of ys
moments_then [] ys = refl
moments_then (x ∷ xs) ys = ap (λ l. x.moment ∷ l) (moments_then xs ys)

pub downs_then : (xs ys : List Exchange) → downs_of (xs ++ ys) ≡ downs_of xs + downs_of ys
unfolding downs_of
downs_then [] ys = omega arith
downs_then (x ∷ xs) ys = omega (arith, downs_then xs ys)

pub failures_then : (xs ys : List Exchange) → failures_of (xs ++ ys) ≡ failures_of xs + failures_of ys
unfolding failures_of
failures_then [] ys = omega arith
failures_then (x ∷ xs) ys = omega (arith, failures_then xs ys)

-- of one exchange
pub calls_one : (x : Exchange) → calls_of (x ∷ []) ≡ x.calls
unfolding calls_of
calls_one x = append-nil x.calls

pub dials_one : (x : Exchange) → dials_of (x ∷ []) ≡ x.dials
unfolding dials_of
dials_one x = append-nil x.dials

pub downs_one : (x : Exchange) → downs_of (x ∷ []) ≡ downs x.outcome
unfolding downs_of
downs_one x = omega arith

pub failures_one : (x : Exchange) → failures_of (x ∷ []) ≡ failures x.outcome
unfolding failures_of
failures_one x = omega arith

-- ---- what was made

pub leaves_none : (t : Told) → Leaves t t []
unfolding dials_of downs_of failures_of
leaves_none t = record {
  ticks = ticks_none t.readings;
  logged = inl (logged_none t.log);
  downs = rose_by_none t.dial_faults t.dial_faults (omega arith);
  failures = rose_by_none t.transfer_faults t.transfer_faults (omega arith);
}

leaves_then : (a b c : Told) (xs ys : List Exchange) → Leaves a b xs → Leaves b c ys → Leaves a c (xs ++ ys)
leaves_then a b c xs ys m n = record {
  ticks = ticks_as (sym (moments_then xs ys)) (ticks_then a.readings b.readings c.readings (moments_of xs) (moments_of ys) m.ticks n.ticks);
  logged = logged_as (sym (dials_then xs ys)) (logged_by_then b.dial_faults c.dial_faults a.log b.log c.log (dials_of xs) (dials_of ys) (λ over. omega (arith, over, n.downs)) m.logged n.logged);
  downs = rose_as a.dial_faults c.dial_faults (sym (downs_then xs ys)) (rose_then (downs_of xs) (downs_of ys) a.dial_faults b.dial_faults c.dial_faults m.downs n.downs);
  failures = rose_as a.transfer_faults c.transfer_faults (sym (failures_then xs ys)) (rose_then (failures_of xs) (failures_of ys) a.transfer_faults b.transfer_faults c.transfer_faults m.failures n.failures);
}
  where
    ticks_as : {ms ns : List ℕ} → ms ≡ ns → Ticks a.readings ms c.readings → Ticks a.readings ns c.readings
    ticks_as e = subst (λ l. Ticks a.readings l c.readings) e

    logged_as : {ds es : List Dial} → ds ≡ es → LoggedBy c.dial_faults a.log ds c.log → LoggedBy c.dial_faults a.log es c.log
    logged_as e = subst (λ l. LoggedBy c.dial_faults a.log l c.log) e

    rose_as : (f g : ℕ) {m n : ℕ} → m ≡ n → RoseBy m f g → RoseBy n f g
    rose_as f g e = subst (λ k. RoseBy k f g) e

-- where neither the clock nor the wire was used
pub makes_still : (Gained : List ClientCall → Type 0) (given back : Told) → Gained [] → back.readings ≡ given.readings → back.log ≡ given.log → back.dial_faults ≡ given.dial_faults → back.transfer_faults ≡ given.transfer_faults
    → Makes Gained given back []
unfolding calls_of dials_of downs_of failures_of
makes_still Gained given back none e f g h = record {
  gains = none;
  leaves = record {
    ticks = subst (λ r. Ticks given.readings [] r) (sym e) (ticks_none given.readings);
    logged = inl (subst (λ l. Logged given.log [] l) (sym f) (logged_none given.log));
    downs = rose_by_none given.dial_faults back.dial_faults (omega (arith, g));
    failures = rose_by_none given.transfer_faults back.transfer_faults (omega (arith, h));
  };
}

pub makes_none : (Gained : List ClientCall → Type 0) (t : Told) → Gained [] → Makes Gained t t []
unfolding calls_of
makes_none Gained t none = record { gains = none; leaves = leaves_none t }

-- what was gained before, and what is gained then, is what is gained in all
abbrev pub AddUp : (Before Now All : List ClientCall → Type 0) → Type 0
AddUp Before Now All = (these those : List ClientCall) → Before these → Now those → All (these ++ those)

pub makes_then : (Before Now All : List ClientCall → Type 0) → AddUp Before Now All → (a b c : Told) (xs ys : List Exchange) → Makes Before a b xs → Makes Now b c ys → Makes All a c (xs ++ ys)
makes_then Before Now All then a b c xs ys m n = record {
  gains = subst All (sym (calls_then xs ys)) (then (calls_of xs) (calls_of ys) m.gains n.gains);
  leaves = leaves_then a b c xs ys m.leaves n.leaves;
}

-- ---- the requests in the bytes

pub asks_none : (names : List (List ℕ)) (bytes : List ℕ) → AsksTo names bytes [] bytes
unfolding AsksTo
asks_none names bytes = refl

pub asks_grow : (names : List (List ℕ)) (bytes : List ℕ) (xs : List Exchange) (rest more : List ℕ) → AsksTo names bytes xs rest → AsksTo names (bytes ++ more) xs (rest ++ more)
unfolding AsksTo
asks_grow names bytes [] rest more a = ap (λ l. l ++ more) a
asks_grow names bytes (x ∷ xs) rest more a = (a.0 ++ more, ask_stays names bytes a.0 more x.ask a.1, asks_grow names a.0 xs rest more a.2)

pub asks_more : (names : List (List ℕ)) (bytes : List ℕ) (xs : List Exchange) (x : Exchange) (here rest : List ℕ) → AsksTo names bytes xs here → IsAsk names here x.ask rest → AsksTo names bytes (xs ++ x ∷ []) rest
unfolding AsksTo
asks_more names bytes [] x here rest a is = (rest, subst (λ l. IsAsk names l x.ask rest) (sym a) is, refl)
asks_more names bytes (y ∷ xs) x here rest a is = (a.0, a.1, asks_more names a.0 xs x here rest a.2 is)

-- ---- exchanges behind others

pub none_made : (s : Service) (made : ℕ) → AreExchanges s made []
unfolding AreExchanges
none_made s made = tt

pub one_more_made : (s : Service) (made : ℕ) (xs : List Exchange) (x : Exchange) → AreExchanges s made xs
    → IsExchange s (made + numbers_taken s.slots (calls_of xs)) (Unit {0}) x → AreExchanges s made (xs ++ x ∷ [])
unfolding AreExchanges calls_of
one_more_made s made [] x each is = (subst (λ n. IsExchange s n (Unit {0}) x) (omega (arith, taken_none s.slots)) is, tt)
one_more_made s made (y ∷ xs) x each is = (
  each.0,
  one_more_made s (made + numbers_taken s.slots y.calls) xs x each.1
      (subst (λ n. IsExchange s n (Unit {0}) x) (omega (arith, taken_then s.slots y.calls (calls_of xs))) is),
)

pub each_more : (P : Exchange → Type 0) (xs : List Exchange) (x : Exchange) → AllByRecursion P xs → P x → AllByRecursion P (xs ++ x ∷ [])
each_more P [] x each is = (is, tt)
each_more P (y ∷ xs) x each is = (each.0, each_more P xs x each.1 is)

-- ---- the replies

pub no_replies : (number : ℕ) → replies_from number [] ≡ []
unfolding replies_from
no_replies number = refl

pub one_more_reply : (number : ℕ) (xs : List Exchange) (x : Exchange)
    → replies_from number (xs ++ x ∷ []) ≡ replies_from number xs ++ written (closes (number + length xs) x) x.reply
unfolding replies_from
one_more_reply number [] x = append-nil (written (closes number x) x.reply) ∙ ap (λ k. written (closes k x) x.reply) (omega arith)
one_more_reply number (y ∷ xs) x =
    ap (λ l. written (closes number y) y.reply ++ l) (one_more_reply (number + 1) xs x ∙ ap (λ k. replies_from (number + 1) xs ++ written (closes k x) x.reply) (omega arith))
    ∙ sym (append_assoc (written (closes number y) y.reply) (replies_from (number + 1) xs) (written (closes (number + length (y ∷ xs)) x) x.reply))
