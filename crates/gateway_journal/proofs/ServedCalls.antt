-- What a connection gained in a journal, whatever history the journal follows.
use Rattle.std.proofs.Common.{◌≡◌, ℕ, ◌+◌, ◌<◌, inl, inr, List, [], ◌∷◌, ◌++◌, length, refl, sym, subst, append-nil, arith, Bool, Option, Some, ⊎_elim}
use Rattle.std.specs.List.{AllByRecursion}
use Rattle.cost_num.specs.declared.Cost.{Cost}
use Rattle.account_core.specs.Machine.{Call, Entry, reservation, granted}
use Rattle.account_shared.specs.Gains.{ClientCall, client_call}
use Rattle.doors.specs.Visits.{Told}
use Rattle.http_front.specs.declared.front.Ask.{Ask}
use Rattle.account_journal.specs.declared.slots.TheConstants.{SLOTS}
use Rattle.account_journal.specs.declared.journal.Journal.{Journal}
use Rattle.account_journal.specs.Journals.{Follows}
use Rattle.gateway_workers.specs.PassedOn.{numbers_taken, window_of, LosesReservation, LosesCalls, Served, Service, Exchange, WireTelling, AreExchanges, LosesExchange, Stop, not_begun, at_fault, after_last, StopsAt, all_of, calls_of, Serves, LosesTurn, LosesServing}
use Rattle.gateway_workers.proofs.PassedOn.{one_more_made, exchange_settled}
use Rattle.gateway_journal.specs.Kept.{kept_slots, kept_of_calls, AreHeld, opened_in, settled_in, HasGained, HasKept}
use Rattle.gateway_journal.specs.Composed.{counts_then, as_many}
use Rattle.gateway_journal.proofs.HeldCalls.{IsQuiet, quiet_start, StaysQuiet, settled_quiet, each_first, each_then, held_both, one_held, none_held}

-- each grant that exchanges settle is open at its turn
pub exchanges_held : (s : Service) (slots : ℕ) → s.slots ≡ Some slots → (count number : ℕ) (hs : List Entry) (xs : List Exchange) → AreExchanges s number xs
    → AllByRecursion (λ c. c.client < count) (calls_of xs) → IsQuiet count number hs → AreHeld hs number (calls_of xs)
unfolding AreExchanges calls_of
exchanges_held s slots is count number hs [] each known quiet = none_held hs number
exchanges_held s slots is count number hs (x ∷ xs) each known quiet =
    let one : StaysQuiet slots count number hs x.calls =
    settled_quiet slots count number hs x.calls (exchange_settled s number (Unit {0}) x each.0) (each_first (λ c. c.client < count) x.calls (calls_of xs) known) quiet in
    held_both slots hs number x.calls (calls_of xs) one.held
    (exchanges_held s slots is count (number + numbers_taken (Some slots) x.calls) (hs ++ kept_of_calls number x.calls) xs
    (subst (λ k. AreExchanges s (number + numbers_taken k x.calls) xs) is each.1) (each_then (λ c. c.client < count) x.calls (calls_of xs) known) one.quiet)

-- what they grant is settled
pub exchanges_even : (s : Service) (number : ℕ) (xs : List Exchange) → AreExchanges s number xs → opened_in (calls_of xs) ≡ settled_in (calls_of xs)
unfolding AreExchanges calls_of opened_in settled_in
exchanges_even s number [] each = refl
exchanges_even s number (x ∷ xs) each =
    let counts = counts_then x.calls (calls_of xs) in
    omega (arith, counts.0, counts.1, as_many number x.calls (exchange_settled s number (Unit {0}) x each.0), exchanges_even s (number + numbers_taken s.slots x.calls) xs each.1)

-- with the one after which it stopped
pub all_made : (s : Service) (made : ℕ) (xs : List Exchange) (stop : Stop) (here : List ℕ) (ended : Bool) → AreExchanges s made xs
    → StopsAt s (length xs) (made + numbers_taken s.slots (calls_of xs)) here ended stop → AreExchanges s made (all_of xs stop)
all_made s made xs not_begun here ended each stops = subst (AreExchanges s made) (sym (append-nil xs)) each
all_made s made xs (at_fault f r) here ended each stops = subst (AreExchanges s made) (sym (append-nil xs)) each
all_made s made xs (after_last x) here ended each stops = one_more_made s made xs x each stops.1

module _ {D : Type 0} (reads : D → Option (List ℕ)) (image : D → List ℕ → Type 0) (faults : D → ℕ) where
  pub kept_by : (a b : Journal D) (calls : List ClientCall) → HasGained reads image faults a b calls → ((hs : List Entry) → Follows a hs → AreHeld hs a.used calls) → HasKept reads image faults a b calls
  kept_by a b calls gained held = record {
    limits = gained.limits;
    known = gained.known;
    used = gained.used;
    opened = gained.opened;
    tells = gained.tells;
    count = gained.count;
    goes = λ hs follows. gained.goes hs follows (held hs follows);
  }

  pub kept_of_exchanges : (s : Service) → s.slots ≡ kept_slots → (a b : Journal D) → a.opened ≡ 0 → (xs : List Exchange) → AreExchanges s a.used xs → HasGained reads image faults a b (calls_of xs)
      → HasKept reads image faults a b (calls_of xs)
  kept_of_exchanges s is a b idle xs each gained =
      kept_by a b (calls_of xs) gained (λ hs follows. exchanges_held s SLOTS is (length a.limits.items) a.used hs xs each gained.known (quiet_start a hs follows idle))

  -- ---- a connection that was served to its end

  pub kept_serves : (s : Service) → s.slots ≡ kept_slots → (a b : Journal D) → a.opened ≡ 0 → (given back : Told) (served : Served)
      → Serves s a.used (HasGained reads image faults a b) given back served → Serves s a.used (HasKept reads image faults a b) given back served
  kept_serves s is a b idle given back served serves =
      let runs = serves.runs in
      let made = runs.connection in
      let xs = all_of made.exchanges made.stop in
      record {
        calls = serves.calls;
        runs = runs;
        gains = subst (HasKept reads image faults a b) (sym runs.calls_are)
            (kept_of_exchanges s is a b idle xs (all_made s a.used made.exchanges made.stop made.here runs.ended made.each made.stops) (subst (HasGained reads image faults a b) runs.calls_are serves.gains));
      }

  -- ---- a connection in which the accounts were lost

  pub none_kept : (a b : Journal D) → HasGained reads image faults a b [] → HasKept reads image faults a b []
  none_kept a b gained = kept_by a b [] gained (λ hs follows. none_held hs a.used)

  one_kept : (a b : Journal D) (client window : ℕ) (bound : Cost) (at : ℕ) → HasGained reads image faults a b (client_call client (reservation window bound) (granted at) ∷ [])
      → HasKept reads image faults a b (client_call client (reservation window bound) (granted at) ∷ [])
  one_kept a b client window bound at gained = kept_by a b (client_call client (reservation window bound) (granted at) ∷ []) gained (λ hs follows. one_held hs a.used client window bound at)

  module _ {B W : Type 0} (journal_of : B → Journal D) (s : Service) (t : WireTelling W) (loses : Journal D → ℕ → Call → Type 0) (after : W) where
    reservation_kept : (a : B) (client window : ℕ) (bound : Cost)
        → LosesReservation {B = B} client window bound (λ b. HasGained reads image faults (journal_of a) (journal_of b)) (λ b. loses (journal_of b))
        → LosesReservation {B = Journal D} client window bound (HasKept reads image faults (journal_of a)) loses
    reservation_kept a client window bound it = record { before = journal_of it.before; unanswered = none_kept (journal_of a) (journal_of it.before) it.unanswered; lost = it.lost }

    calls_kept : (a : B) (client window : ℕ) (bound : Cost)
        → LosesCalls {B = B} client window bound (journal_of a).used (λ b. HasGained reads image faults (journal_of a) (journal_of b)) (λ b. loses (journal_of b))
        → LosesCalls {B = Journal D} client window bound (journal_of a).used (HasKept reads image faults (journal_of a)) loses
    calls_kept a client window bound (inl it) = inl (reservation_kept a client window bound it)
    calls_kept a client window bound (inr it) = inr record {
      before = journal_of it.before;
      at = it.at;
      answered = one_kept (journal_of a) (journal_of it.before) client window bound it.at it.answered;
      lost = it.lost;
    }

    exchange_kept : (a : B) (wire : W) (ask : Ask) (moment : ℕ)
        → LosesExchange {B = B} s t ask moment (journal_of a).used (λ b. HasGained reads image faults (journal_of a) (journal_of b)) (λ b. loses (journal_of b)) wire after
        → LosesExchange {B = Journal D} s t ask moment (journal_of a).used (HasKept reads image faults (journal_of a)) loses wire after
    exchange_kept a wire ask moment (inl (begun, same)) = inl (
      record {
        client = begun.client;
        known = begun.known;
        bound = begun.bound;
        lost = ⊎_elim
            (λ it. inl (it.0, reservation_kept a begun.client (window_of s.rules moment) begun.bound it.1))
            (λ it. inr (it.0, calls_kept a begun.client (window_of s.rules moment) begun.bound it.1))
            begun.lost;
      },
      same,
    )
    exchange_kept a wire ask moment (inr (client, grant, before, is_granted, gained, lost)) =
        inr (client, grant, journal_of before, is_granted, one_kept (journal_of a) (journal_of before) client (window_of s.rules moment) grant.ticket.bound grant.ticket.window gained, lost)

    turn_kept : (a : B) (wire : W) (kept : List ℕ) (given back : Told)
        → LosesTurn s kept (λ ask moment. LosesExchange {B = B} s t ask moment (journal_of a).used (λ b. HasGained reads image faults (journal_of a) (journal_of b)) (λ b. loses (journal_of b)) wire after) given back
        → LosesTurn s kept (λ ask moment. LosesExchange {B = Journal D} s t ask moment (journal_of a).used (HasKept reads image faults (journal_of a)) loses wire after) given back
    turn_kept a wire kept given back turn = record {
      bytes = turn.bytes;
      took = turn.took;
      ask = turn.ask;
      rest = turn.rest;
      is_ask = turn.is_ask;
      moment = turn.moment;
      tick = turn.tick;
      still = turn.still;
      lost = exchange_kept a wire turn.ask turn.moment turn.lost;
    }

    pub kept_until : s.slots ≡ kept_slots → (a : B) → (journal_of a).opened ≡ 0 → (given back : Told) (replies : ℕ)
        → LosesServing {B = B} s t (λ b. (journal_of b).used) (λ b c. HasGained reads image faults (journal_of b) (journal_of c)) (λ b. loses (journal_of b)) a given back after replies
        → LosesServing {B = Journal D} s t (λ j. j.used) (HasKept reads image faults) loses (journal_of a) given back after replies
    kept_until is a idle given back replies lost =
        let on = lost.goes_on in
        record {
          so_far = journal_of lost.so_far;
          kept = lost.kept;
          between = lost.between;
          wire = lost.wire;
          logs = lost.logs;
          goes_on = record {
            exchanges = on.exchanges;
            each = on.each;
            goes_on = on.goes_on;
            few = on.few;
            counted = on.counted;
            bytes = on.bytes;
            took = on.took;
            asks = on.asks;
            makes = record { gains = kept_of_exchanges s is (journal_of a) (journal_of lost.so_far) idle on.exchanges on.each on.makes.gains; leaves = on.makes.leaves };
            out = on.out;
          };
          lost = turn_kept lost.so_far lost.wire lost.kept lost.between back lost.lost;
        }
