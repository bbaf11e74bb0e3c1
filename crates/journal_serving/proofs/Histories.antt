-- What is said of journals, said of their histories.
use Rattle.std.proofs.Common.{◌≡◌, ℕ, ◌<◌, ◌≤◌, List, [], ◌∷◌, ◌++◌, length, get_or, refl, sym, ap, ◌∙◌, subst, arith, Option, Some, None, inl, inr, Result, ⊎_elim}
use Rattle.std.specs.Prelude.{IfSome, is_some}
use Rattle.cost_num.specs.declared.Cost.{Cost}
use Rattle.account_core.specs.declared.Limit.{Limit}
use Rattle.account_core.specs.Machine.{Call, reservation, settlement, granted, Entry}
use Rattle.account_core.specs.History.{state_after, AreSteps, entries_by}
use Rattle.account_core.specs.Numbers.{settlement_of}
use Rattle.account_shared.specs.Gains.{ClientCall, client_call}
use Rattle.account_journal.specs.declared.journal.Journal.{Journal}
use Rattle.account_journal.specs.Histories.{AccountsFollow, HasEntryOrNot, no_limit}
use Rattle.account_journal.specs.Journals.{Follows, Stores, IsTold}
use Rattle.doors.specs.Visits.{Told}
use Rattle.http_front.specs.declared.front.Ask.{Ask}
use Rattle.outside.specs.Dials.{Dial}
use Rattle.upstream_link.specs.declared.fault.LinkFault.{LinkFault}
use Rattle.upstream_link.specs.declared.reply.UpstreamReply.{UpstreamReply}
use Rattle.upstream_link.specs.Exchanges.{CameTo}
use Rattle.gateway_journal.specs.PassedOn.{Grant, window_of, LosesReservation, LosesCalls, Service, WireTelling, LosesExchange, LosesForwarded, calls_of, LosesServing}
use Rattle.gateway_journal.specs.Kept.{entries_of_calls, entries_made, kept_of_calls, IsHeld, HasKept, IsLostIn}
use Rattle.gateway_journal.proofs.HeldCalls.{quiet_start, is_open}
use Rattle.gateway_journal.proofs.ServedCalls.{exchanges_even}
use Rattle.journal_serving.specs.Keeping.{Accounted, IsAccounted, HasAdded, LosesCall, WireTold, told_wires, entry_now}

-- ---- options

pub told_as_well : {X : Type 0} (o p : Option X) → is_some o ≡ is_some p → (x : X) → o ≡ Some x → (y : X) × (p ≡ Some y)
told_as_well (Some z) (Some y) same x is = (y, refl)
told_as_well (Some z) None same x is = absurd (cc same)
told_as_well None p same x is = absurd (cc is)

pub each_told : {X : Type 0} (o : Option X) (P : X → Type 0) → ((x : X) → o ≡ Some x → P x) → IfSome o P
each_told None P holds = tt
each_told (Some x) P holds = holds x refl

-- ---- journals with their histories

abbrev pub accounted : {J : Type 0} → Journal J → List Entry → Accounted
accounted j hs = record { history = hs; accounts = j.accounts.items; used = j.used }

-- A journal of these clients follows a history, and where its disk tells, it has it.
pub record Stands {J : Type 0} (reads : J → Option (List ℕ)) (image : J → List ℕ → Type 0) (limits : List Limit) (j : Journal J) (hs : List Entry) : Type 0 where
  pub same : j.limits.items ≡ limits
  pub follows : Follows j hs
  pub stores : IsTold reads j → Stores reads image j hs

pub is_accounted : {J : Type 0} (limits : List Limit) (j : Journal J) (hs : List Entry) → j.limits.items ≡ limits → Follows j hs → j.opened ≡ 0 → IsAccounted limits (accounted j hs)
is_accounted limits j hs same follows idle =
    subst (λ (l : List Limit). AccountsFollow l j.accounts.items j.used 0 hs) same (subst (λ n. AccountsFollow j.limits.items j.accounts.items j.used n hs) idle follows)

-- ---- calls

module _ {J : Type 0} (reads : J → Option (List ℕ)) (image : J → List ℕ → Type 0) (faults : J → ℕ) (limits : List Limit) where
  pub has_added : (a b : Journal J) (hs : List Entry) (calls : List ClientCall) → Stands reads image limits a hs → HasKept reads image faults a b calls
      → HasAdded limits (accounted a hs) (accounted b (hs ++ kept_of_calls a.used calls)) calls
  has_added a b hs calls stands kept = record {
    steps = λ client low.
        subst (λ (l : List Limit). AreSteps (get_or l client no_limit) (state_after (get_or l client no_limit) (entries_by client hs)) (entries_by client (entries_made a.used calls))) stands.same
        ((kept.goes hs stands.follows).steps client (subst (λ (l : List Limit). client < length l) (sym stands.same) low));
    history = refl;
    used = kept.used;
    opened = b.opened;
    follows = subst (λ (l : List Limit). AccountsFollow l b.accounts.items b.used b.opened (hs ++ kept_of_calls a.used calls)) (ap (λ (l : _). l.items) kept.limits ∙ stands.same) (kept.goes hs stands.follows).follows;
  }

  pub stands_on : (a b : Journal J) (hs : List Entry) (calls : List ClientCall) → Stands reads image limits a hs → HasKept reads image faults a b calls → Stands reads image limits b (hs ++ kept_of_calls a.used calls)
  stands_on a b hs calls stands kept = record {
    same = ap (λ (l : _). l.items) kept.limits ∙ stands.same;
    follows = (kept.goes hs stands.follows).follows;
    stores = λ told. (kept.goes hs stands.follows).stores (stands.stores (told_as_well (reads b.disk) (reads a.disk) kept.tells told.0 told.1));
  }

  -- a grant whose reservation was granted behind a journal without open grants is held
  pub is_held : (a b : Journal J) (hs : List Entry) (client window at : ℕ) (bound measured : Cost) → Stands reads image limits a hs → a.opened ≡ 0
      → HasKept reads image faults a b (client_call client (reservation window bound) (granted at) ∷ [])
      → IsHeld (hs ++ kept_of_calls a.used (client_call client (reservation window bound) (granted at) ∷ [])) client (settlement a.used at bound measured)
  unfolding entries_of_calls
  is_held a b hs client window at bound measured stands idle kept =
      is_open (length a.limits.items) a.used client at bound measured hs kept.known.0 (quiet_start a hs stands.follows idle)

-- ---- a call in which the disk failed

module _ {J : Type 0} (reads : J → Option (List ℕ)) (image : J → List ℕ → Type 0) (moment : J → ℕ) (image_since : J → ℕ → List ℕ → Type 0)
    (now_is_since : (d : J) (t : ℕ) (c : List ℕ) → t ≤ moment d → image d c → image_since d t c) (reads_is_image : (d : J) (told : List ℕ) → reads d ≡ Some told → image d told)
    (limits : List Limit) (disk : J) where
  pub loses_call : (j : Journal J) (hs : List Entry) (client : ℕ) (call : Call) → Stands reads image limits j hs → IsHeld hs client call → IsLostIn reads image moment image_since j disk client call
      → LosesCall (reads disk) (accounted j hs) client call
  loses_call j hs client call stands held lost = each_told (reads disk) (λ b. HasEntryOrNot hs (entry_now (accounted j hs) client call) b) (λ b is. by_call call held lost b is)
    where
      told : (c : Call) → IsLostIn reads image moment image_since j disk client c → (b : List ℕ) → reads disk ≡ Some b → IsTold reads j
      told c lost b is = told_as_well (reads disk) (reads j.disk) lost.tells b is

      by_call : (c : Call) → IsHeld hs client c → IsLostIn reads image moment image_since j disk client c → (b : List ℕ) → reads disk ≡ Some b → HasEntryOrNot hs (entry_now (accounted j hs) client c) b
      by_call (reservation window bound) held lost b is =
          let known = told (reservation window bound) lost b is in
          let left = lost.leaves hs known (stands.stores known) in
          left.each b (now_is_since disk (moment j.disk) b left.forward (reads_is_image disk b is))
      by_call (settlement of window bound measured) held lost b is =
          let known = told (settlement of window bound measured) lost b is in
          let left = lost.leaves hs held known (stands.stores known) in
          left.each b (now_is_since disk (moment j.disk) b left.forward (reads_is_image disk b is))

-- ---- a connection in which the disk failed

came_as : (Untouched Other : Type 0) → (Untouched → Other) → (request : List ℕ) (r : Result UpstreamReply LinkFault) (dials : List Dial) → CameTo Untouched request r dials → CameTo Other request r dials
came_as Untouched Other moved request r [] none = (none.0, moved none.1)
came_as Untouched Other moved request r (d ∷ []) came = came
came_as Untouched Other moved request r (d ∷ e ∷ dials) came = absurd came

-- what a wire tells, as first-order data
abbrev pub tell_wire : {W : Type 0} → WireTelling W → W → WireTold
tell_wire t wire = record { log = t.log wire; dial_faults = t.dial_faults wire; faults = t.faults wire }

module _ {J W : Type 0} (reads : J → Option (List ℕ)) (image : J → List ℕ → Type 0) (faults moment : J → ℕ) (image_since : J → ℕ → List ℕ → Type 0)
    (now_is_since : (d : J) (t : ℕ) (c : List ℕ) → t ≤ moment d → image d c → image_since d t c) (reads_is_image : (d : J) (told : List ℕ) → reads d ≡ Some told → image d told)
    (s : Service) (t : WireTelling W) (limits : List Limit) (disk : J) (after : W) where
  -- the calls of a request
  reservation_lost : (j : Journal J) (hs : List Entry) (client window : ℕ) (bound : Cost) → Stands reads image limits j hs
      → LosesReservation {B = Journal J} client window bound (HasKept reads image faults j) (λ k. IsLostIn reads image moment image_since k disk)
      → LosesReservation {B = Accounted} client window bound (HasAdded limits (accounted j hs)) (LosesCall (reads disk))
  reservation_lost j hs client window bound stands it =
      let b = it.before in
      let now = hs ++ kept_of_calls j.used [] in
      record {
        before = accounted b now;
        unanswered = has_added reads image faults limits j b hs [] stands it.unanswered;
        lost = loses_call reads image moment image_since now_is_since reads_is_image limits disk b now client (reservation window bound) (stands_on reads image faults limits j b hs [] stands it.unanswered) tt it.lost;
      }

  calls_lost : (j : Journal J) (hs : List Entry) (client window : ℕ) (bound : Cost) → Stands reads image limits j hs → j.opened ≡ 0
      → LosesCalls {B = Journal J} client window bound j.used (HasKept reads image faults j) (λ k. IsLostIn reads image moment image_since k disk)
      → LosesCalls {B = Accounted} client window bound j.used (HasAdded limits (accounted j hs)) (LosesCall (reads disk))
  calls_lost j hs client window bound stands idle (inl it) = inl (reservation_lost j hs client window bound stands it)
  calls_lost j hs client window bound stands idle (inr it) =
      let b = it.before in
      let calls = client_call client (reservation window bound) (granted it.at) ∷ [] in
      let now = hs ++ kept_of_calls j.used calls in
      inr record {
        before = accounted b now;
        at = it.at;
        answered = has_added reads image faults limits j b hs calls stands it.answered;
        lost = loses_call reads image moment image_since now_is_since reads_is_image limits disk b now client (settlement j.used it.at bound bound)
            (stands_on reads image faults limits j b hs calls stands it.answered) (is_held reads image faults limits j b hs client window it.at bound bound stands idle it.answered) it.lost;
      }

  forwarded_lost : (grant : Grant) (lines : List ℕ) (Lost Other : Call → Type 0) (wire : W) → ((measured : Cost) → Lost (settlement_of grant.ticket measured) → Other (settlement_of grant.ticket measured))
      → LosesForwarded s t grant lines Lost wire after → LosesForwarded s told_wires grant lines Other (tell_wire t wire) (tell_wire t after)
  forwarded_lost grant lines Lost Other wire moved lost =
      let finished = lost.lost.0 in
      record {
        asked = lost.asked;
        dials = lost.dials;
        came_to = came_as (after ≡ wire) (tell_wire t after ≡ tell_wire t wire) (λ same. ap (tell_wire t) same) _ lost.asked lost.dials lost.came_to;
        logged = lost.logged;
        lost = (finished, lost.lost.1, moved finished.charged lost.lost.2);
      }

  exchange_lost : (j : Journal J) (hs : List Entry) (wire : W) (ask : Ask) (moment_of : ℕ) → Stands reads image limits j hs → j.opened ≡ 0
      → LosesExchange {B = Journal J} s t ask moment_of j.used (HasKept reads image faults j) (λ k. IsLostIn reads image moment image_since k disk) wire after
      → LosesExchange {B = Accounted} s told_wires ask moment_of j.used (HasAdded limits (accounted j hs)) (LosesCall (reads disk)) (tell_wire t wire) (tell_wire t after)
  exchange_lost j hs wire ask moment_of stands idle (inl (begun, same)) = inl (
    record {
      client = begun.client;
      known = begun.known;
      bound = begun.bound;
      lost = ⊎_elim
          (λ it. inl (it.0, reservation_lost j hs begun.client (window_of s.rules moment_of) begun.bound stands it.1))
          (λ it. inr (it.0, calls_lost j hs begun.client (window_of s.rules moment_of) begun.bound stands idle it.1))
          begun.lost;
    },
    ap (tell_wire t) same,
  )
  exchange_lost j hs wire ask moment_of stands idle (inr (client, grant, before, is_granted, kept, lost)) =
      let ticket = grant.ticket in
      let window = window_of s.rules moment_of in
      let calls = client_call client (reservation window ticket.bound) (granted ticket.window) ∷ [] in
      let now = hs ++ kept_of_calls j.used calls in
      inr (
        client,
        grant,
        accounted before now,
        is_granted,
        has_added reads image faults limits j before hs calls stands kept,
        forwarded_lost grant ask.passed.items (IsLostIn reads image moment image_since before disk ticket.client) (LosesCall (reads disk) (accounted before now) ticket.client) wire
            (λ measured. loses_call reads image moment image_since now_is_since reads_is_image limits disk before now ticket.client (settlement_of ticket measured)
            (stands_on reads image faults limits j before hs calls stands kept)
            (subst (λ k. IsHeld now k (settlement_of ticket measured)) (sym is_granted.to_client)
            (subst (λ n. IsHeld now client (settlement n ticket.window ticket.bound measured)) (sym is_granted.numbered) (is_held reads image faults limits j before hs client window ticket.window ticket.bound measured stands idle kept))))
            lost,
      )

  pub serving_lost : (a : Journal J) (hs : List Entry) (given back : Told) (replies : ℕ) → Stands reads image limits a hs → a.opened ≡ 0
      → LosesServing {B = Journal J} s t (λ j. j.used) (HasKept reads image faults) (λ k. IsLostIn reads image moment image_since k disk) a given back after replies
      → LosesServing {B = Accounted} s told_wires (λ k. k.used) (HasAdded limits) (LosesCall (reads disk)) (accounted a hs) given back (tell_wire t after) replies
  serving_lost a hs given back replies stands idle lost =
      let on = lost.goes_on in
      let turn = lost.lost in
      let j = lost.so_far in
      let kept = on.makes.gains in
      let now = hs ++ kept_of_calls a.used (calls_of on.exchanges) in
      let quiet : j.opened ≡ 0 = omega (arith, kept.opened, exchanges_even s a.used on.exchanges on.each, idle) in
      record {
        so_far = accounted j now;
        kept = lost.kept;
        between = lost.between;
        wire = tell_wire t lost.wire;
        logs = lost.logs;
        goes_on = record {
          exchanges = on.exchanges;
          each = on.each;
          goes_on = on.goes_on;
          few = on.few;
          counted = on.counted;
          bytes = on.bytes;
          took = on.took;
          asks = on.asks;
          makes = record { gains = has_added reads image faults limits a j hs (calls_of on.exchanges) stands kept; leaves = on.makes.leaves };
          out = on.out;
        };
        lost = record {
          bytes = turn.bytes;
          took = turn.took;
          ask = turn.ask;
          rest = turn.rest;
          is_ask = turn.is_ask;
          moment = turn.moment;
          tick = turn.tick;
          still = turn.still;
          lost = exchange_lost j now lost.wire turn.ask turn.moment (stands_on reads image faults limits a j hs (calls_of on.exchanges) stands kept) quiet turn.lost;
        };
      }
