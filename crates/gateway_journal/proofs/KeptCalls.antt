-- One call on a journal, and what it adds.
use Rattle.std.proofs.Common.{◌≡◌, ℕ, ◌+◌, ◌-◌, ◌<◌, ◌≤◌, cond, nat_eq, nat_lt, max, Bool, true, false, List, [], ◌∷◌, ◌++◌, length, get_or, refl, sym, ap, ◌∙◌, subst, arith, append-nil, Option, Some, None}
use Rattle.std.proofs.lemmas.Bool.{eqb-true, lt-ltb, ltb-true}
use Rattle.std.specs.Prelude.{is_some}
use Rattle.cost_num.specs.declared.Cost.{Cost}
use Rattle.account_core.specs.declared.Limit.{Limit}
use Rattle.account_core.specs.declared.Ticket.{Ticket}
use Rattle.account_core.specs.Machine.{reservation, settlement, CallReply, granted, short, done, Entry, entry, used_of, room, IsStep}
use Rattle.account_core.specs.History.{state_after, AreSteps, IsLegal, entries_by}
use Rattle.account_core.specs.declared.Account.{Account}
use Rattle.account_core.specs.Costs.{is_within}
use Rattle.account_core.specs.Numbers.{FitsCap, KeepsLimit, moved_to, left_at, reservation_reply}
use Rattle.cost_num.specs.Within.{Within}
use Rattle.gateway_workers.specs.PassedOn.{greatest}
use Rattle.gateway_workers.proofs.PassedOn.{remaining_within, room_within}
use Rattle.account_core.proofs.NumberSteps.{reserves}
use Rattle.account_core.proofs.Histories.{entries_by-append}
use Rattle.account_shared.specs.Gains.{ClientCall, client_call}
use Rattle.account_journal.specs.declared.journal.Journal.{Journal}
use Rattle.account_journal.specs.declared.journal.KeptReply.TheVariants.{Granted, Short, Full}
use Rattle.account_journal.specs.declared.journal.KeptTicket.{KeptTicket}
use Rattle.account_journal.specs.Histories.{grant_entry, no_limit}
use Rattle.account_journal.specs.Journals.{Follows, IsSound, Stores, limit_in, account_in, answer_in, IsAnswered, IsReserved, IsSettled, gained_by, HoldsTicket, ticket_settlement}
use Rattle.gateway_journal.specs.Kept.{entries_of_calls, entries_made, kept_of_calls, AreHeld, opened_in, settled_in, GoesOnFrom, HasGained, kept_ticket}

-- a ticket that is granted is the client's, of the next slot, with the bound
pub granted_is : (t : KeptTicket) (client slot : ℕ) (bound : Cost) (answer : Option CallReply) → IsAnswered (Granted t) client slot bound answer
    → (at : ℕ) × (t ≡ record { client = client; slot = slot; window = at; bound = bound })
granted_is t client slot bound None is = absurd is
granted_is t client slot bound (Some (granted at)) is = (at, is)
granted_is t client slot bound (Some (short left)) is = absurd is
granted_is t client slot bound (Some done) is = absurd is

pub short_is : (left : Cost) (client slot : ℕ) (bound : Cost) (answer : Option CallReply) → IsAnswered (Short left) client slot bound answer → answer ≡ Some (short left)
short_is left client slot bound None is = absurd is
short_is left client slot bound (Some (granted at)) is = absurd is
short_is left client slot bound (Some (short other)) is = ap (λ c. Some (short c)) (sym is)
short_is left client slot bound (Some done) is = absurd is

pub granted_answer : (t : KeptTicket) (client slot : ℕ) (bound : Cost) (answer : Option CallReply) → IsAnswered (Granted t) client slot bound answer → answer ≡ Some (granted t.window)
granted_answer t client slot bound None is = absurd is
granted_answer t client slot bound (Some (granted at)) is = ap (λ (u : KeptTicket). Some (granted u.window)) (sym is)
granted_answer t client slot bound (Some (short left)) is = absurd is
granted_answer t client slot bound (Some done) is = absurd is

answer_given : (t : Bool) (reply other : CallReply) → cond t None (Some reply) ≡ Some other → reply ≡ other
answer_given true reply other is = absurd (cc is)
answer_given false reply other is = cc is

-- where an entry more is followed, it is a step of its client's
step_made : {D : Type 0} (a b : Journal D) (hs : List Entry) (e : Entry) (k : ℕ) → b.limits ≡ a.limits → Follows b (hs ++ e ∷ []) → k < length a.limits.items
    → AreSteps (limit_in a k) (state_after (limit_in a k) (entries_by k hs)) (entries_by k (e ∷ []))
step_made a b hs e k limits follows low = own (nat_eq e.caller k) refl
  where
    limit : Limit
    limit = limit_in a k

    legal : IsLegal limit (entries_by k (hs ++ e ∷ []))
    legal = subst (λ (l : _). IsLegal (get_or l.items k no_limit) (entries_by k (hs ++ e ∷ []))) limits
        (follows.each k (subst (λ (l : _). k < length l.items) (sym limits) low)).0

    own : (t : Bool) → nat_eq e.caller k ≡ t → AreSteps limit (state_after limit (entries_by k hs)) (cond (nat_eq e.caller k) (e ∷ []) [])
    own true is = subst (λ t. AreSteps limit (state_after limit (entries_by k hs)) (cond t (e ∷ []) [])) (sym is)
        ((legal (entries_by k hs) [] e (entries_by-append k hs (e ∷ []) ∙ ap (λ t. entries_by k hs ++ cond t (e ∷ []) []) is)).0, tt)
    own false is = subst (λ t. AreSteps limit (state_after limit (entries_by k hs)) (cond t (e ∷ []) [])) (sym is) tt

module _ {D : Type 0} (reads : D → Option (List ℕ)) (image : D → List ℕ → Type 0) (faults : D → ℕ) (a b : Journal D) where
  -- ---- a reservation that was answered

  answer_step : (client window : ℕ) (bound : Cost) (reply : CallReply) (hs : List Entry) → IsSound a → client < length a.limits.items → Follows a hs
      → answer_in a client window bound ≡ Some reply → (k : ℕ) → k < length a.limits.items
      → AreSteps (limit_in a k) (state_after (limit_in a k) (entries_by k hs)) (entries_by k (entry client a.used (reservation window bound) reply ∷ []))
  answer_step client window bound reply hs sound known followed answer k low = own (nat_eq client k) refl
    where
      e : Entry
      e = entry client a.used (reservation window bound) reply

      step : IsStep (limit_in a client) (state_after (limit_in a client) (entries_by client hs)) e
      step = subst (λ r. IsStep (limit_in a client) (state_after (limit_in a client) (entries_by client hs)) (entry client a.used (reservation window bound) r))
          (answer_given (nat_lt (4194304 - a.used) (a.opened + 2)) (reservation_reply (limit_in a client) (account_in a client) window bound) reply answer)
          (reserves (limit_in a client) bound (account_in a client) (state_after (limit_in a client) (entries_by client hs)) client a.used window (followed.each client known).1 (sound.keep client known)).0

      own : (t : Bool) → nat_eq client k ≡ t → AreSteps (limit_in a k) (state_after (limit_in a k) (entries_by k hs)) (cond (nat_eq client k) (e ∷ []) [])
      own true is = subst (λ t. AreSteps (limit_in a k) (state_after (limit_in a k) (entries_by k hs)) (cond t (e ∷ []) [])) (sym is)
          (subst (λ n. IsStep (limit_in a n) (state_after (limit_in a n) (entries_by n hs)) e) (eqb-true client k is) step, tt)
      own false is = subst (λ t. AreSteps (limit_in a k) (state_after (limit_in a k) (entries_by k hs)) (cond t (e ∷ []) [])) (sym is) tt

  -- ---- an entry that is kept

  goes_by : (c : ClientCall) (e : Entry) (hs : List Entry) → kept_of_calls a.used (c ∷ []) ≡ e ∷ [] → entries_made a.used (c ∷ []) ≡ e ∷ [] → b.limits ≡ a.limits → Follows b (hs ++ e ∷ [])
      → (Stores reads image a hs → Stores reads image b (hs ++ e ∷ [])) → GoesOnFrom reads image a b hs (c ∷ [])
  goes_by c e hs kept made limits follows stores = record {
    steps = λ k low. subst (λ l. AreSteps (limit_in a k) (state_after (limit_in a k) (entries_by k hs)) (entries_by k l)) (sym made) (step_made a b hs e k limits follows low);
    follows = subst (λ l. Follows b (hs ++ l)) (sym kept) follows;
    stores = λ stored. subst (λ l. Stores reads image b (hs ++ l)) (sym kept) (stores stored);
  }

  pub granted_gained : (client window : ℕ) (bound : Cost) (t : KeptTicket) → IsSound a → client < length a.limits.items → IsAnswered (Granted t) client a.used bound (answer_in a client window bound) → IsReserved (Granted t) a b client window bound → b.limits ≡ a.limits
      → ((hs : List Entry) → Follows a hs → Follows b (hs ++ gained_by (Granted t))) → ((hs : List Entry) → Follows a hs → Stores reads image a hs → Stores reads image b (hs ++ gained_by (Granted t)))
      → is_some (reads b.disk) ≡ is_some (reads a.disk) → faults a.disk ≤ faults b.disk → HasGained reads image faults a b (client_call client (reservation window bound) (granted t.window) ∷ [])
  unfolding entries_of_calls entries_made opened_in settled_in
  granted_gained client window bound t sound known answered reserved limits follows stores tells count =
      let is = granted_is t client a.used bound (answer_in a client window bound) answered in
      let e = grant_entry client a.used t.window bound in
      let same : gained_by (Granted t) ≡ e ∷ [] = λ i. grant_entry (ap (λ (u : KeptTicket). u.client) is.1 i) (ap (λ (u : KeptTicket). u.slot) is.1 i) t.window (ap (λ (u : KeptTicket). u.bound) is.1 i) ∷ [] in
      record {
        limits = limits;
        known = (known, tt);
        used = omega (arith, reserved.0);
        opened = omega (arith, reserved.1);
        tells = tells;
        count = count;
        goes = λ hs followed held. record {
          steps = answer_step client window bound (granted t.window) hs sound known followed (granted_answer t client a.used bound (answer_in a client window bound) answered);
          follows = subst (λ l. Follows b (hs ++ l)) same (follows hs followed);
          stores = λ stored. subst (λ l. Stores reads image b (hs ++ l)) same (stores hs followed stored);
        };
      }

  pub settled_gained : (ticket : Ticket) (measured : Cost) → ticket.client < length a.limits.items → IsSettled a b (kept_ticket ticket) measured → b.limits ≡ a.limits
      → ((hs : List Entry) → Follows a hs → HoldsTicket hs (kept_ticket ticket) → Follows b (hs ++ ticket_settlement a.used (kept_ticket ticket) measured ∷ []))
      → ((hs : List Entry) → HoldsTicket hs (kept_ticket ticket) → Stores reads image a hs → Stores reads image b (hs ++ ticket_settlement a.used (kept_ticket ticket) measured ∷ []))
      → is_some (reads b.disk) ≡ is_some (reads a.disk) → faults a.disk ≤ faults b.disk
      → HasGained reads image faults a b (client_call ticket.client (settlement ticket.seq ticket.window ticket.bound measured) done ∷ [])
  unfolding entries_of_calls entries_made AreHeld opened_in settled_in
  settled_gained ticket measured known settled limits follows stores tells count = record {
    limits = limits;
    known = (known, tt);
    used = omega (arith, settled.used);
    opened = omega (arith, settled.opened);
    tells = tells;
    count = count;
    goes = λ hs followed held. goes_by (client_call ticket.client (settlement ticket.seq ticket.window ticket.bound measured) done) (ticket_settlement a.used (kept_ticket ticket) measured) hs refl refl limits
        (follows hs followed held.0) (stores hs held.0);
  }

  -- ---- a refusal

  pub refused_gained : (client window : ℕ) (bound left : Cost) → IsSound a → client < length a.limits.items → IsAnswered (Short left) client a.used bound (answer_in a client window bound) → b ≡ a
      → HasGained reads image faults a b (client_call client (reservation window bound) (short left) ∷ [])
  unfolding entries_of_calls entries_made opened_in settled_in
  refused_gained client window bound left sound known answered same = subst (λ (j : Journal D). HasGained reads image faults a j (client_call client (reservation window bound) (short left) ∷ [])) (sym same) record {
    limits = refl;
    known = (known, tt);
    used = omega arith;
    opened = omega arith;
    tells = refl;
    count = omega arith;
    goes = λ hs followed held. record {
      steps = answer_step client window bound (short left) hs sound known followed (short_is left client a.used bound (answer_in a client window bound) answered);
      follows = subst (Follows a) (sym (append-nil hs)) followed;
      stores = λ stored. subst (Stores reads image a) (sym (append-nil hs)) stored;
    };
  }

-- ---- room

-- where the account was asked there was room
pub granted_in_room : (t : KeptTicket) (client slot : ℕ) (bound : Cost) (free needed : ℕ) (reply : CallReply) → IsAnswered (Granted t) client slot bound (cond (nat_lt free needed) None (Some reply)) → free < needed → ⊥
granted_in_room t client slot bound free needed reply is full =
    subst (λ b. IsAnswered (Granted t) client slot bound (cond b None (Some reply))) (lt-ltb free needed full) is

pub short_in_room : (left : Cost) (client slot : ℕ) (bound : Cost) (free needed : ℕ) (reply : CallReply) → IsAnswered (Short left) client slot bound (cond (nat_lt free needed) None (Some reply)) → free < needed → ⊥
short_in_room left client slot bound free needed reply is full =
    subst (λ b. IsAnswered (Short left) client slot bound (cond b None (Some reply))) (lt-ltb free needed full) is

pub full_is : (client slot : ℕ) (bound : Cost) (free needed : ℕ) (reply : CallReply) → IsAnswered Full client slot bound (cond (nat_lt free needed) None (Some reply)) → free < needed
full_is client slot bound free needed reply is = by_test (nat_lt free needed) refl
  where
    asked : (r : CallReply) → IsAnswered Full client slot bound (Some r) → ⊥
    asked (granted at) never = never
    asked (short left) never = never
    asked done never = never

    by_test : (t : Bool) → nat_lt free needed ≡ t → free < needed
    by_test true e = ltb-true free needed e
    by_test false e = absurd (asked reply (subst (λ b. IsAnswered Full client slot bound (cond b None (Some reply))) e is))

-- ---- what an account has left

-- what is left is within the cap
pub left_capped : (limit : Limit) (account : Account) (window : ℕ) (bound left : Cost) → FitsCap greatest limit → KeepsLimit limit account → reservation_reply limit account window bound ≡ short left → Within greatest left
left_capped limit account window bound left fits keeps = by_test (is_within (left_at limit account at) bound)
  where
    at : ℕ
    at = max account.window window

    left_of : CallReply → Cost
    left_of (short given) = given
    left_of (granted given) = bound
    left_of done = bound

    by_test : (t : Bool) → cond t (granted at) (short (left_at limit account at)) ≡ short left → Within greatest left
    by_test true is = absurd (cc is)
    by_test false is = subst (Within greatest) (ap left_of is) (remaining_within (room limit account at) (used_of (moved_to limit account at)) (room_within limit account at fits keeps))

pub left_told : {D : Type 0} (j : Journal D) (client window : ℕ) (bound left : Cost) → IsSound j → client < length j.limits.items → IsAnswered (Short left) client j.used bound (answer_in j client window bound) → Within greatest left
left_told j client window bound left sound known answered =
    left_capped (limit_in j client) (account_in j client) window bound left (sound.limits_are client known) (sound.keep client known)
    (answer_given (nat_lt (4194304 - j.used) (j.opened + 2)) (reservation_reply (limit_in j client) (account_in j client) window bound) (short left) (short_is left client j.used bound (answer_in j client window bound) answered))
