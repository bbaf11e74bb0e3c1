-- A reading takes a grant or a settlement.
use Rattle.std.proofs.Common.{◌≡◌, ℕ, zero, suc, ◌+◌, ◌-◌, ◌<◌, ◌≤◌, Bool, true, false, not, cond, ◌&&◌, ◌==◌, filter, List, [], ◌∷◌, ◌++◌, length, get_or, set, map, Option, Some, None, option_map, refl, sym, ◌∙◌, ap, subst, arith, length-append}
use Rattle.std.proofs.lemmas.List.{append-nil}
use Rattle.std.proofs.lemmas.Option.{none-some, same_Some}
use Rattle.cost_num.specs.declared.Cost.{Cost}
use Rattle.cost_num.specs.Within.{Within}
use Rattle.account_core.specs.declared.Limit.{Limit}
use Rattle.account_core.specs.declared.Account.{Account}
use Rattle.account_core.specs.Machine.{Grant, Entry, grant, is_grant, open_grant}
use Rattle.account_core.specs.History.{state_after, entries_by}
use Rattle.account_core.specs.Numbers.{StepsTo}
use Rattle.account_core.specs.Sums.{open_grants}
use Rattle.account_core.proofs.OpenGrants.{open_grants-settled}
use Rattle.account_journal.specs.declared.reading.OpenGrant.{OpenGrant}
use Rattle.account_journal.specs.Records.{Record, record_of}
use Rattle.account_journal.specs.Histories.{AccountsFollow, no_limit, no_account, grant_entry, settlement_entry, entries_of}
use Rattle.account_journal.specs.Recovery.{grant_view}
use Rattle.account_journal.specs.Reading.{AreEntries, IsBodyNext, IsRecordNext, IsSettlementNext}
use Rattle.account_journal.proofs.Following.{stands_grant, stands_settled, stands_past, opens_more, held_open, state_open}

map_push : (os : List OpenGrant) (o : OpenGrant) → map grant_view (os ++ o ∷ []) ≡ map grant_view os ++ grant_view o ∷ []
map_push [] o = refl
map_push (x ∷ os) o = ap (λ (l : List Grant). grant_view x ∷ l) (map_push os o)

filter_open : (client of : ℕ) (os : List OpenGrant) → map grant_view (filter (λ o. not ((o.client == client) && (o.slot == of))) os) ≡ filter (λ g. not (is_grant client of g)) (map grant_view os)
filter_open client of [] = refl
filter_open client of (o ∷ os) = by_test (filter_open client of os) (not ((o.client == client) && (o.slot == of)))
  where
    by_test : map grant_view (filter (λ x. not ((x.client == client) && (x.slot == of))) os) ≡ filter (λ g. not (is_grant client of g)) (map grant_view os) → (t : Bool) → map grant_view (cond t (o ∷ filter (λ x. not ((x.client == client) && (x.slot == of))) os) (filter (λ x. not ((x.client == client) && (x.slot == of))) os))
        ≡ cond t (grant_view o ∷ filter (λ g. not (is_grant client of g)) (map grant_view os)) (filter (λ g. not (is_grant client of g)) (map grant_view os))
    by_test rest true = ap (λ (l : List Grant). grant_view o ∷ l) rest
    by_test rest false = rest

len_map : (os : List OpenGrant) → length (map grant_view os) ≡ length os
len_map [] = refl
len_map (o ∷ os) = ap suc (len_map os)

some_there : (client of : ℕ) (g : Grant) (gs : List Grant) → open_grant client of gs ≡ Some g → 0 < length gs
some_there client of g [] is = absurd (none-some g is)
some_there client of g (x ∷ gs) is = omega arith

pub found_in : (client of : ℕ) (os : List OpenGrant) (o : OpenGrant) (r : Option OpenGrant) (hs : List Entry) → open_grants hs ≡ map grant_view os → option_map grant_view r ≡ open_grant client of (map grant_view os) → r ≡ Some o
    → (o.client ≡ client) × (o.slot ≡ of) → open_grant client of (open_grants hs) ≡ Some (grant client of o.window o.bound)
found_in client of os o r hs leaves found is own =
    ap (open_grant client of) leaves ∙ sym found ∙ ap (option_map grant_view) is ∙ (λ i. Some (grant (own.0 i) (own.1 i) o.window o.bound))

module _ (limits : List Limit) (accounts : List Account) (used : ℕ) (opens : List OpenGrant) (hs : List Entry) (lists : AreEntries limits accounts used opens hs) where
  pub listed_grant : (client window : ℕ) (bound : Cost) (new : Account) (opens2 : List OpenGrant) → client < length limits → length accounts ≡ length limits
      → StepsTo (get_or limits client no_limit) (state_after (get_or limits client no_limit) (entries_by client hs)) (grant_entry client used window bound) new
      → opens2 ≡ opens ++ record { client = client; slot = used; window = window; bound = bound } ∷ []
      → AreEntries limits (set accounts client new) (used + 1) opens2 (hs ++ grant_entry client used window bound ∷ [])
  listed_grant client window bound new opens2 there clients step are =
      let o : OpenGrant = record { client = client; slot = used; window = window; bound = bound } in
      record {
        stands = subst (λ (n : ℕ). AccountsFollow limits (set accounts client new) (used + 1) n (hs ++ grant_entry client used window bound ∷ [])) (omega (arith, ap length are, length-append opens (o ∷ [])))
            (stands_grant limits accounts used (length opens) hs lists.stands client window bound new there clients step);
        leaves = opens_more limits accounts used (length opens) hs lists.stands client window bound there ∙ ap (λ (l : List Grant). l ++ grant client used window bound ∷ []) lists.leaves
            ∙ sym (map_push opens o) ∙ ap (map grant_view) (sym are);
      }

  pub no_step : (client of : ℕ) (measured : Cost) → open_grant client of (open_grants hs) ≡ None → IsSettlementNext limits hs used client of measured → ⊥
  no_step client of measured none s =
      none-some (grant client of s.window s.bound) (sym none ∙ sym (state_open (get_or limits client no_limit) client of hs (lists.stands.each client s.known).0) ∙ s.step.0)

  pub too_much : (client of window : ℕ) (bound measured : Cost) → open_grant client of (open_grants hs) ≡ Some (grant client of window bound) → (Within bound measured → ⊥) → IsSettlementNext limits hs used client of measured → ⊥
  too_much client of window bound measured is_open over s =
      let same = same_Some (grant client of s.window s.bound) (grant client of window bound) (sym s.step.0 ∙ state_open (get_or limits client no_limit) client of hs (lists.stands.each client s.known).0 ∙ is_open) in
      over (subst (λ (g : Grant). Within g.bound measured) same s.step.1)

  module _ (client of window : ℕ) (bound : Cost) (there : client < length limits) (is_open : open_grant client of (open_grants hs) ≡ Some (grant client of window bound)) where
    pub held_by : (account : Account) → account ≡ get_or accounts client no_account → (window ≤ account.window) × (window ≡ account.window → Within account.held bound)
    held_by account is = subst (λ (a : Account). (window ≤ a.window) × (window ≡ a.window → Within a.held bound)) (sym is) (held_open limits accounts used (length opens) hs lists.stands (grant client of window bound) there is_open)

    pub is_settlement : (measured : Cost) → Within bound measured → IsSettlementNext limits hs used client of measured
    is_settlement measured within = record {
      known = there;
      window = window;
      bound = bound;
      step = (state_open (get_or limits client no_limit) client of hs (lists.stands.each client there).0 ∙ is_open, within);
    }

    module _ (measured : Cost) (new : Account) (opens2 : List OpenGrant) (clients : length accounts ≡ length limits)
        (step : StepsTo (get_or limits client no_limit) (state_after (get_or limits client no_limit) (entries_by client hs)) (settlement_entry used (grant client of window bound) measured) new)
        (are : opens2 ≡ filter (λ o. not ((o.client == client) && (o.slot == of))) opens) where
      left : open_grants (hs ++ settlement_entry used (grant client of window bound) measured ∷ []) ≡ map grant_view opens2
      left = open_grants-settled hs client used of window bound measured ∙ ap (filter (λ x. not (is_grant client of x))) lists.leaves ∙ sym (filter_open client of opens) ∙ ap (map grant_view) (sym are)

      some : 0 < length opens
      some = omega (arith, lists.stands.counted, some_there client of (grant client of window bound) (open_grants hs) is_open)

      stood : AccountsFollow limits (set accounts client new) (used + 1) (length opens - 1) (hs ++ settlement_entry used (grant client of window bound) measured ∷ [])
      stood = stands_settled limits accounts used (length opens) hs lists.stands (grant client of window bound) measured new there clients is_open step (length opens - 1) (omega (arith, some))

      pub one_fewer : length opens2 + 1 ≡ length opens
      one_fewer = omega (arith, some, stood.counted, ap length left, len_map opens2)

      pub listed_settlement : AreEntries limits (set accounts client new) (used + 1) opens2 (hs ++ settlement_entry used (grant client of window bound) measured ∷ [])
      listed_settlement = record {
        stands = subst (λ (n : ℕ). AccountsFollow limits (set accounts client new) (used + 1) n (hs ++ settlement_entry used (grant client of window bound) measured ∷ [])) (omega (arith, one_fewer)) stood;
        leaves = left;
      }

pub listed_header : (limits : List Limit) (accounts accounts2 : List Account) (used used2 : ℕ) (opens opens2 : List OpenGrant) (hs : List Entry) (r : Option Record) → AreEntries limits accounts used opens hs
    → accounts2 ≡ accounts → opens2 ≡ opens → used ≤ used2 → r ≡ None → AreEntries limits accounts2 used2 opens2 (hs ++ entries_of hs used r)
listed_header limits accounts accounts2 used used2 opens opens2 hs r lists a o le none =
    subst (λ (l : List Entry). AreEntries limits accounts2 used2 opens2 l) (sym (append-nil hs) ∙ ap (λ (x : Option Record). hs ++ entries_of hs used x) (sym none))
    (subst (λ (l : List Account). AreEntries limits l used2 opens2 hs) (sym a) (subst (λ (l : List OpenGrant). AreEntries limits accounts used2 l hs) (sym o)
    (record { stands = stands_past limits accounts used used2 (length opens) hs le lists.stands; leaves = lists.leaves })))

pub good_later : (limits : List Limit) (hs : List Entry) (used : ℕ) (body : List ℕ) (r : Option Record) → (used ≡ 0 → ⊥) → record_of body ≡ r → IsRecordNext limits hs used r → IsBodyNext limits hs used body
good_later limits hs zero body r later reads taken = absurd (later refl)
good_later limits hs (suc n) body r later reads taken = subst (IsRecordNext limits hs (suc n)) (sym reads) taken
