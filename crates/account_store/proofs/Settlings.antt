-- Open grants are settled at their bounds, one after the other.
use Rattle.std.proofs.Common.{◌≡◌, ⊎_elim, ℕ, ◌+◌, ◌<◌, List, [], ◌∷◌, ◌++◌, Bool, true, false, nat_eq, filter, Some, refl, sym, ap, subst, ◌∙◌, arith, append_assoc}
use Rattle.std.proofs.lemmas.List.{append-nil}
use Rattle.std.proofs.lemmas.Bool.{cases_Bool, cond-true, cond-false, eq-eqb, eqb-true, and_from, eqb-false}
use Rattle.cost_num.specs.declared.Cost.{Cost}
use Rattle.cost_num.proofs.Room.{within_itself}
use Rattle.account_core.specs.declared.Account.{Account}
use Rattle.account_core.specs.declared.Limit.{Limit}
use Rattle.account_core.specs.Costs.{cost, nothing, together, counted_in}
use Rattle.account_core.specs.Machine.{State, Grant, Entry, is_grant, held_in, grants_without, open_grant}
use Rattle.account_core.specs.History.{state_after, entries_by, grants_by, NumbersBelow}
use Rattle.account_core.specs.Numbers.{FollowsHistory, KeepsLimit, settled_account}
use Rattle.account_core.specs.Sums.{open_grants, settling_entry}
use Rattle.account_core.proofs.CostSums.{together_assoc}
use Rattle.account_core.proofs.GrantLists.{found_first}
use Rattle.account_core.proofs.Histories.{state_after-push, entries_by-append, entries_by-own, entries_by-other}
use Rattle.account_core.proofs.NumberSteps.{settles_open}
use Rattle.account_core.proofs.OpenGrants.{in_order}
use Rattle.account_core.proofs.Callers.{follows, numbers_stand, numbers_within, open_grants-own}
use Rattle.account_store.specs.Steps.{row_of, recovered_account}
use Rattle.account_store.specs.Histories.{account_after, AreLegal, settlings, IsFreeNumber}

-- ---- numbers that are free

below_more : (top : ℕ) (h : List Entry) → NumbersBelow top h → NumbersBelow (top + 1) h
below_more top [] below = tt
below_more top (e ∷ es) below = (omega (arith, below.0), below_more top es below.1)

below_push : (top : ℕ) (h : List Entry) (e : Entry) → NumbersBelow top h → e.number < top → NumbersBelow top (h ++ e ∷ [])
below_push top [] e below less = (less, tt)
below_push top (x ∷ xs) e below less = (below.0, below_push top xs e below.1 less)

below_some : (top : ℕ) (test : Entry → Bool) (h : List Entry) → NumbersBelow top h → NumbersBelow top (filter test h)
below_some top test [] below = tt
below_some top test (e ∷ es) below = ⊎_elim
    (λ (is : test e ≡ true). subst (NumbersBelow top) (sym (cond-true (test e) (e ∷ filter test es) (filter test es) is)) (below.0, below_some top test es below.1))
    (λ (not : test e ≡ false). subst (NumbersBelow top) (sym (cond-false (test e) (e ∷ filter test es) (filter test es) not)) (below_some top test es below.1))
    (cases_Bool (test e))

below_on : (number : ℕ) (h : List Entry) (e : Entry) → e.number ≡ number → IsFreeNumber number h → IsFreeNumber (number + 1) (h ++ e ∷ [])
below_on number h e is free client =
    let before = below_more number (entries_by client h) (free client) in
    let split = entries_by-append client h (e ∷ []) in
    ⊎_elim
    (λ (own : nat_eq e.caller client ≡ true).
    let all : entries_by client (h ++ e ∷ []) ≡ entries_by client h ++ e ∷ [] = split ∙ ap (λ (l : List Entry). entries_by client h ++ l) (entries_by-own client e [] (eqb-true e.caller client own)) in
    subst (NumbersBelow (number + 1)) (sym all) (below_push (number + 1) (entries_by client h) e before (omega (arith, is))))
    (λ (other : nat_eq e.caller client ≡ false).
    let all : entries_by client (h ++ e ∷ []) ≡ entries_by client h = split ∙ (ap (λ (l : List Entry). entries_by client h ++ l) (entries_by-other client e [] (eqb-false e.caller client other)) ∙ append-nil (entries_by client h)) in
    subst (NumbersBelow (number + 1)) (sym all) before)
    (cases_Bool (nat_eq e.caller client))

-- ---- one grant

is_itself : (g : Grant) → is_grant g.caller g.number g ≡ true
is_itself g = and_from (nat_eq g.caller g.caller) (nat_eq g.number g.number) (eq-eqb g.caller g.caller refl) (eq-eqb g.number g.number refl)

module _ (limit : Limit) (h : List Entry) (a : Account) (number : ℕ) (g : Grant) (gs : List Grant) (stands : FollowsHistory limit h a) (free : IsFreeNumber number h) (leaves : open_grants h ≡ g ∷ gs) where
  abbrev pub s : State
  s = state_after limit h

  abbrev pub e : Entry
  e = settling_entry number g.bound g

  abbrev pub next : Account
  next = settled_account a g.window g.bound g.bound

  listed : s.grants ≡ g ∷ gs
  listed = (in_order limit h stands.0).listed ∙ leaves

  there : open_grant g.caller g.number s.grants ≡ Some g
  there = ap (open_grant g.caller g.number) listed ∙ found_first g.caller g.number g gs (is_itself g)

  pub one_follows : FollowsHistory limit (h ++ e ∷ []) next
  one_follows = follows limit h e next stands.0 (free g.caller) (settles_open limit g.bound g.bound a s g.caller number g.number g.window stands.1 there (within_itself g.bound))

  pub one_leaves : open_grants (h ++ e ∷ []) ≡ gs
  one_leaves =
      sym (in_order limit (h ++ e ∷ []) one_follows.0).listed
      ∙ (ap (λ (x : State). x.grants) (state_after-push limit h e)
      ∙ (ap (grants_without g.caller g.number) listed
      ∙ cond-true (is_grant g.caller g.number g) gs (g ∷ grants_without g.caller g.number gs) (is_itself g)))

  pub one_recovers : recovered_account (row_of next) gs ≡ recovered_account (row_of a) (g ∷ gs)
  one_recovers = ap (λ (c : Cost). record { window = a.window; settled = c; held = nothing; carried = a.carried })
      (together_assoc a.settled (counted_in a.window g.window g.bound) (held_in a.window gs))

-- ---- all of them

none_recovers : (limit : Limit) (h : List Entry) (a : Account) → FollowsHistory limit h a → open_grants h ≡ [] → a ≡ recovered_account (row_of a) []
none_recovers limit h a stands leaves =
    let s = state_after limit h in
    let none : s.grants ≡ [] = (in_order limit h stands.0).listed ∙ leaves in
    let held : a.held ≡ nothing = ap (λ (x : Account). x.held) stands.1.0 ∙ ap (held_in s.window) none in
    let types : a.settled.types ≡ a.settled.types + 0 = omega arith in
    let fields : a.settled.fields ≡ a.settled.fields + 0 = omega arith in
    let settled : a.settled ≡ together a.settled nothing = (λ i. cost (types i) (fields i)) in
    (λ i. record { window = a.window; settled = settled i; held = held i; carried = a.carried })

pub record AreSettled (limit : Limit) (h : List Entry) (a : Account) : Type 0 where
  pub stands : FollowsHistory limit h a
  pub none : open_grants h ≡ []

pub all_settled : (limit : Limit) (h : List Entry) (a : Account) (number : ℕ) (gs : List Grant) → FollowsHistory limit h a → IsFreeNumber number h → open_grants h ≡ gs
    → AreSettled limit (h ++ settlings number gs) (recovered_account (row_of a) gs)
all_settled limit h a number [] stands free leaves =
    subst (λ (l : List Entry). AreSettled limit l (recovered_account (row_of a) [])) (sym (append-nil h))
    (subst (AreSettled limit h) (none_recovers limit h a stands leaves) (record { stands = stands; none = leaves }))
all_settled limit h a number (g ∷ gs) stands free leaves =
    let e = settling_entry number g.bound g in
    let next = settled_account a g.window g.bound g.bound in
    let rest = all_settled limit (h ++ e ∷ []) next (number + 1) gs (one_follows limit h a number g gs stands free leaves) (below_on number h e refl free) (one_leaves limit h a number g gs stands free leaves) in
    subst (λ (l : List Entry). AreSettled limit l (recovered_account (row_of a) (g ∷ gs))) (append_assoc h (e ∷ []) (settlings (number + 1) gs))
    (subst (AreSettled limit ((h ++ e ∷ []) ++ settlings (number + 1) gs)) (one_recovers limit h a number g gs stands free leaves) rest)

-- ---- by the rows of a history

pub recovers : (limits : ℕ → Limit) (h : List Entry) (client number : ℕ) → AreLegal limits h → IsFreeNumber number h
    → AreSettled (limits client) (entries_by client h ++ settlings number (grants_by client (open_grants h))) (recovered_account (row_of (account_after limits h client)) (grants_by client (open_grants h)))
recovers limits h client number legal free =
    let own = entries_by client h in
    all_settled (limits client) own (account_after limits h client) number (grants_by client (open_grants h))
    (legal client, numbers_stand (limits client) own (legal client))
    (λ other. below_some number (λ (e : Entry). nat_eq e.caller other) own (free client))
    (open_grants-own client h)

pub keeps_limit : (limit : Limit) (h : List Entry) (a : Account) → FollowsHistory limit h a → KeepsLimit limit a
keeps_limit limit h a stands = subst (KeepsLimit limit) (sym stands.1.0) (numbers_within limit h stands.0)
