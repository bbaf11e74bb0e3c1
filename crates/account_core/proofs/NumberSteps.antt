-- The calls on seven numbers are steps of the machine, from each state that the numbers stand for.
use Rattle.std.proofs.Common.{◌≡◌, ℕ, ◌≤◌, max, Bool, true, false, cond, nat_eq, Some, refl, sym, ap, subst, ◌∙◌, ⊎_elim, arith, le_refl, zero-le, if◌then◌else◌}
use Rattle.std.proofs.lemmas.Bool.{cases_Bool, cond_both, eq-eqb, ne_eqb, eqb-true, eqb-false}
use Rattle.cost_num.specs.Within.{Within}
use Rattle.cost_num.specs.declared.Cost.{Cost}
use Rattle.account_core.specs.declared.Account.{Account}
use Rattle.account_core.specs.Costs.{nothing, together, remaining, is_within, counted_in}
use Rattle.account_core.specs.declared.Limit.{Limit}
use Rattle.account_core.specs.Machine.{State, account_of, used_of, carried_past, carried_into, room, reservation, settlement, CallReply, granted, short, done, entry, grant, held_in, open_grant, grants_without, standing_window, used_in, HasRoom, state_after_call}
use Rattle.account_core.specs.Numbers.{NoneLater, StandsFor, StepsTo, KeepsLimit, moved_to, left_at, account_holding, reservation_reply, reserved_account, settled_account}
use Rattle.account_core.proofs.CostSums.{remaining_part, fits, exceeds, counted_cases, counted_own, at_most_same}
use Rattle.account_core.proofs.GrantLists.{held_in-push, held_in-without, held_in-later, none_later-more, none_later-push, none_later-without}

-- what is held counts in a later window as what the grants hold there: nothing
held_moved : (s : State) (at : ℕ) → s.window ≤ at → NoneLater s.window s.grants → counted_in at s.window (held_in s.window s.grants) ≡ held_in at s.grants
held_moved s at le order = counted_cases (λ c. c ≡ held_in at s.grants) at s.window (held_in s.window s.grants)
    (λ same. ap (λ window. held_in window s.grants) same)
    (λ far. sym (held_in-later s.window at s.grants order (omega arith)))

-- a state's numbers in a window
abbrev account_in : Limit → State → ℕ → Account
account_in limit s at =
    record { window = at; settled = counted_in at s.window s.settled; held = held_in at s.grants; carried = carried_into limit (account_of s) at }

moved_is : (limit : Limit) (a : Account) (s : State) (at : ℕ) → s.window ≤ at → StandsFor a s → moved_to limit a at ≡ account_in limit s at
moved_is limit a s at le stands =
    ap (λ (x : Account). moved_to limit x at) stands.0
    ∙ ap (λ (c : Cost). record { window = at; settled = counted_in at s.window s.settled; held = c; carried = carried_into limit (account_of s) at }) (held_moved s at le stands.1)

-- in the window that an account comes to, it uses no more than what that may take in
pub moved_within : (limit : Limit) (a : Account) (at : ℕ) → KeepsLimit limit a → Within (room limit a at) (used_of (moved_to limit a at))
moved_within limit a at keeps =
    cond_both (nat_eq at a.window) a.carried (carried_past limit a at) (λ c. Within (together limit.allowance c) (used_of (moved_to limit a at)))
    (λ here. stays (nat_eq a.window at) (eq-eqb a.window at (sym (eqb-true at a.window here))))
    (λ past. begins (nat_eq a.window at) (elsewhere past))
  where
    stays : (t : Bool) → t ≡ true → Within (together limit.allowance a.carried) (together (cond t a.settled nothing) (cond t a.held nothing))
    stays true is = keeps.used
    stays false is = absurd (cc)

    begins : (t : Bool) → t ≡ false → Within (together limit.allowance (carried_past limit a at)) (together (cond t a.settled nothing) (cond t a.held nothing))
    begins true is = absurd (cc)
    begins false is = record { types = zero-le; fields = zero-le }

    elsewhere : nat_eq at a.window ≡ false → nat_eq a.window at ≡ false
    elsewhere past = ne_eqb a.window at (λ same. eqb-false at a.window past (sym same))

-- a reservation in a window that has come, at numbers that stand for the state there
grants_at : (limit : Limit) (bound : Cost) (s : State) (caller number at : ℕ) → s.window ≤ at → NoneLater s.window s.grants
    → StandsFor (account_holding (account_in limit s at) bound) (state_after_call limit s caller number (reservation at bound) (granted at))
grants_at limit bound s caller number at le order =
    let g = grant caller number at bound in (
      ap (λ (c : Cost). record { window = at; settled = counted_in at s.window s.settled; held = c; carried = carried_into limit (account_of s) at })
          (ap (together (held_in at s.grants)) (sym (counted_own at at bound refl)) ∙ sym (held_in-push at s.grants g)),
      none_later-push at s.grants g (none_later-more s.window at s.grants le order) (le_refl at),
    )

-- a reservation on an account's numbers is a step from each state that they stand for
pub reserves : (limit : Limit) (bound : Cost) (a : Account) (s : State) (caller number window : ℕ) → StandsFor a s → KeepsLimit limit a
    → StepsTo limit s (entry caller number (reservation window bound) (reservation_reply limit a window bound)) (reserved_account limit a window bound)
reserves limit bound a s caller number window stands inside =
    let at : ℕ = max a.window window in
    let same : at ≡ standing_window s window = ap (λ (x : Account). max x.window window) stands.0 in
    let le : s.window ≤ at = subst (λ u. s.window ≤ u) (sym same) (omega arith) in
    let moved : moved_to limit a at ≡ account_in limit s at = moved_is limit a s at le stands in
    let roomy : room limit a at ≡ room limit (account_of s) at = ap (λ (x : Account). room limit x at) stands.0 in
    let used : used_of (moved_to limit a at) ≡ used_in s at = ap (λ (x : Account). used_of x) moved in
    let P : Bool → Type 0 = λ t. StepsTo limit s
    (entry caller number (reservation window bound) (if t then granted at else short (left_at limit a at)))
    (if t then account_holding (moved_to limit a at) bound else a) in
    ⊎_elim
    (λ (e : is_within (left_at limit a at) bound ≡ true). subst P (sym e) (
      (
        same,
        subst (λ whole. Within whole (together (used_in s at) bound)) roomy
            (at_most_same (together (used_in s at) bound) (together (used_of (moved_to limit a at)) bound) (room limit a at) (ap (λ c. together c bound) (sym used))
            (fits (used_of (moved_to limit a at)) bound (room limit a at) (moved_within limit a at inside) e)),
      ),
      subst (λ (x : Account). StandsFor (account_holding x bound) (state_after_call limit s caller number (reservation at bound) (granted at))) (sym moved)
          (grants_at limit bound s caller number at le stands.1),
    ))
    (λ (e : is_within (left_at limit a at) bound ≡ false). subst P (sym e) (
      (
        subst (λ u. HasRoom limit s u bound → ⊥) same
            (subst (λ whole. Within whole (together (used_in s at) bound) → ⊥) roomy
            (subst (λ c. Within (room limit a at) (together c bound) → ⊥) used (exceeds (used_of (moved_to limit a at)) bound (room limit a at) e))),
        (λ i. remaining (roomy i) (used i)) ∙ ap (λ u. remaining (room limit (account_of s) u) (used_in s u)) same,
      ),
      stands,
    ))
    (cases_Bool (is_within (left_at limit a at) bound))

pub reserves_as : (limit : Limit) (bound : Cost) (a : Account) (s : State) (caller number window : ℕ) (reply : CallReply) (new : Account) → StandsFor a s → KeepsLimit limit a
    → reply ≡ reservation_reply limit a window bound → new ≡ reserved_account limit a window bound
    → StepsTo limit s (entry caller number (reservation window bound) reply) new
reserves_as limit bound a s caller number window reply new stands inside replied made =
    subst (λ (x : Account). StepsTo limit s (entry caller number (reservation window bound) reply) x) (sym made)
    (subst (λ r. StepsTo limit s (entry caller number (reservation window bound) r) (reserved_account limit a window bound)) (sym replied)
    (reserves limit bound a s caller number window stands inside))

-- so is a settlement of a grant that is open there
pub settles_open : (limit : Limit) (bound measured : Cost) (a : Account) (s : State) (caller number of window : ℕ) → StandsFor a s
    → open_grant caller of s.grants ≡ Some (grant caller of window bound) → Within bound measured
    → StepsTo limit s (entry caller number (settlement of window bound measured) done) (settled_account a window bound measured)
settles_open limit bound measured a s caller number of window stands there small =
    let held = held_in-without s.window caller of (grant caller of window bound) s.grants there in
    let left = held_in s.window (grants_without caller of s.grants) in (
      (there, small),
      (
        ap (λ (x : Account). settled_account x window bound measured) stands.0
            ∙ ap (λ (c : Cost). record { window = s.window; settled = together s.settled (counted_in s.window window measured); held = c; carried = s.carried })
            (remaining_part left (counted_in s.window window bound) (held_in s.window s.grants) held),
        none_later-without s.window caller of s.grants stands.1,
      ),
    )

pub settles_as : (limit : Limit) (bound measured : Cost) (a : Account) (s : State) (caller number of window : ℕ) (new : Account) → StandsFor a s
    → open_grant caller of s.grants ≡ Some (grant caller of window bound) → Within bound measured → new ≡ settled_account a window bound measured
    → StepsTo limit s (entry caller number (settlement of window bound measured) done) new
settles_as limit bound measured a s caller number of window new stands there small made =
    subst (λ (x : Account). StepsTo limit s (entry caller number (settlement of window bound measured) done) x) (sym made)
    (settles_open limit bound measured a s caller number of window stands there small)
