-- Every legal history keeps to the allowance, with what is carried.
use Rattle.std.proofs.Common.{◌≡◌, ◌⊎◌, inl, inr, ⊎_elim, ℕ, zero, suc, ◌+◌, ◌≤◌, ◌<◌, true, false, true≢false, ◌||◌, cond, nat_eq, List, [], ◌∷◌, ◌++◌, Some, refl, sym, ap, subst, ◌∙◌, arith, zero-le, le_refl}
use Rattle.std.proofs.lemmas.Bool.{cases_Bool, cond-true, cond-false, cond_both, eq-eqb, eqb-true, eqb-false, or_right, or_parts, or_cases, cases_lt}
use Rattle.cost_num.proofs.Costs.{cost_eq}
use Rattle.cost_num.specs.Within.{Within}
use Rattle.cost_num.specs.declared.Cost.{Cost}
use Rattle.account_core.specs.declared.Account.{Account}
use Rattle.account_core.specs.declared.Limit.{Limit}
use Rattle.account_core.specs.Costs.{nothing, together, remaining, smaller, counted_in}
use Rattle.account_core.specs.Machine.{State, Call, reservation, settlement, CallReply, granted, short, done, Entry, grant, entry, held_in, open_grant, grants_without, standing_window, HasRoom, surplus, used_of, carried_past, carried_into, room, account_of, state_after_call}
use Rattle.account_core.specs.Numbers.{KeepsLimit}
use Rattle.account_core.specs.History.{state_after, IsNext, IsLegal}
use Rattle.account_core.specs.Sums.{spent_by, spent_in, open_grants, open_in, opens_window, is_opened, handed_on, carried_in, allowance_in, KeepsAllowance}
use Rattle.account_core.proofs.CostSums.{types_of, fields_of, together-nothing, nothing-together, together_assoc, nothing_parts, nothing_within, at_most_same, counted_cases, counted_elsewhere, counted_within}
use Rattle.account_core.proofs.GrantLists.{held_in-push, held_in-without}
use Rattle.account_core.proofs.Histories.{state_after-push, along, legal-empty, legal-push, legal-front}
use Rattle.account_core.proofs.OpenGrants.{StateInOrder, in_order}
use Rattle.account_core.proofs.Carried.{is_opened-push, is_opened-idle, carried_after, carried_in-stays, carried_in-opened}

-- ---- what a history that grows has spent

spent_in-append : (window : ℕ) (xs ys : List Entry) → spent_in window (xs ++ ys) ≡ together (spent_in window xs) (spent_in window ys)
spent_in-append window [] ys = sym (nothing-together (spent_in window ys))
spent_in-append window (x ∷ xs) ys =
    let here = spent_by window x.call x.reply in
    ap (together here) (spent_in-append window xs ys) ∙ sym (together_assoc here (spent_in window xs) (spent_in window ys))

pub spent_in-push : (window : ℕ) (h : List Entry) (e : Entry) → spent_in window (h ++ e ∷ []) ≡ together (spent_in window h) (spent_by window e.call e.reply)
spent_in-push window h e = spent_in-append window h (e ∷ []) ∙ ap (together (spent_in window h)) (together-nothing (spent_by window e.call e.reply))

-- ---- a history beside its state

-- The state's window is the first or the latest that the history has opened; its settled and its carried cost are what the
-- history spent in it and carried into it. A window that isn't opened has nothing spent or held. In each window what is spent
-- and held is at most its allowance, and what is carried keeps to the limit.
pub record IsBalanced (limit : Limit) (h : List Entry) (s : State) : Type 0 where
  pub settled : spent_in s.window h ≡ s.settled
  pub carried : carried_in limit s.window h ≡ s.carried
  pub one : Within limit.allowance s.carried
  pub plain : limit.carry ≡ false → s.carried ≡ nothing
  pub came : (s.window ≡ 0) ⊎ (is_opened s.window h ≡ true)
  pub latest : (window : ℕ) → is_opened window h ≡ true → window ≤ s.window
  pub unopened : (window : ℕ) → is_opened window h ≡ false → (spent_in window h ≡ nothing) × (held_in window s.grants ≡ nothing)
  pub within : (window : ℕ) → Within (allowance_in limit h window) (together (spent_in window h) (held_in window s.grants))

within_any : (whole : Cost) → Within whole nothing
within_any whole = record { types = zero-le; fields = zero-le }

within_itself : (whole : Cost) → Within whole whole
within_itself whole = record { types = le_refl whole.types; fields = le_refl whole.fields }

smaller_within : (a b : Cost) → Within a (smaller a b)
smaller_within a b = record { types = omega arith; fields = omega arith }

both_nothing : (a b : Cost) → (a ≡ nothing) × (b ≡ nothing) → together a b ≡ nothing
both_nothing a b are = (λ i. together (are.0 i) (are.1 i)) ∙ together-nothing nothing

-- no window past the state's is opened
shut_past : (limit : Limit) (h : List Entry) (s : State) (window : ℕ) → IsBalanced limit h s → s.window < window → is_opened window h ≡ false
shut_past limit h s window balanced past = ⊎_elim
    (λ (opened : is_opened window h ≡ true). let low = balanced.latest window opened in absurd (omega arith))
    (λ (shut : is_opened window h ≡ false). shut)
    (cases_Bool (is_opened window h))

-- what is spent in the state's window or a later one is what the state counts there
spent_counted : (limit : Limit) (h : List Entry) (s : State) (at : ℕ) → s.window ≤ at → IsBalanced limit h s → spent_in at h ≡ counted_in at s.window s.settled
spent_counted limit h s at le balanced = counted_cases (λ c. spent_in at h ≡ c) at s.window s.settled
    (λ same. ap (λ window. spent_in window h) (sym same) ∙ balanced.settled)
    (λ far. (balanced.unopened at (shut_past limit h s at balanced (omega arith))).0)

-- whatever comes, what is carried into the state's window stays
carried_now-stays : (limit : Limit) (h : List Entry) (s : State) (more : List Entry) → IsBalanced limit h s → carried_in limit s.window (h ++ more) ≡ s.carried
carried_now-stays limit h s more balanced = ⊎_elim
    (λ (is_first : s.window ≡ 0).
    ap (λ window. carried_in limit window (h ++ more)) is_first ∙ (sym (ap (λ window. carried_in limit window h) is_first) ∙ balanced.carried))
    (λ (opened : is_opened s.window h ≡ true). carried_in-stays limit s.window h more opened ∙ balanced.carried)
    balanced.came

-- A window keeps to its allowance through an entry if what is used keeps to the allowance before, where the window was
-- opened, and is nothing where it wasn't.
within-stays : (limit : Limit) (h more : List Entry) (window : ℕ) (used : Cost) → (is_opened window h ≡ true → Within (allowance_in limit h window) used) → (is_opened window h ≡ false → used ≡ nothing)
    → Within (allowance_in limit (h ++ more) window) used
within-stays limit h more window used keeps unused = ⊎_elim
    (λ (opened : is_opened window h ≡ true).
    subst (λ c. Within (together limit.allowance c) used) (sym (carried_in-stays limit window h more opened)) (keeps opened))
    (λ (shut : is_opened window h ≡ false).
    at_most_same used nothing (allowance_in limit (h ++ more) window) (unused shut) (within_any (allowance_in limit (h ++ more) window)))
    (cases_Bool (is_opened window h))

-- ---- the machine carries into a window what the history does

-- the cases of what an account carries into a window
carried_cases : (P : Cost → Type 0) (limit : Limit) (a : Account) (at : ℕ) → (at ≡ a.window → P a.carried) → ((at ≡ a.window → ⊥) → limit.carry ≡ false → P nothing)
    → (at ≡ a.window + 1 → limit.carry ≡ true → P (surplus limit a.carried (used_of a))) → ((at ≡ a.window → ⊥) → (at ≡ a.window + 1 → ⊥) → limit.carry ≡ true → P limit.allowance) → P (carried_into limit a at)
carried_cases P limit a at here plain next far =
    let over : Cost = surplus limit a.carried (used_of a) in
    let past : Cost = cond (nat_eq at (a.window + 1)) over limit.allowance in
    cond_both (nat_eq at a.window) a.carried (cond limit.carry past nothing) P (λ is. here (eqb-true at a.window is))
    (λ not_here. cond_both limit.carry past nothing P
    (λ carry. cond_both (nat_eq at (a.window + 1)) over limit.allowance P
    (λ is. next (eqb-true at (a.window + 1) is) carry)
    (λ not_next. far (eqb-false at a.window not_here) (eqb-false at (a.window + 1) not_next) carry))
    (λ off. plain (eqb-false at a.window not_here) off))

-- in its own window an account carries what it carries
carried_here : (limit : Limit) (a : Account) (at : ℕ) → at ≡ a.window → carried_into limit a at ≡ a.carried
carried_here limit a at same = cond-true (nat_eq at a.window) a.carried (carried_past limit a at) (eq-eqb at a.window same)

-- where nothing was carried or used, a whole allowance is handed on
surplus-unused : (limit : Limit) (carried used : Cost) → carried ≡ nothing → used ≡ nothing → surplus limit carried used ≡ limit.allowance
surplus-unused limit carried used c u = (λ i. surplus limit (c i) (u i)) ∙ cost_eq (surplus limit nothing nothing) limit.allowance (omega arith) (omega arith)

-- what a history hands on from a window, and what a state does from its own
abbrev handed_by : Limit → List Entry → ℕ → Cost
handed_by limit h window = handed_on limit (is_opened window h) (carried_in limit window h) (together (spent_in window h) (open_in window h))

abbrev handed_from : Limit → State → Cost
handed_from limit s = surplus limit s.carried (together s.settled (held_in s.window s.grants))

handed-same : (limit : Limit) (h : List Entry) (s : State) → IsBalanced limit h s → s.grants ≡ open_grants h → handed_by limit h s.window ≡ handed_from limit s
handed-same limit h s balanced listed =
    let used : Cost = together (spent_in s.window h) (open_in s.window h) in
    let by_history : Cost = surplus limit (carried_in limit s.window h) used in
    ⊎_elim
    (λ (opened : is_opened s.window h ≡ true).
    cond-true (is_opened s.window h) by_history limit.allowance opened
    ∙ (λ i. surplus limit (balanced.carried i) (together (balanced.settled i) (held_in s.window (sym listed i)))))
    (λ (shut : is_opened s.window h ≡ false).
    let is_first : s.window ≡ 0 = ⊎_elim (λ (zeroth : s.window ≡ 0). zeroth) (λ (opened : is_opened s.window h ≡ true). absurd (true≢false (sym opened ∙ shut))) balanced.came in
    let unused = balanced.unopened s.window shut in
    cond-false (is_opened s.window h) by_history limit.allowance shut
    ∙ sym (surplus-unused limit s.carried (together s.settled (held_in s.window s.grants)) (sym balanced.carried ∙ ap (λ window. carried_in limit window h) is_first)
    (both_nothing s.settled (held_in s.window s.grants) (sym balanced.settled ∙ unused.0, unused.1))))
    (cases_Bool (is_opened s.window h))

-- into a window past the state's
carries_past : (limit : Limit) (h : List Entry) (s : State) (last : ℕ) → s.window < suc last → IsBalanced limit h s → s.grants ≡ open_grants h
    → carried_after limit last h ≡ carried_into limit (account_of s) (suc last)
carries_past limit h s last past balanced listed =
    let handed : Cost = handed_by limit h last in
    carried_cases (λ c. carried_after limit last h ≡ c) limit (account_of s) (suc last)
    (λ here. absurd (omega arith))
    (λ not_here off. cond-false limit.carry handed nothing off)
    (λ next carry.
    let same : s.window ≡ last = omega arith in
    cond-true limit.carry handed nothing carry ∙ subst (λ window. handed_by limit h window ≡ handed_from limit s) same (handed-same limit h s balanced listed))
    (λ not_here not_next carry.
    let past_last : s.window < last = omega arith in
    cond-true limit.carry handed nothing carry
    ∙ cond-false (is_opened last h) (surplus limit (carried_in limit last h) (together (spent_in last h) (open_in last h))) limit.allowance (shut_past limit h s last balanced past_last))

-- at a grant, into the window in which it stands
carries_to : (limit : Limit) (h : List Entry) (s : State) (at : ℕ) (e : Entry) → s.window ≤ at → opens_window at e.call e.reply ≡ true → IsBalanced limit h s → s.grants ≡ open_grants h
    → carried_in limit at (h ++ e ∷ []) ≡ carried_into limit (account_of s) at
carries_to limit h s at e le opens balanced listed = ⊎_elim
    (λ (past : s.window < at). into_later at past opens)
    (λ (here : at ≤ s.window).
    let same : s.window ≡ at = omega arith in
    sym (ap (λ window. carried_in limit window (h ++ e ∷ [])) same)
    ∙ (carried_now-stays limit h s (e ∷ []) balanced ∙ sym (carried_here limit (account_of s) at (sym same))))
    (cases_lt s.window at)
  where
    into_later : (at : ℕ) → s.window < at → opens_window at e.call e.reply ≡ true → carried_in limit at (h ++ e ∷ []) ≡ carried_into limit (account_of s) at
    into_later zero past opens = absurd (omega arith)
    into_later (suc last) past opens =
        carried_in-opened limit last h e (shut_past limit h s (suc last) balanced past) opens ∙ carries_past limit h s last past balanced listed

-- ---- the steps

balanced-granted : (limit : Limit) (h : List Entry) (s : State) (caller number window at : ℕ) (bound : Cost) → at ≡ standing_window s window → HasRoom limit s at bound → s.grants ≡ open_grants h
    → IsBalanced limit h s → IsBalanced limit (h ++ entry caller number (reservation window bound) (granted at) ∷ []) (state_after_call limit s caller number (reservation window bound) (granted at))
balanced-granted limit h s caller number window at bound standing fits listed balanced =
    let le : s.window ≤ at = omega arith in
    let g = grant caller number at bound in
    let e = entry caller number (reservation window bound) (granted at) in
    let longer : List Entry = h ++ e ∷ [] in
    let opens : nat_eq at at ≡ true = eq-eqb at at refl in
    let counted : spent_in at h ≡ counted_in at s.window s.settled = spent_counted limit h s at le balanced in
    let spent : (u : ℕ) → spent_in u longer ≡ spent_in u h = λ u. spent_in-push u h e ∙ together-nothing (spent_in u h) in
    let held : (u : ℕ) → held_in u (s.grants ++ g ∷ []) ≡ together (held_in u s.grants) (counted_in u at bound) = λ u. held_in-push u s.grants g in
    let opened : (u : ℕ) → is_opened u longer ≡ (is_opened u h || nat_eq at u) = λ u. is_opened-push u h e in
    let carried : carried_in limit at longer ≡ carried_into limit (account_of s) at = carries_to limit h s at e le opens balanced listed in
    let here : Within (allowance_in limit longer at) (together (spent_in at longer) (together (held_in at s.grants) bound)) =
    subst (λ c. Within (together limit.allowance c) (together (spent_in at longer) (together (held_in at s.grants) bound))) (sym carried)
    (at_most_same (together (spent_in at longer) (together (held_in at s.grants) bound)) (together (together (counted_in at s.window s.settled) (held_in at s.grants)) bound) (room limit (account_of s) at)
    (ap (λ c. together c (together (held_in at s.grants) bound)) (spent at ∙ counted) ∙ sym (together_assoc (counted_in at s.window s.settled) (held_in at s.grants) bound)) fits) in
    record {
      settled = spent at ∙ counted;
      carried = carried;
      one = carried_cases (Within limit.allowance) limit (account_of s) at (λ same. balanced.one) (λ not_here off. within_any limit.allowance)
          (λ next carry. smaller_within limit.allowance (remaining (together limit.allowance s.carried) (used_of (account_of s)))) (λ not_here not_next carry. within_itself limit.allowance);
      plain = λ off. carried_cases (λ c. c ≡ nothing) limit (account_of s) at (λ same. balanced.plain off) (λ not_here still_off. refl)
          (λ next carry. absurd (true≢false (sym carry ∙ off))) (λ not_here not_next carry. absurd (true≢false (sym carry ∙ off)));
      came = inr (opened at ∙ or_right (is_opened at h) (nat_eq at at) opens);
      latest = λ u is. ⊎_elim (λ (before : is_opened u h ≡ true). let low = balanced.latest u before in omega arith) (λ (now : nat_eq at u ≡ true). let same = eqb-true at u now in omega arith)
          (or_cases (is_opened u h) (nat_eq at u) (sym (opened u) ∙ is));
      unopened = λ u is.
          let parts = or_parts (is_opened u h) (nat_eq at u) (sym (opened u) ∙ is) in
          let before = balanced.unopened u parts.0 in
          (spent u ∙ before.0, held u ∙ both_nothing (held_in u s.grants) (counted_in u at bound) (before.1, counted_elsewhere u at bound (eqb-false at u parts.1)));
      within = λ u.
          at_most_same (together (spent_in u longer) (held_in u (s.grants ++ g ∷ []))) (together (spent_in u longer) (together (held_in u s.grants) (counted_in u at bound))) (allowance_in limit longer u)
          (ap (together (spent_in u longer)) (held u))
          (counted_cases (λ c. Within (allowance_in limit longer u) (together (spent_in u longer) (together (held_in u s.grants) c))) u at bound
          (λ same. subst (λ v. Within (allowance_in limit longer v) (together (spent_in v longer) (together (held_in v s.grants) bound))) same here)
          (λ far.
          at_most_same (together (spent_in u longer) (together (held_in u s.grants) nothing)) (together (spent_in u h) (held_in u s.grants)) (allowance_in limit longer u)
          (λ i. together (spent u i) (together-nothing (held_in u s.grants) i))
          (within-stays limit h (e ∷ []) u (together (spent_in u h) (held_in u s.grants)) (λ was_opened. balanced.within u)
          (λ shut. both_nothing (spent_in u h) (held_in u s.grants) (balanced.unopened u shut)))));
    }

-- An entry that opens no window and leaves the state its window and its carried cost: what is left to see is the costs.
balanced-on : (limit : Limit) (h : List Entry) (s : State) (e : Entry) (t : State) → ((u : ℕ) → opens_window u e.call e.reply ≡ false) → t.window ≡ s.window → t.carried ≡ s.carried → IsBalanced limit h s
    → spent_in s.window (h ++ e ∷ []) ≡ t.settled → ((u : ℕ) → is_opened u h ≡ false → (spent_in u (h ++ e ∷ []) ≡ nothing) × (held_in u t.grants ≡ nothing))
    → ((u : ℕ) → Within (allowance_in limit h u) (together (spent_in u (h ++ e ∷ [])) (held_in u t.grants))) → IsBalanced limit (h ++ e ∷ []) t
balanced-on limit h s e t opens_none same_window same_carried balanced settled unopened within =
    let longer : List Entry = h ++ e ∷ [] in
    let opened : (u : ℕ) → is_opened u longer ≡ is_opened u h = is_opened-idle h e opens_none in
    record {
      settled = ap (λ u. spent_in u longer) same_window ∙ settled;
      carried = ap (λ u. carried_in limit u longer) same_window ∙ (carried_now-stays limit h s (e ∷ []) balanced ∙ sym same_carried);
      one = subst (Within limit.allowance) (sym same_carried) balanced.one;
      plain = λ off. same_carried ∙ balanced.plain off;
      came = ⊎_elim (λ (zeroth : s.window ≡ 0). inl (same_window ∙ zeroth)) (λ (was : is_opened s.window h ≡ true). inr (ap (λ u. is_opened u longer) same_window ∙ (opened s.window ∙ was)))
          balanced.came;
      latest = λ u is. subst (λ w. u ≤ w) (sym same_window) (balanced.latest u (sym (opened u) ∙ is));
      unopened = λ u shut. unopened u (sym (opened u) ∙ shut);
      within = λ u.
          within-stays limit h (e ∷ []) u (together (spent_in u longer) (held_in u t.grants)) (λ was_opened. within u)
          (λ shut. both_nothing (spent_in u longer) (held_in u t.grants) (unopened u shut));
    }

-- one component of a settlement
settled_part : (spent held left bound measured allowance : ℕ) → left + bound ≡ held → measured ≤ bound → spent + held ≤ allowance → (spent + measured) + left ≤ allowance
settled_part spent held left bound measured allowance is small within = omega arith

balanced-settled : (limit : Limit) (h : List Entry) (s : State) (caller number of window : ℕ) (bound measured : Cost) → open_grant caller of s.grants ≡ Some (grant caller of window bound) → Within bound measured
    → IsBalanced limit h s
    → IsBalanced limit (h ++ entry caller number (settlement of window bound measured) done ∷ []) (state_after_call limit s caller number (settlement of window bound measured) done)
balanced-settled limit h s caller number of window bound measured there small balanced =
    let e = entry caller number (settlement of window bound measured) done in
    let left : ℕ → Cost = λ u. held_in u (grants_without caller of s.grants) in
    let held : (u : ℕ) → together (left u) (counted_in u window bound) ≡ held_in u s.grants = λ u. held_in-without u caller of (grant caller of window bound) s.grants there in
    let less : (u : ℕ) → Within (counted_in u window bound) (counted_in u window measured) = λ u. counted_within u window measured bound small in
    let spent : (u : ℕ) → spent_in u (h ++ e ∷ []) ≡ together (spent_in u h) (counted_in u window measured) = λ u. spent_in-push u h e in
    balanced-on limit h s e (state_after_call limit s caller number (settlement of window bound measured) done) (λ u. refl) refl refl balanced
    (spent s.window ∙ ap (λ c. together c (counted_in s.window window measured)) balanced.settled)
    (λ u shut.
    let before = balanced.unopened u shut in
    let parts = nothing_parts (left u) (counted_in u window bound) (held u ∙ before.1) in
    (spent u ∙ both_nothing (spent_in u h) (counted_in u window measured) (before.0, nothing_within (counted_in u window measured) (counted_in u window bound) (less u) parts.1), parts.0))
    (λ u.
    let small_here = less u in
    let within_here = balanced.within u in
    let whole = allowance_in limit h u in
    at_most_same (together (spent_in u (h ++ e ∷ [])) (left u)) (together (together (spent_in u h) (counted_in u window measured)) (left u)) whole (ap (λ c. together c (left u)) (spent u)) (record {
      types = settled_part (spent_in u h).types (held_in u s.grants).types (left u).types (counted_in u window bound).types (counted_in u window measured).types whole.types
          (types_of (held u)) small_here.types within_here.types;
      fields = settled_part (spent_in u h).fields (held_in u s.grants).fields (left u).fields (counted_in u window bound).fields (counted_in u window measured).fields whole.fields
          (fields_of (held u)) small_here.fields within_here.fields;
    }))

balanced-short : (limit : Limit) (h : List Entry) (s : State) (caller number window : ℕ) (bound left : Cost) → IsBalanced limit h s → IsBalanced limit (h ++ entry caller number (reservation window bound) (short left) ∷ []) s
balanced-short limit h s caller number window bound left balanced =
    let e = entry caller number (reservation window bound) (short left) in
    let spent : (u : ℕ) → spent_in u (h ++ e ∷ []) ≡ spent_in u h = λ u. spent_in-push u h e ∙ together-nothing (spent_in u h) in
    balanced-on limit h s e s (λ u. refl) refl refl balanced (spent s.window ∙ balanced.settled) (λ u shut. let before = balanced.unopened u shut in (spent u ∙ before.0, before.1))
    (λ u. at_most_same (together (spent_in u (h ++ e ∷ [])) (held_in u s.grants)) (together (spent_in u h) (held_in u s.grants)) (allowance_in limit h u) (ap (λ c. together c (held_in u s.grants)) (spent u)) (balanced.within u))

balanced-push : (limit : Limit) (h : List Entry) (caller number : ℕ) (call : Call) (reply : CallReply) → IsNext limit h (entry caller number call reply) → StateInOrder limit h
    → IsBalanced limit h (state_after limit h) → IsBalanced limit (h ++ entry caller number call reply ∷ []) (state_after_call limit (state_after limit h) caller number call reply)
balanced-push limit h caller number (reservation window bound) (granted at) next order balanced =
    balanced-granted limit h (state_after limit h) caller number window at bound next.0.0 next.0.1 order.listed balanced
balanced-push limit h caller number (reservation window bound) (short left) next order balanced = balanced-short limit h (state_after limit h) caller number window bound left balanced
balanced-push limit h caller number (reservation window bound) done next order balanced = absurd next.0
balanced-push limit h caller number (settlement of window bound measured) (granted at) next order balanced = absurd next.0
balanced-push limit h caller number (settlement of window bound measured) (short left) next order balanced = absurd next.0
balanced-push limit h caller number (settlement of window bound measured) done next order balanced =
    balanced-settled limit h (state_after limit h) caller number of window bound measured next.0.0 next.0.1 balanced

abbrev pub StateBalanced : Limit → List Entry → Type 0
StateBalanced limit h = IsBalanced limit h (state_after limit h)

balanced-empty : (limit : Limit) → StateBalanced limit []
balanced-empty limit = record {
  settled = refl;
  carried = refl;
  one = within_any limit.allowance;
  plain = λ off. refl;
  came = inl refl;
  latest = λ u opened. absurd (true≢false (sym opened));
  unopened = λ u shut. (refl, refl);
  within = λ u. record { types = zero-le; fields = zero-le };
}

pub balanced_state : (limit : Limit) (h : List Entry) → IsLegal limit h → StateBalanced limit h
balanced_state limit h legal =
    (along (λ front. IsLegal limit front × StateBalanced limit front) limit (legal-empty limit, balanced-empty limit)
    (λ front e next so_far. (
      legal-push limit front e so_far.0 next,
      subst (IsBalanced limit (front ++ e ∷ [])) (sym (state_after-push limit front e)) (balanced-push limit front e.caller e.number e.call e.reply next (in_order limit front so_far.0) so_far.1),
    ))
    h legal).1

-- ---- the law

pub keeps : (limit : Limit) (h : List Entry) → IsLegal limit h → KeepsAllowance limit h
keeps limit h legal front rest is window =
    let so_far = legal-front limit h front rest is legal in
    subst (λ gs. Within (allowance_in limit front window) (together (spent_in window front) (held_in window gs))) (in_order limit front so_far).listed
    ((balanced_state limit front so_far).within window)

-- the seven numbers of a state beside its history keep to the limit
pub numbers_keep : (limit : Limit) (h : List Entry) (s : State) → IsBalanced limit h s → KeepsLimit limit (account_of s)
numbers_keep limit h s balanced = record {
  used = subst (λ c. Within (together limit.allowance c) (together s.settled (held_in s.window s.grants))) balanced.carried
      (subst (λ c. Within (allowance_in limit h s.window) (together c (held_in s.window s.grants))) balanced.settled (balanced.within s.window));
  carried = balanced.one;
  plain = balanced.plain;
}

-- what the machine carries after a legal history is what the history carries into its window
pub carries : (limit : Limit) (h : List Entry) → IsLegal limit h → (state_after limit h).carried ≡ carried_in limit (state_after limit h).window h
carries limit h legal = sym (balanced_state limit h legal).carried
