-- Where the numbers of calls rise over all clients, a number alone finds a grant.
use Rattle.std.proofs.Common.{◌≡◌, ⊎_elim, ℕ, ◌<◌, List, [], ◌∷◌, ◌++◌, Bool, true, false, nat_eq, filter, not, Some, refl, sym, ap, subst, ◌∙◌, arith}
use Rattle.std.specs.List.{AllByRecursion}
use Rattle.std.proofs.lemmas.Bool.{cases_Bool, cond-true, cond-false, cond_both, eqb-true, and_parts}
use Rattle.std.proofs.lemmas.Option.{none-some}
use Rattle.account_core.specs.declared.Limit.{Limit}
use Rattle.account_core.specs.Machine.{Grant, Call, reservation, settlement, CallReply, granted, short, done, Entry, entry, grant, is_grant, open_grant}
use Rattle.account_core.specs.History.{entries_by, grants_by, NumbersBelow, IsNext}
use Rattle.account_core.specs.Sums.{is_settled, grants_of_call, grants_made, open_grants}
use Rattle.account_core.proofs.GrantLists.{passed_over}
use Rattle.account_core.proofs.OpenGrants.{in_order, open_grants-idle, open_grants-granted, open_grants-settled}
use Rattle.account_core.proofs.Callers.{open_grants-own}
use Rattle.account_store.specs.declared.step.Step.{Step}
use Rattle.account_store.specs.declared.step.Step.TheVariants.{Accounted, Opened, Closed}
use Rattle.account_store.specs.Steps.{Rows, grant_of, stepped, stepped_by}
use Rattle.account_store.specs.Histories.{rows_after, steps_after, steps_on, AreLegal, ComeNext}
use Rattle.account_store.specs.Numbers.{AreNumbered, AllNumbersRise}
use Rattle.account_store.proofs.CallSteps.{legal_on, free_there, one_step}

-- ---- lists of grants whose numbers rise

abbrev pub IsRising : List Grant → Type 0
IsRising [] = Unit {0}
IsRising (g ∷ gs) = AllByRecursion (λ x. g.number < x.number) gs × IsRising gs

all_both : (P : Grant → Type 0) (xs ys : List Grant) → AllByRecursion P xs → AllByRecursion P ys → AllByRecursion P (xs ++ ys)
all_both P [] ys these those = those
all_both P (x ∷ xs) ys these those = (these.0, all_both P xs ys these.1 those)

all_some : (P : Grant → Type 0) (test : Grant → Bool) (gs : List Grant) → AllByRecursion P gs → AllByRecursion P (filter test gs)
all_some P test [] all = tt
all_some P test (g ∷ gs) all =
    cond_both (test g) (g ∷ filter test gs) (filter test gs) (AllByRecursion P) (λ _. (all.0, all_some P test gs all.1)) (λ _. all_some P test gs all.1)

rising_push : (gs : List Grant) (g : Grant) → IsRising gs → AllByRecursion (λ x. x.number < g.number) gs → IsRising (gs ++ g ∷ [])
rising_push [] g rising below = (tt, tt)
rising_push (x ∷ xs) g rising below = (all_both (λ y. x.number < y.number) xs (g ∷ []) rising.0 (below.0, tt), rising_push xs g rising.1 below.1)

rising_some : (test : Grant → Bool) (gs : List Grant) → IsRising gs → IsRising (filter test gs)
rising_some test [] rising = tt
rising_some test (g ∷ gs) rising =
    cond_both (test g) (g ∷ filter test gs) (filter test gs) IsRising (λ _. (all_some (λ x. g.number < x.number) test gs rising.0, rising_some test gs rising.1)) (λ _. rising_some test gs rising.1)

-- ---- the only grant of a number

found_above : (low client number : ℕ) (gs : List Grant) (g : Grant) → AllByRecursion (λ x. low < x.number) gs → open_grant client number gs ≡ Some g → low < number
found_above low client number [] g above there = absurd (none-some g there)
found_above low client number (x ∷ xs) g above there = ⊎_elim
    (λ (is : is_grant client number x ≡ true). subst (λ (n : ℕ). low < n) (eqb-true x.number number (and_parts (nat_eq x.caller client) (nat_eq x.number number) is).1) above.0)
    (λ (other : is_grant client number x ≡ false). found_above low client number xs g above.1 (sym (passed_over client number x xs other) ∙ there))
    (cases_Bool (is_grant client number x))

none_later : (low client number : ℕ) (gs : List Grant) → low ≡ number → AllByRecursion (λ x. low < x.number) gs → AllByRecursion (λ x. x.number ≡ number → x.caller ≡ client) gs
none_later low client number [] is above = tt
none_later low client number (x ∷ xs) is above = ((λ same. absurd (omega (arith, above.0, is, same))), none_later low client number xs is above.1)

-- where a client has a grant of a number open, no other client has one
only_its : (client number : ℕ) (gs : List Grant) (g : Grant) → IsRising gs → open_grant client number (grants_by client gs) ≡ Some g
    → AllByRecursion (λ x. x.number ≡ number → x.caller ≡ client) gs
only_its client number [] g rising there = tt
only_its client number (x ∷ xs) g rising there = ⊎_elim
    (λ (own : nat_eq x.caller client ≡ true).
    let first = eqb-true x.caller client own in
    let found : open_grant client number (x ∷ grants_by client xs) ≡ Some g = ap (open_grant client number) (sym (cond-true (nat_eq x.caller client) (x ∷ grants_by client xs) (grants_by client xs) own)) ∙ there in
    ⊎_elim
    (λ (is : is_grant client number x ≡ true).
    ((λ _. first), none_later x.number client number xs (eqb-true x.number number (and_parts (nat_eq x.caller client) (nat_eq x.number number) is).1) rising.0))
    (λ (other : is_grant client number x ≡ false). ((λ _. first), only_its client number xs g rising.1 (sym (passed_over client number x (grants_by client xs) other) ∙ found)))
    (cases_Bool (is_grant client number x)))
    (λ (other : nat_eq x.caller client ≡ false).
    let found : open_grant client number (grants_by client xs) ≡ Some g = ap (open_grant client number) (sym (cond-false (nat_eq x.caller client) (x ∷ grants_by client xs) (grants_by client xs) other)) ∙ there in
    let above = found_above x.number client number (grants_by client xs) g (all_some (λ y. x.number < y.number) (λ (y : Grant). nat_eq y.caller client) xs rising.0) found in
    ((λ same. absurd (omega (arith, above, same))), only_its client number xs g rising.1 found))
    (cases_Bool (nat_eq x.caller client))

-- ---- the grants of a history

made_by_call : (top caller number : ℕ) (call : Call) (reply : CallReply) → number < top → AllByRecursion (λ g. g.number < top) (grants_of_call caller number call reply)
made_by_call top caller number (reservation asked bound) (granted at) below = (below, tt)
made_by_call top caller number (reservation asked bound) (short left) below = tt
made_by_call top caller number (reservation asked bound) done below = tt
made_by_call top caller number (settlement of window bound measured) (granted at) below = tt
made_by_call top caller number (settlement of window bound measured) (short left) below = tt
made_by_call top caller number (settlement of window bound measured) done below = tt

made_below : (top : ℕ) (h : List Entry) → NumbersBelow top h → AllByRecursion (λ g. g.number < top) (grants_made h)
made_below top [] below = tt
made_below top (e ∷ es) below =
    all_both (λ g. g.number < top) (grants_of_call e.caller e.number e.call e.reply) (grants_made es) (made_by_call top e.caller e.number e.call e.reply below.0) (made_below top es below.1)

open_below : (top : ℕ) (h : List Entry) → NumbersBelow top h → AllByRecursion (λ g. g.number < top) (open_grants h)
open_below top h below = all_some (λ g. g.number < top) (λ g. not (is_settled h g)) (grants_made h) (made_below top h below)

-- ---- the steps of calls

grants_stepped : (a b : Rows) (steps : List Step) → a.grants ≡ b.grants → (stepped_by a steps).grants ≡ (stepped_by b steps).grants
grants_stepped a b [] same = same
grants_stepped a b (Accounted client row ∷ ss) same = grants_stepped (stepped a (Accounted client row)) (stepped b (Accounted client row)) ss same
grants_stepped a b (Opened g ∷ ss) same = grants_stepped (stepped a (Opened g)) (stepped b (Opened g)) ss (ap (λ (gs : List Grant). gs ++ grant_of g ∷ []) same)
grants_stepped a b (Closed client number ∷ ss) same =
    grants_stepped (stepped a (Closed client number)) (stepped b (Closed client number)) ss (ap (λ (gs : List Grant). filter (λ g. not (is_grant client number g)) gs) same)

numbered_both : (rows : Rows) (these those : List Step) → AreNumbered rows these → AreNumbered (stepped_by rows these) those → AreNumbered rows (these ++ those)
numbered_both rows [] those first then = then
numbered_both rows (s ∷ ss) those first then = (first.0, numbered_both (stepped rows s) ss those first.1 then)

-- a call behind a history whose open grants have rising numbers
record IsOn (limits : ℕ → Limit) (h : List Entry) (rows : Rows) (e : Entry) : Type 0 where
  steps : AreNumbered rows (steps_after limits h e)
  rising : IsRising (open_grants (h ++ e ∷ []))

one_on : (limits : ℕ → Limit) (h : List Entry) (rows : Rows) (caller number : ℕ) (call : Call) (reply : CallReply) → rows.grants ≡ open_grants h → IsRising (open_grants h) → AreLegal limits h
    → IsNext (limits caller) (entries_by caller h) (entry caller number call reply) → NumbersBelow number h → IsOn limits h rows (entry caller number call reply)
one_on limits h rows caller number (reservation asked bound) (granted at) same rising legal next below =
    let before = open_below number h below in
    record {
      steps = (tt, (subst (AllByRecursion (λ g. g.number < number)) (sym same) before, tt));
      rising = subst IsRising (sym (open_grants-granted h caller number asked at bound (free_there limits h caller number at bound (legal caller) next.1))) (rising_push (open_grants h) (grant caller number at bound) rising before);
    }
one_on limits h rows caller number (reservation asked bound) (short left) same rising legal next below = record {
  steps = tt;
  rising = subst IsRising (sym (open_grants-idle h (entry caller number (reservation asked bound) (short left)) refl (λ g. refl))) rising;
}
one_on limits h rows caller number (reservation asked bound) done same rising legal next below = absurd next.0
one_on limits h rows caller number (settlement of window bound measured) (granted at) same rising legal next below = absurd next.0
one_on limits h rows caller number (settlement of window bound measured) (short left) same rising legal next below = absurd next.0
one_on limits h rows caller number (settlement of window bound measured) done same rising legal next below =
    let own = entries_by caller h in
    let there : open_grant caller of (grants_by caller (open_grants h)) ≡ Some (grant caller of window bound) =
    ap (open_grant caller of) (sym (open_grants-own caller h)) ∙ (ap (open_grant caller of) (sym (in_order (limits caller) own (legal caller)).listed) ∙ next.0.0) in
    record {
      steps = (tt, (subst (AllByRecursion (λ g. g.number ≡ of → g.caller ≡ caller)) (sym same) (only_its caller of (open_grants h) (grant caller of window bound) rising there), tt));
      rising = subst IsRising (sym (open_grants-settled h caller number of window bound measured)) (rising_some (λ g. not (is_grant caller of g)) (open_grants h) rising);
    }

pub calls_numbered : (limits : ℕ → Limit) (h es : List Entry) (rows : Rows) → rows.grants ≡ open_grants h → IsRising (open_grants h) → AreLegal limits h → ComeNext limits h es → AllNumbersRise h es
    → AreNumbered rows (steps_on limits h es)
calls_numbered limits h [] rows same rising legal next rise = tt
calls_numbered limits h (e ∷ es) rows same rising legal next rise =
    let one = one_on limits h rows e.caller e.number e.call e.reply same rising legal next.0 rise.0 in
    let first = steps_after limits h e in
    let left = grants_stepped rows (rows_after limits h) first same ∙ (one_step limits h e.caller e.number e.call e.reply (legal e.caller) next.0).grants in
    numbered_both rows first (steps_on limits (h ++ e ∷ []) es) one.steps
    (calls_numbered limits (h ++ e ∷ []) es (stepped_by rows first) left one.rising (legal_on limits h e legal next.0) next.1 rise.1)
