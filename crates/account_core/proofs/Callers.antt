-- The open grants of one caller, and what an account that stands for a state knows of an open grant.
use Rattle.std.proofs.Common.{◌≡◌, ℕ, ◌+◌, ◌≤◌, Bool, true, false, ◌&&◌, not, cond, nat_eq, List, [], ◌∷◌, ◌++◌, length, filter, Some, refl, sym, ap, subst, ◌∙◌, ⊎_elim, arith, le_refl}
use Rattle.std.proofs.lemmas.List.Elements.{filter-append}
use Rattle.std.proofs.lemmas.Map.Views.{any-filter_same}
use Rattle.std.proofs.lemmas.Bool.{and_from, and_parts, cases_Bool, cond-true, cond-false, eq-eqb, eqb-true}
use Rattle.cost_num.specs.Within.{Within}
use Rattle.cost_num.specs.declared.Cost.{Cost}
use Rattle.account_core.specs.declared.Account.{Account}
use Rattle.account_core.specs.Costs.{together}
use Rattle.account_core.specs.declared.Limit.{Limit}
use Rattle.account_core.specs.Machine.{Grant, State, Call, reservation, settlement, CallReply, granted, short, done, Entry, entry, grant, held_in, is_grant, open_grant, grants_without, account_of, state_after_call, IsReplied}
use Rattle.account_core.specs.History.{state_after, entries_by, grants_by, NumbersBelow, IsLegal}
use Rattle.account_core.specs.Sums.{grants_of_call, grants_made, settles_grant, is_settled, open_grants}
use Rattle.account_core.specs.Numbers.{NoneLater, StandsFor, StepsTo, KeepsLimit}
use Rattle.account_core.proofs.CostSums.{types_of, fields_of, counted_own}
use Rattle.account_core.proofs.GrantLists.{held_in-without, found-window, found_last, none_later-more, none_later-push, none_later-without}
use Rattle.account_core.proofs.Histories.{legal-front, legal-push, state_after-push, along}
use Rattle.account_core.proofs.OpenGrants.{in_order}
use Rattle.account_core.proofs.AllowanceLaw.{balanced_state, numbers_keep}

-- ---- the open grants of a caller hang on its own entries alone

either_way : {A : Type 0} (t : Bool) (x : A) → cond t x x ≡ x
either_way true x = refl
either_way false x = refl

-- a call makes grants of its own caller alone
grants_by-call : (owner caller number : ℕ) (call : Call) (reply : CallReply)
    → grants_by owner (grants_of_call caller number call reply) ≡ cond (nat_eq caller owner) (grants_of_call caller number call reply) []
grants_by-call owner caller number (reservation window bound) (granted at) = refl
grants_by-call owner caller number (reservation window bound) (short left) = sym (either_way (nat_eq caller owner) [])
grants_by-call owner caller number (reservation window bound) done = sym (either_way (nat_eq caller owner) [])
grants_by-call owner caller number (settlement of window bound measured) (granted at) = sym (either_way (nat_eq caller owner) [])
grants_by-call owner caller number (settlement of window bound measured) (short left) = sym (either_way (nat_eq caller owner) [])
grants_by-call owner caller number (settlement of window bound measured) done = sym (either_way (nat_eq caller owner) [])

grants_made-own : (owner : ℕ) (h : List Entry) → grants_made (entries_by owner h) ≡ grants_by owner (grants_made h)
grants_made-own owner [] = refl
grants_made-own owner (e ∷ es) =
    let here = grants_of_call e.caller e.number e.call e.reply in
    let split : grants_by owner (here ++ grants_made es) ≡ grants_by owner here ++ grants_by owner (grants_made es) =
    filter-append (λ (g : Grant). nat_eq g.caller owner) here (grants_made es) in
    let mine : grants_by owner here ≡ cond (nat_eq e.caller owner) here [] = grants_by-call owner e.caller e.number e.call e.reply in
    ⊎_elim
    (λ (is : nat_eq e.caller owner ≡ true).
    ap grants_made (cond-true (nat_eq e.caller owner) (e ∷ entries_by owner es) (entries_by owner es) is)
    ∙ (ap (λ l. here ++ l) (grants_made-own owner es)
    ∙ sym (split ∙ ap (λ l. l ++ grants_by owner (grants_made es)) (mine ∙ cond-true (nat_eq e.caller owner) here [] is))))
    (λ (is : nat_eq e.caller owner ≡ false).
    ap grants_made (cond-false (nat_eq e.caller owner) (e ∷ entries_by owner es) (entries_by owner es) is)
    ∙ (grants_made-own owner es
    ∙ sym (split ∙ ap (λ l. l ++ grants_by owner (grants_made es)) (mine ∙ cond-false (nat_eq e.caller owner) here [] is))))
    (cases_Bool (nat_eq e.caller owner))

-- a call settles grants of its own caller alone
settles-own : (caller : ℕ) (call : Call) (reply : CallReply) (g : Grant) → settles_grant caller call reply g ≡ true → nat_eq caller g.caller ≡ true
settles-own caller (reservation window bound) (granted at) g is = absurd (cc)
settles-own caller (reservation window bound) (short left) g is = absurd (cc)
settles-own caller (reservation window bound) done g is = absurd (cc)
settles-own caller (settlement of window bound measured) (granted at) g is = absurd (cc)
settles-own caller (settlement of window bound measured) (short left) g is = absurd (cc)
settles-own caller (settlement of window bound measured) done g is =
    eq-eqb caller g.caller (sym (eqb-true g.caller caller (and_parts (nat_eq g.caller caller) (nat_eq g.number of) is).0))

pub is_settled-own : (h : List Entry) (g : Grant) → is_settled (entries_by g.caller h) g ≡ is_settled h g
is_settled-own h g =
    any-filter_same (λ (e : Entry). settles_grant e.caller e.call e.reply g) (λ (e : Entry). nat_eq e.caller g.caller) true (λ e is. settles-own e.caller e.call e.reply g is) h

filter-own : (owner : ℕ) (p q : Grant → Bool) → ((g : Grant) → g.caller ≡ owner → p g ≡ q g) → (gs : List Grant) → filter p (grants_by owner gs) ≡ grants_by owner (filter q gs)
filter-own owner p q same [] = refl
filter-own owner p q same (g ∷ gs) = by_tests (filter-own owner p q same gs) (nat_eq g.caller owner) (q g) refl refl
  where
    by_tests : filter p (grants_by owner gs) ≡ grants_by owner (filter q gs) → (a b : Bool) → nat_eq g.caller owner ≡ a → q g ≡ b → filter p (cond a (g ∷ grants_by owner gs) (grants_by owner gs)) ≡ grants_by owner (cond b (g ∷ filter q gs) (filter q gs))
    by_tests rest true true own passes =
        cond-true (p g) (g ∷ filter p (grants_by owner gs)) (filter p (grants_by owner gs)) (same g (eqb-true g.caller owner own) ∙ passes)
        ∙ (ap (λ l. g ∷ l) rest ∙ sym (cond-true (nat_eq g.caller owner) (g ∷ grants_by owner (filter q gs)) (grants_by owner (filter q gs)) own))
    by_tests rest true false own passes = cond-false (p g) (g ∷ filter p (grants_by owner gs)) (filter p (grants_by owner gs)) (same g (eqb-true g.caller owner own) ∙ passes) ∙ rest
    by_tests rest false true own passes = rest ∙ sym (cond-false (nat_eq g.caller owner) (g ∷ grants_by owner (filter q gs)) (grants_by owner (filter q gs)) own)
    by_tests rest false false own passes = rest

pub open_grants-own : (owner : ℕ) (h : List Entry) → open_grants (entries_by owner h) ≡ grants_by owner (open_grants h)
open_grants-own owner h =
    ap (λ gs. filter (λ g. not (is_settled (entries_by owner h) g)) gs) (grants_made-own owner h)
    ∙ filter-own owner (λ g. not (is_settled (entries_by owner h) g)) (λ g. not (is_settled h g))
    (λ g own. ap not (subst (λ c. is_settled (entries_by c h) g ≡ is_settled h g) own (is_settled-own h g))) (grants_made h)

open_grant-own : (owner number : ℕ) (gs : List Grant) → open_grant owner number (grants_by owner gs) ≡ open_grant owner number gs
open_grant-own owner number [] = refl
open_grant-own owner number (g ∷ gs) = ⊎_elim
    (λ (is : nat_eq g.caller owner ≡ true).
    ap (open_grant owner number) (cond-true (nat_eq g.caller owner) (g ∷ grants_by owner gs) (grants_by owner gs) is)
    ∙ ap (λ o. cond (is_grant owner number g) (Some g) o) (open_grant-own owner number gs))
    (λ (is : nat_eq g.caller owner ≡ false).
    ap (open_grant owner number) (cond-false (nat_eq g.caller owner) (g ∷ grants_by owner gs) (grants_by owner gs) is)
    ∙ (open_grant-own owner number gs ∙ sym (ap (λ t. cond (t && nat_eq g.number number) (Some g) (open_grant owner number gs)) is)))
    (cases_Bool (nat_eq g.caller owner))

-- what a caller's own entries leave open under a number is what the state has open there
pub own_grant : (limit : Limit) (h : List Entry) (owner number : ℕ) → IsLegal limit h → open_grant owner number (open_grants (entries_by owner h)) ≡ open_grant owner number (state_after limit h).grants
own_grant limit h owner number legal =
    ap (open_grant owner number) (open_grants-own owner h)
    ∙ (open_grant-own owner number (open_grants h) ∙ ap (open_grant owner number) (sym (in_order limit h legal).listed))

none_by_any : (gs : List Grant) → ((owner : ℕ) → grants_by owner gs ≡ []) → gs ≡ []
none_by_any [] none = refl
none_by_any (g ∷ gs) none =
    let mine = sym (cond-true (nat_eq g.caller g.caller) (g ∷ grants_by g.caller gs) (grants_by g.caller gs) (eq-eqb g.caller g.caller refl)) ∙ none g.caller in
    absurd (omega (arith, ap (λ (l : List Grant). length l) mine))

-- where no caller's own entries leave a grant open, none is
pub nothing_open : (limit : Limit) (h : List Entry) → IsLegal limit h → ((owner : ℕ) → open_grants (entries_by owner h) ≡ []) → (state_after limit h).grants ≡ []
nothing_open limit h legal none = (in_order limit h legal).listed ∙ none_by_any (open_grants h) (λ owner. sym (open_grants-own owner h) ∙ none owner)

-- ---- the numbers of a legal history's state

pub none_later-call : (limit : Limit) (s : State) (caller number : ℕ) (call : Call) (reply : CallReply) → IsReplied limit s caller call reply → NoneLater s.window s.grants
    → NoneLater (state_after_call limit s caller number call reply).window (state_after_call limit s caller number call reply).grants
none_later-call limit s caller number (reservation window bound) (granted at) is order =
    let standing = is.0 in
    none_later-push at s.grants (grant caller number at bound) (none_later-more s.window at s.grants (omega arith) order) (omega arith)
none_later-call limit s caller number (reservation window bound) (short left) is order = order
none_later-call limit s caller number (reservation window bound) done is order = absurd is
none_later-call limit s caller number (settlement of window bound measured) (granted at) is order = absurd is
none_later-call limit s caller number (settlement of window bound measured) (short left) is order = absurd is
none_later-call limit s caller number (settlement of window bound measured) done is order = none_later-without s.window caller of s.grants order

abbrev StateUpToDate : Limit → List Entry → Type 0
StateUpToDate limit h = NoneLater (state_after limit h).window (state_after limit h).grants

pub numbers_stand : (limit : Limit) (h : List Entry) → IsLegal limit h → StandsFor (account_of (state_after limit h)) (state_after limit h)
numbers_stand limit h legal = (
  refl,
  along (StateUpToDate limit) limit tt
      (λ h e next order. subst (λ (s : State). NoneLater s.window s.grants) (sym (state_after-push limit h e))
      (none_later-call limit (state_after limit h) e.caller e.number e.call e.reply next.0 order)) h legal,
)

pub numbers_within : (limit : Limit) (h : List Entry) → IsLegal limit h → KeepsLimit limit (account_of (state_after limit h))
numbers_within limit h legal = numbers_keep limit h (state_after limit h) (balanced_state limit h legal)

-- an account follows its history by one step
pub follows : (limit : Limit) (h : List Entry) (e : Entry) (a : Account) → IsLegal limit h → NumbersBelow e.number (entries_by e.caller h) → StepsTo limit (state_after limit h) e a
    → IsLegal limit (h ++ e ∷ []) × StandsFor a (state_after limit (h ++ e ∷ []))
follows limit h e a legal below step = (legal-push limit h e legal (step.0, below), subst (StandsFor a) (sym (state_after-push limit h e)) step.1)

-- an open grant isn't of a later window, and where it is of the account's, its bound is held
pub grant_is_held : (a : Account) (s : State) (g : Grant) → StandsFor a s → open_grant g.caller g.number s.grants ≡ Some g → (g.window ≤ a.window) × (g.window ≡ a.window → Within a.held g.bound)
grant_is_held a s g stands there =
    subst (λ (x : Account). (g.window ≤ x.window) × (g.window ≡ x.window → Within x.held g.bound)) (sym stands.0) (
      found-window s.window g.caller g.number g s.grants stands.1 there,
      λ same.
          let left = held_in s.window (grants_without g.caller g.number s.grants) in
          let sum : together left g.bound ≡ held_in s.window s.grants =
          ap (together left) (sym (counted_own s.window g.window g.bound same)) ∙ held_in-without s.window g.caller g.number g s.grants there in
          let types : left.types + g.bound.types ≡ (held_in s.window s.grants).types = types_of sum in
          let fields : left.fields + g.bound.fields ≡ (held_in s.window s.grants).fields = fields_of sum in
          record { types = omega arith; fields = omega arith },
    )

-- a granted reservation stands open among its caller's own entries
pub owed_when_granted : (limit : Limit) (h : List Entry) (caller number window at : ℕ) (bound : Cost) → IsLegal limit (h ++ entry caller number (reservation window bound) (granted at) ∷ [])
    → open_grant caller number (open_grants (entries_by caller (h ++ entry caller number (reservation window bound) (granted at) ∷ []))) ≡ Some (grant caller number at bound)
owed_when_granted limit h caller number window at bound legal =
    let e = entry caller number (reservation window bound) (granted at) in
    let g = grant caller number at bound in
    let next = legal h [] e refl in
    let free = (in_order limit h (legal-front limit (h ++ e ∷ []) h (e ∷ []) refl legal)).numbered g number next.1 (le_refl number) in
    own_grant limit (h ++ e ∷ []) caller number legal
    ∙ (ap (λ (s : State). open_grant caller number s.grants) (state_after-push limit h e)
    ∙ found_last caller number (state_after limit h).grants g free.0 (and_from (nat_eq caller caller) (nat_eq number number) (eq-eqb caller caller refl) (eq-eqb number number refl)))
