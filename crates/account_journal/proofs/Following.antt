-- Accounts that follow entries follow one entry more.
use Rattle.std.proofs.Common.{◌≡◌, ◌≢◌, ⊎_elim, ℕ, suc, ◌+◌, ◌<◌, ◌≤◌, Bool, true, false, not, cond, ◌&&◌, nat_eq, filter, List, [], ◌∷◌, ◌++◌, length, get_or, set, Option, Some, None, refl, sym, ◌∙◌, ap, subst, arith, length-append}
use Rattle.std.proofs.lemmas.List.{append-nil, get_or-set_same, get_or-set_other, length-set}
use Rattle.std.proofs.lemmas.Bool.{cases_eq, cases_Bool, cond-true, cond-false, cond_both, and_parts, eqb-true}
use Rattle.std.specs.List.{AllByRecursion}
use Rattle.std.proofs.lemmas.Bool.Decides.{nat_tests}
use Rattle.cost_num.specs.declared.Cost.{Cost}
use Rattle.cost_num.specs.Within.{Within}
use Rattle.account_core.specs.declared.Limit.{Limit}
use Rattle.account_core.specs.declared.Account.{Account}
use Rattle.account_core.specs.Machine.{Grant, Entry, grant, is_grant, open_grant}
use Rattle.account_core.specs.History.{state_after, entries_by, grants_by, NumbersBelow, IsLegal}
use Rattle.account_core.specs.Numbers.{FollowsHistory, StandsFor, StepsTo, KeepsLimit}
use Rattle.account_core.specs.Sums.{open_grants}
use Rattle.std.proofs.lemmas.Option.{none-some}
use Rattle.account_core.proofs.GrantLists.{not_found, passed_over, found_first}
use Rattle.account_core.proofs.Histories.{entries_by-append, entries_by-own, entries_by-other}
use Rattle.account_core.proofs.OpenGrants.{open_grants-granted, open_grants-settled, in_order, new_number, IsApart}
use Rattle.account_core.proofs.Callers.{is_settled-own, open_grants-own, own_grant, owed_when_granted, follows, grant_is_held}
use Rattle.account_journal.specs.Histories.{AccountsFollow, AreSound, no_limit, no_account, grant_entry, settlement_entry}

abbrev StandsAt : Limit → Account → ℕ → List Entry → Type 0
StandsAt limit account client entries = FollowsHistory limit (entries_by client entries) account

more_below : (low high : ℕ) (es : List Entry) → low ≤ high → NumbersBelow low es → NumbersBelow high es
more_below low high [] le all = tt
more_below low high (e ∷ es) le all = (omega (arith, all.0), more_below low high es le all.1)

below_push : (top : ℕ) (es : List Entry) (e : Entry) → NumbersBelow top es → e.number < top → NumbersBelow top (es ++ e ∷ [])
below_push top [] e all lt = (lt, tt)
below_push top (x ∷ es) e all lt = (all.0, below_push top es e all.1 lt)

own_push : (client : ℕ) (es : List Entry) (e : Entry) → e.caller ≡ client → entries_by client (es ++ e ∷ []) ≡ entries_by client es ++ e ∷ []
own_push client es e is = entries_by-append client es (e ∷ []) ∙ ap (λ (l : List Entry). entries_by client es ++ l) (entries_by-own client e [] is)

other_push : (client : ℕ) (es : List Entry) (e : Entry) → (e.caller ≡ client → ⊥) → entries_by client (es ++ e ∷ []) ≡ entries_by client es
other_push client es e other = entries_by-append client es (e ∷ []) ∙ ap (λ (l : List Entry). entries_by client es ++ l) (entries_by-other client e [] other) ∙ append-nil (entries_by client es)

own_twice : (client : ℕ) (es : List Entry) → entries_by client (entries_by client es) ≡ entries_by client es
own_twice client [] = refl
own_twice client (e ∷ es) = ⊎_elim
    (λ (is : e.caller ≡ client). ap (entries_by client) (entries_by-own client e es is) ∙ entries_by-own client e (entries_by client es) is ∙ ap (λ (l : List Entry). e ∷ l) (own_twice client es) ∙ sym (entries_by-own client e es is))
    (λ (other : e.caller ≢ client). ap (entries_by client) (entries_by-other client e es other) ∙ own_twice client es ∙ sym (entries_by-other client e es other))
    (cases_eq e.caller client)

abbrev AreKnown : ℕ → List Grant → Type 0
AreKnown count gs = AllByRecursion (λ g. g.caller < count) gs

known_push : (count : ℕ) (gs : List Grant) (g : Grant) → AreKnown count gs → g.caller < count → AreKnown count (gs ++ g ∷ [])
known_push count [] g all lt = (lt, tt)
known_push count (x ∷ gs) g all lt = (all.0, known_push count gs g all.1 lt)

known_filter : (count : ℕ) (p : Grant → Bool) (gs : List Grant) → AreKnown count gs → AreKnown count (filter p gs)
known_filter count p [] all = tt
known_filter count p (g ∷ gs) all = cond_both (p g) (g ∷ filter p gs) (filter p gs) (AreKnown count) (λ _. (all.0, known_filter count p gs all.1)) (λ _. known_filter count p gs all.1)

module _ (limits : List Limit) (accounts : List Account) (used opened : ℕ) (entries : List Entry) (stands : AccountsFollow limits accounts used opened entries) (e : Entry) (new : Account)
    (there : e.caller < length limits) (clients : length accounts ≡ length limits) (number : e.number ≡ used)
    (step : StepsTo (get_or limits e.caller no_limit) (state_after (get_or limits e.caller no_limit) (entries_by e.caller entries)) e new) where
  pub each_more : (k : ℕ) → k < length limits → StandsAt (get_or limits k no_limit) (get_or (set accounts e.caller new) k no_account) k (entries ++ e ∷ [])
  each_more k lt = ⊎_elim
      (λ (is : e.caller ≡ k).
      subst (λ (c : ℕ). StandsAt (get_or limits c no_limit) (get_or (set accounts e.caller new) c no_account) c (entries ++ e ∷ [])) is
      (subst (λ (a : Account). StandsAt (get_or limits e.caller no_limit) a e.caller (entries ++ e ∷ [])) (sym (get_or-set_same accounts e.caller new no_account (omega (arith, there, clients))))
      (subst (λ (l : List Entry). IsLegal (get_or limits e.caller no_limit) l × StandsFor new (state_after (get_or limits e.caller no_limit) l)) (sym (own_push e.caller entries e refl))
      (follows (get_or limits e.caller no_limit) (entries_by e.caller entries) e new (stands.each e.caller there).0
      (subst (λ (l : List Entry). NumbersBelow e.number l) (sym (own_twice e.caller entries)) (subst (λ (n : ℕ). NumbersBelow n (entries_by e.caller entries)) (sym number) (stands.below e.caller))) step))))
      (λ (other : e.caller ≢ k).
      subst (λ (a : Account). StandsAt (get_or limits k no_limit) a k (entries ++ e ∷ [])) (sym (get_or-set_other accounts e.caller k new no_account (λ same. other (sym same))))
      (subst (λ (l : List Entry). IsLegal (get_or limits k no_limit) l × StandsFor (get_or accounts k no_account) (state_after (get_or limits k no_limit) l)) (sym (other_push k entries e other)) (stands.each k lt)))
      (cases_eq e.caller k)

  pub below_more : (k : ℕ) → NumbersBelow (used + 1) (entries_by k (entries ++ e ∷ []))
  below_more k = ⊎_elim
      (λ (is : e.caller ≡ k). subst (NumbersBelow (used + 1)) (sym (own_push k entries e is)) (below_push (used + 1) (entries_by k entries) e (more_below used (used + 1) (entries_by k entries) (omega arith) (stands.below k)) (omega (arith, number))))
      (λ (other : e.caller ≢ k). subst (NumbersBelow (used + 1)) (sym (other_push k entries e other)) (more_below used (used + 1) (entries_by k entries) (omega arith) (stands.below k)))
      (cases_eq e.caller k)

pub stands_grant : (limits : List Limit) (accounts : List Account) (used opened : ℕ) (entries : List Entry) → AccountsFollow limits accounts used opened entries → (client window : ℕ) (bound : Cost) (new : Account)
    → client < length limits → length accounts ≡ length limits
    → StepsTo (get_or limits client no_limit) (state_after (get_or limits client no_limit) (entries_by client entries)) (grant_entry client used window bound) new
    → AccountsFollow limits (set accounts client new) (used + 1) (opened + 1) (entries ++ grant_entry client used window bound ∷ [])
stands_grant limits accounts used opened entries stands client window bound new there clients step = record {
  each = each_more limits accounts used opened entries stands (grant_entry client used window bound) new there clients refl step;
  below = below_more limits accounts used opened entries stands (grant_entry client used window bound) new there clients refl step;
  known =
      let free = sym (is_settled-own entries (grant client used window bound)) ∙ new_number (get_or limits client no_limit) (entries_by client entries) (grant client used window bound) (stands.each client there).0
      (subst (NumbersBelow used) (sym (own_twice client entries)) (stands.below client)) in
      subst (AreKnown (length limits)) (sym (open_grants-granted entries client used window window bound free)) (known_push (length limits) (open_grants entries) (grant client used window bound) stands.known there);
  counted =
      let free = sym (is_settled-own entries (grant client used window bound)) ∙ new_number (get_or limits client no_limit) (entries_by client entries) (grant client used window bound) (stands.each client there).0
      (subst (NumbersBelow used) (sym (own_twice client entries)) (stands.below client)) in
      omega (arith, stands.counted, ap length (open_grants-granted entries client used window window bound free), length-append (open_grants entries) (grant client used window bound ∷ []));
}

len_split : (p : Grant → Bool) (gs : List Grant) → length (filter p gs) + length (filter (λ g. not (p g)) gs) ≡ length gs
len_split p [] = omega arith
len_split p (g ∷ gs) = by_test (p g) (len_split p gs)
  where
    by_test : (t : Bool) → length (filter p gs) + length (filter (λ g. not (p g)) gs) ≡ length gs
        → length (cond t (g ∷ filter p gs) (filter p gs)) + length (cond (not t) (g ∷ filter (λ g. not (p g)) gs) (filter (λ g. not (p g)) gs)) ≡ suc (length gs)
    by_test true is = omega (arith, is)
    by_test false is = omega (arith, is)

none_is : (caller number : ℕ) (gs : List Grant) → open_grant caller number gs ≡ None → filter (is_grant caller number) gs ≡ []
none_is caller number [] none = refl
none_is caller number (g ∷ gs) none =
    let p = not_found caller number g gs none in
    cond-false (is_grant caller number g) (g ∷ filter (is_grant caller number) gs) (filter (is_grant caller number) gs) p.0 ∙ none_is caller number gs p.1

one_is : (caller number : ℕ) (g : Grant) (gs : List Grant) → IsApart gs → open_grant caller number gs ≡ Some g → length (filter (is_grant caller number) gs) ≡ 1
one_is caller number g [] apart there = absurd (none-some g there)
one_is caller number g (x ∷ xs) apart there = ⊎_elim
    (λ (is : is_grant caller number x ≡ true).
    let q = and_parts (nat_eq x.caller caller) (nat_eq x.number number) is in
    let none : open_grant caller number xs ≡ None =
    subst (λ n. open_grant caller n xs ≡ None) (eqb-true x.number number q.1) (subst (λ c. open_grant c x.number xs ≡ None) (eqb-true x.caller caller q.0) apart.0) in
    ap length (cond-true (is_grant caller number x) (x ∷ filter (is_grant caller number) xs) (filter (is_grant caller number) xs) is ∙ ap (λ (l : List Grant). x ∷ l) (none_is caller number xs none)))
    (λ (is : is_grant caller number x ≡ false).
    ap length (cond-false (is_grant caller number x) (x ∷ filter (is_grant caller number) xs) (filter (is_grant caller number) xs) is)
    ∙ one_is caller number g xs apart.1 (sym (passed_over caller number x xs is) ∙ there))
    (cases_Bool (is_grant caller number x))

same_own : (caller number : ℕ) (gs : List Grant) → filter (is_grant caller number) (grants_by caller gs) ≡ filter (is_grant caller number) gs
same_own caller number [] = refl
same_own caller number (g ∷ gs) = by_test (same_own caller number gs) (nat_eq g.caller caller) refl
  where
    by_test : filter (is_grant caller number) (grants_by caller gs) ≡ filter (is_grant caller number) gs → (t : Bool) → nat_eq g.caller caller ≡ t → filter (is_grant caller number) (cond t (g ∷ grants_by caller gs) (grants_by caller gs)) ≡ filter (is_grant caller number) (g ∷ gs)
    by_test rest true is = ap (λ (l : List Grant). cond (is_grant caller number g) (g ∷ l) l) rest
    by_test rest false is = rest ∙ sym (cond-false (is_grant caller number g) (g ∷ filter (is_grant caller number) gs) (filter (is_grant caller number) gs) (ap (λ (b : Bool). b && nat_eq g.number number) is))

same_open : (caller number : ℕ) (gs : List Grant) → open_grant caller number (grants_by caller gs) ≡ open_grant caller number gs
same_open caller number [] = refl
same_open caller number (g ∷ gs) = by_test (same_open caller number gs) (nat_eq g.caller caller) refl
  where
    by_test : open_grant caller number (grants_by caller gs) ≡ open_grant caller number gs → (t : Bool) → nat_eq g.caller caller ≡ t → open_grant caller number (cond t (g ∷ grants_by caller gs) (grants_by caller gs)) ≡ open_grant caller number (g ∷ gs)
    by_test rest true is = ap (λ (o : Option Grant). cond (is_grant caller number g) (Some g) o) rest
    by_test rest false is = rest ∙ sym (passed_over caller number g gs (ap (λ (b : Bool). b && nat_eq g.number number) is))

-- a client's state has the grants open that the entries of all clients leave open
pub state_open : (limit : Limit) (client number : ℕ) (entries : List Entry) → IsLegal limit (entries_by client entries)
    → open_grant client number (state_after limit (entries_by client entries)).grants ≡ open_grant client number (open_grants entries)
state_open limit client number entries legal =
    ap (open_grant client number) ((in_order limit (entries_by client entries) legal).listed ∙ open_grants-own client entries) ∙ same_open client number (open_grants entries)

pub stands_settled : (limits : List Limit) (accounts : List Account) (used opened : ℕ) (entries : List Entry) → AccountsFollow limits accounts used opened entries → (g : Grant) (measured : Cost) (new : Account)
    → g.caller < length limits → length accounts ≡ length limits → open_grant g.caller g.number (open_grants entries) ≡ Some g
    → StepsTo (get_or limits g.caller no_limit) (state_after (get_or limits g.caller no_limit) (entries_by g.caller entries)) (settlement_entry used g measured) new
    → (left : ℕ) → left + 1 ≡ opened → AccountsFollow limits (set accounts g.caller new) (used + 1) left (entries ++ settlement_entry used g measured ∷ [])
stands_settled limits accounts used opened entries stands g measured new there clients is_open step left less = record {
  each = each_more limits accounts used opened entries stands (settlement_entry used g measured) new there clients refl step;
  below = below_more limits accounts used opened entries stands (settlement_entry used g measured) new there clients refl step;
  known = subst (AreKnown (length limits)) (sym (open_grants-settled entries g.caller used g.number g.window g.bound measured)) (known_filter (length limits) (λ x. not (is_grant g.caller g.number x)) (open_grants entries) stands.known);
  counted =
      let order = in_order (get_or limits g.caller no_limit) (entries_by g.caller entries) (stands.each g.caller there).0 in
      let one = one_is g.caller g.number g (state_after (get_or limits g.caller no_limit) (entries_by g.caller entries)).grants order.apart (state_open (get_or limits g.caller no_limit) g.caller g.number entries (stands.each g.caller there).0 ∙ is_open) in
      let same = ap (λ (l : List Grant). length (filter (is_grant g.caller g.number) l)) (order.listed ∙ open_grants-own g.caller entries) ∙ ap length (same_own g.caller g.number (open_grants entries)) in
      omega (arith, less, stands.counted, one, same, ap length (open_grants-settled entries g.caller used g.number g.window g.bound measured), len_split (is_grant g.caller g.number) (open_grants entries));
}

pub stands_at : (limits limits2 : List Limit) (accounts accounts2 : List Account) (used used2 opened opened2 : ℕ) (entries : List Entry) → limits2 ≡ limits → accounts2 ≡ accounts → used2 ≡ used → opened2 ≡ opened
    → AccountsFollow limits accounts used opened entries → AccountsFollow limits2 accounts2 used2 opened2 entries
stands_at limits limits2 accounts accounts2 used used2 opened opened2 entries l a u o s =
    subst (λ (x : List Limit). AccountsFollow x accounts2 used2 opened2 entries) (sym l) (subst (λ (x : List Account). AccountsFollow limits x used2 opened2 entries) (sym a)
    (subst (λ (x : ℕ). AccountsFollow limits accounts x opened2 entries) (sym u) (subst (λ (x : ℕ). AccountsFollow limits accounts used x entries) (sym o) s)))

-- the numbers stay sound where one account changes to one that keeps its limit
pub sound_set : (limits : List Limit) (accounts accounts2 : List Account) (used used2 opened opened2 : ℕ) (client : ℕ) (new : Account) → AreSound limits accounts used opened → client < length limits → accounts2 ≡ set accounts client new
    → KeepsLimit (get_or limits client no_limit) new → used2 + opened2 ≤ 4194304 → AreSound limits accounts2 used2 opened2
sound_set limits accounts accounts2 used used2 opened opened2 client new sound there is keeps room = record {
  clients = ap length is ∙ length-set accounts client new ∙ sound.clients;
  limits_are = sound.limits_are;
  keep = λ k lt. subst (λ (l : List Account). KeepsLimit (get_or limits k no_limit) (get_or l k no_account)) (sym is) (⊎_elim
      (λ (same : k ≡ client). subst (λ (c : ℕ). KeepsLimit (get_or limits c no_limit) (get_or (set accounts client new) c no_account)) (sym same)
      (subst (λ (a : Account). KeepsLimit (get_or limits client no_limit) a) (sym (get_or-set_same accounts client new no_account (omega (arith, there, sound.clients)))) keeps))
      (λ (other : k ≢ client). subst (λ (a : Account). KeepsLimit (get_or limits k no_limit) a) (sym (get_or-set_other accounts client k new no_account other)) (sound.keep k lt))
      (cases_eq k client));
  room = room;
}

none_left : (p : Grant → Bool) (gs : List Grant) → length (filter p gs) ≡ 0 → filter (λ g. not (p g)) gs ≡ gs
none_left p [] none = refl
none_left p (g ∷ gs) none = by_test (p g) none (none_left p gs)
  where
    by_test : (t : Bool) → length (cond t (g ∷ filter p gs) (filter p gs)) ≡ 0 → (length (filter p gs) ≡ 0 → filter (λ x. not (p x)) gs ≡ gs)
        → cond (not t) (g ∷ filter (λ x. not (p x)) gs) (filter (λ x. not (p x)) gs) ≡ g ∷ gs
    by_test true none rest = absurd (omega (arith, none))
    by_test false none rest = ap (λ (l : List Grant). g ∷ l) (rest none)

-- once the first open grant is settled, the others are open
pub first_settled : (limits : List Limit) (accounts : List Account) (used opened : ℕ) (entries : List Entry) → AccountsFollow limits accounts used opened entries → (g : Grant) (gs : List Grant) (slot : ℕ) (measured : Cost)
    → open_grants entries ≡ g ∷ gs → open_grants (entries ++ settlement_entry slot g measured ∷ []) ≡ gs
first_settled limits accounts used opened entries stands g gs slot measured are =
    let mine : is_grant g.caller g.number g ≡ true = grind (arith, nat_tests) in
    let there : g.caller < length limits = (subst (AreKnown (length limits)) are stands.known).0 in
    let order = in_order (get_or limits g.caller no_limit) (entries_by g.caller entries) (stands.each g.caller there).0 in
    let found : open_grant g.caller g.number (open_grants entries) ≡ Some g = ap (open_grant g.caller g.number) are ∙ found_first g.caller g.number g gs mine in
    let one = one_is g.caller g.number g (state_after (get_or limits g.caller no_limit) (entries_by g.caller entries)).grants order.apart (state_open (get_or limits g.caller no_limit) g.caller g.number entries (stands.each g.caller there).0 ∙ found) in
    let same = ap (λ (l : List Grant). length (filter (is_grant g.caller g.number) l)) (order.listed ∙ open_grants-own g.caller entries) ∙ ap length (same_own g.caller g.number (open_grants entries)) in
    let whole = ap (λ (l : List Grant). length (filter (is_grant g.caller g.number) l)) are ∙ ap length (cond-true (is_grant g.caller g.number g) (g ∷ filter (is_grant g.caller g.number) gs) (filter (is_grant g.caller g.number) gs) mine) in
    let none : length (filter (is_grant g.caller g.number) gs) ≡ 0 = omega (arith, one, same, whole) in
    open_grants-settled entries g.caller slot g.number g.window g.bound measured
    ∙ ap (filter (λ x. not (is_grant g.caller g.number x))) are
    ∙ cond-false (not (is_grant g.caller g.number g)) (g ∷ filter (λ x. not (is_grant g.caller g.number x)) gs) (filter (λ x. not (is_grant g.caller g.number x)) gs) (ap not mine)
    ∙ none_left (is_grant g.caller g.number) gs none

pub first_found : (g : Grant) (gs : List Grant) → open_grant g.caller g.number (g ∷ gs) ≡ Some g
first_found g gs =
    let mine : is_grant g.caller g.number g ≡ true = grind (arith, nat_tests) in
    found_first g.caller g.number g gs mine

-- the account of the first open grant's client holds its bound
pub is_held : (limits : List Limit) (accounts : List Account) (used opened : ℕ) (entries : List Entry) → AccountsFollow limits accounts used opened entries → (g : Grant) (gs : List Grant) → open_grants entries ≡ g ∷ gs
    → (g.caller < length limits) × (g.window ≤ (get_or accounts g.caller no_account).window) × (g.window ≡ (get_or accounts g.caller no_account).window → Within (get_or accounts g.caller no_account).held g.bound)
is_held limits accounts used opened entries stands g gs are =
    let there : g.caller < length limits = (subst (AreKnown (length limits)) are stands.known).0 in
    let each = stands.each g.caller there in
    let limit = get_or limits g.caller no_limit in
    let held = grant_is_held (get_or accounts g.caller no_account) (state_after limit (entries_by g.caller entries)) g each.1 (state_open limit g.caller g.number entries each.0 ∙ (ap (open_grant g.caller g.number) are ∙ first_found g gs)) in
    (there, held.0, held.1)

pub opens_more : (limits : List Limit) (accounts : List Account) (used opened : ℕ) (entries : List Entry) → AccountsFollow limits accounts used opened entries → (client window : ℕ) (bound : Cost) → client < length limits
    → open_grants (entries ++ grant_entry client used window bound ∷ []) ≡ open_grants entries ++ grant client used window bound ∷ []
opens_more limits accounts used opened entries stands client window bound there =
    let free = sym (is_settled-own entries (grant client used window bound)) ∙ new_number (get_or limits client no_limit) (entries_by client entries) (grant client used window bound) (stands.each client there).0
    (subst (NumbersBelow used) (sym (own_twice client entries)) (stands.below client)) in
    open_grants-granted entries client used window window bound free

-- a slot without an entry
pub stands_past : (limits : List Limit) (accounts : List Account) (used used2 opened : ℕ) (entries : List Entry) → used ≤ used2 → AccountsFollow limits accounts used opened entries → AccountsFollow limits accounts used2 opened entries
stands_past limits accounts used used2 opened entries le stands = record {
  each = stands.each;
  below = λ k. more_below used used2 (entries_by k entries) le (stands.below k);
  counted = stands.counted;
  known = stands.known;
}

-- the account of any open grant's client holds its bound
pub held_open : (limits : List Limit) (accounts : List Account) (used opened : ℕ) (entries : List Entry) → AccountsFollow limits accounts used opened entries → (g : Grant) → g.caller < length limits → open_grant g.caller g.number (open_grants entries) ≡ Some g
    → (g.window ≤ (get_or accounts g.caller no_account).window) × (g.window ≡ (get_or accounts g.caller no_account).window → Within (get_or accounts g.caller no_account).held g.bound)
held_open limits accounts used opened entries stands g there is_open =
    let each = stands.each g.caller there in
    let limit = get_or limits g.caller no_limit in
    grant_is_held (get_or accounts g.caller no_account) (state_after limit (entries_by g.caller entries)) g each.1 (state_open limit g.caller g.number entries each.0 ∙ is_open)

-- a grant is open once it is made
pub grant_opens : (limits : List Limit) (accounts : List Account) (used used2 opened : ℕ) (entries : List Entry) (client window : ℕ) (bound : Cost) → AccountsFollow limits accounts used2 opened (entries ++ grant_entry client used window bound ∷ [])
    → client < length limits → open_grant client used (open_grants (entries ++ grant_entry client used window bound ∷ [])) ≡ Some (grant client used window bound)
grant_opens limits accounts used used2 opened entries client window bound stands there =
    let e = grant_entry client used window bound in
    let limit = get_or limits client no_limit in
    let own = own_push client entries e refl in
    let legal = (stands.each client there).0 in
    let alone = subst (IsLegal limit) own legal in
    sym (state_open limit client used (entries ++ e ∷ []) legal)
    ∙ ap (λ (l : List Entry). open_grant client used (state_after limit l).grants) own
    ∙ sym (own_grant limit (entries_by client entries ++ e ∷ []) client used alone)
    ∙ owed_when_granted limit (entries_by client entries) client used window window bound alone

-- an open grant is counted
pub some_opened : (limits : List Limit) (accounts : List Account) (used opened : ℕ) (entries : List Entry) → AccountsFollow limits accounts used opened entries → (g : Grant) → open_grant g.caller g.number (open_grants entries) ≡ Some g → 0 < opened
some_opened limits accounts used opened entries stands g is_open = omega (arith, stands.counted, not_empty (open_grants entries) is_open)
  where
    not_empty : (gs : List Grant) → open_grant g.caller g.number gs ≡ Some g → 0 < length gs
    not_empty [] there = absurd (none-some g there)
    not_empty (x ∷ xs) there = omega arith
