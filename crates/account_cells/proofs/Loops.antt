-- What a caller has learnt by looks alone, and what its one call adds.
use Rattle.std.proofs.Common.{◌≡◌, ℕ, ◌+◌, ◌≤◌, ◌<◌, List, [], ◌∷◌, ◌++◌, refl, sym, ap, ◌∙◌, subst, arith, append_assoc, le_trans, Some}
use Rattle.std.proofs.lemmas.List.{append-nil}
use Rattle.cost_num.specs.declared.Cost.{Cost}
use Rattle.account_core.specs.declared.Limit.{Limit}
use Rattle.account_core.specs.Machine.{Entry, entry, Call, reservation, CallReply, granted, short, grant, open_grant}
use Rattle.account_core.specs.Numbers.{KeepsLimit, reservation_reply}
use Rattle.account_core.specs.History.{NumbersBelow, StartsWith, entries_by}
use Rattle.account_core.specs.Sums.{open_grants}
use Rattle.account_core.proofs.Histories.{entries_by-append, entries_by-own}
use Rattle.account_core.proofs.Callers.{owed_when_granted}
use Rattle.account_cells.specs.Views.{View, having_seen}
use Rattle.account_cells.specs.Rule.{account_from}
use Rattle.account_cells.specs.Outcomes.{IsFor, IsNew, Owes, Finds, Looked, Called, OnlyLooks, RefusedOrLooked, LooksFor}

begins_further : (history middle front : List Entry) → StartsWith middle front → StartsWith history middle → StartsWith history front
begins_further history middle front a b = (a.0 ++ b.0, b.1 ∙ (ap (λ l. l ++ b.0) a.1 ∙ append_assoc front a.0 b.0))

finds_further : (v : View) (seen : List Entry) (words : List ℕ) (history : List Entry) → StartsWith seen v.seen → Finds (having_seen v seen v.own) words history → Finds v words history
finds_further v seen words history more found = record {
  begins = begins_further history seen v.seen more found.begins;
  same_words = found.same_words;
  all_own = found.all_own;
}

-- ---- a view that has only looked is as it was, but for what it has seen

pub looks_none : (v : View) → v.shown ≡ [] → OnlyLooks v v
looks_none v none = (([], sym (append-nil v.seen)), λ i. record v { shown = none i })

pub looks_for_same : (limit : Limit) (v u : View) → OnlyLooks v u → IsFor limit v → IsFor limit u
looks_for_same limit v u looks is = (ap (λ (y : View). y.live) looks.1 ∙ is.0, ap (λ (y : View). y.limit) looks.1 ∙ is.1, ap (λ (y : View). y.shown) looks.1)

pub looks_keep_new : (number : ℕ) (v u : View) → OnlyLooks v u → IsNew v number → IsNew u number
looks_keep_new number v u looks new = subst (λ (y : View). IsNew y number) (sym looks.1) new

pub looks_keep_owed : (of window : ℕ) (bound : Cost) (v u : View) → OnlyLooks v u → Owes v of window bound → Owes u of window bound
looks_keep_owed of window bound v u looks owes = subst (λ (y : View). Owes y of window bound) (sym looks.1) owes

-- one more look, and the call
pub looks_again : (v u w : View) (words : List ℕ) → OnlyLooks v u → Looked u words w → OnlyLooks v w
looks_again v u w words looks looked =
    let l = subst (λ (y : View). Looked y words w) looks.1 looked in
    let seen : w.seen ≡ l.0 = ap (λ (y : View). y.seen) l.3 in
    (subst (λ h. StartsWith h v.seen) (sym seen) (begins_further l.0 u.seen v.seen looks.0 l.1.begins), l.3 ∙ ap (λ h. having_seen v h v.own) (sym seen))

pub calls_after_looks : (v u w : View) (number : ℕ) (call : Call) (reply : CallReply) (words : List ℕ) → OnlyLooks v u → Called u (entry u.name number call reply) words w
    → Called v (entry v.name number call reply) words w
calls_after_looks v u w number call reply words looks called =
    let c = subst (λ (y : View). Called y (entry y.name number call reply) words w) looks.1 called in
    (c.0, finds_further v u.seen words c.0 looks.0 c.1, c.2, c.3, c.4)

-- ---- the look of a reservation

reply_for_same : (limit : Limit) (window : ℕ) (bound : Cost) (words : List ℕ) (reply : CallReply) (v u : View) → IsFor limit v → OnlyLooks v u → reservation_reply limit (account_from words) window bound ≡ reply
    → reservation_reply u.limit (account_from words) window bound ≡ reply
reply_for_same limit window bound words reply v u is looks replied =
    ap (λ l. reservation_reply l (account_from words) window bound) (looks_for_same limit v u looks is).1 ∙ replied

-- where it is covered
pub look_before_grant : (limit : Limit) (number window at : ℕ) (bound : Cost) (words : List ℕ) (v u w : View) → IsFor limit v → OnlyLooks v u → LooksFor number window bound u words words w
    → reservation_reply limit (account_from words) window bound ≡ granted at → OnlyLooks v w
look_before_grant limit number window at bound words v u w is looks look replied =
    looks_again v u w words looks (subst (RefusedOrLooked number window bound u words w) (reply_for_same limit window bound words (granted at) v u is looks replied) look.1)

-- where it is refused
pub look_refuses : (limit : Limit) (number window : ℕ) (bound left : Cost) (words : List ℕ) (v u w : View) → IsFor limit v → OnlyLooks v u → LooksFor number window bound u words words w
    → reservation_reply limit (account_from words) window bound ≡ short left → Called v (entry v.name number (reservation window bound) (short left)) words w
look_refuses limit number window bound left words v u w is looks look replied =
    calls_after_looks v u w number (reservation window bound) (short left) words looks
    (subst (RefusedOrLooked number window bound u words w) (reply_for_same limit window bound words (short left) v u is looks replied) look.1)

pub look_keeps_limit : (limit : Limit) (number window : ℕ) (bound : Cost) (words : List ℕ) (v u w : View) → IsFor limit v → OnlyLooks v u → LooksFor number window bound u words words w
    → KeepsLimit limit (account_from words)
look_keeps_limit limit number window bound words v u w is looks look = subst (λ l. KeepsLimit l (account_from words)) (looks_for_same limit v u looks is).1 look.0

-- ---- after a call

pub numbers_below-more : (low high : ℕ) (es : List Entry) → low ≤ high → NumbersBelow low es → NumbersBelow high es
numbers_below-more low high [] le below = tt
numbers_below-more low high (e ∷ es) le below = (le_trans below.0 le, numbers_below-more low high es le below.1)

numbers_below-last : (top : ℕ) (es : List Entry) (e : Entry) → NumbersBelow top es → e.number < top → NumbersBelow top (es ++ e ∷ [])
numbers_below-last top [] e below last = (last, tt)
numbers_below-last top (x ∷ xs) e below last = (below.0, numbers_below-last top xs e below.1 last)

-- the next number is new
pub next_is_new : (v w : View) (number : ℕ) (call : Call) (reply : CallReply) (words : List ℕ) → IsNew v number → Called v (entry v.name number call reply) words w → IsNew w (number + 1)
next_is_new v w number call reply words new called =
    let e = entry v.name number call reply in
    let own : w.own ≡ v.own ++ e ∷ [] = ap (λ (y : View). y.own) called.3 in
    subst (NumbersBelow (number + 1)) (sym own) (numbers_below-last (number + 1) v.own e (numbers_below-more number (number + 1) v.own (omega arith) new) (omega arith))

-- all own entries, with the one of the call
pub own_after : (v w : View) (number : ℕ) (call : Call) (reply : CallReply) (words : List ℕ) → (c : Called v (entry v.name number call reply) words w)
    → entries_by v.name (c.0 ++ entry v.name number call reply ∷ []) ≡ v.own ++ entry v.name number call reply ∷ []
own_after v w number call reply words c =
    let e = entry v.name number call reply in
    entries_by-append v.name c.0 (e ∷ []) ∙ (λ i. c.1.all_own i ++ entries_by-own v.name e [] refl i)

-- a granted reservation is owed
pub owed_after_grant : (v w : View) (number window at : ℕ) (bound : Cost) (words : List ℕ) → Called v (entry v.name number (reservation window bound) (granted at)) words w → Owes w number at bound
owed_after_grant v w number window at bound words c =
    subst (λ (y : View). Owes y number at bound) (sym c.3)
    (subst (λ es. open_grant v.name number (open_grants es) ≡ Some (grant v.name number at bound)) (own_after v w number (reservation window bound) (granted at) words c)
    (owed_when_granted v.limit c.0 v.name number window at bound c.2))
