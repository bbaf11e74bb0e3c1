-- Looks, reservations and settlements keep the rule.
use Rattle.std.proofs.Common.{◌≡◌, ◌≢◌, ◌⊎◌, ℕ, ◌≤◌, ◌<◌, List, [], ◌∷◌, ◌++◌, set, true, false, true≢false, refl, sym, ap, ◌∙◌, subst, ⊎_elim, inl, inr, arith, append_assoc, nat_eq, if◌then◌else◌, zero-le, Some}
use Rattle.std.proofs.lemmas.List.{append-nil}
use Rattle.std.proofs.lemmas.Bool.{cases_Bool, eqb-true, eqb-false}
use mathlib.Core.Option.{some-injective}
use lib.ListN.{get_elem?}
use lib.Pointwise.{pointwise, bytes_decides}
use Rattle.cost_num.proofs.Costs.{cost_eq}
use Rattle.crossbeam_utils.specs.Register.{Turns}
use Rattle.atomic_table.proofs.Lists.{at_set, set_else}
use Rattle.cost_num.specs.declared.Cost.{Cost}
use Rattle.account_core.specs.declared.Account.{Account}
use Rattle.account_core.specs.Costs.{nothing, together, remaining}
use Rattle.cost_num.specs.Within.{Within}
use Rattle.account_core.specs.Machine.{State, Entry, entry, Call, reservation, settlement, CallReply, granted, short, done, grant, open_grant, account_of, IsReplied, state_after_call}
use Rattle.account_core.specs.Numbers.{reservation_reply, reserved_account, settled_account, KeepsLimit}
use Rattle.account_core.specs.History.{state_after, entries_by, NumbersBelow, IsNext, StartsWith, IsLegal}
use Rattle.account_core.specs.Sums.{open_grants}
use Rattle.account_core.proofs.CostSums.{counted_elsewhere, together-nothing}
use Rattle.account_core.proofs.Histories.{legal-push, state_after-push, entries_by-append, entries_by-own, entries_by-other}
use Rattle.account_core.proofs.NumberSteps.{reserves as reserves_on, settles_open}
use Rattle.account_core.proofs.Callers.{numbers_stand, numbers_within, grant_is_held, own_grant}
use Rattle.account_cells.specs.Views.{View, EndedCaller, having_seen}
use Rattle.account_cells.specs.Rule.{words_of, account_from, IsAt, FitsHistory, KeepsEnded, IsFounder, HasFirst, HasUnset, HasWhole, KeepsRule}
use Rattle.account_cells.specs.Outcomes.{KnowsCallers, SeesEnded, Looked, Called, RefusedOrLooked, LooksFor, Exchanges, SettlesLate, Owes, IsNew}
use Rattle.account_cells.proofs.Places.{at_set_here, NamesStay, free_before, names_after, names_before}
use Rattle.account_cells.proofs.Beginnings.{none_in_beginning}
use Rattle.account_cells.proofs.Names.{ended_stay, live_not_ended, live_not_past, founder_steps, founder_stays}

-- beside a live view the first one is live
pub first_is_there : (x : List ℕ) (views : List View) (pass : ℕ) (v : View) → KeepsRule x views → IsAt views pass v → v.live ≡ true → HasFirst views
first_is_there x views pass v k at live = ⊎_elim (λ (u : HasUnset views). absurd ((k.blank u.0 u.1 u.2 u.3).1 pass v at live)) (λ (f : HasFirst views). f) k.has_first

-- and one has seen the whole history
pub whole_is_there : (x : List ℕ) (views : List View) (pass : ℕ) (v : View) → (k : KeepsRule x views) → IsAt views pass v → v.live ≡ true → HasWhole k.history views
whole_is_there x views pass v k at live = ⊎_elim (λ (u : HasUnset views). absurd ((k.blank u.0 u.1 u.2 u.3).1 pass v at live)) (λ (f : HasWhole k.history views). f) k.has_whole

-- it still has, once a view is replaced by one that has seen as much
pub whole_after : (views : List View) (pass : ℕ) (v w : View) (history : List Entry) → IsAt views pass v → w.live ≡ true → (v.seen ≡ history → w.seen ≡ history) → HasWhole history views → HasWhole history (set views pass w)
whole_after views pass v w history at live same f = ⊎_elim
    (λ (e : nat_eq f.0 pass ≡ true).
    let is = eqb-true f.0 pass e in
    let same_view : v ≡ f.1 = some-injective v f.1 (sym at ∙ (ap (λ j. get_elem? views j) (sym is) ∙ f.2)) in
    (pass, w, at_set_here views pass v w at, live, same (ap (λ (z : View). z.seen) same_view ∙ f.4)))
    (λ (e : nat_eq f.0 pass ≡ false). (f.0, f.1, set_else views pass f.0 w (eqb-false f.0 pass e) ∙ f.2, f.3, f.4))
    (cases_Bool (nat_eq f.0 pass))

pub first_after : (views more : List View) → NamesStay views more → HasFirst views → HasFirst more
first_after views more forth f = let s = forth f.0 f.1 f.2 f.3 in (s.0, s.1, s.2, s.3, s.4 ∙ f.4)

-- a live view is not unset
pub live_is_set : (x : List ℕ) (views : List View) (pass : ℕ) (v : View) → KeepsRule x views → IsAt views pass v → v.live ≡ true → v.unset ≡ false
live_is_set x views pass v k at live = ⊎_elim (λ (is : v.unset ≡ true). absurd ((k.blank pass v at is).1 pass v at live)) (λ (is : v.unset ≡ false). is) (cases_Bool v.unset)

-- One live view steps: it has seen this much of a longer history, in which the other names have made no entry.
module _ (x y : List ℕ) (views : List View) (pass : ℕ) (v : View) (k : KeepsRule x views) (at : IsAt views pass v) (live : v.live ≡ true)
    (history : List Entry) (more : StartsWith history k.history) (others : (n : ℕ) → (n ≡ v.name → ⊥) → entries_by n history ≡ entries_by n k.history) (seen own : List Entry) where
  begins_on : (xs : List Entry) → StartsWith k.history xs → StartsWith history xs
  begins_on xs b = (b.0 ++ more.0, more.1 ∙ (ap (λ l. l ++ more.0) b.1 ∙ append_assoc xs b.0 more.0))

  others_fit : (j : ℕ) (u : View) → j ≢ pass → IsAt views j u → u.live ≡ true → FitsHistory k.limit history u
  others_fit j u away there is_live =
      let f = k.each j u there is_live in
      let apart : u.name ≡ v.name → ⊥ = λ same. away (k.apart j pass u v there at is_live live same) in
      record {
        same_limit = f.same_limit;
        begins = begins_on u.seen f.begins;
        all_own = others u.name apart ∙ f.all_own;
        own_seen = f.own_seen;
        shown_begins = begins_on u.shown f.shown_begins;
        shown_shorter = f.shown_shorter;
      }

  pub one_goes_on : IsLegal k.limit history → y ≡ words_of (account_of (state_after k.limit history)) → FitsHistory k.limit history (having_seen v seen own) → (seen ≡ history) ⊎ ((v.seen ≡ k.history → seen ≡ history) × (k.history ≡ history))
      → ((n : ℕ) (mine : List Entry) → (n ≡ v.name → ⊥) → entries_by n k.history ≡ mine → entries_by n v.seen ≡ mine → entries_by n seen ≡ mine) → KeepsRule y (set views pass (having_seen v seen own))
  one_goes_on legal words_are fits reach ended = record {
    limit = k.limit;
    history = history;
    legal = legal;
    same_words = words_are;
    each = λ i u there. ⊎_elim (λ (t : (i ≡ pass) × (having_seen v seen own ≡ u)). subst (λ (z : View). z.live ≡ true → FitsHistory k.limit history z) t.1 (λ _. fits))
        (λ (t : (i ≢ pass) × IsAt views i u). others_fit i u t.0 t.1) (at_set views pass i (having_seen v seen own) u there);
    first = λ i u there is_live zeroth. founder_now i u there is_live zeroth;
    has_first = inr (first_after views (set views pass (having_seen v seen own)) (names_after views pass v (having_seen v seen own) at live refl) (first_is_there x views pass v k at live));
    has_whole = inr (⊎_elim
        (λ (all : seen ≡ history). (pass, having_seen v seen own, at_set_here views pass v (having_seen v seen own) at, live, all))
        (λ (as_before : (v.seen ≡ k.history → seen ≡ history) × (k.history ≡ history)).
        subst (λ l. HasWhole l (set views pass (having_seen v seen own))) as_before.1
        (whole_after views pass v (having_seen v seen own) k.history at live (λ was. as_before.0 was ∙ sym as_before.1) (whole_is_there x views pass v k at live)))
        reach);
    apart = λ i j u z there here a b same.
        let p = old i u there in let q = old j z here in
        k.apart i j p.0 q.0 p.1 q.1 (p.2 a) (q.2 b) (sym p.3 ∙ (same ∙ q.3));
    owned = λ c free.
        let was = free_before views (set views pass (having_seen v seen own)) c (names_after views pass v (having_seen v seen own) at live refl) free in
        ap open_grants (others c (λ same. was pass v at live (sym same))) ∙ k.owned c was;
    blank = λ i u there is. absurd (none_unset i u there is);
  }
    where
      none_unset : (i : ℕ) (u : View) → IsAt (set views pass (having_seen v seen own)) i u → u.unset ≡ true → ⊥
      none_unset i u there is = ⊎_elim (λ (t : (i ≡ pass) × (having_seen v seen own ≡ u)). true≢false (sym (subst (λ (z : View). z.unset ≡ true) (sym t.1) is) ∙ live_is_set x views pass v k at live))
          (λ (t : (i ≢ pass) × IsAt views i u). (k.blank i u t.1 is).1 pass v at live) (at_set views pass i (having_seen v seen own) u there)

      old : (i : ℕ) (u : View) → IsAt (set views pass (having_seen v seen own)) i u → (z : View) × IsAt views i z × (u.live ≡ true → z.live ≡ true) × (u.name ≡ z.name)
      old i u there = ⊎_elim
          (λ (t : (i ≡ pass) × (having_seen v seen own ≡ u)). (v, subst (λ (n : ℕ). IsAt views n v) (sym t.0) at, (λ _. live), ap (λ (z : View). z.name) (sym t.1)))
          (λ (t : (i ≢ pass) × IsAt views i u). (u, t.1, (λ h. h), refl))
          (at_set views pass i (having_seen v seen own) u there)

      callers : (i : ℕ) (u : View) → IsFounder k.history views u → (n : ℕ) → u.splits < n → entries_by n history ≡ []
      callers i u f n past = others n (live_not_past k.history views u f pass v at live n past) ∙ f.callers n past

      founder_now : (i : ℕ) (u : View) → IsAt (set views pass (having_seen v seen own)) i u → u.live ≡ true → u.name ≡ 0 → IsFounder history (set views pass (having_seen v seen own)) u
      founder_now i u there is_live zeroth =
          let w = having_seen v seen own in
          let forth = names_after views pass v w at live refl in
          let back = names_before views pass v w at live refl in ⊎_elim
          (λ (t : (i ≡ pass) × (w ≡ u)).
          let zero_name : v.name ≡ 0 = ap (λ (z : View). z.name) t.1 ∙ zeroth in
          let f = k.first pass v at live zero_name in
          subst (IsFounder history (set views pass w)) t.1
          (founder_steps k.history history views (set views pass w) v seen own forth back (callers pass v f)
          (ended_stay k.history history v.seen seen v.name (λ n away. sym (others n away)) ended v.ended (live_not_ended k.history views v f pass v at live) f.ended) f))
          (λ (t : (i ≢ pass) × IsAt views i u).
          let f = k.first i u t.1 is_live zeroth in
          founder_stays k.history history views (set views pass w) u forth back (callers i u f)
          (ended_stay k.history history u.seen u.seen v.name (λ n away. sym (others n away)) (λ n mine away a b. b) u.ended (live_not_ended k.history views u f pass v at live) f.ended) f)
          (at_set views pass i w u there)

pub sees_ended : (history seen : List Entry) (xs : List EndedCaller) → KeepsEnded history seen xs → SeesEnded seen xs
sees_ended history seen [] k = tt
sees_ended history seen (x ∷ xs) k = (k.1, sees_ended history seen xs k.2)

-- what the first view knows of the callers
pub knows_callers : (x : List ℕ) (views : List View) (pass : ℕ) (v : View) → KeepsRule x views → IsAt views pass v → v.live ≡ true → KnowsCallers v
knows_callers x views pass v k at live first =
    let f = k.each pass v at live in
    let g = k.first pass v at live first in
    record {
      none_past = λ name past. none_in_beginning name k.history v.seen f.begins (g.callers name past);
      ended = sees_ended k.history v.seen v.ended g.ended;
      once = g.once;
      no_other = g.none_past;
    }

-- the words, by the limit that a live view holds
pub words_at : (x : List ℕ) (views : List View) (pass : ℕ) (v : View) → v.live ≡ true → (k : KeepsRule x views) → IsAt views pass v → x ≡ words_of (account_of (state_after v.limit k.history))
words_at x views pass v live k at = k.same_words ∙ ap (λ l. words_of (account_of (state_after l k.history))) (sym (k.each pass v at live).same_limit)

-- a look, at which nothing else happens
pub looks_on : (x : List ℕ) (views : List View) (pass : ℕ) (v : View) → v.live ≡ true → KeepsRule x views → IsAt views pass v → (w : View) × KeepsRule x (set views pass w) × Looked v x w
looks_on x views pass v live k at =
    let f = k.each pass v at live in
    let w : View = having_seen v k.history v.own in
    let now : KeepsRule x (set views pass w) = one_goes_on x x views pass v k at live k.history ([], sym (append-nil k.history)) (λ n _. refl) k.history v.own k.legal k.same_words
    (record { same_limit = f.same_limit; begins = ([], sym (append-nil k.history)); all_own = f.all_own; own_seen = f.all_own; shown_begins = (k.history, refl); shown_shorter = zero-le }) (inl refl)
    (λ n mine away a b. a) in (
      w,
      now,
      (
        k.history,
        record { begins = f.begins; same_words = words_at x views pass v live k at; all_own = f.all_own },
        subst (λ a. IsLegal a k.history) (sym f.same_limit) k.legal,
        refl,
        knows_callers x (set views pass w) pass w now (at_set_here views pass v w at) live,
      ),
    )

-- A call gets this reply, and leads from these words to those, after each legal history that leads to the words and has these own entries.
pub IsReplyAt : View → ℕ → Call → CallReply → List ℕ → List ℕ → Type 0
IsReplyAt v number call reply x y = (history : List Entry) → IsLegal v.limit history → x ≡ words_of (account_of (state_after v.limit history)) → entries_by v.name history ≡ v.own
    → IsReplied v.limit (state_after v.limit history) v.name call reply × (y ≡ words_of (account_of (state_after_call v.limit (state_after v.limit history) v.name number call reply)))

-- then a step that makes these words of them makes the call
pub makes_call : (x y : List ℕ) (views : List View) (pass : ℕ) (v : View) (number : ℕ) (call : Call) (reply : CallReply) → v.live ≡ true → IsNew v number → IsReplyAt v number call reply x y
    → KeepsRule x views → IsAt views pass v → (w : View) × KeepsRule y (set views pass w) × Called v (entry v.name number call reply) x w
unfolding IsReplyAt
makes_call x y views pass v number call reply live new from k at =
    let f = k.each pass v at live in
    let e : Entry = entry v.name number call reply in
    let history : List Entry = k.history ++ e ∷ [] in
    let w : View = having_seen v history (v.own ++ e ∷ []) in
    let legal_now : IsLegal v.limit k.history = subst (λ a. IsLegal a k.history) (sym f.same_limit) k.legal in
    let step = from k.history legal_now (words_at x views pass v live k at) f.all_own in
    let next : IsNext v.limit k.history e = (step.0, subst (NumbersBelow number) (sym f.all_own) new) in
    let legal : IsLegal v.limit history = legal-push v.limit k.history e legal_now next in
    let own : entries_by v.name history ≡ v.own ++ e ∷ [] = entries_by-append v.name k.history (e ∷ []) ∙ (λ i. f.all_own i ++ entries_by-own v.name e [] refl i) in
    let others : (n : ℕ) → (n ≡ v.name → ⊥) → entries_by n history ≡ entries_by n k.history = λ n away. entries_by-append n k.history (e ∷ []) ∙ (ap (λ l. entries_by n k.history ++ l) (entries_by-other n e [] (λ is. away (sym is))) ∙ append-nil (entries_by n k.history)) in
    let now : KeepsRule y (set views pass w) = one_goes_on x y views pass v k at live history (e ∷ [], refl) others history (v.own ++ e ∷ []) (subst (λ a. IsLegal a history) f.same_limit legal)
    (step.1 ∙ (ap (λ (s : State). words_of (account_of s)) (sym (state_after-push v.limit k.history e)) ∙ ap (λ l. words_of (account_of (state_after l history))) f.same_limit))
    (record { same_limit = f.same_limit; begins = ([], sym (append-nil history)); all_own = own; own_seen = own; shown_begins = (history, refl); shown_shorter = zero-le }) (inl refl)
    (λ n mine away a b. others n away ∙ a) in (
      w,
      now,
      (
        k.history,
        record { begins = f.begins; same_words = words_at x views pass v live k at; all_own = f.all_own },
        legal,
        refl,
        knows_callers y (set views pass w) pass w now (at_set_here views pass v w at) live,
      ),
    )

pub account_at_words : (x : List ℕ) (s : State) → x ≡ words_of (account_of s) → account_from x ≡ account_of s
account_at_words x s is = ap account_from is

-- a reservation gets the reply that the words give
pub reservation_replied : (v : View) (number window : ℕ) (bound : Cost) (x : List ℕ) → IsReplyAt v number (reservation window bound) (reservation_reply v.limit (account_from x) window bound) x (words_of (reserved_account v.limit (account_from x) window bound))
unfolding IsReplyAt
reservation_replied v number window bound x history legal is own =
    let s = state_after v.limit history in
    let same = account_at_words x s is in
    let r = reserves_on v.limit bound (account_of s) s v.name number window (numbers_stand v.limit history legal) (numbers_within v.limit history legal) in
    subst (λ (a : Account). IsReplied v.limit s v.name (reservation window bound) (reservation_reply v.limit a window bound) × (words_of (reserved_account v.limit a window bound) ≡ words_of (account_of (state_after_call v.limit s v.name number (reservation window bound) (reservation_reply v.limit a window bound)))))
    (sym same) (r.0, ap words_of r.1.0)

pub words_keep_limit : (x : List ℕ) (views : List View) (pass : ℕ) (v : View) → v.live ≡ true → KeepsRule x views → IsAt views pass v → KeepsLimit v.limit (account_from x)
words_keep_limit x views pass v live k at =
    let f = k.each pass v at live in
    subst (λ (a : Account). KeepsLimit v.limit a) (sym (account_at_words x (state_after v.limit k.history) (words_at x views pass v live k at)))
    (numbers_within v.limit k.history (subst (λ a. IsLegal a k.history) (sym f.same_limit) k.legal))

-- a look, which is the refusal where the words refuse the reservation
pub looks_or_refuses : (pass : ℕ) (v : View) (number window : ℕ) (bound : Cost) → v.live ≡ true → IsNew v number → Turns KeepsRule pass v (λ x. x) (LooksFor number window bound)
unfolding IsReplyAt
looks_or_refuses pass v number window bound live new x views k at =
    let go = at_answer (reservation_reply v.limit (account_from x) window bound) refl in
    (go.0, go.1, (words_keep_limit x views pass v live k at, go.2))
  where
    at_answer : (a : CallReply) → reservation_reply v.limit (account_from x) window bound ≡ a → (w : View) × KeepsRule x (set views pass w) × RefusedOrLooked number window bound v x w a
    at_answer (granted at_window) is = looks_on x views pass v live k at
    at_answer done is = looks_on x views pass v live k at
    at_answer (short left) is =
        makes_call x x views pass v number (reservation window bound) (short left) live new
        (λ history legal words own.
        let r = reservation_replied v number window bound x history legal words own in
        (subst (IsReplied v.limit (state_after v.limit history) v.name (reservation window bound)) is r.0, words)) k at

-- an exchange, which makes the call where it finds the words that it was made for
pub exchanges_for : (pass : ℕ) (v : View) (number : ℕ) (call : Call) (reply : CallReply) (found new : List ℕ) → v.live ≡ true → IsNew v number → IsReplyAt v number call reply found new
    → Turns KeepsRule pass v (λ x. if pointwise nat_eq x found then new else x) (Exchanges call reply number found)
unfolding IsReplyAt
exchanges_for pass v number call reply found new live fresh from x views k at = ⊎_elim
    (λ (hit : pointwise nat_eq x found ≡ true).
    let is : x ≡ found = (bytes_decides x found).0 hit in
    let c = makes_call x new views pass v number call reply live fresh (subst (λ l. IsReplyAt v number call reply l new) (sym is) from) k at in
    subst (λ b. (w : View) × KeepsRule (if b then new else x) (set views pass w) × Exchanges call reply number found v x (if b then new else x) w) (sym hit)
    (c.0, c.1, ((λ _. c.2), λ no. absurd (no is))))
    (λ (miss : pointwise nat_eq x found ≡ false).
    let isnt : x ≡ found → ⊥ = λ is. true≢false (sym ((bytes_decides x found).1 is) ∙ miss) in
    let c = looks_on x views pass v live k at in
    subst (λ b. (w : View) × KeepsRule (if b then new else x) (set views pass w) × Exchanges call reply number found v x (if b then new else x) w) (sym miss)
    (c.0, c.1, ((λ is. absurd (isnt is)), λ _. c.2)))
    (cases_Bool (pointwise nat_eq x found))

pub grants_by_exchange : (pass : ℕ) (v : View) (number window at : ℕ) (bound : Cost) (found : List ℕ) → v.live ≡ true → IsNew v number → reservation_reply v.limit (account_from found) window bound ≡ granted at
    → Turns KeepsRule pass v (λ x. if pointwise nat_eq x found then words_of (reserved_account v.limit (account_from found) window bound) else x) (Exchanges (reservation window bound) (granted at) number found)
unfolding IsReplyAt
grants_by_exchange pass v number window at bound found live new is =
    exchanges_for pass v number (reservation window bound) (granted at) found (words_of (reserved_account v.limit (account_from found) window bound)) live new
    (subst (λ a. IsReplyAt v number (reservation window bound) a found (words_of (reserved_account v.limit (account_from found) window bound))) is (reservation_replied v number window bound found))

pub owed_is_open : (v : View) (of window : ℕ) (bound : Cost) (history : List Entry) → IsLegal v.limit history → entries_by v.name history ≡ v.own → Owes v of window bound → open_grant v.name of (state_after v.limit history).grants ≡ Some (grant v.name of window bound)
owed_is_open v of window bound history legal own owes = sym (own_grant v.limit history v.name of legal) ∙ (ap (λ l. open_grant v.name of (open_grants l)) own ∙ owes)

-- a settlement of an owed grant is done
pub settlement_replied : (v : View) (number of window : ℕ) (bound measured : Cost) (x : List ℕ) → Owes v of window bound → Within bound measured
    → IsReplyAt v number (settlement of window bound measured) done x (words_of (settled_account (account_from x) window bound measured))
unfolding IsReplyAt
settlement_replied v number of window bound measured x owes small history legal is own =
    let s = state_after v.limit history in
    let there = owed_is_open v of window bound history legal own owes in
    let t = settles_open v.limit bound measured (account_of s) s v.name number of window (numbers_stand v.limit history legal) there small in
    (t.0, ap (λ (a : Account). words_of (settled_account a window bound measured)) (account_at_words x s is) ∙ ap words_of t.1.0)

pub settles_by_exchange : (pass : ℕ) (v : View) (number of window : ℕ) (bound measured : Cost) (found : List ℕ) → v.live ≡ true → IsNew v number → Owes v of window bound → Within bound measured
    → Turns KeepsRule pass v (λ x. if pointwise nat_eq x found then words_of (settled_account (account_from found) window bound measured) else x) (Exchanges (settlement of window bound measured) done number found)
unfolding IsReplyAt
settles_by_exchange pass v number of window bound measured found live new owes small =
    exchanges_for pass v number (settlement of window bound measured) done found (words_of (settled_account (account_from found) window bound measured)) live new (settlement_replied v number of window bound measured found owes small)

pub words_from_account : (x : List ℕ) (s : State) → x ≡ words_of (account_of s) → words_of (account_from x) ≡ x
words_from_account x s is = ap words_of (account_at_words x s is) ∙ sym is

-- a late settlement leaves the numbers as they are
pub late_leaves_numbers : (a : Account) (window : ℕ) (bound measured : Cost) → (window ≡ a.window → ⊥) → settled_account a window bound measured ≡ a
late_leaves_numbers a window bound measured other = λ i. record {
  window = a.window;
  settled = (ap (together a.settled) (counted_elsewhere a.window window measured other) ∙ together-nothing a.settled) i;
  held = (ap (remaining a.held) (counted_elsewhere a.window window bound other) ∙ cost_eq (remaining a.held nothing) a.held (omega arith) (omega arith)) i;
  carried = a.carried;
}

-- a look, which is the settlement where the grant is of a window that is over
pub settles_by_look : (pass : ℕ) (v : View) (number of window : ℕ) (bound measured : Cost) → v.live ≡ true → IsNew v number → Owes v of window bound → Within bound measured
    → Turns KeepsRule pass v (λ x. x) (SettlesLate number of window bound measured)
unfolding IsReplyAt
settles_by_look pass v number of window bound measured live new owes small x views k at =
    let f = k.each pass v at live in
    let legal_now : IsLegal v.limit k.history = subst (λ a. IsLegal a k.history) (sym f.same_limit) k.legal in
    let s = state_after v.limit k.history in
    let same : account_from x ≡ account_of s = account_at_words x s (words_at x views pass v live k at) in
    let facts = grant_is_held (account_of s) s (grant v.name of window bound) (numbers_stand v.limit k.history legal_now) (owed_is_open v of window bound k.history legal_now f.all_own owes) in
    let here : (window ≤ (account_from x).window) × (window ≡ (account_from x).window → Within (account_from x).held bound) = subst (λ (a : Account). (window ≤ a.window) × (window ≡ a.window → Within a.held bound)) (sym same) facts in
    ⊎_elim
    (λ (e : nat_eq window (account_from x).window ≡ true).
    let is = eqb-true window (account_from x).window e in
    let c = looks_on x views pass v live k at in
    (c.0, c.1, (here.0, (λ _. (c.2, here.1 is, words_keep_limit x views pass v live k at)), λ no. absurd (no is))))
    (λ (e : nat_eq window (account_from x).window ≡ false).
    let idle : words_of (settled_account (account_from x) window bound measured) ≡ x = ap words_of (late_leaves_numbers (account_from x) window bound measured (eqb-false window (account_from x).window e)) ∙ words_from_account x s (words_at x views pass v live k at) in
    let c = makes_call x x views pass v number (settlement of window bound measured) done live new (subst (IsReplyAt v number (settlement of window bound measured) done x) idle (settlement_replied v number of window bound measured x owes small)) k at in
    (c.0, c.1, (here.0, (λ is. absurd (eqb-false window (account_from x).window e is)), λ _. c.2)))
    (cases_Bool (nat_eq window (account_from x).window))
