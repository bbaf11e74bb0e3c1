-- Each grant that requests settle is open at its turn.
use Rattle.std.proofs.Common.{◌≡◌, ◌∙◌, ℕ, ◌+◌, ◌<◌, ◌≤◌, ◌||◌, not, cond, nat_eq, filter, Bool, true, false, inl, inr, List, [], ◌∷◌, ◌++◌, length, refl, sym, ap, subst, arith, append_assoc, append-nil, Some}
use Rattle.std.specs.List.{AllByRecursion}
use Rattle.std.proofs.Math.Bool.{or-false}
use Rattle.std.proofs.lemmas.Bool.{and_from, eq-eqb}
use Rattle.std.proofs.lemmas.Bool.Decides.{nat_tests}
use Rattle.std.proofs.lemmas.List.Folds.{list_any-append}
use Rattle.cost_num.specs.declared.Cost.{Cost}
use Rattle.account_core.specs.Machine.{Grant, Entry, grant, entry, is_grant, open_grant, reservation, settlement, granted, short, done}
use Rattle.account_core.specs.History.{entries_by, NumbersBelow, without_refusals}
use Rattle.account_core.specs.Sums.{settles_grant, is_settled, open_grants}
use Rattle.account_core.proofs.GrantLists.{found_first}
use Rattle.account_core.proofs.OpenGrants.{open_grants-granted, open_grants-settled, in_order}
use Rattle.account_core.proofs.Callers.{is_settled-own}
use Rattle.account_shared.specs.Gains.{ClientCall, client_call}
use Rattle.account_journal.specs.declared.journal.Journal.{Journal}
use Rattle.account_journal.specs.Journals.{Follows, limit_in}
use Rattle.gateway_workers.specs.PassedOn.{numbers_taken, AreSettled}
use Rattle.gateway_journal.specs.Kept.{taken_by, entry_of, entries_of_calls, kept_of_calls, AreHeld}
use Rattle.gateway_journal.specs.Composed.{taken_push, kept_push}

-- ---- histories that leave no grant open

-- No grant is open, and of the clients before a count none under a number from this one on is settled.
pub record IsQuiet (count number : ℕ) (hs : List Entry) : Type 0 where
  pub none : open_grants hs ≡ []
  pub free : (g : Grant) → g.caller < count → number ≤ g.number → is_settled hs g ≡ false

filter_twice : {X : Type 0} (p : X → Bool) (xs : List X) → filter p (filter p xs) ≡ filter p xs
filter_twice p [] = refl
filter_twice {X} p (x ∷ xs) = by_test (filter_twice p xs) (p x) refl
  where
    by_test : filter p (filter p xs) ≡ filter p xs → (t : Bool) → p x ≡ t → filter p (cond t (x ∷ filter p xs) (filter p xs)) ≡ cond t (x ∷ filter p xs) (filter p xs)
    by_test rest true is = ap (λ b. cond b (x ∷ filter p (filter p xs)) (filter p (filter p xs))) is ∙ ap (λ (l : List X). x ∷ l) rest
    by_test rest false is = rest

none_of : (gs : List Grant) → 0 ≡ length gs → gs ≡ []
none_of [] is = refl
none_of (g ∷ gs) is = absurd (omega (arith, is))

-- so it is of a journal without open grants
pub quiet_start : {D : Type 0} (j : Journal D) (hs : List Entry) → Follows j hs → j.opened ≡ 0 → IsQuiet (length j.limits.items) j.used hs
quiet_start j hs follows idle = record {
  none = none_of (open_grants hs) (sym idle ∙ follows.counted);
  free = λ g known past.
      sym (is_settled-own hs g)
      ∙ ((in_order (limit_in j g.caller) (entries_by g.caller hs) (follows.each g.caller known).0).numbered g j.used (subst (NumbersBelow j.used) (sym (filter_twice (λ (e : Entry). nat_eq e.caller g.caller) hs)) (follows.below g.caller)) past).1;
}

settled_push : (hs : List Entry) (e : Entry) (g : Grant) → is_settled (hs ++ e ∷ []) g ≡ (is_settled hs g || settles_grant e.caller e.call e.reply g)
settled_push hs e g =
    list_any-append (λ (x : Entry). settles_grant x.caller x.call x.reply g) hs (e ∷ []) ∙ ap (λ t. is_settled hs g || t) (or-false (settles_grant e.caller e.call e.reply g))

-- ---- a grant, and its settlement

module _ (count number client at : ℕ) (bound measured : Cost) (hs : List Entry) (known : client < count) (quiet : IsQuiet count number hs) where
  abbrev pub g : Grant
  g = grant client number at bound

  abbrev pub opening : Entry
  opening = entry client number (reservation at bound) (granted at)

  abbrev pub settling : Entry
  settling = entry client (number + 1) (settlement number at bound measured) done

  mine : is_grant client number g ≡ true
  mine = and_from (nat_eq client client) (nat_eq number number) (eq-eqb client client refl) (eq-eqb number number refl)

  one_open : open_grants (hs ++ opening ∷ []) ≡ g ∷ []
  one_open = open_grants-granted hs client number at at bound (quiet.free g known (omega arith)) ∙ ap (λ (gs : List Grant). gs ++ g ∷ []) quiet.none

  pub is_open : open_grant client number (open_grants (hs ++ opening ∷ [])) ≡ Some g
  is_open = ap (λ (gs : List Grant). open_grant client number gs) one_open ∙ found_first client number g [] mine

  none_open : open_grants ((hs ++ opening ∷ []) ++ settling ∷ []) ≡ []
  none_open =
      open_grants-settled (hs ++ opening ∷ []) client (number + 1) number at bound measured
      ∙ (ap (λ (gs : List Grant). filter (λ x. not (is_grant client number x)) gs) one_open ∙ ap (λ t. cond (not t) (g ∷ []) []) mine)

  other : (x : Grant) → number + 2 ≤ x.number → is_grant client number x ≡ false
  other x past = grind (arith, nat_tests)

  still_free : (x : Grant) → x.caller < count → number + 2 ≤ x.number → is_settled ((hs ++ opening ∷ []) ++ settling ∷ []) x ≡ false
  still_free x low past =
      let before : is_settled (hs ++ opening ∷ []) x ≡ false = settled_push hs opening x ∙ (or-false (is_settled hs x) ∙ quiet.free x low (omega (arith, past))) in
      settled_push (hs ++ opening ∷ []) settling x ∙ (ap (λ t. t || is_grant client number x) before ∙ other x past)

  pub quiet_again : IsQuiet count (number + 2) ((hs ++ opening ∷ []) ++ settling ∷ [])
  quiet_again = record { none = none_open; free = still_free }

-- ---- the calls of a request

-- Behind these entries each grant that calls settle is open at its turn, and behind them all is quiet again.
pub record StaysQuiet (slots count number : ℕ) (hs : List Entry) (calls : List ClientCall) : Type 0 where
  pub held : AreHeld hs number calls
  pub quiet : IsQuiet count (number + numbers_taken (Some slots) calls) (hs ++ kept_of_calls number calls)

quiet_as : (count m n : ℕ) (hs es : List Entry) → m ≡ n → hs ≡ es → IsQuiet count m hs → IsQuiet count n es
quiet_as count m n hs es number list quiet = subst (λ k. IsQuiet count k es) number (subst (IsQuiet count m) list quiet)

none_quiet : (slots count number : ℕ) (hs : List Entry) → IsQuiet count number hs → StaysQuiet slots count number hs []
unfolding entries_of_calls AreHeld
none_quiet slots count number hs quiet = record {
  held = tt;
  quiet = quiet_as count number (number + numbers_taken (Some slots) []) hs (hs ++ []) (omega arith) (sym (append-nil hs)) quiet;
}

refusal_quiet : (slots count number : ℕ) (hs : List Entry) (client window : ℕ) (bound left : Cost) → IsQuiet count number hs
    → StaysQuiet slots count number hs (client_call client (reservation window bound) (short left) ∷ [])
unfolding entries_of_calls AreHeld
refusal_quiet slots count number hs client window bound left quiet = record {
  held = (tt, tt);
  quiet = quiet_as count number (number + 0) hs (hs ++ []) (omega arith) (sym (append-nil hs)) quiet;
}

pair_quiet : (slots count number : ℕ) (hs : List Entry) (client window at : ℕ) (bound measured : Cost) → client < count → IsQuiet count number hs
    → StaysQuiet slots count number hs (client_call client (reservation window bound) (granted at) ∷ client_call client (settlement number at bound measured) done ∷ [])
unfolding entries_of_calls AreHeld
pair_quiet slots count number hs client window at bound measured known quiet = record {
  held = (tt, (is_open count number client at bound measured hs known quiet, tt));
  quiet = subst (IsQuiet count (number + 2)) (append_assoc hs (entry client number (reservation at bound) (granted at) ∷ []) (entry client (number + 1) (settlement number at bound measured) done ∷ []))
      (quiet_again count number client at bound measured hs known quiet);
}

pub settled_quiet : (slots count number : ℕ) (hs : List Entry) (calls : List ClientCall) → AreSettled number calls → AllByRecursion (λ c. c.client < count) calls → IsQuiet count number hs
    → StaysQuiet slots count number hs calls
settled_quiet slots count number hs calls (inl none) known quiet = subst (StaysQuiet slots count number hs) (sym none) (none_quiet slots count number hs quiet)
settled_quiet slots count number hs calls (inr (inl r)) known quiet = subst (StaysQuiet slots count number hs) (sym r.4) (refusal_quiet slots count number hs r.0 r.1 r.2 r.3 quiet)
settled_quiet slots count number hs calls (inr (inr p)) known quiet =
    let all = subst (AllByRecursion (λ (c : ClientCall). c.client < count)) p.5 known in
    subst (StaysQuiet slots count number hs) (sym p.5) (pair_quiet slots count number hs p.0 p.1 p.2 p.3 p.4 all.0 quiet)

-- ---- stretches of calls

pub each_first : (P : ClientCall → Type 0) (xs ys : List ClientCall) → AllByRecursion P (xs ++ ys) → AllByRecursion P xs
each_first P [] ys all = tt
each_first P (x ∷ xs) ys all = (all.0, each_first P xs ys all.1)

pub each_then : (P : ClientCall → Type 0) (xs ys : List ClientCall) → AllByRecursion P (xs ++ ys) → AllByRecursion P ys
each_then P [] ys all = all
each_then P (x ∷ xs) ys all = each_then P xs ys all.1

pub held_both : (slots : ℕ) (hs : List Entry) (number : ℕ) (xs ys : List ClientCall) → AreHeld hs number xs
    → AreHeld (hs ++ kept_of_calls number xs) (number + numbers_taken (Some slots) xs) ys → AreHeld hs number (xs ++ ys)
unfolding AreHeld entries_of_calls
held_both slots hs number [] ys one two = subst (λ l. AreHeld l number ys) (append-nil hs) (subst (λ n. AreHeld (hs ++ []) n ys) (omega arith) two)
held_both slots hs number (c ∷ cs) ys one two = (
  one.0,
  held_both slots (hs ++ without_refusals (entry_of number c ∷ [])) (number + taken_by c.reply) cs ys one.1
      (subst (λ l. AreHeld l (number + taken_by c.reply + numbers_taken (Some slots) cs) ys)
      (ap (λ l. hs ++ l) (kept_push number c cs) ∙ sym (append_assoc hs (without_refusals (entry_of number c ∷ [])) (kept_of_calls (number + taken_by c.reply) cs)))
      (subst (λ n. AreHeld (hs ++ kept_of_calls number (c ∷ cs)) n ys) (omega (arith, taken_push slots c cs)) two)),
)

-- one reservation settles nothing
pub one_held : (hs : List Entry) (number client window : ℕ) (bound : Cost) (at : ℕ) → AreHeld hs number (client_call client (reservation window bound) (granted at) ∷ [])
unfolding AreHeld
one_held hs number client window bound at = (tt, tt)

pub none_held : (hs : List Entry) (number : ℕ) → AreHeld hs number []
unfolding AreHeld
none_held hs number = tt
