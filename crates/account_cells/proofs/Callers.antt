-- Who is a caller in what the first view has seen.
use Rattle.std.proofs.Common.{◌≡◌, ℕ, ◌+◌, ◌≤◌, ◌<◌, List, [], ◌∷◌, ◌++◌, length, true, false, refl, sym, ap, ◌∙◌, ⊎_elim, arith, nat_eq}
use Rattle.std.proofs.lemmas.Bool.{cases_Bool, eqb-true, eqb-false, cases_lt}
use Rattle.account_core.specs.declared.Limit.{Limit}
use Rattle.account_core.specs.Machine.{Entry, entry, Call, CallReply}
use Rattle.account_core.specs.History.{entries_by}
use Rattle.account_core.proofs.Histories.{entries_by-own, entries_by-other}
use Rattle.account_cells.specs.Views.{View, first_view, after_split, split_off}
use Rattle.account_cells.specs.Outcomes.{CallsOnce, KnowsCallers}
use Rattle.account_cells.proofs.Names.{counts_other, counts_same}
use Rattle.account_cells.proofs.Loops.{own_after}

-- ---- a first view that was never split

pub one_caller_made_all : (caller : ℕ) (h : List Entry) → ((name : ℕ) → (name ≡ caller → ⊥) → entries_by name h ≡ []) → entries_by caller h ≡ h
one_caller_made_all caller [] none = refl
one_caller_made_all caller (e ∷ es) none = ⊎_elim
    (λ (is : nat_eq e.caller caller ≡ true).
    let own : e.caller ≡ caller = eqb-true e.caller caller is in
    entries_by-own caller e es own
    ∙ ap (λ l. e ∷ l) (one_caller_made_all caller es (λ name away. sym (entries_by-other name e es (λ same. away (sym same ∙ own))) ∙ none name away)))
    (λ (isnt : nat_eq e.caller caller ≡ false).
    let own : e ∷ entries_by e.caller es ≡ [] = sym (entries_by-own e.caller e es refl) ∙ none e.caller (eqb-false e.caller caller isnt) in
    absurd (omega (arith, ap (λ (l : List Entry). length l) own)))
    (cases_Bool (nat_eq e.caller caller))

-- after a call it has seen just its own calls
pub never_split : (v w : View) (number : ℕ) (call : Call) (reply : CallReply) → CallsOnce v (entry v.name number call reply) w → v.name ≡ 0 → v.splits ≡ 0
    → w.seen ≡ v.own ++ entry v.name number call reply ∷ []
never_split v w number call reply c first never =
    let e = entry v.name number call reply in
    let history : List Entry = c.1.0 ++ e ∷ [] in
    let seen : w.seen ≡ history = ap (λ (y : View). y.seen) c.1.3 in
    let callers = c.1.4 (ap (λ (y : View). y.name) c.1.3 ∙ first) in
    let splits : w.splits ≡ 0 = ap (λ (y : View). y.splits) c.1.3 ∙ never in
    let none : (name : ℕ) → (name ≡ v.name → ⊥) → entries_by name history ≡ [] = λ name away. sym (ap (entries_by name) seen) ∙ callers.none_past name (omega (arith, splits, away, first)) in
    seen ∙ (sym (one_caller_made_all v.name history none) ∙ own_after v w number call reply c.0 c.1)

-- ---- from the start, and through splits

pub callers_at_first : (limit : Limit) → KnowsCallers (first_view limit)
callers_at_first limit first = record {
  none_past = λ name past. refl;
  ended = tt;
  once = λ name low high. absurd (omega (arith, low, high));
  no_other = λ name past. refl;
}

pub callers_after_split : (v : View) → KnowsCallers v → KnowsCallers (after_split v)
callers_after_split v known first =
    let before = known first in
    let next = v.splits + 1 in
    record {
      none_past = λ name past. before.none_past name (omega (arith, past));
      ended = before.ended;
      once = λ name low high. ⊎_elim
          (λ (old : name < next). let o = before.once name low (omega (arith, old)) in let z = counts_other next name (λ same. absurd (omega (arith, old, same))) in omega (arith, o, z))
          (λ (new : next ≤ name). let o = before.no_other name (omega (arith, new)) in let z = counts_same next name (omega (arith, new, high)) in omega (arith, o, z))
          (cases_lt name next);
      no_other = λ name past. let o = before.no_other name (omega (arith, past)) in let z = counts_other next name (λ same. absurd (omega (arith, past, same))) in omega (arith, o, z);
    }

pub callers_split_off : (v : View) → KnowsCallers (split_off v)
callers_split_off v first = absurd (omega (arith, first))
