-- Opening and splitting keep the rule.
use Rattle.std.proofs.Common.{◌≡◌, ℕ, ◌+◌, ◌≤◌, ◌<◌, List, [], ◌∷◌, ◌++◌, set, true, false, true≢false, cond, refl, sym, ap, ◌∙◌, subst, ⊎_elim, inl, inr, arith, nat_eq, length, zero-le}
use Rattle.std.proofs.lemmas.Bool.{cases_Bool, false≢true, eqb-true, eqb-false, cases_lt}
use mathlib.Core.Option.{some-ne-none, some-injective}
use lib.ListN.{get_elem?}
use Rattle.crossbeam_utils.specs.Register.{Forks}
use Rattle.atomic_table.proofs.Lists.{at_snoc, at_longer, set_else}
use Rattle.account_core.specs.declared.Limit.{Limit}
use Rattle.account_core.specs.Machine.{account_of}
use Rattle.account_core.specs.History.{state_after, entries_by}
use Rattle.account_core.proofs.Histories.{legal-empty}
use Rattle.account_cells.specs.Views.{View, no_limit, no_view, unset_view, first_view, times_in, after_split, split_off}
use Rattle.account_cells.specs.Rule.{words_of, IsAt, FitsHistory, IsFounder, KeepsRule}
use Rattle.account_cells.proofs.Places.{at_push, NamesStay, free_before, names_after, by_place, at_pushed, not_live}
use Rattle.account_cells.proofs.Beginnings.{none_in_beginning}
use Rattle.account_cells.proofs.Names.{counts_other, counts_same, live_not_past, founder_stays}
use Rattle.account_cells.proofs.Steps.{first_is_there, whole_is_there, whole_after, first_after, live_is_set}

-- a cell begins with an unset view
pub starts_blank : KeepsRule (0 ∷ 0 ∷ 0 ∷ 0 ∷ 0 ∷ 0 ∷ 0 ∷ []) (unset_view ∷ [])
starts_blank = record {
  limit = no_limit;
  history = [];
  legal = legal-empty no_limit;
  same_words = refl;
  each = λ i v at live. absurd (not_live i v at live);
  first = λ i v at live z. absurd (not_live i v at live);
  has_first = inl (0, unset_view, refl, refl);
  has_whole = inl (0, unset_view, refl, refl);
  apart = λ i j v w at there a b same. absurd (not_live i v at a);
  owned = λ c free. refl;
  blank = λ i v at is. (refl, (λ j u there live. not_live j u there live), λ j u there un. zeros j u there ∙ sym (zeros i v at));
}
  where
    not_live : (i : ℕ) (v : View) → IsAt (unset_view ∷ []) i v → v.live ≡ true → ⊥
    not_live i v at live = ⊎_elim (λ (e : IsAt [] i v). some-ne-none v (sym e)) (λ (e : unset_view ≡ v). true≢false (sym live ∙ ap (λ (z : View). z.live) (sym e))) (at_snoc [] unset_view v i at)

    zeros : (i : ℕ) (v : View) → IsAt (unset_view ∷ []) i v → i ≡ 0
    zeros i v at = ⊎_elim (λ (e : IsAt [] i v). absurd (some-ne-none v (sym e))) (λ (t : (i ≡ 0) × (unset_view ≡ v)). t.0) (at_push [] unset_view v i at)

-- the limit is set, and the first view is live
pub sets_limit : (pass : ℕ) (v : View) (limit : Limit) → v ≡ unset_view → Forks KeepsRule pass v no_view (first_view limit)
sets_limit pass v limit is x views k at =
    let blank = k.blank pass v at (ap (λ (z : View). z.unset) is) in
    let r = first_view limit in
    let more : List View = set views pass no_view ++ r ∷ [] in
    let only : (j : ℕ) (u : View) → IsAt more j u → u.live ≡ true → (j ≡ length views) × (r ≡ u) = λ j u there live. by_place views pass no_view r j u
    (λ t. absurd (false≢true (ap (λ (z : View). z.live) t.1 ∙ live))) (λ t. absurd (blank.1 j u t.1 live)) (λ t. t) there in
    let no_unborn : (j : ℕ) (u : View) → IsAt more j u → u.unset ≡ true → ⊥ = λ j u there un. by_place views pass no_view r j u
    (λ t. false≢true (ap (λ (z : View). z.unset) t.1 ∙ un)) (λ t. t.0 (blank.2 j u t.1 un)) (λ t. false≢true (ap (λ (z : View). z.unset) t.1 ∙ un)) there in
    record {
      limit = limit;
      history = [];
      legal = legal-empty limit;
      same_words = k.same_words ∙ ap (λ l. words_of (account_of (state_after k.limit l))) blank.0;
      each = λ j u there live. subst (FitsHistory limit []) (only j u there live).1 (record { same_limit = refl; begins = ([], refl); all_own = refl; own_seen = refl; shown_begins = ([], refl); shown_shorter = zero-le });
      first = λ j u there live z. subst (IsFounder [] more) (only j u there live).1 (record {
        once = λ n low high. absurd (omega (arith, low, high));
        none_past = λ n past. refl;
        none_zero = refl;
        live_is_out = λ i y here is_live. inl (ap (λ (z : View). z.name) (sym (only i y here is_live).1));
        out_is_live = λ n h. absurd (omega (arith, h));
        callers = λ n past. refl;
        ended = tt;
      });
      has_first = inr (length views, r, at_pushed views pass no_view r, refl, refl);
      has_whole = inr (length views, r, at_pushed views pass no_view r, refl, refl);
      apart = λ i j u y there here a b same. (only i u there a).0 ∙ sym (only j y here b).0;
      owned = λ c free. refl;
      blank = λ i u there un. absurd (no_unborn i u there un);
    }

-- the first view splits off one with the next name
pub splits_next : (pass : ℕ) (v : View) → v.live ≡ true → v.name ≡ 0 → Forks KeepsRule pass v (after_split v) (split_off v)
splits_next pass v live first x views k at =
    let f = k.each pass v at live in
    let g = k.first pass v at live first in
    let history = k.history in
    let w : View = after_split v in
    let r : View = split_off v in
    let more : List View = set views pass w ++ r ∷ [] in
    let is_set : v.unset ≡ false = live_is_set x views pass v k at live in
    let fresh : entries_by (v.splits + 1) history ≡ [] = g.callers (v.splits + 1) (omega arith) in
    -- a live name so far is at most the count
    let low : (j : ℕ) (u : View) → IsAt views j u → u.live ≡ true → u.name ≤ v.splits = λ j u there is_live. ⊎_elim
    (λ (past : v.splits < u.name). absurd (live_not_past history views v g j u there is_live u.name past refl)) (λ (h : u.name ≤ v.splits). h) (cases_lt v.splits u.name) in
    let forth : NamesStay views more = λ i u there is_live. let s = names_after views pass v w at live refl i u there is_live in (s.0, s.1, at_longer (set views pass w) (r ∷ []) s.0 s.1 s.2, s.3, s.4) in
    let founder_now : IsFounder history more w = record {
      once = λ n from to. ⊎_elim
          (λ (old : n < v.splits + 1). let o = g.once n from (omega arith) in let z = counts_other (v.splits + 1) n (λ same. absurd (omega arith)) in omega (arith, o, z))
          (λ (new : v.splits + 1 ≤ n). let o = g.none_past n (omega arith) in let z = counts_same (v.splits + 1) n (omega arith) in omega (arith, o, z))
          (cases_lt n (v.splits + 1));
      none_past = λ n past. let o = g.none_past n (omega arith) in let z = counts_other (v.splits + 1) n (λ same. absurd (omega arith)) in omega (arith, o, z);
      none_zero = let o = g.none_zero in let z = counts_other (v.splits + 1) 0 (λ same. absurd (omega arith)) in omega (arith, o, z);
      live_is_out = λ i u there is_live. by_place views pass w r i u
          (λ t. inl (ap (λ (z : View). z.name) (sym t.1) ∙ first))
          (λ t. ⊎_elim (λ (z : u.name ≡ 0). inl z) (λ (o : 1 ≤ times_in u.name v.out). inr (omega arith)) (g.live_is_out i u t.1 is_live))
          (λ t. let n : u.name ≡ v.splits + 1 = ap (λ (z : View). z.name) (sym t.1) in let z = counts_same (v.splits + 1) u.name n in inr (omega (arith, z)))
          there;
      out_is_live = λ n h. ⊎_elim
          (λ (e : nat_eq (v.splits + 1) n ≡ true). (length views, r, at_pushed views pass w r, refl, eqb-true (v.splits + 1) n e))
          (λ (e : nat_eq (v.splits + 1) n ≡ false).
          let z : cond (nat_eq (v.splits + 1) n) 1 0 ≡ 0 = ap {B = ℕ} (λ b. cond b 1 0) e in
          let o = g.out_is_live n (omega (arith, h, z)) in let s = forth o.0 o.1 o.2 o.3 in (s.0, s.1, s.2, s.3, s.4 ∙ o.4))
          (cases_Bool (nat_eq (v.splits + 1) n));
      callers = λ n past. g.callers n (omega arith);
      ended = g.ended;
    } in
    record {
      limit = k.limit;
      history = history;
      legal = k.legal;
      same_words = k.same_words;
      each = λ j u there is_live. by_place views pass w r j u
          (λ t. subst (FitsHistory k.limit history) t.1 (record { same_limit = f.same_limit; begins = f.begins; all_own = f.all_own; own_seen = f.own_seen; shown_begins = f.shown_begins; shown_shorter = f.shown_shorter }))
          (λ t. k.each j u t.1 is_live)
          (λ t. subst (FitsHistory k.limit history) t.1 (record { same_limit = f.same_limit; begins = f.begins; all_own = fresh; own_seen = none_in_beginning (v.splits + 1) history v.seen f.begins fresh; shown_begins = (history, refl); shown_shorter = zero-le }))
          there;
      first = λ j u there is_live zeroth. by_place views pass w r j u
          (λ t. subst (IsFounder history more) t.1 founder_now)
          (λ t. absurd (t.0 (k.apart j pass u v t.1 at is_live live (zeroth ∙ sym first))))
          (λ t. let n : v.splits + 1 ≡ u.name = ap (λ (z : View). z.name) t.1 in absurd (omega arith))
          there;
      has_first = inr (first_after views more forth (first_is_there x views pass v k at live));
      has_whole = inr (let h = whole_after views pass v w history at live (λ was. was) (whole_is_there x views pass v k at live) in (h.0, h.1, at_longer (set views pass w) (r ∷ []) h.0 h.1 h.2, h.3, h.4));
      apart = λ i j u y there here a b same. by_place views pass w r i u
          (λ s. by_place views pass w r j y
          (λ t. s.0 ∙ sym t.0)
          (λ t. absurd (t.0 (k.apart j pass y v t.1 at b live (sym same ∙ ap (λ (z : View). z.name) (sym s.1)))))
          (λ t. let n : v.splits + 1 ≡ y.name = ap (λ (z : View). z.name) t.1 in let m : v.name ≡ u.name = ap (λ (z : View). z.name) s.1 in absurd (omega arith))
          here)
          (λ s. by_place views pass w r j y
          (λ t. absurd (s.0 (k.apart i pass u v s.1 at a live (same ∙ ap (λ (z : View). z.name) (sym t.1)))))
          (λ t. k.apart i j u y s.1 t.1 a b same)
          (λ t. let n : v.splits + 1 ≡ y.name = ap (λ (z : View). z.name) t.1 in let m = low i u s.1 a in absurd (omega arith))
          here)
          (λ s. by_place views pass w r j y
          (λ t. let n : v.splits + 1 ≡ u.name = ap (λ (z : View). z.name) s.1 in let m : v.name ≡ y.name = ap (λ (z : View). z.name) t.1 in absurd (omega arith))
          (λ t. let n : v.splits + 1 ≡ u.name = ap (λ (z : View). z.name) s.1 in let m = low j y t.1 b in absurd (omega arith))
          (λ t. s.0 ∙ sym t.0)
          here)
          there;
      owned = λ c free. k.owned c (free_before views more c forth free);
      blank = λ i u there un. absurd (by_place views pass w r i u
          (λ t. true≢false (sym un ∙ (ap (λ (z : View). z.unset) (sym t.1) ∙ is_set)))
          (λ t. (k.blank i u t.1 un).1 pass v at live)
          (λ t. false≢true (ap (λ (z : View). z.unset) t.1 ∙ un))
          there);
    }

-- a view goes over whole to another pass
pub hands_over : (pass : ℕ) (v : View) → v.live ≡ true → Forks KeepsRule pass v no_view v
hands_over pass v live x views k at =
    let more : List View = set views pass no_view ++ v ∷ [] in
    let is_set : v.unset ≡ false = live_is_set x views pass v k at live in
    let back : NamesStay more views = λ i u there is_live. by_place views pass no_view v i u
    (λ t. not_live u t.1 is_live) (λ t. (i, u, t.1, is_live, refl)) (λ t. (pass, v, at, live, ap (λ (z : View). z.name) t.1)) there in
    let forth : NamesStay views more = λ i u there is_live. ⊎_elim
    (λ (e : nat_eq i pass ≡ true).
    let is = eqb-true i pass e in
    (length views, v, at_pushed views pass no_view v, live, ap (λ (z : View). z.name) (some-injective v u (sym at ∙ (ap (λ j. get_elem? views j) (sym is) ∙ there)))))
    (λ (e : nat_eq i pass ≡ false). (i, u, at_longer (set views pass no_view) (v ∷ []) i u (set_else views pass i no_view (eqb-false i pass e) ∙ there), is_live, refl))
    (cases_Bool (nat_eq i pass)) in
    record {
      limit = k.limit;
      history = k.history;
      legal = k.legal;
      same_words = k.same_words;
      each = λ j u there is_live. by_place views pass no_view v j u
          (λ t. not_live u t.1 is_live) (λ t. k.each j u t.1 is_live) (λ t. subst (FitsHistory k.limit k.history) t.1 (k.each pass v at live)) there;
      first = λ j u there is_live zeroth. by_place views pass no_view v j u
          (λ t. not_live u t.1 is_live)
          (λ t. let g = k.first j u t.1 is_live zeroth in founder_stays k.history k.history views more u forth back g.callers g.ended g)
          (λ t. let g = k.first pass v at live (ap (λ (z : View). z.name) t.1 ∙ zeroth) in subst (IsFounder k.history more) t.1 (founder_stays k.history k.history views more v forth back g.callers g.ended g))
          there;
      has_first = inr (first_after views more forth (first_is_there x views pass v k at live));
      has_whole = inr (let h = whole_is_there x views pass v k at live in ⊎_elim
          (λ (e : nat_eq h.0 pass ≡ true).
          let is = eqb-true h.0 pass e in
          (length views, v, at_pushed views pass no_view v, live, ap (λ (z : View). z.seen) (some-injective v h.1 (sym at ∙ (ap (λ j. get_elem? views j) (sym is) ∙ h.2))) ∙ h.4))
          (λ (e : nat_eq h.0 pass ≡ false). (h.0, h.1, at_longer (set views pass no_view) (v ∷ []) h.0 h.1 (set_else views pass h.0 no_view (eqb-false h.0 pass e) ∙ h.2), h.3, h.4))
          (cases_Bool (nat_eq h.0 pass)));
      apart = λ i j u y there here a b same. by_place views pass no_view v i u
          (λ s. not_live u s.1 a)
          (λ s. by_place views pass no_view v j y
          (λ t. not_live y t.1 b) (λ t. k.apart i j u y s.1 t.1 a b same)
          (λ t. absurd (s.0 (k.apart i pass u v s.1 at a live (same ∙ ap (λ (z : View). z.name) (sym t.1)))))
          here)
          (λ s. by_place views pass no_view v j y
          (λ t. not_live y t.1 b) (λ t. absurd (t.0 (k.apart j pass y v t.1 at b live (sym same ∙ ap (λ (z : View). z.name) (sym s.1)))))
          (λ t. s.0 ∙ sym t.0)
          here)
          there;
      owned = λ c free. k.owned c (free_before views more c forth free);
      blank = λ i u there un. absurd (by_place views pass no_view v i u
          (λ t. false≢true (ap (λ (z : View). z.unset) t.1 ∙ un))
          (λ t. (k.blank i u t.1 un).1 pass v at live)
          (λ t. true≢false (sym un ∙ (ap (λ (z : View). z.unset) (sym t.1) ∙ is_set)))
          there);
    }
