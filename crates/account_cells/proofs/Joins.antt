-- Joining keeps the rule, and the first view alone has seen the whole history.
use Rattle.std.proofs.Common.{◌≡◌, ◌≢◌, ◌⊎◌, ℕ, ◌+◌, ◌≤◌, ◌<◌, List, [], ◌∷◌, ◌++◌, set, true, false, true≢false, cond, refl, sym, ap, ◌∙◌, subst, ⊎_elim, inl, inr, arith, nat_eq, zero-le}
use Rattle.std.proofs.lemmas.List.{append-nil}
use Rattle.std.proofs.lemmas.Bool.{cases_Bool, false≢true, eqb-true, eqb-false, cases_lt}
use mathlib.Core.Option.{some-injective}
use lib.ListN.{get_elem?}
use Rattle.crossbeam_utils.specs.Register.{Turns, Merges}
use Rattle.atomic_table.proofs.Lists.{at_set, set_else, set_again}
use Rattle.account_core.specs.declared.Account.{Account}
use Rattle.account_core.specs.declared.Limit.{Limit}
use Rattle.account_core.specs.Machine.{Entry, held_in, account_of}
use Rattle.account_core.specs.History.{state_after, entries_by, IsLegal}
use Rattle.account_core.specs.Sums.{open_grants}
use Rattle.account_core.proofs.Callers.{nothing_open}
use Rattle.account_cells.specs.Views.{View, EndedCaller, no_view, times_in, ended_names, without_name, longer_of, at_join, having_seen}
use Rattle.account_cells.specs.Rule.{words_of, IsAt, FitsHistory, KeepsEnded, IsFounder, HasWhole, KeepsRule}
use Rattle.account_cells.specs.Outcomes.{HoldsNothing, ComparesShown, SeesWhole}
use Rattle.account_cells.proofs.Places.{at_set_here, not_live}
use Rattle.account_cells.proofs.Beginnings.{none_in_beginning, beginnings_nest, nothing_behind, longer_begins, shorter_begins, longer_has_own, longer_has_ended, longer_is_whole}
use Rattle.account_cells.proofs.Names.{live_not_past, without_name-same, without_name-other, names_move}
use Rattle.account_cells.proofs.Steps.{whole_is_there, live_is_set, knows_callers, words_at, account_at_words, one_goes_on}

-- The first view takes in another.
pub joins : (pass : ℕ) (v : View) (other : ℕ) (w : View) → v.live ≡ true → v.name ≡ 0 → w.live ≡ true → open_grants w.own ≡ [] → Merges KeepsRule pass v other w (at_join v w) no_view
joins pass v other w live first is_live idle x views k at away there =
    let both : View = at_join v w in
    let first_set : List View = set views pass both in
    let more : List View = set first_set other no_view in
    let at_other : IsAt views other w = ⊎_elim (λ (t : (other ≡ pass) × (both ≡ w)). absurd (away t.0)) (λ (t : (other ≢ pass) × IsAt views other w). t.1) (at_set views pass other both w there) in
    let f = k.each pass v at live in
    let h = k.each other w at_other is_live in
    let g = k.first pass v at live first in
    let history = k.history in
    let not_zero : w.name ≡ 0 → ⊥ = λ z. away (k.apart other pass w v at_other at is_live live (z ∙ sym first)) in
    let is_out : 1 ≤ times_in w.name v.out = ⊎_elim (λ (z : w.name ≡ 0). absurd (not_zero z)) (λ (o : 1 ≤ times_in w.name v.out). o) (g.live_is_out other w at_other is_live) in
    -- each live view now is the kept_whole, or one of the others as it was
    let kept_cases : (j : ℕ) (u : View) → IsAt more j u → u.live ≡ true → (((j ≡ pass) × (both ≡ u)) ⊎ ((j ≢ pass) × IsAt views j u)) × (j ≢ other) = λ j u here still_live. ⊎_elim
    (λ (t : (j ≡ other) × (no_view ≡ u)). not_live u t.1 still_live)
    (λ (t : (j ≢ other) × IsAt first_set j u). (at_set views pass j both u t.1, t.0))
    (at_set first_set other j no_view u here) in
    let was : (j : ℕ) (u : View) → IsAt more j u → u.live ≡ true → (y : View) × IsAt views j y × (y.live ≡ true) × (y.name ≡ u.name) × (j ≢ other) = λ j u here still_live.
    let c = kept_cases j u here still_live in ⊎_elim
    (λ (t : (j ≡ pass) × (both ≡ u)). (v, subst (λ (n : ℕ). IsAt views n v) (sym t.0) at, live, ap (λ (z : View). z.name) t.1, c.1))
    (λ (t : (j ≢ pass) × IsAt views j u). (u, t.1, still_live, refl, c.1)) c.0 in
    let name_gone : (j : ℕ) (u : View) → IsAt more j u → u.live ≡ true → u.name ≡ w.name → ⊥ = λ j u here still_live same.
    let s = was j u here still_live in s.4 (k.apart j other s.0 w s.1 at_other s.2 is_live (s.3 ∙ same)) in
    -- all live names but that one go on
    let stays : (i : ℕ) (u : View) → IsAt views i u → u.live ≡ true → (u.name ≡ w.name → ⊥) → (j : ℕ) × (y : View) × IsAt more j y × (y.live ≡ true) × (y.name ≡ u.name) = λ i u here still_live differs.
    let away_other : i ≢ other = λ same. differs (ap (λ (z : View). z.name) (some-injective u w (sym here ∙ (ap (λ j. get_elem? views j) same ∙ at_other)))) in ⊎_elim
    (λ (e : nat_eq i pass ≡ true).
    let is = eqb-true i pass e in (
      pass,
      both,
      set_else first_set other pass no_view (λ same. away (sym same)) ∙ at_set_here views pass v both at,
      live,
      ap (λ (z : View). z.name) (some-injective v u (sym at ∙ (ap (λ j. get_elem? views j) (sym is) ∙ here))),
    ))
    (λ (e : nat_eq i pass ≡ false). (i, u, set_else first_set other i no_view away_other ∙ (set_else views pass i both (eqb-false i pass e) ∙ here), still_live, refl))
    (cases_Bool (nat_eq i pass)) in
    let counted_as_before : (n : ℕ) → times_in n (without_name w.name v.out) + (cond (nat_eq w.name n) 1 0 + times_in n (ended_names v.ended)) ≡ times_in n v.out + times_in n (ended_names v.ended) = λ n. names_move n w.name v.out (ended_names v.ended) is_out in
    let low : w.name ≤ v.splits = ⊎_elim (λ (past : v.splits < w.name). absurd (live_not_past history views v g other w at_other is_live w.name past refl)) (λ (l : w.name ≤ v.splits). l) (cases_lt v.splits w.name) in
    let short = shorter_begins history v.seen w.seen f.begins h.begins in
    let founder_now : IsFounder history more both = record {
      once = λ n from to. counted_as_before n ∙ g.once n from to;
      none_past = λ n past. counted_as_before n ∙ g.none_past n past;
      none_zero = counted_as_before 0 ∙ g.none_zero;
      live_is_out = λ i u here still_live.
          let s = was i u here still_live in
          let o : (u.name ≡ 0) ⊎ (1 ≤ times_in u.name v.out) = subst (λ n. (n ≡ 0) ⊎ (1 ≤ times_in n v.out)) s.3 (g.live_is_out i s.0 s.1 s.2) in ⊎_elim
          (λ (z : u.name ≡ 0). inl z)
          (λ (o : 1 ≤ times_in u.name v.out). inr (subst (λ (n : ℕ). 1 ≤ n) (sym (without_name-other u.name w.name v.out (name_gone i u here still_live))) o)) o;
      out_is_live = λ n o.
          let differs : n ≡ w.name → ⊥ = λ same.
          let one = without_name-same w.name v.out is_out in
          let all = g.once w.name (omega (arith, not_zero)) low in
          let p : 1 ≤ times_in w.name (without_name w.name v.out) = subst (λ m. 1 ≤ times_in m (without_name w.name v.out)) same o in
          absurd (omega (arith, one, all, p)) in
          let old = g.out_is_live n (subst (λ (m : ℕ). 1 ≤ m) (without_name-other n w.name v.out differs) o) in
          let s = stays old.0 old.1 old.2 old.3 (λ same. differs (sym old.4 ∙ same)) in
          (s.0, s.1, s.2, s.3, s.4 ∙ old.4);
      callers = g.callers;
      ended = (h.all_own, longer_has_own w.name history v.seen w.seen w.own f.begins h.begins h.all_own (inr h.own_seen), longer_has_ended history v.seen w.seen f.begins h.begins v.ended g.ended);
    } in
    record {
      limit = k.limit;
      history = history;
      legal = k.legal;
      same_words = k.same_words;
      each = λ j u here still_live. ⊎_elim
          (λ (t : (j ≡ pass) × (both ≡ u)). subst (FitsHistory k.limit history) t.1 (record {
            same_limit = f.same_limit;
            begins = longer_begins history v.seen w.seen f.begins h.begins;
            all_own = f.all_own;
            own_seen = longer_has_own v.name history v.seen w.seen v.own f.begins h.begins f.all_own (inl f.own_seen);
            shown_begins = short.0;
            shown_shorter = short.1;
          }))
          (λ (t : (j ≢ pass) × IsAt views j u). k.each j u t.1 still_live)
          (kept_cases j u here still_live).0;
      first = λ j u here still_live zeroth. ⊎_elim
          (λ (t : (j ≡ pass) × (both ≡ u)). subst (IsFounder history more) t.1 founder_now)
          (λ (t : (j ≢ pass) × IsAt views j u). absurd (t.0 (k.apart j pass u v t.1 at still_live live (zeroth ∙ sym first))))
          (kept_cases j u here still_live).0;
      has_first = inr (pass, both, set_else first_set other pass no_view (λ same. away (sym same)) ∙ at_set_here views pass v both at, live, first);
      has_whole = inr (let t = whole_is_there x views pass v k at live in
          let kept_whole : (longer_of v.seen w.seen ≡ history) → HasWhole history more = λ all. (pass, both, set_else first_set other pass no_view (λ same. away (sym same)) ∙ at_set_here views pass v both at, live, all) in ⊎_elim
          (λ (e : nat_eq t.0 pass ≡ true).
          let is = eqb-true t.0 pass e in
          let same_view : v ≡ t.1 = some-injective v t.1 (sym at ∙ (ap (λ j. get_elem? views j) (sym is) ∙ t.2)) in
          kept_whole (longer_is_whole history v.seen w.seen f.begins h.begins (inl (ap (λ (z : View). z.seen) same_view ∙ t.4))))
          (λ (e : nat_eq t.0 pass ≡ false). ⊎_elim
          (λ (d : nat_eq t.0 other ≡ true).
          let is = eqb-true t.0 other d in
          let same_view : w ≡ t.1 = some-injective w t.1 (sym at_other ∙ (ap (λ j. get_elem? views j) (sym is) ∙ t.2)) in
          kept_whole (longer_is_whole history v.seen w.seen f.begins h.begins (inr (ap (λ (z : View). z.seen) same_view ∙ t.4))))
          (λ (d : nat_eq t.0 other ≡ false). (t.0, t.1, set_else first_set other t.0 no_view (eqb-false t.0 other d) ∙ (set_else views pass t.0 both (eqb-false t.0 pass e) ∙ t.2), t.3, t.4))
          (cases_Bool (nat_eq t.0 other)))
          (cases_Bool (nat_eq t.0 pass)));
      apart = λ i j u y here hither a b same.
          let p = was i u here a in let q = was j y hither b in
          k.apart i j p.0 q.0 p.1 q.1 p.2 q.2 (p.3 ∙ (same ∙ sym q.3));
      owned = λ c free. ⊎_elim
          (λ (e : nat_eq c w.name ≡ true). subst (λ n. open_grants (entries_by n history) ≡ []) (sym (eqb-true c w.name e)) (ap open_grants h.all_own ∙ idle))
          (λ (e : nat_eq c w.name ≡ false). k.owned c (λ i u here still_live is.
          let s = stays i u here still_live (λ same. eqb-false c w.name e (sym is ∙ same)) in
          free s.0 s.1 s.2 s.3 (s.4 ∙ is)))
          (cases_Bool (nat_eq c w.name));
      blank = λ i u here un. ⊎_elim
          (λ (t : (i ≡ other) × (no_view ≡ u)). absurd (false≢true (ap (λ (z : View). z.unset) t.1 ∙ un)))
          (λ (t : (i ≢ other) × IsAt first_set i u). ⊎_elim
          (λ (s : (i ≡ pass) × (both ≡ u)). absurd (true≢false (sym un ∙ (ap (λ (z : View). z.unset) (sym s.1) ∙ live_is_set x views pass v k at live))))
          (λ (s : (i ≢ pass) × IsAt views i u). absurd ((k.blank i u s.1 un).1 pass v at live))
          (at_set views pass i both u t.1))
          (at_set first_set other i no_view u here);
    }

-- after a join, the look that compares the two histories
pub compares : (pass : ℕ) (v : View) → v.live ≡ true → Turns KeepsRule pass v (λ x. x) ComparesShown
compares pass v live x views k at =
    let f = k.each pass v at live in
    let w : View = having_seen v v.seen v.own in
    let now : KeepsRule x (set views pass w) = one_goes_on x x views pass v k at live k.history ([], sym (append-nil k.history)) (λ n _. refl) v.seen v.own k.legal k.same_words
    (record { same_limit = f.same_limit; begins = f.begins; all_own = f.all_own; own_seen = f.own_seen; shown_begins = (k.history, refl); shown_shorter = zero-le }) (inr ((λ was. was), refl))
    (λ n mine away a b. b) in (
      w,
      now,
      (beginnings_nest v.seen v.shown f.begins.0 f.shown_begins.0 (sym f.begins.1 ∙ f.shown_begins.1) f.shown_shorter, refl, knows_callers x (set views pass w) pass w now (at_set_here views pass v w at) live, f.own_seen),
    )

-- of an ended caller the first view has seen all
pub ended_all_seen : (history seen : List Entry) (n : ℕ) (xs : List EndedCaller) → 1 ≤ times_in n (ended_names xs) → KeepsEnded history seen xs → entries_by n history ≡ entries_by n seen
ended_all_seen history seen n [] h k = absurd (omega (arith, h))
ended_all_seen history seen n (x ∷ xs) h k = ⊎_elim
    (λ (e : nat_eq x.name n ≡ true). subst (λ m. entries_by m history ≡ entries_by m seen) (eqb-true x.name n e) (k.0 ∙ sym k.1))
    (λ (e : nat_eq x.name n ≡ false).
    let zero_here : cond (nat_eq x.name n) 1 0 ≡ 0 = ap {B = ℕ} (λ b. cond b 1 0) e in
    ended_all_seen history seen n xs (omega (arith, h, zero_here)) k.2)
    (cases_Bool (nat_eq x.name n))

-- with nobody out it has seen all entries of every name
pub founder_sees_all : (history : List Entry) (views : List View) (limit : Limit) (v : View) → FitsHistory limit history v → IsFounder history views v → v.name ≡ 0 → v.out ≡ [] → (n : ℕ) → entries_by n history ≡ entries_by n v.seen
founder_sees_all history views limit v f g first nobody_out n = ⊎_elim
    (λ (past : v.splits < n). let h = g.callers n past in h ∙ sym (none_in_beginning n history v.seen f.begins h))
    (λ (low : n ≤ v.splits). ⊎_elim
    (λ (positive : 0 < n).
    let one = g.once n positive low in
    let no_one : times_in n v.out ≡ 0 = ap (times_in n) nobody_out in
    ended_all_seen history v.seen n v.ended (omega arith) g.ended)
    (λ (z : n ≤ 0). let is : n ≡ v.name = omega arith in subst (λ m. entries_by m history ≡ entries_by m v.seen) (sym is) (f.all_own ∙ sym f.own_seen))
    (cases_lt 0 n))
    (cases_lt v.splits n)

-- so it has seen the whole history, and where it has no grant open, none is
pub founder_sees_whole : (pass : ℕ) (v : View) → Turns KeepsRule pass v (λ x. x) SeesWhole
founder_sees_whole pass v x views k at = (v, subst (KeepsRule x) (sym (set_again views pass v at)) k, (whole_when_alone, refl))
  where
    whole_when_alone : v.live ≡ true → v.name ≡ 0 → v.out ≡ [] → open_grants v.own ≡ [] → HoldsNothing v x
    whole_when_alone live first nobody_out idle =
        let f = k.each pass v at live in
        let g = k.first pass v at live first in
        let legal_now : IsLegal v.limit k.history = subst (λ a. IsLegal a k.history) (sym f.same_limit) k.legal in
        let behind_none : f.begins.0 ≡ [] = nothing_behind v.seen f.begins.0 (λ n. ap (entries_by n) (sym f.begins.1) ∙ founder_sees_all k.history views k.limit v f g first nobody_out n) in
        let whole : k.history ≡ v.seen = f.begins.1 ∙ (ap (λ l. v.seen ++ l) behind_none ∙ append-nil v.seen) in
        let none_open : (c : ℕ) → open_grants (entries_by c k.history) ≡ [] = λ c. ⊎_elim
        (λ (positive : 0 < c). k.owned c (λ i u there is_live is. ⊎_elim
        (λ (z : u.name ≡ 0). absurd (omega arith))
        (λ (o : 1 ≤ times_in u.name v.out). let no_one : times_in u.name v.out ≡ 0 = ap (times_in u.name) nobody_out in absurd (omega arith))
        (g.live_is_out i u there is_live)))
        (λ (z : c ≤ 0). let is : v.name ≡ c = omega arith in ap open_grants (subst (λ m. entries_by m k.history ≡ v.own) is f.all_own) ∙ idle)
        (cases_lt 0 c) in
        let no_grants = nothing_open v.limit k.history legal_now none_open in
        record {
          legal = subst (IsLegal v.limit) whole legal_now;
          same_words = words_at x views pass v live k at ∙ ap (λ l. words_of (account_of (state_after v.limit l))) whole;
          idle = ap (λ (a : Account). a.held) (account_at_words x (state_after v.limit k.history) (words_at x views pass v live k at)) ∙ ap (held_in (state_after v.limit k.history).window) no_grants;
        }
