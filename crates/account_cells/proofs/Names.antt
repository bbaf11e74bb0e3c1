-- The names that were split off, and the first view that keeps them.
use Rattle.std.proofs.Common.{◌≡◌, ◌⊎◌, ℕ, ◌+◌, ◌≤◌, ◌<◌, List, [], ◌∷◌, true, false, cond, refl, sym, ap, ◌∙◌, subst, ⊎_elim, arith, nat_eq}
use Rattle.std.proofs.lemmas.Bool.{cases_Bool, eq-eqb, ne_eqb, eqb-true, eqb-false, cases_lt}
use Rattle.account_core.specs.Machine.{Entry}
use Rattle.account_core.specs.History.{entries_by}
use Rattle.account_cells.specs.Views.{View, EndedCaller, times_in, ended_names, without_name, having_seen}
use Rattle.account_cells.specs.Rule.{IsAt, KeepsEnded, IsFounder}
use Rattle.account_cells.proofs.Places.{NamesStay}

-- a caller that has ended keeps its entries while another name makes one
pub ended_stay : (history now seen seen' : List Entry) (name : ℕ) → ((n : ℕ) → (n ≡ name → ⊥) → entries_by n history ≡ entries_by n now) → ((n : ℕ) (own : List Entry) → (n ≡ name → ⊥) → entries_by n history ≡ own → entries_by n seen ≡ own → entries_by n seen' ≡ own)
    → (xs : List EndedCaller) → times_in name (ended_names xs) ≡ 0 → KeepsEnded history seen xs → KeepsEnded now seen' xs
ended_stay history now seen seen' name others more [] away k = tt
ended_stay history now seen seen' name others more (x ∷ xs) away k =
    let apart : x.name ≡ name → ⊥ = λ same. absurd (omega (arith, away, ap {B = ℕ} (λ b. cond b 1 0) (eq-eqb x.name name same))) in
    (sym (others x.name apart) ∙ k.0, more x.name x.entries apart k.0 k.1, ended_stay history now seen seen' name others more xs (omega (arith, away)) k.2)

-- a live name is none of the ended ones
pub live_not_ended : (history : List Entry) (views : List View) (f : View) → IsFounder history views f → (i : ℕ) (v : View) → IsAt views i v → v.live ≡ true → times_in v.name (ended_names f.ended) ≡ 0
live_not_ended history views f k i v at live = ⊎_elim
    (λ (z : v.name ≡ 0). let n = k.none_zero in subst (λ m. times_in m (ended_names f.ended) ≡ 0) (sym z) (omega arith))
    (λ (o : 1 ≤ times_in v.name f.out). ⊎_elim
    (λ (past : f.splits < v.name). let n = k.none_past v.name past in absurd (omega arith))
    (λ (low : v.name ≤ f.splits). ⊎_elim
    (λ (positive : 0 < v.name). let n = k.once v.name positive low in omega arith)
    (λ (z : v.name ≤ 0). let n = k.none_zero in let is : v.name ≡ 0 = omega arith in subst (λ m. times_in m (ended_names f.ended) ≡ 0) (sym is) (omega arith))
    (cases_lt 0 v.name))
    (cases_lt f.splits v.name))
    (k.live_is_out i v at live)

-- nor past the count of splits
pub live_not_past : (history : List Entry) (views : List View) (f : View) → IsFounder history views f → (i : ℕ) (v : View) → IsAt views i v → v.live ≡ true → (n : ℕ) → f.splits < n → n ≡ v.name → ⊥
live_not_past history views f k i v at live n past is = ⊎_elim
    (λ (z : v.name ≡ 0). absurd (omega arith))
    (λ (o : 1 ≤ times_in v.name f.out). let c = k.none_past n past in let d : 1 ≤ times_in n f.out = subst (λ m. 1 ≤ times_in m f.out) (sym is) o in absurd (omega arith))
    (k.live_is_out i v at live)

-- the first view through a step of its own that leaves all names
pub founder_steps : (history now : List Entry) (views more : List View) (f : View) (seen own : List Entry) → NamesStay views more → NamesStay more views → ((n : ℕ) → f.splits < n → entries_by n now ≡ []) → KeepsEnded now seen f.ended
    → IsFounder history views f → IsFounder now more (having_seen f seen own)
founder_steps history now views more f seen own forth back callers ended k = record {
  once = k.once;
  none_past = k.none_past;
  none_zero = k.none_zero;
  live_is_out = λ i v at live. let s = back i v at live in subst (λ n. (n ≡ 0) ⊎ (1 ≤ times_in n f.out)) s.4 (k.live_is_out s.0 s.1 s.2 s.3);
  out_is_live = λ n h. let o = k.out_is_live n h in let s = forth o.0 o.1 o.2 o.3 in (s.0, s.1, s.2, s.3, s.4 ∙ o.4);
  callers = callers;
  ended = ended;
}

-- and through one of another
pub founder_stays : (history now : List Entry) (views more : List View) (f : View) → NamesStay views more → NamesStay more views → ((n : ℕ) → f.splits < n → entries_by n now ≡ []) → KeepsEnded now f.seen f.ended
    → IsFounder history views f → IsFounder now more f
founder_stays history now views more f forth back callers ended k = record {
  once = k.once;
  none_past = k.none_past;
  none_zero = k.none_zero;
  live_is_out = λ i v at live. let s = back i v at live in subst (λ n. (n ≡ 0) ⊎ (1 ≤ times_in n f.out)) s.4 (k.live_is_out s.0 s.1 s.2 s.3);
  out_is_live = λ n h. let o = k.out_is_live n h in let s = forth o.0 o.1 o.2 o.3 in (s.0, s.1, s.2, s.3, s.4 ∙ o.4);
  callers = callers;
  ended = ended;
}

-- a name that is taken out once
pub without_name-same : (n : ℕ) (xs : List ℕ) → 1 ≤ times_in n xs → times_in n (without_name n xs) + 1 ≡ times_in n xs
without_name-same n [] h = absurd (omega (arith, h))
without_name-same n (x ∷ xs) h = ⊎_elim
    (λ (e : nat_eq x n ≡ true). subst (λ b. times_in n (cond b xs (x ∷ without_name n xs)) + 1 ≡ cond b 1 0 + times_in n xs) (sym e) (omega arith))
    (λ (e : nat_eq x n ≡ false).
    let z : cond (nat_eq x n) 1 0 ≡ 0 = ap {B = ℕ} (λ b. cond b 1 0) e in
    let i = without_name-same n xs (omega (arith, h, z)) in
    ap (λ b. times_in n (cond b xs (x ∷ without_name n xs)) + 1) e ∙ omega (arith, i, z))
    (cases_Bool (nat_eq x n))

pub without_name-other : (m n : ℕ) (xs : List ℕ) → (m ≡ n → ⊥) → times_in m (without_name n xs) ≡ times_in m xs
without_name-other m n [] away = refl
without_name-other m n (x ∷ xs) away = ⊎_elim
    (λ (e : nat_eq x n ≡ true).
    let z : cond (nat_eq x m) 1 0 ≡ 0 = ap {B = ℕ} (λ b. cond b 1 0) (ne_eqb x m (λ same. away (sym same ∙ eqb-true x n e))) in
    ap (λ b. times_in m (cond b xs (x ∷ without_name n xs))) e ∙ omega (arith, z))
    (λ (e : nat_eq x n ≡ false).
    ap (λ b. times_in m (cond b xs (x ∷ without_name n xs))) e ∙ ap (λ k. cond (nat_eq x m) 1 0 + k) (without_name-other m n xs away))
    (cases_Bool (nat_eq x n))

-- a name that leaves `out` for `ended` is counted as before
pub names_move : (m n : ℕ) (out ended : List ℕ) → 1 ≤ times_in n out → times_in m (without_name n out) + (cond (nat_eq n m) 1 0 + times_in m ended) ≡ times_in m out + times_in m ended
names_move m n out ended h = ⊎_elim
    (λ (e : nat_eq n m ≡ true).
    let is = eqb-true n m e in
    let z : cond (nat_eq n m) 1 0 ≡ 1 = ap {B = ℕ} (λ b. cond b 1 0) e in
    let l = subst (λ k. times_in k (without_name n out) + 1 ≡ times_in k out) is (without_name-same n out h) in
    omega (arith, z, l))
    (λ (e : nat_eq n m ≡ false).
    let z : cond (nat_eq n m) 1 0 ≡ 0 = ap {B = ℕ} (λ b. cond b 1 0) e in
    let l = without_name-other m n out (λ same. eqb-false n m e (sym same)) in
    omega (arith, z, l))
    (cases_Bool (nat_eq n m))

-- how often a name counts at another: once where it is the same, and else not
pub counts_other : (x name : ℕ) → (name ≡ x → ⊥) → cond {A = ℕ} (nat_eq x name) 1 0 ≡ 0
counts_other x name away = ap {B = ℕ} (λ b. cond b 1 0) (ne_eqb x name (λ same. away (sym same)))

pub counts_same : (x name : ℕ) → name ≡ x → cond {A = ℕ} (nat_eq x name) 1 0 ≡ 1
counts_same x name same = ap {B = ℕ} (λ b. cond b 1 0) (eq-eqb x name (sym same))
