-- Beginnings of one history.
use Rattle.std.proofs.Common.{◌≡◌, ◌⊎◌, ℕ, ◌+◌, ◌≤◌, List, [], ◌∷◌, ◌++◌, true, false, cond, refl, sym, ap, ◌∙◌, subst, ⊎_elim, inl, arith, nat_le, length, length-append, suc}
use Rattle.std.proofs.lemmas.List.{append-nil}
use Rattle.std.proofs.lemmas.Bool.{cases_Bool, cond_both, eq-eqb, leb-true, leb-false}
use Rattle.account_core.specs.Machine.{Entry}
use Rattle.account_core.specs.History.{entries_by, StartsWith}
use Rattle.account_core.proofs.Histories.{same_head, same_tail, entries_by-append}
use Rattle.account_cells.specs.Views.{EndedCaller, longer_of, shorter_of}
use Rattle.account_cells.specs.Rule.{KeepsEnded}

pub no_entries : (xs : List Entry) → length xs ≡ 0 → xs ≡ []
no_entries [] e = refl
no_entries (x ∷ xs) e = absurd (omega (arith, e))

-- a name with no entries has none in a beginning
pub none_in_beginning : (name : ℕ) (history seen : List Entry) → StartsWith history seen → entries_by name history ≡ [] → entries_by name seen ≡ []
none_in_beginning name history seen b h =
    let all : entries_by name seen ++ entries_by name b.0 ≡ [] = sym (entries_by-append name seen b.0) ∙ ap (entries_by name) (sym b.1) ∙ h in
    let n : length (entries_by name seen) + length (entries_by name b.0) ≡ 0 = sym (length-append (entries_by name seen) (entries_by name b.0)) ∙ ap (λ (l : List Entry). length l) all in
    no_entries (entries_by name seen) (omega (arith, n))

-- of two beginnings of one list the shorter is a beginning of the longer
pub beginnings_nest : (xs ys r s : List Entry) → xs ++ r ≡ ys ++ s → length ys ≤ length xs → StartsWith xs ys
beginnings_nest xs [] r s e l = (xs, refl)
beginnings_nest [] (y ∷ ys) r s e l = absurd (omega arith)
beginnings_nest (x ∷ xs) (y ∷ ys) r s e l =
    let h = beginnings_nest xs ys r s (same_tail x y (xs ++ r) (ys ++ s) e) (omega arith) in
    (h.0, λ i. same_head x y (xs ++ r) (ys ++ s) e i ∷ h.1 i)

-- where a beginning has all the entries of a name, a longer one has just them
pub longer_has_all : (name : ℕ) (history xs ys own : List Entry) → StartsWith history xs → StartsWith history ys → length xs ≤ length ys → entries_by name history ≡ own → entries_by name xs ≡ own → entries_by name ys ≡ own
longer_has_all name history xs ys own a b le whole part =
    let m = beginnings_nest ys xs b.0 a.0 (sym b.1 ∙ a.1) le in
    let ym : entries_by name ys ≡ own ++ entries_by name m.0 = ap (entries_by name) m.1 ∙ entries_by-append name xs m.0 ∙ ap (λ l. l ++ entries_by name m.0) part in
    let all : own ≡ entries_by name ys ++ entries_by name b.0 = sym whole ∙ ap (entries_by name) b.1 ∙ entries_by-append name ys b.0 in
    let n : length own ≡ length (entries_by name ys) + length (entries_by name b.0) = ap (λ (l : List Entry). length l) all ∙ length-append (entries_by name ys) (entries_by name b.0) in
    let j : length (entries_by name ys) ≡ length own + length (entries_by name m.0) = ap (λ (l : List Entry). length l) ym ∙ length-append own (entries_by name m.0) in
    let nothing : entries_by name m.0 ≡ [] = no_entries (entries_by name m.0) (omega (arith, n, j)) in
    ym ∙ ap (λ l. own ++ l) nothing ∙ append-nil own

-- where each name has all its entries in a beginning, the beginning is all
pub nothing_behind : (seen rest : List Entry) → ((n : ℕ) → entries_by n (seen ++ rest) ≡ entries_by n seen) → rest ≡ []
nothing_behind seen [] h = refl
nothing_behind seen (e ∷ es) h =
    let all : entries_by e.caller seen ++ entries_by e.caller (e ∷ es) ≡ entries_by e.caller seen = sym (entries_by-append e.caller seen (e ∷ es)) ∙ h e.caller in
    let n : length (entries_by e.caller seen) + length (entries_by e.caller (e ∷ es)) ≡ length (entries_by e.caller seen) = sym (length-append (entries_by e.caller seen) (entries_by e.caller (e ∷ es))) ∙ ap (λ (l : List Entry). length l) all in
    let one : entries_by e.caller (e ∷ es) ≡ e ∷ entries_by e.caller es = ap (λ b. cond b (e ∷ entries_by e.caller es) (entries_by e.caller es)) (eq-eqb e.caller e.caller refl) in
    let m : length (entries_by e.caller (e ∷ es)) ≡ suc (length (entries_by e.caller es)) = ap (λ (l : List Entry). length l) one in
    absurd (omega (arith, n, m))

pub longer_begins : (history xs ys : List Entry) → StartsWith history xs → StartsWith history ys → StartsWith history (longer_of xs ys)
longer_begins history xs ys a b = cond_both (nat_le (length ys) (length xs)) xs ys (StartsWith history) (λ _. a) (λ _. b)

pub shorter_begins : (history xs ys : List Entry) → StartsWith history xs → StartsWith history ys → StartsWith history (shorter_of xs ys) × (length (shorter_of xs ys) ≤ length (longer_of xs ys))
shorter_begins history xs ys a b = ⊎_elim
    (λ (e : nat_le (length ys) (length xs) ≡ true). subst (λ b. StartsWith history (cond b ys xs) × (length (cond b ys xs) ≤ length (cond b xs ys))) (sym e) (b, leb-true (length ys) (length xs) e))
    (λ (e : nat_le (length ys) (length xs) ≡ false). subst (λ b. StartsWith history (cond b ys xs) × (length (cond b ys xs) ≤ length (cond b xs ys))) (sym e) (a, (let l = leb-false (length ys) (length xs) e in omega arith))) (cases_Bool (nat_le (length ys) (length xs)))

-- the longer of two beginnings has all the entries of a name where one of them has
pub longer_has_own : (name : ℕ) (history xs ys own : List Entry) → StartsWith history xs → StartsWith history ys → entries_by name history ≡ own → (entries_by name xs ≡ own) ⊎ (entries_by name ys ≡ own) → entries_by name (longer_of xs ys) ≡ own
longer_has_own name history xs ys own a b whole part = ⊎_elim
    (λ (e : nat_le (length ys) (length xs) ≡ true).
    ap (λ c. entries_by name (cond c xs ys)) e ∙ ⊎_elim (λ (p : entries_by name xs ≡ own). p) (λ (p : entries_by name ys ≡ own). longer_has_all name history ys xs own b a (leb-true (length ys) (length xs) e) whole p) part)
    (λ (e : nat_le (length ys) (length xs) ≡ false).
    let l = leb-false (length ys) (length xs) e in
    ap (λ c. entries_by name (cond c xs ys)) e ∙ ⊎_elim (λ (p : entries_by name xs ≡ own). longer_has_all name history xs ys own a b (omega (arith, l)) whole p) (λ (p : entries_by name ys ≡ own). p) part)
    (cases_Bool (nat_le (length ys) (length xs)))

pub longer_has_ended : (history xs ys : List Entry) → StartsWith history xs → StartsWith history ys → (es : List EndedCaller) → KeepsEnded history xs es → KeepsEnded history (longer_of xs ys) es
longer_has_ended history xs ys a b [] k = tt
longer_has_ended history xs ys a b (e ∷ es) k = (k.0, longer_has_own e.name history xs ys e.entries a b k.0 (inl k.1), longer_has_ended history xs ys a b es k.2)

pub beginning_as_long : (history xs : List Entry) → StartsWith history xs → length history ≤ length xs → xs ≡ history
beginning_as_long history xs b le =
    let n : length history ≡ length xs + length b.0 = ap (λ (l : List Entry). length l) b.1 ∙ length-append xs b.0 in
    let none : b.0 ≡ [] = no_entries b.0 (omega (arith, n, le)) in
    sym (b.1 ∙ (ap (λ l. xs ++ l) none ∙ append-nil xs))

pub beginning_no_longer : (history xs : List Entry) → StartsWith history xs → length xs ≤ length history
beginning_no_longer history xs b =
    let n : length history ≡ length xs + length b.0 = ap (λ (l : List Entry). length l) b.1 ∙ length-append xs b.0 in
    omega (arith, n)

-- of two beginnings, one of them the whole, the longer is the whole
pub longer_is_whole : (history xs ys : List Entry) → StartsWith history xs → StartsWith history ys → (xs ≡ history) ⊎ (ys ≡ history) → longer_of xs ys ≡ history
longer_is_whole history xs ys a b whole = ⊎_elim
    (λ (e : nat_le (length ys) (length xs) ≡ true).
    let le = leb-true (length ys) (length xs) e in
    ap (λ c. cond c xs ys) e ∙ ⊎_elim (λ (p : xs ≡ history). p) (λ (p : ys ≡ history). let n : length ys ≡ length history = ap (λ (l : List Entry). length l) p in beginning_as_long history xs a (omega (arith, n, le))) whole)
    (λ (e : nat_le (length ys) (length xs) ≡ false).
    let lt = leb-false (length ys) (length xs) e in
    let most = beginning_no_longer history ys b in
    ap (λ c. cond c xs ys) e ∙ ⊎_elim (λ (p : xs ≡ history). let n : length xs ≡ length history = ap (λ (l : List Entry). length l) p in absurd (omega (arith, n, lt, most))) (λ (p : ys ≡ history). p) whole)
    (cases_Bool (nat_le (length ys) (length xs)))
