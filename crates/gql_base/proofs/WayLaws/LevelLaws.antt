-- What holds of opening a level; and from all the laws, where the first fault of symbols is.
use Rattle.std.proofs.Common.{ℕ, suc, ◌+◌, ◌≡◌, ◌≤◌, inl, inr, true, false, [], ◌∷◌, ◌++◌, Option, None, Some, Ok, Err, refl, sym, ap, ◌∙◌, subst, arith, append-nil}
use Rattle.std.specs.Prelude.{if◌then◌else◌}
use Rattle.std.proofs.lemmas.Bool.{cases_Bool}
use Rattle.gql_base.specs.ways.Symbols.{Symbol, Symbols}
use Rattle.gql_base.specs.ways.Reading.{unexpected, too_deep, Reading, Reader, Test, Taking, next, is_some, takes, then_read, taken, second, level}
use Rattle.gql_base.specs.ways.Grammar.{Nested, plain, Within, Single, Pair, Level}
use Rattle.gql_base.specs.ways.FirstFaults.{NoneGoesOn, IsUnexpected, IsTooDeep, IsWritten}
use Rattle.gql_base.proofs.WayLaws.ReadingLaws.{err_same, ok_not_err, Stopped, Begins, StopGrows, Grows, Law, itself, after, image_law, single_law}

-- a level may be opened, and by the reader with more levels too
pub open_law : {A B : Type 0} {T : B → Nested → Type 0} {d n : ℕ} {goes : Test} {r more : Reader B} (taking : Taking A) (a : A) (v : Symbol) → taking v ≡ Some a → suc d ≤ n → Law T n goes r more → Law (Level taking d T) n goes (level taking (Some r)) (level taking (Some more))
unfolding level
open_law taking a v good le l = image_law second (after (single_law taking a v good le) l)

is_taken : {A : Type 0} (taking : Taking A) (w : Symbol) (o : Option A) → taking w ≡ o → is_some o ≡ true → (a : A) × (taking w ≡ Some a)
is_taken taking w None is e = cc
is_taken taking w (Some a) is e = (a, is)

goes_deeper : {A B : Type 0} (taking : Taking A) (d : ℕ) (T : B → Nested → Type 0) (ws : Symbols) → (b : B) × (f : Nested) × T b f → takes taking (next ws) ≡ true → Begins (Level taking d T) d [] too_deep ws
goes_deeper taking d T [] some deep = cc
goes_deeper taking d T (w ∷ ws) some deep =
    let a = is_taken taking w (taking w) refl deep in
    (w, ws, some.0, some.1, refl, ((a.0, some.0), refl, ((w, suc d) ∷ [], some.1, refl, (w, refl, a.1), some.2)))

taken_grows : {A B C : Type 0} (o : Option A) (w : Symbol) (ws : Symbols) (g : A × Symbols → Reading B) (h : B × Symbols → Reading C) → StopGrows (if is_some o then too_deep else unexpected) (if is_some o then too_deep else unexpected, w ∷ ws) (then_read (then_read (taken o ws (w ∷ ws)) g) h)
taken_grows None w ws g h = refl
taken_grows (Some a) w ws g h = tt

shut_grows : {A B : Type 0} (taking : Taking A) (more : Option (Reader B)) (ws : Symbols) → Grows (level taking None ws) (level taking more ws)
unfolding level
shut_grows {B = B} taking None ws = itself (level {B = B} taking None ws)
shut_grows taking (Some r) [] = refl
shut_grows taking (Some r) (w ∷ ws) = taken_grows (taking w) w ws _ _

-- no level is left; the reader with more levels may have one
pub shut_law : {A B : Type 0} {T : B → Nested → Type 0} {d : ℕ} {goes : Test} (taking : Taking A) (a : A) (v : Symbol) → taking v ≡ Some a → (b : B) × (f : Nested) × T b f → (more : Option (Reader B)) → Law (Level taking d T) d goes (level taking None) (level taking more)
unfolding level
shut_law {B = B} {T = T} {d = d} taking a v good some more = record {
  some = (some.0, (v, suc d) ∷ some.1, ((a, some.0), refl, ((v, suc d) ∷ [], some.1, refl, (v, refl, good), some.2)));
  took = λ ws x e. absurd (ok_not_err _ _ (sym e));
  stopped = λ ws e h. elim (cases_Bool (takes taking (next ws))) [
    | inl t ↦ let is : (too_deep, ws) ≡ e = ap (λ b. (if b then too_deep else unexpected, ws)) (sym t) ∙ err_same (if takes taking (next ws) then too_deep else unexpected, ws) e h in
        subst (Stopped (Level taking d T) d (level taking None) ws) is (record { front = []; cut = refl; within = tt; begins = goes_deeper taking d T ws some t; same = λ zs i. ap (λ b. Err (if b then too_deep else unexpected, zs)) (ap (takes taking) i ∙ t) })
    | inr t ↦ let is : (unexpected, ws) ≡ e = ap (λ b. (if b then too_deep else unexpected, ws)) (sym t) ∙ err_same (if takes taking (next ws) then too_deep else unexpected, ws) e h in
        subst (Stopped (Level taking d T) d (level taking None) ws) is (record { front = []; cut = refl; within = tt; begins = (some.0, (v, suc d) ∷ some.1, ((a, some.0), refl, ((v, suc d) ∷ [], some.1, refl, (v, refl, good), some.2))); same = λ zs i. ap (λ b. Err (if b then too_deep else unexpected, zs)) (ap (takes taking) i ∙ t) })
  ];
  only = λ b front rest is within end. absurd (deeper is.0 front is.2 within);
  grows = shut_grows taking more;
}
  where
    deeper : (p : _ × B) (front : Nested) → Pair (Single taking (suc d)) T p front → Within d front → ⊥
    deeper p front is within = let w : Within d (((is.3.0, suc d) ∷ []) ++ is.1) = subst (λ l. Within d (l ++ is.1)) is.3.1 (subst (Within d) is.2 within) in omega (arith, w.0)

-- a reader for each number of levels that may be opened in all

-- The readers r read what S says, each within its number of levels.
pub record Family {A : Type 0} (S : A → Nested → Type 0) (goes : Test) (r : ℕ → Reader A) : Type 0 where
  pub law : (n more : ℕ) → n ≤ more → Law S n goes (r n) (r more)
  pub at_end : goes None ≡ false

-- all symbols are nested no deeper than some number
pub deep_enough : (ws : Nested) (n : ℕ) → (m : ℕ) × (n ≤ m) × Within m ws
deep_enough [] n = (n, omega arith, tt)
deep_enough (w ∷ ws) n = let b = deep_enough ws (n + w.1) in (b.0, omega (arith, b.1), (omega (arith, b.1), b.2))

grown_stop : {A : Type 0} (o p : Reading A) (ws : Symbols) → o ≡ Err (unexpected, ws) → Grows o p → p ≡ Err (unexpected, ws)
grown_stop o p ws e g = subst (λ q. Grows q p) e g

not_written : {A : Type 0} {S : A → Nested → Type 0} {goes : Test} (r : ℕ → Reader A) (n : ℕ) → Family S goes r → (ws zs : Symbols) → r n ws ≡ Err (unexpected, zs) → (a : A) (all : Nested) → S a all → plain all ≡ ws → ⊥
not_written r n f ws zs e a all is same =
    let b = deep_enough all n in
    let ok : r b.0 (plain all ++ []) ≡ Ok (a, []) = (f.law b.0 b.0 (omega arith)).only a all [] is b.2 f.at_end in
    let ok2 : r b.0 ws ≡ Ok (a, []) = ap (r b.0) (sym same ∙ sym (append-nil (plain all))) ∙ ok in
    ok_not_err (a, []) (unexpected, zs) (sym ok2 ∙ grown_stop (r n ws) (r b.0 ws) zs e ((f.law n b.0 b.1).grows ws))

none_goes_on : {A : Type 0} {S : A → Nested → Type 0} {goes : Test} (r : ℕ → Reader A) (n : ℕ) → Family S goes r → (front : Nested) (rest : Symbols)
    → ((zs : Symbols) → next zs ≡ next rest → r n (plain front ++ zs) ≡ Err (unexpected, zs)) → NoneGoesOn S (plain front) rest
none_goes_on r n f front [] same = λ a ws is e. not_written r n f (plain front ++ []) [] (same [] refl) a ws is (e ∙ sym (append-nil (plain front)))
none_goes_on r n f front (w ∷ rest) same = λ a ws more is e. not_written r n f (plain front ++ (w ∷ more)) (w ∷ more) (same (w ∷ more) refl) a ws is e

-- Where the reader stops at a symbol, that is the first with which nothing goes on.
pub is_unexpected : {A : Type 0} {S : A → Nested → Type 0} {goes : Test} {r : ℕ → Reader A} (n : ℕ) → Family S goes r → (ws rest : Symbols) → r n ws ≡ Err (unexpected, rest) → IsUnexpected S n ws rest
is_unexpected {r = r} n f ws rest e =
    let t = (f.law n n (omega arith)).stopped ws (unexpected, rest) e in
    record { front = t.front; cut = t.cut; within = t.within; begins = t.begins; stops = none_goes_on r n f t.front rest t.same }

-- Where it stops for want of a level, that is the first symbol that opens one too many.
pub is_too_deep : {A : Type 0} {S : A → Nested → Type 0} {goes : Test} {r : ℕ → Reader A} (n : ℕ) → Family S goes r → (ws rest : Symbols) → r n ws ≡ Err (too_deep, rest) → IsTooDeep S n ws rest
is_too_deep n f ws rest e =
    let t = (f.law n n (omega arith)).stopped ws (too_deep, rest) e in
    record { front = t.front; cut = t.cut; within = t.within; opens = t.begins }

pub is_written : {A : Type 0} {S : A → Nested → Type 0} {goes : Test} {r : ℕ → Reader A} (n : ℕ) → Family S goes r → (ws : Symbols) (a : A) (rest : Symbols) → r n ws ≡ Ok (a, rest) → IsWritten S n ws a rest
is_written n f ws a rest e = let t = (f.law n n (omega arith)).took ws (a, rest) e in record { front = t.front; cut = t.cut; within = t.within; written = t.written }

pub is_read : {A : Type 0} {S : A → Nested → Type 0} {goes : Test} {r : ℕ → Reader A} (n : ℕ) → Family S goes r → (a : A) (front : Nested) (ws rest : Symbols) → S a front → Within n front → ws ≡ plain front ++ rest → goes (next rest) ≡ false → r n ws ≡ Ok (a, rest)
is_read {r = r} n f a front ws rest is within cut end = ap (r n) cut ∙ (f.law n n (omega arith)).only a front rest is within end
