-- What holds of reading things one after the other.
use Rattle.std.proofs.Common.{ℕ, zero, suc, ◌≡◌, ◌≤◌, ◌<◌, inl, inr, true, false, List, [], ◌∷◌, ◌++◌, length, Option, None, Ok, Err, refl, sym, ap, ◌∙◌, subst, arith, append-nil, length-append}
use Rattle.std.proofs.lemmas.Bool.{cases_Bool}
use Rattle.gql_base.specs.ways.Symbols.{Symbol, Symbols}
use Rattle.gql_base.specs.ways.Reading.{Stop, Reading, Reader, Test, next, then_read, pair, image, empty, listed, repeat_step, repeat_up_to, repeated, one_or_more, optional}
use Rattle.gql_base.specs.ways.Grammar.{Nested, plain, Within, Pair, Image, Choice, Empty, Repeated, OneOrMore, Optional}
use Rattle.gql_base.proofs.WayLaws.ReadingLaws.{within_front, within_back, regroup, ok_same, ok_not_err, then_ok, then_err, Took, Stopped, Law, Grows, itself, pair_ok, pair_took, pair_stopped_first, pair_stopped_second, pair_grows, pair_law, image_took, image_stopped, image_grows, image_law, as_took, as_stopped, chose_first, chose_second, choice_grows, first_took, second_took, first_stopped, Heads, Both, Passes, choice_law, empty_law}

-- a reader that can be repeated: it takes at least one symbol, and no symbol lets it go on at the end
pub record Repeats {A : Type 0} (test : Test) (r : Reader A) : Type 0 where
  pub at_end : test None ≡ false
  pub less : (ws : Symbols) (x : A × Symbols) → r ws ≡ Ok x → length x.1 < length ws

shorter_rest : (f ws : Symbols) (test : Test) → test None ≡ false → test (next f) ≡ true → length ws < length (f ++ ws)
shorter_rest [] ws test e t = let h : false ≡ true = sym e ∙ t in cc
shorter_rest (w ∷ f) ws test e t = omega (arith, length-append (w ∷ f) ws)

pub repeats : {A : Type 0} {S : A → Nested → Type 0} {n : ℕ} {goes : Test} {r more : Reader A} (test : Test) → Law S n goes r more → Heads true test S → test None ≡ false → Repeats test r
repeats test l heads e = record {
  at_end = e;
  less = λ ws x h.
      let t = l.took ws x h in
      let b : test (next (plain t.front)) ≡ true = ap (λ (l : Symbols). test (next l)) (sym (append-nil (plain t.front))) ∙ heads.says x.0 t.front [] t.written in
      subst (λ (l : Symbols). length x.1 < length l) (sym t.cut) (shorter_rest (plain t.front) x.1 test e b);
}

-- the number of steps doesn't matter, if there are enough

others_alike : {A : Type 0} (o : Reading A) (m k : Reader (List A)) → ((x : A × Symbols) → o ≡ Ok x → m x.1 ≡ k x.1)
    → then_read (then_read o (λ x. then_read (m x.1) (λ y. Ok ((x.0, y.0), y.1)))) (λ p. Ok (listed p.0, p.1)) ≡ then_read (then_read o (λ x. then_read (k x.1) (λ y. Ok ((x.0, y.0), y.1)))) (λ p. Ok (listed p.0, p.1))
others_alike (Ok x) m k h = ap (λ o. then_read (then_read o (λ y. Ok ((x.0, y.0), y.1))) (λ p. Ok (listed p.0, p.1))) (h x refl)
others_alike (Err e) m k h = refl

steps_alike : {A : Type 0} (test : Test) (r : Reader A) (m k : Reader (List A)) (ws : Symbols) → ((x : A × Symbols) → test (next ws) ≡ true → r ws ≡ Ok x → m x.1 ≡ k x.1) → repeat_step test r m ws ≡ repeat_step test r k ws
steps_alike test r m k ws h = elim (cases_Bool (test (next ws))) [
  | inl t ↦ chose_first test (image listed (pair r m)) (empty []) ws t ∙ (others_alike (r ws) m k (λ x e. h x t e) ∙ sym (chose_first test (image listed (pair r k)) (empty []) ws t))
  | inr t ↦ chose_second test (image listed (pair r m)) (empty []) ws t ∙ sym (chose_second test (image listed (pair r k)) (empty []) ws t)
]

none_at_end : {A : Type 0} (test : Test) (r : Reader A) (k : ℕ) → test None ≡ false → repeat_up_to k test r [] ≡ Ok ([], [])
unfolding repeat_up_to
none_at_end test r zero e = refl
none_at_end test r (suc k) e = chose_second test (image listed (pair r (repeat_up_to k test r))) (empty []) [] e

enough : {A : Type 0} (test : Test) (r : Reader A) → Repeats test r → (k j : ℕ) (ws : Symbols) → length ws ≤ k → length ws ≤ j → repeat_up_to k test r ws ≡ repeat_up_to j test r ws
unfolding repeat_up_to
enough test r p k j [] a b = none_at_end test r k p.at_end ∙ sym (none_at_end test r j p.at_end)
enough test r p zero j (w ∷ ws) a b = absurd (omega arith)
enough test r p k zero (w ∷ ws) a b = absurd (omega arith)
enough test r p (suc k) (suc j) (w ∷ ws) a b = steps_alike test r (repeat_up_to k test r) (repeat_up_to j test r) (w ∷ ws) (λ x t h. enough test r p k j x.1 (omega (arith, p.less (w ∷ ws) x h)) (omega (arith, p.less (w ∷ ws) x h)))

-- things one after the other are a first one and others, or none
pub one_step : {A : Type 0} (test : Test) (r : Reader A) → Repeats test r → (ws : Symbols) → repeated test r ws ≡ repeat_step test r (repeated test r) ws
unfolding repeat_up_to repeated
one_step test r p ws = enough test r p (length ws) (suc (length ws)) ws (omega arith) (omega arith)
    ∙ steps_alike test r (repeat_up_to (length ws) test r) (repeated test r) ws (λ x t h. enough test r p (length ws) (length x.1) x.1 (omega (arith, p.less ws x h)) (omega arith))

pub no_other : {A : Type 0} (test : Test) (r : Reader A) → Repeats test r → (ws : Symbols) → test (next ws) ≡ false → repeated test r ws ≡ Ok ([], ws)
no_other test r p ws t = one_step test r p ws ∙ chose_second test (image listed (pair r (repeated test r))) (empty []) ws t

pub another : {A : Type 0} (test : Test) (r : Reader A) → Repeats test r → (ws : Symbols) → test (next ws) ≡ true → repeated test r ws ≡ image listed (pair r (repeated test r)) ws
another test r p ws t = one_step test r p ws ∙ chose_first test (image listed (pair r (repeated test r))) (empty []) ws t

-- Reading things one after the other ends where the test fails.

fails_after : {A : Type 0} (test : Test) (x y : List A × Symbols) → x ≡ y → test (next x.1) ≡ false → test (next y.1) ≡ false
fails_after test x y e is = subst (λ z. test (next z.1) ≡ false) e is

others_ok : {A : Type 0} (r : Reader A) (m : Reader (List A)) (ws : Symbols) (x : List A × Symbols) → image listed (pair r m) ws ≡ Ok x → (y : A × Symbols) × (z : List A × Symbols) × (r ws ≡ Ok y) × (m y.1 ≡ Ok z) × ((y.0 ∷ z.0, z.1) ≡ x)
others_ok r m ws x e =
    let two = then_ok (pair r m ws) _ x e in
    let first = then_ok (r ws) _ two.0 two.1 in
    let others = then_ok (m first.0.1) _ two.0 first.2 in
    (first.0, others.0, first.1, others.1, ok_same (first.0.0 ∷ others.0.0, others.0.1) x (ap (λ p. Ok (listed p.0, p.1)) (ok_same ((first.0.0, others.0.0), others.0.1) two.0 others.2) ∙ two.2))

up_to_ends : {A : Type 0} (test : Test) (r : Reader A) → Repeats test r → (k : ℕ) (ws : Symbols) (x : List A × Symbols) → length ws ≤ k → repeat_up_to k test r ws ≡ Ok x → test (next x.1) ≡ false
unfolding repeat_up_to
up_to_ends test r p zero [] x le e = fails_after test ([], []) x (ok_same ([], []) x e) p.at_end
up_to_ends test r p zero (w ∷ ws) x le e = absurd (omega arith)
up_to_ends {A = A} test r p (suc k) ws x le e = elim (cases_Bool (test (next ws))) [
  | inl t ↦ let o = others_ok r others ws x (sym (chose_first test (image listed (pair r others)) (empty []) ws t) ∙ e) in
      fails_after test (o.0.0 ∷ o.1.0, o.1.1) x o.4 (up_to_ends test r p k o.0.1 o.1 (omega (arith, le, p.less ws o.0 o.2)) o.3)
  | inr t ↦ fails_after test ([], ws) x (ok_same ([], ws) x (sym (chose_second test (image listed (pair r others)) (empty []) ws t) ∙ e)) t
]
  where
    others : Reader (List A)
    others = repeat_up_to k test r

pub one_or_more_ends : {A : Type 0} (test : Test) (r : Reader A) → Repeats test r → (ws : Symbols) (x : List A × Symbols) → one_or_more test r ws ≡ Ok x → test (next x.1) ≡ false
unfolding repeated
one_or_more_ends test r p ws x e =
    let o = others_ok r (repeated test r) ws x e in
    fails_after test (o.0.0 ∷ o.1.0, o.1.1) x o.4 (up_to_ends test r p (length o.0.1) o.0.1 o.1 (omega arith) o.3)

-- reading things one after the other ends where the test fails
pub repeated_ends : {A : Type 0} (test : Test) (r : Reader A) → Repeats test r → (ws : Symbols) (x : List A × Symbols) → repeated test r ws ≡ Ok x → test (next x.1) ≡ false
repeated_ends test r p ws x e = elim (cases_Bool (test (next ws))) [
  | inl t ↦ one_or_more_ends test r p ws x (sym (another test r p ws t) ∙ e)
  | inr t ↦ subst (λ z. test (next z.1) ≡ false) (ok_same ([], ws) x (sym (no_other test r p ws t) ∙ e)) t
]

-- the law of things one after the other

abbrev Step : {A : Type 0} → (A → Nested → Type 0) → List A → Nested → Type 0
Step S = Choice (Image listed (Pair S (Repeated S))) (Empty [])

of_step : {A : Type 0} (S : A → Nested → Type 0) (all : List A) (ws : Nested) → Step S all ws → Repeated S all ws
of_step S all ws (inl p) = subst (λ l. Repeated S l ws) (sym p.1) p.2
of_step S all ws (inr p) = subst (λ l. Repeated S l ws) (sym p.0) p.1

took_as : {A : Type 0} {S : A → Nested → Type 0} {n : ℕ} {r s : Reader A} {ws : Symbols} {x : A × Symbols} → ((ws : Symbols) → s ws ≡ r ws) → Took S n r ws x → Took S n s ws x
took_as h t = record { front = t.front; cut = t.cut; written = t.written; within = t.within; same = λ zs e. h _ ∙ t.same zs e }

stopped_as : {A : Type 0} {S : A → Nested → Type 0} {n : ℕ} {r s : Reader A} {ws : Symbols} {e : Stop × Symbols} → ((ws : Symbols) → s ws ≡ r ws) → Stopped S n r ws e → Stopped S n s ws e
stopped_as h t = record { front = t.front; cut = t.cut; within = t.within; begins = t.begins; same = λ zs e. h _ ∙ t.same zs e }

record Here {A : Type 0} (S : A → Nested → Type 0) (n : ℕ) (r : Reader (List A)) (ws : Symbols) : Type 0 where
  took : (x : List A × Symbols) → r ws ≡ Ok x → Took (Repeated S) n r ws x
  stopped : (e : Stop × Symbols) → r ws ≡ Err e → Stopped (Repeated S) n r ws e

here_once : {A : Type 0} (S : A → Nested → Type 0) (n : ℕ) (test goes : Test) (r more : Reader A) → Law S n goes r more → Repeats test r
    → (ws : Symbols) → ((v : Symbols) → length v < length ws → Here S n (repeated test r) v) → Here S n (repeated test r) ws
here_once {A = A} S n test goes r more l p ws below = elim (cases_Bool (test (next ws))) [
  | inr t ↦ record {
    took = λ x h. took_as step (as_took (of_step S) (second_took (Image listed (Pair S (Repeated S))) test (image listed (pair r m)) t ((empty_law [] n).took ws x (sym (chose_second test (image listed (pair r m)) (empty []) ws t) ∙ (sym (step ws) ∙ h)))));
    stopped = λ x h. absurd (ok_not_err ([], ws) x (sym (chose_second test (image listed (pair r m)) (empty []) ws t) ∙ (sym (step ws) ∙ h)));
  }
  | inl t ↦ record {
    took = λ x h.
        let a = then_ok (pair r m ws) _ x (sym (chose_first test (image listed (pair r m)) (empty []) ws t) ∙ (sym (step ws) ∙ h)) in
        let b = then_ok (r ws) _ a.0 a.1 in
        let c = then_ok (m b.0.1) _ a.0 b.2 in
        let tail : Took (Repeated S) n m b.0.1 c.0 = (below b.0.1 (p.less ws b.0 b.1)).took c.0 c.1 in
        let two : Took (Pair S (Repeated S)) n (pair r m) ws a.0 = subst (Took (Pair S (Repeated S)) n (pair r m) ws) (ok_same _ a.0 c.2) (pair_took (l.took ws b.0 b.1) tail) in
        let all : Took (Image listed (Pair S (Repeated S))) n (image listed (pair r m)) ws x = subst (Took (Image listed (Pair S (Repeated S))) n (image listed (pair r m)) ws) (ok_same _ x a.2) (image_took listed two) in
        took_as step (as_took (of_step S) (first_took (Empty []) test (empty []) t all));
    stopped = λ x h.
        let two : Stopped (Pair S (Repeated S)) n (pair r m) ws x = elim (then_err (pair r m ws) _ x (sym (chose_first test (image listed (pair r m)) (empty []) ws t) ∙ (sym (step ws) ∙ h))) [
          | inr a ↦ absurd (ok_not_err _ _ a.2)
          | inl h1 ↦ elim (then_err (r ws) _ x h1) [
            | inl h2 ↦ pair_stopped_first m ([], [], refl) (l.stopped ws x h2)
            | inr b ↦ elim (then_err (m b.0.1) _ x b.2) [
              | inl h3 ↦ pair_stopped_second (l.took ws b.0 b.1) ((below b.0.1 (p.less ws b.0 b.1)).stopped x h3)
              | inr c ↦ absurd (ok_not_err _ _ c.2)
            ]
          ]
        ] in
        stopped_as step (as_stopped (of_step S) (first_stopped (Empty []) test (empty []) t (image_stopped listed two)));
  }
]
  where
    m : Reader (List A)
    m = repeated test r

    step : (ws : Symbols) → repeated test r ws ≡ repeat_step test r (repeated test r) ws
    step = one_step test r p

here_up_to : {A : Type 0} (S : A → Nested → Type 0) (n : ℕ) (test goes : Test) (r more : Reader A) → Law S n goes r more → Repeats test r → (k : ℕ) (ws : Symbols) → length ws ≤ k → Here S n (repeated test r) ws
here_up_to S n test goes r more l p zero ws le = here_once S n test goes r more l p ws (λ v h. absurd (omega arith))
here_up_to S n test goes r more l p (suc k) ws le = here_once S n test goes r more l p ws (λ v h. here_up_to S n test goes r more l p k v (omega arith))

-- where the test fails of what things begin with and of what comes after, it fails of what comes after some of them
after_repeated : {A : Type 0} {S : A → Nested → Type 0} {goes test : Test} → Heads false test S → ((w : Option Symbol) → goes w ≡ false → test w ≡ false)
    → (all : List A) (f : Nested) (rest : Symbols) → Repeated S all f → goes (next rest) ≡ false → test (next (plain f ++ rest)) ≡ false
after_repeated {test = test} heads ends [] f rest is e = ap (λ (l : Nested). test (next (plain l ++ rest))) is ∙ ends (next rest) e
after_repeated {test = test} heads ends (a ∷ others) f rest is e = ap (λ (l : Nested). test (next (plain l ++ rest))) is.2 ∙ (ap (λ (l : Symbols). test (next l)) (regroup is.0 is.1 rest) ∙ heads.says a is.0 (plain is.1 ++ rest) is.3)

pub passes_repeated : {A : Type 0} {S : A → Nested → Type 0} {goes test : Test} → Heads false test S → ((w : Option Symbol) → goes w ≡ false → test w ≡ false) → Passes goes test (Repeated S)
passes_repeated heads ends = record { fails = after_repeated heads ends }

read_another : {A : Type 0} (test : Test) (r : Reader A) → Repeats test r → (ws : Symbols) (a : A) (mid : Symbols) (others : List A) (rest : Symbols) → test (next ws) ≡ true → r ws ≡ Ok (a, mid) → repeated test r mid ≡ Ok (others, rest) → repeated test r ws ≡ Ok (a ∷ others, rest)
read_another test r p ws a mid others rest t h i = another test r p ws t ∙ ap (λ o. then_read o (λ q. Ok (listed q.0, q.1))) (pair_ok r (repeated test r) ws mid rest a others h i)

only_repeated : {A : Type 0} (S : A → Nested → Type 0) (n : ℕ) (test first goes : Test) (r more : Reader A) → Law S n first r more → Repeats test r → Heads true test S → Heads false first S → Both goes first test
    → (all : List A) (front : Nested) (rest : Symbols) → Repeated S all front → Within n front → goes (next rest) ≡ false → repeated test r (plain front ++ rest) ≡ Ok (all, rest)
only_repeated S n test first goes r more l p heads apart ends [] front rest is within end = ap (λ (l : Nested). repeated test r (plain l ++ rest)) is ∙ no_other test r p rest (ends (next rest) end).1
only_repeated S n test first goes r more l p heads apart ends (a ∷ others) front rest is within end =
    let f = is.0 in let g = is.1 in
    let w : Within n (f ++ g) = subst (Within n) is.2 within in
    let tail = only_repeated S n test first goes r more l p heads apart ends others g rest is.4 (within_back n f g w) end in
    let head = l.only a f (plain g ++ rest) is.3 (within_front n f g w) (after_repeated apart (λ w e. (ends w e).0) others g rest is.4 end) in
    ap (λ (l : Nested). repeated test r (plain l ++ rest)) is.2 ∙ (ap (repeated test r) (regroup f g rest) ∙ read_another test r p _ a (plain g ++ rest) others rest (heads.says a f (plain g ++ rest) is.3) head tail)

up_to_grows : {A : Type 0} (test : Test) (r more : Reader A) → ((ws : Symbols) → Grows (r ws) (more ws)) → (k : ℕ) (ws : Symbols) → Grows (repeat_up_to k test r ws) (repeat_up_to k test more ws)
unfolding repeat_up_to
up_to_grows test r more a zero ws = refl
up_to_grows test r more a (suc k) ws = choice_grows test (image listed (pair r (repeat_up_to k test r))) (image listed (pair more (repeat_up_to k test more))) (empty []) (empty [])
    (image_grows listed (pair r (repeat_up_to k test r)) (pair more (repeat_up_to k test more)) (pair_grows r more (repeat_up_to k test r) (repeat_up_to k test more) a (up_to_grows test r more a k))) (λ ws. itself (empty [] ws)) ws

repeated_grows : {A : Type 0} (test : Test) (r more : Reader A) → ((ws : Symbols) → Grows (r ws) (more ws)) → (ws : Symbols) → Grows (repeated test r ws) (repeated test more ws)
unfolding repeated
repeated_grows test r more a ws = up_to_grows test r more a (length ws) ws

pub repeated_law : {A : Type 0} {S : A → Nested → Type 0} {n : ℕ} {first goes : Test} {r more : Reader A} (test : Test)
    → Law S n first r more → Heads true test S → test None ≡ false → Heads false first S → Both goes first test → Law (Repeated S) n goes (repeated test r) (repeated test more)
repeated_law {S = S} {n = n} {first = first} {goes = goes} {r = r} {more = more} test l heads e apart ends = record {
  some = ([], [], refl);
  took = λ ws x h. (here_up_to S n test first r more l (repeats test l heads e) (length ws) ws (omega arith)).took x h;
  stopped = λ ws x h. (here_up_to S n test first r more l (repeats test l heads e) (length ws) ws (omega arith)).stopped x h;
  only = only_repeated S n test first goes r more l (repeats test l heads e) heads apart ends;
  grows = repeated_grows test r more l.grows;
}

-- one thing and others
pub one_or_more_law : {A : Type 0} {S : A → Nested → Type 0} {n : ℕ} {first goes : Test} {r more : Reader A} (test : Test)
    → Law S n first r more → Heads true test S → test None ≡ false → Heads false first S → Both goes first test → Law (OneOrMore S) n goes (one_or_more test r) (one_or_more test more)
one_or_more_law test l heads e apart ends = image_law listed (pair_law l (repeated_law test l heads e apart ends) (λ a b f g rest is it h. after_repeated apart (λ w e. (ends w e).0) b g rest it h))

-- a thing or nothing
pub optional_law : {A : Type 0} {S : A → Nested → Type 0} {n : ℕ} {first goes : Test} {r more : Reader A} (test : Test) (none : A)
    → Law S n first r more → Heads true test S → Both goes first test → Law (Optional none S) n goes (optional test none r) (optional test none more)
optional_law {n = n} test none l heads ends = choice_law test l (empty_law none n) (λ w e. ((ends w e).0, refl)) heads (record { fails = λ a f rest is e. ap (λ (l : Nested). test (next (plain l ++ rest))) is.1 ∙ (ends (next rest) e).1 })
