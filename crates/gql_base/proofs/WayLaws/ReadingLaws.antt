-- What holds of each way of reading, and of all that is put together of them.
use Rattle.std.proofs.Common.{ℕ, suc, ◌≡◌, ◌≤◌, ◌⊎◌, inl, inr, Bool, true, false, [], ◌∷◌, ◌++◌, Option, None, Some, Ok, Err, refl, sym, ap, ◌∙◌, subst, append_assoc}
use Rattle.std.specs.Prelude.{if◌then◌else◌}
use Rattle.std.proofs.lemmas.Bool.{cases_Bool}
use Rattle.std.proofs.lemmas.Option.{same_Some}
use Rattle.gql_base.specs.ways.Symbols.{Symbol, Symbols}
use Rattle.gql_base.specs.ways.Reading.{Stop, unexpected, too_deep, Reading, Reader, Test, Taking, next, then_read, taken, single, pair, image, choice, empty, never, is_there}
use Rattle.gql_base.specs.ways.Grammar.{Nested, plain, Within, Single, Pair, Image, Choice, Empty}

-- symbols without their nesting

pub plain_append : (f g : Nested) → plain (f ++ g) ≡ plain f ++ plain g
plain_append [] g = refl
plain_append (w ∷ f) g = ap (λ (l : Symbols). w.0 ∷ l) (plain_append f g)

pub within_append : (n : ℕ) (f g : Nested) → Within n f → Within n g → Within n (f ++ g)
within_append n [] g a b = b
within_append n (w ∷ f) g a b = (a.0, within_append n f g a.1 b)

pub within_front : (n : ℕ) (f g : Nested) → Within n (f ++ g) → Within n f
within_front n [] g a = tt
within_front n (w ∷ f) g a = (a.0, within_front n f g a.1)

pub within_back : (n : ℕ) (f g : Nested) → Within n (f ++ g) → Within n g
within_back n [] g a = a
within_back n (w ∷ f) g a = within_back n f g a.1

pub regroup : (f g : Nested) (zs : Symbols) → plain (f ++ g) ++ zs ≡ plain f ++ (plain g ++ zs)
regroup f g zs = ap (λ (l : Symbols). l ++ zs) (plain_append f g) ∙ append_assoc (plain f) (plain g) zs

pub same_next : (f : Nested) (zs rest : Symbols) → next zs ≡ next rest → next (plain f ++ zs) ≡ next (plain f ++ rest)
same_next [] zs rest e = e
same_next (w ∷ f) zs rest e = refl

pub no_symbol : (ws : Symbols) → is_there (next ws) ≡ false → ws ≡ []
no_symbol [] e = refl
no_symbol (w ∷ ws) e = cc

-- answers of readers

abbrev Same : {A : Type 0} → Reading A → Reading A → Type 0
Same a b = a ≡ b

pub ok_same : {A : Type 0} (x y : A × Symbols) → Same (Ok x) (Ok y) → x ≡ y
ok_same x y e = cc

pub err_same : {A : Type 0} (x y : Stop × Symbols) → Same {A = A} (Err x) (Err y) → x ≡ y
err_same x y e = cc

pub ok_not_err : {A : Type 0} (x : A × Symbols) (y : Stop × Symbols) → Same (Ok x) (Err y) → ⊥
ok_not_err x y e = cc

pub then_ok : {A B : Type 0} (o : Reading A) (f : A × Symbols → Reading B) (y : B × Symbols) → then_read o f ≡ Ok y → (x : A × Symbols) × (o ≡ Ok x) × (f x ≡ Ok y)
then_ok (Ok x) f y e = (x, refl, e)
then_ok (Err x) f y e = cc

pub then_err : {A B : Type 0} (o : Reading A) (f : A × Symbols → Reading B) (y : Stop × Symbols) → then_read o f ≡ Err y → (o ≡ Err y) ⊎ ((x : A × Symbols) × (o ≡ Ok x) × (f x ≡ Err y))
then_err (Ok x) f y e = inr (x, refl, e)
then_err (Err x) f y e = inl (ap (λ z. Err z) (err_same _ _ e))

-- What was read is written with the symbols before the rest, and the same is read before every rest that has the
-- same next symbol.
pub record Took {A : Type 0} (S : A → Nested → Type 0) (n : ℕ) (r : Reader A) (ws : Symbols) (x : A × Symbols) : Type 0 where
  pub front : Nested
  pub cut : ws ≡ plain front ++ x.1
  pub written : S x.0 front
  pub within : Within n front
  pub same : (zs : Symbols) → next zs ≡ next x.1 → r (plain front ++ zs) ≡ Ok (x.0, zs)

-- What was read before a stop begins some thing; where a level was left out, some thing goes on with the next
-- symbol, one level deeper.
abbrev pub Begins : {A : Type 0} → (A → Nested → Type 0) → ℕ → Nested → Stop → Symbols → Type 0
Begins S n front unexpected rest = (a : _) × (more : Nested) × S a (front ++ more)
Begins S n front too_deep rest = (w : Symbol) × (ws : Symbols) × (a : _) × (more : Nested) × (rest ≡ w ∷ ws) × S a (front ++ ((w, suc n) ∷ more))

-- Reading stopped after symbols that begin some thing, and it stops so before every rest that has the same next
-- symbol.
pub record Stopped {A : Type 0} (S : A → Nested → Type 0) (n : ℕ) (r : Reader A) (ws : Symbols) (e : Stop × Symbols) : Type 0 where
  pub front : Nested
  pub cut : ws ≡ plain front ++ e.1
  pub within : Within n front
  pub begins : Begins S n front e.0 e.1
  pub same : (zs : Symbols) → next zs ≡ next e.1 → r (plain front ++ zs) ≡ Err (e.0, zs)

-- A reader with more levels answers the same, but where the one with fewer stopped for want of a level.
abbrev pub StopGrows : {A : Type 0} → Stop → Stop × Symbols → Reading A → Type 0
StopGrows unexpected e y = y ≡ Err e
StopGrows too_deep e y = Unit {0}

abbrev pub Grows : {A : Type 0} → Reading A → Reading A → Type 0
Grows (Ok x) y = y ≡ Ok x
Grows (Err e) y = StopGrows e.0 e y

-- The reader r, which may open levels up to the nesting n, reads what S says: `goes` are the symbols with which
-- something that is read may still go on. The reader `more` is r with more levels.
pub record Law {A : Type 0} (S : A → Nested → Type 0) (n : ℕ) (goes : Test) (r more : Reader A) : Type 0 where
  pub some : (a : A) × (ws : Nested) × S a ws
  pub took : (ws : Symbols) (x : A × Symbols) → r ws ≡ Ok x → Took S n r ws x
  pub stopped : (ws : Symbols) (e : Stop × Symbols) → r ws ≡ Err e → Stopped S n r ws e
  pub only : (a : A) (front : Nested) (rest : Symbols) → S a front → Within n front → goes (next rest) ≡ false → r (plain front ++ rest) ≡ Ok (a, rest)
  pub grows : (ws : Symbols) → Grows (r ws) (more ws)

-- more levels

err_itself : (A : Type 0) (k : Stop) (ws : Symbols) → Grows {A = A} (Err (k, ws)) (Err (k, ws))
err_itself A unexpected ws = refl
err_itself A too_deep ws = tt

pub itself : {A : Type 0} (o : Reading A) → Grows o o
itself (Ok x) = refl
itself {A = A} (Err e) = err_itself A e.0 e.1

stop_then : {A B : Type 0} (k : Stop) (e : Stop × Symbols) (p : Reading A) (g : A × Symbols → Reading B) → StopGrows k e p → StopGrows k e (then_read p g)
stop_then unexpected e p g h = ap (λ o. then_read o g) h
stop_then too_deep e p g h = tt

pub then_grows : {A B : Type 0} (o p : Reading A) (f g : A × Symbols → Reading B) → Grows o p → ((x : A × Symbols) → Grows (f x) (g x)) → Grows (then_read o f) (then_read p g)
then_grows (Ok x) p f g h i = subst (λ q. Grows (f x) (then_read q g)) (sym h) (i x)
then_grows (Err e) p f g h i = stop_then e.0 e p g h

if_grows : {A : Type 0} (b : Bool) (o o2 p p2 : Reading A) → Grows o o2 → Grows p p2 → Grows (if b then o else p) (if b then o2 else p2)
if_grows true o o2 p p2 g h = g
if_grows false o o2 p p2 g h = h

pub pair_grows : {A B : Type 0} (r more : Reader A) (s more2 : Reader B) → ((ws : Symbols) → Grows (r ws) (more ws)) → ((ws : Symbols) → Grows (s ws) (more2 ws)) → (ws : Symbols) → Grows (pair r s ws) (pair more more2 ws)
pair_grows r more s more2 a b ws = then_grows (r ws) (more ws) _ _ (a ws) (λ x. then_grows (s x.1) (more2 x.1) _ _ (b x.1) (λ y. refl))

pub image_grows : {A B : Type 0} (f : A → B) (r more : Reader A) → ((ws : Symbols) → Grows (r ws) (more ws)) → (ws : Symbols) → Grows (image f r ws) (image f more ws)
image_grows f r more a ws = then_grows (r ws) (more ws) _ _ (a ws) (λ x. refl)

pub choice_grows : {A : Type 0} (test : Test) (r more s more2 : Reader A) → ((ws : Symbols) → Grows (r ws) (more ws)) → ((ws : Symbols) → Grows (s ws) (more2 ws)) → (ws : Symbols) → Grows (choice test r s ws) (choice test more more2 ws)
choice_grows test r more s more2 a b ws = if_grows (test (next ws)) (r ws) (more ws) (s ws) (more2 ws) (a ws) (b ws)

-- one thing and then another

pub pair_ok : {A B : Type 0} (r : Reader A) (s : Reader B) (ws mid rest : Symbols) (a : A) (b : B) → r ws ≡ Ok (a, mid) → s mid ≡ Ok (b, rest) → pair r s ws ≡ Ok ((a, b), rest)
pair_ok r s ws mid rest a b e f = simp (e, f)

pub pair_took : {A B : Type 0} {S : A → Nested → Type 0} {T : B → Nested → Type 0} {n : ℕ} {r : Reader A} {s : Reader B} {ws : Symbols} {x : A × Symbols} {y : B × Symbols}
    → Took S n r ws x → Took T n s x.1 y → Took (Pair S T) n (pair r s) ws ((x.0, y.0), y.1)
pair_took {n = n} {r = r} {s = s} {x = x} {y = y} t u = record {
  front = t.front ++ u.front;
  cut = t.cut ∙ ap (λ (l : Symbols). plain t.front ++ l) u.cut ∙ sym (regroup t.front u.front y.1);
  written = (t.front, u.front, refl, t.written, u.written);
  within = within_append n t.front u.front t.within u.within;
  same = λ zs e.
      let first = t.same (plain u.front ++ zs) (same_next u.front zs y.1 e ∙ ap next (sym u.cut)) in
      ap (pair r s) (regroup t.front u.front zs) ∙ pair_ok r s _ (plain u.front ++ zs) zs x.0 y.0 first (u.same zs e);
}

begins_first : {A B : Type 0} (S : A → Nested → Type 0) (T : B → Nested → Type 0) (n : ℕ) (k : Stop) (front : Nested) (rest : Symbols) → (b : B) × (ws : Nested) × T b ws → Begins S n front k rest → Begins (Pair S T) n front k rest
begins_first S T n unexpected front rest some v = ((v.0, some.0), v.1 ++ some.1, (front ++ v.1, some.1, sym (append_assoc front v.1 some.1), v.2, some.2))
begins_first S T n too_deep front rest some v = (v.0, v.1, (v.2, some.0), v.3 ++ some.1, v.4, (front ++ ((v.0, suc n) ∷ v.3), some.1, sym (append_assoc front ((v.0, suc n) ∷ v.3) some.1), v.5, some.2))

begins_second : {A B : Type 0} (S : A → Nested → Type 0) (T : B → Nested → Type 0) (n : ℕ) (k : Stop) (a : A) (f front : Nested) (rest : Symbols) → S a f → Begins T n front k rest → Begins (Pair S T) n (f ++ front) k rest
begins_second S T n unexpected a f front rest is v = ((a, v.0), v.1, (f, front ++ v.1, append_assoc f front v.1, is, v.2))
begins_second S T n too_deep a f front rest is v = (v.0, v.1, (a, v.2), v.3, v.4, (f, front ++ ((v.0, suc n) ∷ v.3), append_assoc f front ((v.0, suc n) ∷ v.3), is, v.5))

pub pair_stopped_first : {A B : Type 0} {S : A → Nested → Type 0} {T : B → Nested → Type 0} {n : ℕ} {r : Reader A} (s : Reader B) {ws : Symbols} {e : Stop × Symbols}
    → (b : B) × (ws : Nested) × T b ws → Stopped S n r ws e → Stopped (Pair S T) n (pair r s) ws e
pair_stopped_first {S = S} {T = T} {n = n} {r = r} s {e = e} some t = record {
  front = t.front;
  cut = t.cut;
  within = t.within;
  begins = begins_first S T n e.0 t.front e.1 some t.begins;
  same = λ zs h. ap (λ o. then_read o (λ x. then_read (s x.1) (λ y. Ok ((x.0, y.0), y.1)))) (t.same zs h);
}

pub pair_stopped_second : {A B : Type 0} {S : A → Nested → Type 0} {T : B → Nested → Type 0} {n : ℕ} {r : Reader A} {s : Reader B} {ws : Symbols} {x : A × Symbols} {e : Stop × Symbols}
    → Took S n r ws x → Stopped T n s x.1 e → Stopped (Pair S T) n (pair r s) ws e
pair_stopped_second {S = S} {T = T} {n = n} {r = r} {s = s} {x = x} {e = e} t u = record {
  front = t.front ++ u.front;
  cut = t.cut ∙ ap (λ (l : Symbols). plain t.front ++ l) u.cut ∙ sym (regroup t.front u.front e.1);
  within = within_append n t.front u.front t.within u.within;
  begins = begins_second S T n e.0 x.0 t.front u.front e.1 t.written u.begins;
  same = λ zs h.
      let a : r (plain t.front ++ (plain u.front ++ zs)) ≡ Ok (x.0, plain u.front ++ zs) = t.same (plain u.front ++ zs) (same_next u.front zs e.1 h ∙ ap next (sym u.cut)) in
      let b : s (plain u.front ++ zs) ≡ Err (e.0, zs) = u.same zs h in
      ap (pair r s) (regroup t.front u.front zs) ∙ simp (a, b);
}

-- what comes after the first thing leaves it as it is
abbrev pub Ends : {A B : Type 0} → (A → Nested → Type 0) → (B → Nested → Type 0) → Test → Test → Type 0
Ends S T first goes = (a : _) (b : _) (f g : Nested) (rest : Symbols) → S a f → T b g → goes (next rest) ≡ false → first (next (plain g ++ rest)) ≡ false

pub pair_law : {A B : Type 0} {S : A → Nested → Type 0} {T : B → Nested → Type 0} {n : ℕ} {first goes : Test} {r more : Reader A} {s more2 : Reader B}
    → Law S n first r more → Law T n goes s more2 → Ends S T first goes → Law (Pair S T) n goes (pair r s) (pair more more2)
pair_law {S = S} {T = T} {n = n} {r = r} {more = more} {s = s} {more2 = more2} l m ends = record {
  some = ((l.some.0, m.some.0), l.some.1 ++ m.some.1, (l.some.1, m.some.1, refl, l.some.2, m.some.2));
  took = λ ws x e.
      let a = then_ok (r ws) _ x e in
      let b = then_ok (s a.0.1) _ x a.2 in
      subst (Took (Pair S T) n (pair r s) ws) (ok_same _ x b.2) (pair_took (l.took ws a.0 a.1) (m.took a.0.1 b.0 b.1));
  stopped = λ ws e h. elim (then_err (r ws) _ e h) [
    | inl h1 ↦ pair_stopped_first s m.some (l.stopped ws e h1)
    | inr a ↦ elim (then_err (s a.0.1) _ e a.2) [
      | inl h2 ↦ pair_stopped_second (l.took ws a.0 a.1) (m.stopped a.0.1 e h2)
      | inr b ↦ absurd (ok_not_err _ _ b.2)
    ]
  ];
  only = λ p ws rest is within end.
      let f = is.0 in let g = is.1 in
      let w : Within n (f ++ g) = subst (Within n) is.2 within in
      let one = l.only p.0 f (plain g ++ rest) is.3 (within_front n f g w) (ends p.0 p.1 f g rest is.3 is.4 end) in
      let two = m.only p.1 g rest is.4 (within_back n f g w) end in
      ap (λ (l : Nested). pair r s (plain l ++ rest)) is.2 ∙ (ap (pair r s) (regroup f g rest) ∙ pair_ok r s _ (plain g ++ rest) rest p.0 p.1 one two);
  grows = pair_grows r more s more2 l.grows m.grows;
}

-- after something that can't go on
pub after : {A B : Type 0} {S : A → Nested → Type 0} {T : B → Nested → Type 0} {n : ℕ} {goes : Test} {r more : Reader A} {s more2 : Reader B}
    → Law S n never r more → Law T n goes s more2 → Law (Pair S T) n goes (pair r s) (pair more more2)
after l m = pair_law l m (λ a b f g rest is it e. refl)

-- what a function makes of a thing

pub image_took : {A B : Type 0} {S : A → Nested → Type 0} {n : ℕ} {r : Reader A} {ws : Symbols} {x : A × Symbols} (f : A → B) → Took S n r ws x → Took (Image f S) n (image f r) ws (f x.0, x.1)
image_took {x = x} f t = record { front = t.front; cut = t.cut; written = (x.0, refl, t.written); within = t.within; same = λ zs e. ap (λ o. then_read o (λ y. Ok (f y.0, y.1))) (t.same zs e) }

begins_image : {A B : Type 0} (S : A → Nested → Type 0) (n : ℕ) (f : A → B) (k : Stop) (front : Nested) (rest : Symbols) → Begins S n front k rest → Begins (Image f S) n front k rest
begins_image S n f unexpected front rest v = (f v.0, v.1, (v.0, refl, v.2))
begins_image S n f too_deep front rest v = (v.0, v.1, f v.2, v.3, v.4, (v.2, refl, v.5))

pub image_stopped : {A B : Type 0} {S : A → Nested → Type 0} {n : ℕ} {r : Reader A} {ws : Symbols} {e : Stop × Symbols} (f : A → B) → Stopped S n r ws e → Stopped (Image f S) n (image f r) ws e
image_stopped {S = S} {n = n} {e = e} f t = record { front = t.front; cut = t.cut; within = t.within; begins = begins_image S n f e.0 t.front e.1 t.begins; same = λ zs i. ap (λ o. then_read o (λ y. Ok (f y.0, y.1))) (t.same zs i) }

pub image_law : {A B : Type 0} {S : A → Nested → Type 0} {n : ℕ} {goes : Test} {r more : Reader A} (f : A → B) → Law S n goes r more → Law (Image f S) n goes (image f r) (image f more)
image_law {S = S} {n = n} {r = r} {more = more} f l = record {
  some = (f l.some.0, l.some.1, (l.some.0, refl, l.some.2));
  took = λ ws x e. let a = then_ok (r ws) _ x e in subst (Took (Image f S) n (image f r) ws) (ok_same _ x a.2) (image_took f (l.took ws a.0 a.1));
  stopped = λ ws e i. elim (then_err (r ws) _ e i) [
    | inl i1 ↦ image_stopped f (l.stopped ws e i1)
    | inr a ↦ absurd (ok_not_err _ _ a.2)
  ];
  only = λ b ws rest is within end. ap (λ o. then_read o (λ y. Ok (f y.0, y.1))) (l.only is.0 ws rest is.2 within end) ∙ ap (λ c. Ok (c, rest)) (sym is.1);
  grows = image_grows f r more l.grows;
}

-- the same things in other words

pub as_took : {A : Type 0} {S T : A → Nested → Type 0} {n : ℕ} {r : Reader A} {ws : Symbols} {x : A × Symbols} → ((a : A) (ws : Nested) → S a ws → T a ws) → Took S n r ws x → Took T n r ws x
as_took {x = x} to t = record { front = t.front; cut = t.cut; written = to x.0 t.front t.written; within = t.within; same = t.same }

begins_as : {A : Type 0} (S T : A → Nested → Type 0) (n : ℕ) (k : Stop) (front : Nested) (rest : Symbols) → ((a : A) (ws : Nested) → S a ws → T a ws) → Begins S n front k rest → Begins T n front k rest
begins_as S T n unexpected front rest to v = (v.0, v.1, to _ _ v.2)
begins_as S T n too_deep front rest to v = (v.0, v.1, v.2, v.3, v.4, to _ _ v.5)

pub as_stopped : {A : Type 0} {S T : A → Nested → Type 0} {n : ℕ} {r : Reader A} {ws : Symbols} {e : Stop × Symbols} → ((a : A) (ws : Nested) → S a ws → T a ws) → Stopped S n r ws e → Stopped T n r ws e
as_stopped {S = S} {T = T} {n = n} {e = e} to t = record { front = t.front; cut = t.cut; within = t.within; begins = begins_as S T n e.0 t.front e.1 to t.begins; same = t.same }

pub as_law : {A : Type 0} {S T : A → Nested → Type 0} {n : ℕ} {goes : Test} {r more : Reader A} → ((a : A) (ws : Nested) → S a ws → T a ws) → ((a : A) (ws : Nested) → T a ws → S a ws) → Law S n goes r more → Law T n goes r more
as_law to from l = record {
  some = (l.some.0, l.some.1, to _ _ l.some.2);
  took = λ ws x e. as_took to (l.took ws x e);
  stopped = λ ws e h. as_stopped to (l.stopped ws e h);
  only = λ a front rest is within end. l.only a front rest (from a front is) within end;
  grows = l.grows;
}

-- fewer symbols after which the reader is known to end
pub wider_law : {A : Type 0} {S : A → Nested → Type 0} {n : ℕ} {goes wider : Test} {r more : Reader A} → ((w : Option Symbol) → wider w ≡ false → goes w ≡ false) → Law S n goes r more → Law S n wider r more
wider_law ends l = record { some = l.some; took = l.took; stopped = l.stopped; only = λ a front rest is within e. l.only a front rest is within (ends (next rest) e); grows = l.grows }

-- one of two things, by the next symbol

pub chose_first : {A : Type 0} (test : Test) (r s : Reader A) (ws : Symbols) → test (next ws) ≡ true → choice test r s ws ≡ r ws
chose_first test r s ws t = rw t refl

pub chose_second : {A : Type 0} (test : Test) (r s : Reader A) (ws : Symbols) → test (next ws) ≡ false → choice test r s ws ≡ s ws
chose_second test r s ws t = rw t refl

alike : (test : Test) (b : Bool) (f : Nested) (ws rest zs : Symbols) → ws ≡ plain f ++ rest → next zs ≡ next rest → test (next ws) ≡ b → test (next (plain f ++ zs)) ≡ b
alike test b f ws rest zs cut e t = ap test (same_next f zs rest e ∙ ap next (sym cut)) ∙ t

pub first_took : {A : Type 0} {S : A → Nested → Type 0} (T : A → Nested → Type 0) {n : ℕ} (test : Test) {r : Reader A} (s : Reader A) {ws : Symbols} {x : A × Symbols} → test (next ws) ≡ true → Took S n r ws x → Took (Choice S T) n (choice test r s) ws x
first_took T test {r = r} s {ws = ws} {x = x} h t = record { front = t.front; cut = t.cut; written = inl t.written; within = t.within; same = λ zs e. chose_first test r s _ (alike test true t.front ws x.1 zs t.cut e h) ∙ t.same zs e }

pub second_took : {A : Type 0} (S : A → Nested → Type 0) {T : A → Nested → Type 0} {n : ℕ} (test : Test) (r : Reader A) {s : Reader A} {ws : Symbols} {x : A × Symbols} → test (next ws) ≡ false → Took T n s ws x → Took (Choice S T) n (choice test r s) ws x
second_took S test r {s = s} {ws = ws} {x = x} h t = record { front = t.front; cut = t.cut; written = inr t.written; within = t.within; same = λ zs e. chose_second test r s _ (alike test false t.front ws x.1 zs t.cut e h) ∙ t.same zs e }

pub first_stopped : {A : Type 0} {S : A → Nested → Type 0} (T : A → Nested → Type 0) {n : ℕ} (test : Test) {r : Reader A} (s : Reader A) {ws : Symbols} {e : Stop × Symbols} → test (next ws) ≡ true → Stopped S n r ws e → Stopped (Choice S T) n (choice test r s) ws e
first_stopped {S = S} T {n = n} test {r = r} s {ws = ws} {e = e} h t = record { front = t.front; cut = t.cut; within = t.within; begins = begins_as S (Choice S T) n e.0 t.front e.1 (λ a ws is. inl is) t.begins; same = λ zs i. chose_first test r s _ (alike test true t.front ws e.1 zs t.cut i h) ∙ t.same zs i }

pub second_stopped : {A : Type 0} (S : A → Nested → Type 0) {T : A → Nested → Type 0} {n : ℕ} (test : Test) (r : Reader A) {s : Reader A} {ws : Symbols} {e : Stop × Symbols} → test (next ws) ≡ false → Stopped T n s ws e → Stopped (Choice S T) n (choice test r s) ws e
second_stopped S {T = T} {n = n} test r {s = s} {ws = ws} {e = e} h t = record { front = t.front; cut = t.cut; within = t.within; begins = begins_as T (Choice S T) n e.0 t.front e.1 (λ a ws is. inr is) t.begins; same = λ zs i. chose_second test r s _ (alike test false t.front ws e.1 zs t.cut i h) ∙ t.same zs i }

-- the test says b of the first symbol of each thing
pub record Heads {A : Type 0} (b : Bool) (test : Test) (S : A → Nested → Type 0) : Type 0 where
  pub says : (a : A) (f : Nested) (rest : Symbols) → S a f → test (next (plain f ++ rest)) ≡ b

-- each of two things ends where the choice of them does
abbrev pub Both : Test → Test → Test → Type 0
Both goes first last = (w : Option Symbol) → goes w ≡ false → (first w ≡ false) × (last w ≡ false)

-- after a thing or in its place the test fails, if it fails of what comes after
pub record Passes {A : Type 0} (goes test : Test) (S : A → Nested → Type 0) : Type 0 where
  pub fails : (a : A) (f : Nested) (rest : Symbols) → S a f → goes (next rest) ≡ false → test (next (plain f ++ rest)) ≡ false

pub choice_law : {A : Type 0} {S T : A → Nested → Type 0} {n : ℕ} {first last goes : Test} {r more s more2 : Reader A} (test : Test)
    → Law S n first r more → Law T n last s more2 → Both goes first last → Heads true test S → Passes goes test T → Law (Choice S T) n goes (choice test r s) (choice test more more2)
choice_law {S = S} {T = T} {r = r} {more = more} {s = s} {more2 = more2} test l m ends heads others = record {
  some = (l.some.0, l.some.1, inl l.some.2);
  took = λ ws x e. elim (cases_Bool (test (next ws))) [
    | inl t ↦ first_took T test s t (l.took ws x (sym (chose_first test r s ws t) ∙ e))
    | inr t ↦ second_took S test r t (m.took ws x (sym (chose_second test r s ws t) ∙ e))
  ];
  stopped = λ ws x e. elim (cases_Bool (test (next ws))) [
    | inl t ↦ first_stopped T test s t (l.stopped ws x (sym (chose_first test r s ws t) ∙ e))
    | inr t ↦ second_stopped S test r t (m.stopped ws x (sym (chose_second test r s ws t) ∙ e))
  ];
  only = λ a front rest is within end. elim is [
    | inl h ↦ chose_first test r s _ (heads.says a front rest h) ∙ l.only a front rest h within (ends (next rest) end).0
    | inr h ↦ chose_second test r s _ (others.fails a front rest h end) ∙ m.only a front rest h within (ends (next rest) end).1
  ];
  grows = choice_grows test r more s more2 l.grows m.grows;
}

-- no symbol

pub empty_law : {A : Type 0} (a : A) (n : ℕ) → Law (Empty a) n never (empty a) (empty a)
empty_law a n = record {
  some = (a, [], (refl, refl));
  took = λ ws x e. subst (Took (Empty a) n (empty a) ws) (ok_same (a, ws) x e) (record { front = []; cut = refl; written = (refl, refl); within = tt; same = λ zs h. refl });
  stopped = λ ws x e. absurd (ok_not_err _ _ e);
  only = λ b front rest is within end. ap (λ (l : Nested). Ok (a, plain l ++ rest)) is.1 ∙ ap (λ c. Ok (c, rest)) (sym is.0);
  grows = λ ws. refl;
}

-- one symbol

taken_took : {A : Type 0} (taking : Taking A) (d n : ℕ) (w : Symbol) (ws : Symbols) (x : A × Symbols) (o : Option A) → d ≤ n → taking w ≡ o → taken o ws (w ∷ ws) ≡ Ok x → Took (Single taking d) n (single taking) (w ∷ ws) x
taken_took taking d n w ws x None le is e = absurd (ok_not_err _ _ (sym e))
taken_took taking d n w ws x (Some a) le is e = subst (Took (Single taking d) n (single taking) (w ∷ ws)) (ok_same (a, ws) x e)
    (record { front = (w, d) ∷ []; cut = refl; written = (w, refl, is); within = (le, tt); same = λ zs h. ap (λ o. taken o zs (w ∷ zs)) is })

refused : {A : Type 0} (taking : Taking A) (w : Symbol) (ws zs : Symbols) → taking w ≡ None → next zs ≡ next (w ∷ ws) → single taking zs ≡ Err (unexpected, zs)
refused taking w ws [] is h = refl
refused taking w ws (z ∷ zs) is h = ap (λ o. taken o zs (z ∷ zs)) (ap taking (same_Some z w h) ∙ is)

taken_stopped : {A : Type 0} (taking : Taking A) (d n : ℕ) (a : A) (v : Symbol) → taking v ≡ Some a → (w : Symbol) (ws : Symbols) (e : Stop × Symbols) (o : Option A) → taking w ≡ o → taken o ws (w ∷ ws) ≡ Err e → Stopped (Single taking d) n (single taking) (w ∷ ws) e
taken_stopped taking d n a v good w ws e (Some b) is h = absurd (ok_not_err _ _ h)
taken_stopped taking d n a v good w ws e None is h = subst (Stopped (Single taking d) n (single taking) (w ∷ ws)) (err_same (unexpected, w ∷ ws) e h)
    (record { front = []; cut = refl; within = tt; begins = (a, (v, d) ∷ [], (v, refl, good)); same = λ zs i. refused taking w ws zs is i })

none_left : (zs : Symbols) → next zs ≡ None → zs ≡ []
none_left [] e = refl
none_left (z ∷ zs) e = cc

-- the reader of one symbol, with a symbol that it takes
pub single_law : {A : Type 0} {d n : ℕ} (taking : Taking A) (a : A) (v : Symbol) → taking v ≡ Some a → d ≤ n → Law (Single taking d) n never (single taking) (single taking)
single_law {A = A} {d = d} {n = n} taking a v good le = record {
  some = (a, (v, d) ∷ [], (v, refl, good));
  took = took;
  stopped = stopped;
  only = λ b front rest is within end. ap (λ (l : Nested). single taking (plain l ++ rest)) is.1 ∙ ap (λ o. taken o rest (is.0 ∷ rest)) is.2;
  grows = λ ws. itself (single taking ws);
}
  where
    took : (ws : Symbols) (x : A × Symbols) → single taking ws ≡ Ok x → Took (Single taking d) n (single taking) ws x
    took [] x e = absurd (ok_not_err _ _ (sym e))
    took (w ∷ ws) x e = taken_took taking d n w ws x (taking w) le refl e

    stopped : (ws : Symbols) (e : Stop × Symbols) → single taking ws ≡ Err e → Stopped (Single taking d) n (single taking) ws e
    stopped [] e h = subst (Stopped (Single taking d) n (single taking) []) (err_same (unexpected, []) e h)
        (record { front = []; cut = refl; within = tt; begins = (a, (v, d) ∷ [], (v, refl, good)); same = λ zs i. ap (single taking) (none_left zs i) ∙ ap (λ (l : Symbols). Err (unexpected, l)) (sym (none_left zs i)) })
    stopped (w ∷ ws) e h = taken_stopped taking d n a v good w ws e (taking w) refl h
