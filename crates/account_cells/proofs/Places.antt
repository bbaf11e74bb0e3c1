-- The places of views among all views of a cell.
use Rattle.std.proofs.Common.{◌≡◌, ◌≢◌, ◌⊎◌, ℕ, List, [], ◌∷◌, ◌++◌, set, true, false, refl, sym, ap, ◌∙◌, ⊎_elim, inl, inr, nat_eq, length, length-set, zero, suc}
use Rattle.std.proofs.lemmas.Bool.{cases_Bool, false≢true, eqb-true, eqb-false}
use mathlib.Core.Option.{some-ne-none, some-injective}
use lib.ListN.{get_elem?}
use Rattle.atomic_table.proofs.Lists.{at_set, at_last, set_else}
use Rattle.account_cells.specs.Views.{View, no_view}
use Rattle.account_cells.specs.Rule.{IsAt, IsFree}

pub at_set_here : (views : List View) (i : ℕ) (v w : View) → IsAt views i v → IsAt (set views i w) i w
at_set_here [] i v w e = absurd (some-ne-none v (sym e))
at_set_here (x ∷ xs) zero v w e = refl
at_set_here (x ∷ xs) (suc i) v w e = at_set_here xs i v w e

pub at_push : (l : List View) (a b : View) (j : ℕ) → IsAt (l ++ a ∷ []) j b → (IsAt l j b) ⊎ ((j ≡ length l) × (a ≡ b))
at_push [] a b zero e = inr (refl, some-injective a b e)
at_push [] a b (suc j) e = absurd (some-ne-none b (sym e))
at_push (x ∷ xs) a b zero e = inl e
at_push (x ∷ xs) a b (suc j) e = ⊎_elim (λ (t : IsAt xs j b). inl t) (λ (t : (j ≡ length xs) × (a ≡ b)). inr (ap suc t.0, t.1)) (at_push xs a b j e)

-- each live name of the first views is one of the second
abbrev pub NamesStay : List View → List View → Type 0
NamesStay views more = (i : ℕ) (v : View) → IsAt views i v → v.live ≡ true → (j : ℕ) × (u : View) × IsAt more j u × (u.live ≡ true) × (u.name ≡ v.name)

pub free_before : (views more : List View) (c : ℕ) → NamesStay views more → IsFree more c → IsFree views c
free_before views more c forth free i v at live is = let s = forth i v at live in free s.0 s.1 s.2 s.3 (s.4 ∙ is)

-- a view that was replaced under its name: no name is lost
pub names_after : (views : List View) (pass : ℕ) (v w : View) → IsAt views pass v → w.live ≡ true → w.name ≡ v.name → NamesStay views (set views pass w)
names_after views pass v w at live same i u there is_live = ⊎_elim
    (λ (is : i ≡ pass). (pass, w, at_set_here views pass v w at, live, same ∙ ap (λ (z : View). z.name) (some-injective v u (sym at ∙ (ap (λ j. get_elem? views j) (sym is) ∙ there)))))
    (λ (isnt : i ≢ pass). (i, u, set_else views pass i w isnt ∙ there, is_live, refl))
    (decided i pass)
  where
    decided : (i j : ℕ) → (i ≡ j) ⊎ (i ≢ j)
    decided i j = ⊎_elim (λ (e : nat_eq i j ≡ true). inl (eqb-true i j e)) (λ (e : nat_eq i j ≡ false). inr (eqb-false i j e)) (cases_Bool (nat_eq i j))

-- and none comes
pub names_before : (views : List View) (pass : ℕ) (v w : View) → IsAt views pass v → v.live ≡ true → w.name ≡ v.name → NamesStay (set views pass w) views
names_before views pass v w at live same i u there is_live = ⊎_elim
    (λ (t : (i ≡ pass) × (w ≡ u)). (pass, v, at, live, sym same ∙ ap (λ (z : View). z.name) t.1))
    (λ (t : (i ≢ pass) × IsAt views i u). (i, u, t.1, is_live, refl))
    (at_set views pass i w u there)

-- what stands at a place once a view was replaced and another was added
pub PlaceCases : List View → ℕ → View → View → ℕ → View → Type 0
PlaceCases views pass left right j u = ((j ≡ pass) × (left ≡ u)) ⊎ ((j ≢ pass) × IsAt views j u) ⊎ ((j ≡ length views) × (right ≡ u))

pub place_cases : (views : List View) (pass : ℕ) (left right : View) (j : ℕ) (u : View) → IsAt (set views pass left ++ right ∷ []) j u → PlaceCases views pass left right j u
unfolding PlaceCases
place_cases views pass left right j u there = ⊎_elim
    (λ (e : IsAt (set views pass left) j u). ⊎_elim
    (λ (t : (j ≡ pass) × (left ≡ u)). inl t)
    (λ (t : (j ≢ pass) × IsAt views j u). inr (inl t))
    (at_set views pass j left u e))
    (λ (t : (j ≡ length (set views pass left)) × (right ≡ u)). inr (inr (t.0 ∙ length-set views pass left, t.1)))
    (at_push (set views pass left) right u j there)

pub by_place : {P : Type 0} (views : List View) (pass : ℕ) (left right : View) (j : ℕ) (u : View) → (((j ≡ pass) × (left ≡ u)) → P) → (((j ≢ pass) × IsAt views j u) → P) → (((j ≡ length views) × (right ≡ u)) → P)
    → IsAt (set views pass left ++ right ∷ []) j u → P
unfolding PlaceCases
by_place views pass left right j u a b c there = ⊎_elim a (λ (t : ((j ≢ pass) × IsAt views j u) ⊎ ((j ≡ length views) × (right ≡ u))). ⊎_elim b c t) (place_cases views pass left right j u there)

pub at_pushed : (views : List View) (pass : ℕ) (left right : View) → IsAt (set views pass left ++ right ∷ []) (length views) right
at_pushed views pass left right = at_last (set views pass left) right (length views) (length-set views pass left)

pub not_live : {P : Type 0} (u : View) → no_view ≡ u → u.live ≡ true → P
not_live u e l = absurd (false≢true (ap (λ (z : View). z.live) e ∙ l))
