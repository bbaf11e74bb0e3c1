-- Tables by depth.
use Rattle.std.proofs.Common.{◌≡◌, ⊎_elim, ℕ, ◌<◌, Bool, true, false, true≢false, cond, eqb, refl, sym, ap, ◌∙◌, arith, eqb-true, eq-eqb}
use Rattle.std.proofs.lemmas.Bool.{cases_Bool}
use Rattle.plan_table.specs.Totals.{put_at}

pub put_here : {X : Type 0} (d : ℕ) (x : X) (table : ℕ → X) → put_at d x table d ≡ x
put_here d x table = ap (λ (b : Bool). cond b x (table d)) (eq-eqb d d refl)

pub put_elsewhere : {X : Type 0} (d : ℕ) (x : X) (table : ℕ → X) (e : ℕ) → (e ≡ d → ⊥) → put_at d x table e ≡ table e
put_elsewhere d x table e apart = ⊎_elim
    (λ (same : eqb e d ≡ true). absurd (apart (eqb-true e d same)))
    (λ (differ : eqb e d ≡ false). ap (λ (b : Bool). cond b x (table e)) differ)
    (cases_Bool (eqb e d))

pub below_apart : (e d : ℕ) → e < d → e ≡ d → ⊥
below_apart e d less same = omega arith

-- A table in which x was put at d holds x wherever it held x apart from d.
pub put_clear : {X : Type 0} (d : ℕ) (x : X) (table : ℕ → X) (e : ℕ) → ((e ≡ d → ⊥) → table e ≡ x) → put_at d x table e ≡ x
put_clear d x table e other = ⊎_elim
    (λ (same : eqb e d ≡ true). ap (λ (b : Bool). cond b x (table e)) same)
    (λ (differ : eqb e d ≡ false). ap (λ (b : Bool). cond b x (table e)) differ ∙ other (λ same. true≢false (sym (eq-eqb e d same) ∙ differ)))
    (cases_Bool (eqb e d))
