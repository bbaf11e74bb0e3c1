-- From a greatest cost that stops above the cap to the bound, or to the component that exceeds the cap.
use Rattle.std.proofs.Common.{◌≡◌, ◌↔◌, ◌⊎◌, inl, inr, ℕ, ◌≤◌, ◌<◌, Bool, IsTrue, nat_lt, subst, arith, ltb-true, lt-ltb}
use Rattle.cost_num.specs.declared.TheConstants.{CAP}
use Rattle.cost_num.specs.declared.Cost.{Cost}
use Rattle.cost_num.specs.Capped.{capped}
use Rattle.serde_json.specs.Data.{Data}
use Rattle.response_model.specs.Plan.{Plan}
use Rattle.response_model.specs.Cost.{Part}
use Rattle.response_model.specs.Bound.{IsBound, IsSound, greatest_cost}
use Rattle.response_model.proofs.Filling.{bound_is, exceeds}
use Rattle.plan_table.specs.TableBounds.{ExceedsCapIn}
use Rattle.static_cost.specs.CostBound.{IsWithin}

-- A number is the greatest cost of the plan in a part, or stands for one that exceeds the cap.
abbrev pub IsCapped : Part → Plan → ℕ → Type 0
IsCapped part plan most = most ≡ capped (greatest_cost part plan)

module _ (holds : ℕ → Data → Bool) where
  pub is_bound : (part : Part) (plan : Plan) (most : ℕ) → IsSound holds plan → IsCapped part plan most → most ≤ CAP → IsBound holds part plan most
  is_bound part plan most sound capped within =
      let same : greatest_cost part plan ≡ most = omega arith in
      subst (λ (b : ℕ). IsBound holds part plan b) same (bound_is holds part plan sound)

  pub same_bound : (part : Part) (plan : Plan) (most bound : ℕ) → IsSound holds plan → IsCapped part plan most → IsBound holds part plan bound → bound ≤ CAP → most ≡ bound
  same_bound part plan most bound sound capped is within =
      let greatest = bound_is holds part plan sound in
      let above = is.upper greatest.attained.0 greatest.attained.1 in
      let below = greatest.upper is.attained.0 is.attained.1 in
      let attained = greatest.attained.2 in
      let attained_too = is.attained.2 in
      omega arith

  pub names : (part : Part) (plan : Plan) (most : ℕ) → IsSound holds plan → IsCapped part plan most → IsTrue (nat_lt CAP most) ↔ ExceedsCapIn holds part plan
  names part plan most sound capped =
      let same = exceeds holds part plan CAP sound in
      (λ named. same.1 (let past = ltb-true CAP most named in omega arith), λ some. lt-ltb CAP most (let past = same.0 some in omega arith))

-- The test of the code: one of the two components exceeds the cap.
abbrev pub OneExceeds : ℕ → ℕ → Type 0
OneExceeds a b = (CAP < a) ⊎ ((a ≤ CAP) × (CAP < b))

pub names_one : (a b : ℕ) → OneExceeds a b → IsTrue (nat_lt CAP a) ⊎ IsTrue (nat_lt CAP b)
names_one a b past = elim past [ inl h ↦ inl (lt-ltb CAP a h) | inr h ↦ inr (lt-ltb CAP b h.1) ]

pub not_within : (a b : ℕ) (bound : Cost) → OneExceeds a b → a ≡ bound.types → b ≡ bound.fields → IsWithin bound → ⊥
not_within a b bound past same_types same_fields within =
    let of_types = within.of_types in
    let of_fields = within.of_fields in
    elim past [ inl h ↦ omega arith | inr h ↦ (let k = h.1 in omega arith) ]
