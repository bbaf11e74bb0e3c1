-- How many numbers calls take.
use Rattle.std.proofs.Common.{◌≡◌, ℕ, ◌+◌, ◌≤◌, inl, inr, List, [], ◌∷◌, ◌++◌, length, Option, Some, None, refl, sym, ap, ◌∙◌, subst, arith, Bool, not}
use Rattle.std.specs.List.{filter}
use Rattle.std.proofs.lemmas.List.{length-append}
use Rattle.std.proofs.lemmas.List.Elements.{filter-append}
use Rattle.cost_num.specs.declared.Cost.{Cost}
use Rattle.account_core.specs.Machine.{reservation, settlement, granted, short, done}
use Rattle.account_shared.specs.Gains.{ClientCall, client_call}
use Rattle.account_core.specs.History.{is_refusal}
use Rattle.gateway_core.specs.Numbers.{numbers_taken, AreSettled}

pub taken_none : (slots : Option ℕ) → numbers_taken slots [] ≡ 0
taken_none None = refl
taken_none (Some slots) = refl

pub taken_then : (slots : Option ℕ) (these those : List ClientCall) → numbers_taken slots (these ++ those) ≡ numbers_taken slots these + numbers_taken slots those
taken_then None these those = length-append these those
taken_then (Some slots) these those =
    let kept : ClientCall → Bool = λ c. not (is_refusal c.reply) in
    ap length (filter-append kept these those) ∙ length-append (filter kept these) (filter kept those)

one_taken : (slots : Option ℕ) (client window : ℕ) (bound left : Cost) → numbers_taken slots (client_call client (reservation window bound) (short left) ∷ []) ≤ 2
one_taken None client window bound left = omega arith
one_taken (Some slots) client window bound left = omega arith

pub granted_taken : (slots : Option ℕ) (client window at : ℕ) (bound : Cost) → numbers_taken slots (client_call client (reservation window bound) (granted at) ∷ []) ≡ 1
granted_taken None client window at bound = refl
granted_taken (Some slots) client window at bound = refl

two_taken : (slots : Option ℕ) (made client window at : ℕ) (bound measured : Cost)
    → numbers_taken slots (client_call client (reservation window bound) (granted at) ∷ client_call client (settlement made at bound measured) done ∷ []) ≤ 2
two_taken None made client window at bound measured = omega arith
two_taken (Some slots) made client window at bound measured = omega arith

-- a request that began and finished takes two numbers at most
pub few_taken : (slots : Option ℕ) (made : ℕ) (calls : List ClientCall) → AreSettled made calls → numbers_taken slots calls ≤ 2
few_taken slots made calls (inl none) = subst (λ l. numbers_taken slots l ≤ 2) (sym none) (omega (arith, taken_none slots))
few_taken slots made calls (inr (inl r)) = subst (λ l. numbers_taken slots l ≤ 2) (sym r.4) (one_taken slots r.0 r.1 r.2 r.3)
few_taken slots made calls (inr (inr t)) = subst (λ l. numbers_taken slots l ≤ 2) (sym t.5) (two_taken slots made t.0 t.1 t.2 t.3 t.4)
