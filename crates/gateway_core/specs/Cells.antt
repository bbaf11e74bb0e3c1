-- What shared cells keep through their passes.
use Prim.Native.Nat.{zero, suc}
use Rattle.std.proofs.Common.{◌≡◌, ℕ, ◌+◌, inl, inr, List, [], ◌∷◌, Bool, true, false, not, cond, nat_eq, refl, ap, subst}
use Rattle.std.proofs.lemmas.Bool.{and_from, eq-eqb}
use Rattle.account_core.specs.Machine.{reservation, settlement, granted, done, entry, grant, is_grant}
use Rattle.account_shared.specs.Views.{PassesView, IsIdle}
use Rattle.account_shared.specs.Gains.{ClientCall, client_call, grants_past, Gains}
pub use Rattle.account_shared.proofs.Stretches.{none_gained, gained_then}
use Rattle.account_shared.proofs.Idle.{idle_past, idle_past_refusal}
use Rattle.cost_num.specs.declared.Cost.{Cost}
use Rattle.gateway_core.specs.Numbers.{AreSettled}

both_idle : (p q : PassesView) (client window at : ℕ) (bound measured : Cost)
    → Gains p q (client_call client (reservation window bound) (granted at) ∷ client_call client (settlement p.made at bound measured) done ∷ []) → IsIdle p → IsIdle q
both_idle p q client window at bound measured gains idle = idle_past p q _ gains idle (λ k. none (nat_eq client k))
  where
    name : ℕ
    name = p.label.name

    own : is_grant name p.made (grant name p.made at bound) ≡ true
    own = and_from (nat_eq name name) (nat_eq p.made p.made) (eq-eqb name name refl) (eq-eqb p.made p.made refl)

    none : (b : Bool) → grants_past [] (cond b (entry name p.made (reservation window bound) (granted at) ∷ cond b (entry name (p.made + 1) (settlement p.made at bound measured) done ∷ []) []) (cond b (entry name (p.made + 1) (settlement p.made at bound measured) done ∷ []) [])) ≡ []
    none true = ap (λ t. cond (not t) (grant name p.made at bound ∷ []) []) own
    none false = refl

pub settled_idle : (p q : PassesView) (calls : List ClientCall) → Gains p q calls → AreSettled p.made calls → IsIdle p → IsIdle q
settled_idle p q calls gains (inl none) idle = idle_past p q [] (subst (Gains p q) none gains) idle (λ k. refl)
settled_idle p q calls gains (inr (inl r)) idle = idle_past_refusal p q r.0 r.1 r.2 r.3 (subst (Gains p q) r.4 gains) idle
settled_idle p q calls gains (inr (inr s)) idle = both_idle p q s.0 s.1 s.2 s.3 s.4 (subst (Gains p q) s.5 gains) idle
