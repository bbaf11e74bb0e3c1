-- What is reserved and settled for an answer.
use Rattle.std.proofs.Common.{◌≡◌, ◌⊎◌, inl, inr, ℕ, List, ◌++◌, [], ◌∷◌, sym, ap, subst}
use Rattle.cost_num.specs.declared.Cost.{Cost}
use Rattle.account_core.specs.declared.Ticket.{Ticket}
use Rattle.account_core.specs.Machine.{reservation, settlement, granted, done}
use Rattle.account_shared.specs.Gains.{ClientCall, client_call}
use Rattle.cost_num.specs.Within.{Within}
use Rattle.local_introspection.specs.PassedOn.{IsWithin}
use Rattle.local_introspection.specs.declared.walk.Local.{Local}
use Rattle.gateway_core.specs.declared.beginning.LocalAnswer.{LocalAnswer}
use Rattle.gateway_core.specs.declared.finishing.Finished.{Finished}
use Rattle.gateway_core.specs.Rules.{greatest}
use Rattle.gateway_core.specs.Begins.{IsWritten, IsGiven, calls_answered}

-- Both calls are the client's, at what the answer costs. What was gained first and then is gained in all.
pub paid : (First Second All : List ClientCall → Type 0) → ((these those : List ClientCall) → First these → Second those → All (these ++ those))
    → (client window asked : ℕ) (cost : Cost) (t : Ticket) → t.client ≡ client → t.bound ≡ cost → window ≡ asked
    → First (client_call client (reservation window cost) (granted t.window) ∷ []) → Second (client_call t.client (settlement t.seq t.window t.bound cost) done ∷ [])
    → All (client_call client (reservation asked cost) (granted t.window) ∷ client_call client (settlement t.seq t.window cost cost) done ∷ [])
paid First Second All then client window asked cost t of_client of_bound same one two =
    then (client_call client (reservation asked cost) (granted t.window) ∷ []) (client_call client (settlement t.seq t.window cost cost) done ∷ [])
    (subst (λ w. First (client_call client (reservation w cost) (granted t.window) ∷ [])) same one)
    (subst (λ b. Second (client_call client (settlement t.seq t.window b cost) done ∷ [])) of_bound
    (subst (λ k. Second (client_call k (settlement t.seq t.window t.bound cost) done ∷ [])) of_client two))

-- So they are at what is told of the answer.
pub told_paid : (All : List ClientCall → Type 0) (client asked : ℕ) (cost : Cost) (a : LocalAnswer) → a.finished.bound ≡ cost → a.finished.charged ≡ cost
    → All (client_call client (reservation asked cost) (granted a.window) ∷ client_call client (settlement a.seq a.window cost cost) done ∷ []) → All (calls_answered client asked a)
told_paid All client asked cost a same_bound same_charge all =
    subst (λ b. All (client_call client (reservation asked b) (granted a.window) ∷ client_call client (settlement a.seq a.window b a.finished.charged) done ∷ [])) (sym same_bound)
    (subst (λ k. All (client_call client (reservation asked cost) (granted a.window) ∷ client_call client (settlement a.seq a.window cost k) done ∷ [])) (sym same_charge) all)

status_given : (answer : Local) (f : Finished) → IsWritten answer f → (f.status ≡ 200) ⊎ (f.status ≡ 500)
status_given answer f (inl written) = inl (ap (λ (g : Finished). g.status) written)
status_given answer f (inr none) = inr (ap (λ (g : Finished). g.status) none)

cost_within : (cost other : Cost) → IsWithin cost → other ≡ cost → Within greatest other
cost_within cost other within same = subst (Within greatest) (sym same) (record { types = within.of_types; fields = within.of_fields })

pub is_given : (answer : Local) (cost : Cost) (a : LocalAnswer) → IsWithin cost → IsWritten answer a.finished → a.finished.bound ≡ cost → a.finished.charged ≡ cost → IsGiven a
is_given answer cost a within written bound charged = (status_given answer a.finished written, cost_within cost a.finished.bound within bound, cost_within cost a.finished.charged within charged)
