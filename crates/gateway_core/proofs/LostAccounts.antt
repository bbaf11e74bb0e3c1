-- Accounts that are lost in a call.
use Rattle.std.proofs.Common.{◌≡◌, ℕ, ◌≤◌, inl, inr, subst, arith, Result, Ok, Err}
use Rattle.std.specs.Prelude.{OnErr}
use Rattle.outside.specs.Faults.{Rose}
use Rattle.cost_num.specs.declared.Cost.{Cost}
use Rattle.account_core.specs.declared.Ticket.{Ticket}
use Rattle.account_core.specs.Machine.{Call, settlement}

-- what holds anyway holds of a call that failed
pub on_err : {T E : Type 0} (r : Result T E) (P : Type 0) → P → OnErr r P
on_err (Ok x) P holds = tt
on_err (Err e) P holds = holds

-- a count that rose since a moment rose since each one before it
pub rose_since : (first before after : ℕ) → first ≤ before → Rose before after → Rose first after
rose_since first before after le (inl rose) = inl (omega (arith, le, rose))
rose_since first before after le (inr last) = inr last

-- The settlement that was lost is of the client's grant, at what the answer costs.
pub lost_settling : (Loses : ℕ → Call → Type 0) (client made : ℕ) (cost : Cost) (t : Ticket) → t.client ≡ client → t.seq ≡ made → t.bound ≡ cost
    → Loses t.client (settlement t.seq t.window t.bound cost) → Loses client (settlement made t.window cost cost)
lost_settling Loses client made cost t of_client of_number of_bound lost =
    subst (λ k. Loses k (settlement made t.window cost cost)) of_client
    (subst (λ n. Loses t.client (settlement n t.window cost cost)) of_number
    (subst (λ b. Loses t.client (settlement t.seq t.window b cost)) of_bound lost))
