-- Accounts that are lost in a call.
use Rattle.std.specs.Prelude.{◌≡◌, ◌⊎◌, ℕ, List, [], ◌∷◌, Some}
use Rattle.cost_num.specs.declared.Cost.{Cost}
use Rattle.account_core.specs.Machine.{Call, reservation, settlement, granted}
use Rattle.account_shared.specs.Gains.{ClientCall, client_call}
use Rattle.account_core.specs.Numbers.{settlement_of}
use Rattle.gateway_core.specs.declared.grant.Grant.{Grant}
use Rattle.gateway_core.specs.declared.finishing.Finished.{Finished}
use Rattle.gateway_core.specs.declared.finishing.Outcome.{Outcome}
use Rattle.gateway_core.specs.Finishes.{IsFinished}
use Rattle.gateway_core.specs.Rules.{Rules, client_of, window_of}
use Rattle.gateway_core.specs.Requests.{IsPricedAt, IsLocalAt}

-- The reservation of a bound for a client was lost, before any other call. `gains` says which calls were answered up to a moment of the
-- accounts, and `loses` in which call they were lost then.
pub record LosesReservation {B : Type 0} (client window : ℕ) (bound : Cost) (gains : B → List ClientCall → Type 0) (loses : B → ℕ → Call → Type 0) : Type 0 where
  pub before : B
  pub unanswered : gains before []
  pub lost : loses before client (reservation window bound)

-- It was granted under this number, and its settlement at the bound was lost.
pub record LosesSettlement {B : Type 0} (client window : ℕ) (bound : Cost) (made : ℕ) (gains : B → List ClientCall → Type 0) (loses : B → ℕ → Call → Type 0) : Type 0 where
  pub before : B
  pub at : ℕ
  pub answered : gains before (client_call client (reservation window bound) (granted at) ∷ [])
  pub lost : loses before client (settlement made at bound bound)

-- One of the two calls for an answer of the gateway was lost.
abbrev pub LosesCalls : {B : Type 0} → ℕ → ℕ → Cost → ℕ → (B → List ClientCall → Type 0) → (B → ℕ → Call → Type 0) → Type 0
LosesCalls client window bound made gains loses = LosesReservation client window bound gains loses ⊎ LosesSettlement client window bound made gains loses

-- So they were at the beginning of a request: in the reservation of its operation's bound, or in a call for the gateway's own answer, at
-- what that costs.
pub record LosesBegun {B : Type 0} (rules : Rules) (key body : List ℕ) (moment made : ℕ) (gains : B → List ClientCall → Type 0) (loses : B → ℕ → Call → Type 0) : Type 0 where
  pub client : ℕ
  pub known : client_of rules key ≡ Some client
  pub bound : Cost
  pub lost : (IsPricedAt rules body bound × LosesReservation client (window_of rules moment) bound gains loses)
      ⊎ (IsLocalAt rules body bound × LosesCalls client (window_of rules moment) bound made gains loses)

-- A grant's settlement was lost, at the charge of an answer to this outcome.
abbrev pub LosesFinished : Grant → Outcome → (Call → Type 0) → Type 0
LosesFinished grant outcome Loses = (finished : Finished) × IsFinished grant outcome finished × Loses (settlement_of grant.ticket finished.charged)
