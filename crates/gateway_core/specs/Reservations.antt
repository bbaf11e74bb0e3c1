-- What a reservation comes to.
use Rattle.std.specs.Prelude.{◌≡◌, ℕ, List, [], ◌∷◌, ⊤}
use Rattle.cost_num.specs.declared.Cost.{Cost}
use Rattle.cost_num.specs.Within.{Within}
use Rattle.account_core.specs.declared.Ticket.{Ticket}
use Rattle.account_core.specs.Machine.{reservation, granted, short}
use Rattle.account_shared.specs.Gains.{ClientCall, client_call}
use Rattle.gateway_core.specs.declared.ledger.Reserved.{Reserved}
use Rattle.gateway_core.specs.declared.ledger.Reserved.TheVariants.{Granted, Short, Full}
use Rattle.gateway_core.specs.Rules.{greatest}

-- The ticket is the client's, under this number of a call and with this bound; or what is left is within the cap.
abbrev pub IsReservedFor : ℕ → ℕ → Cost → Reserved → Type 0
IsReservedFor client made bound (Granted ticket) = (ticket.client ≡ client) × (ticket.seq ≡ made) × (ticket.bound ≡ bound)
IsReservedFor client made bound (Short left) = Within greatest left
IsReservedFor client made bound Full = ⊤

abbrev pub OpensIfReserved : (Ticket → Type 0) → Reserved → Type 0
OpensIfReserved Opens (Granted ticket) = Opens ticket
OpensIfReserved Opens other = ⊤

-- the call that was made: none where there is no room
abbrev pub calls_reserved : ℕ → ℕ → Cost → Reserved → List ClientCall
calls_reserved client window bound (Granted ticket) = client_call client (reservation window bound) (granted ticket.window) ∷ []
calls_reserved client window bound (Short left) = client_call client (reservation window bound) (short left) ∷ []
calls_reserved client window bound Full = []

-- It is full where there is no room, and only there.
abbrev pub IsFullOnlyIf : Type 0 → Reserved → Type 0
IsFullOnlyIf NoRoom Full = NoRoom
IsFullOnlyIf NoRoom other = NoRoom → ⊥
