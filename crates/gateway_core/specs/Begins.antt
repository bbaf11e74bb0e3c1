-- How a request begins.
use Rattle.std.specs.Prelude.{◌≡◌, ◌⊎◌, ℕ, List, [], ◌∷◌, Some, None, IsSome, ⊤}
use Rattle.cost_num.specs.declared.Cost.{Cost}
use Rattle.cost_num.specs.Within.{Within}
use Rattle.account_core.specs.Machine.{reservation, settlement, granted, short, done}
use Rattle.account_shared.specs.Gains.{ClientCall, client_call}
use Rattle.trusted_documents.specs.Requests.{HasFaultBy, IsUnexpandedBy}
use Rattle.local_introspection.specs.PassedOn.{Refusal, AcceptFault, Refused as NotAccepted, Memory as NoMemory}
use Rattle.local_introspection.specs.declared.walk.Local.{Local}
use Rattle.gateway_core.specs.declared.promise.Promise.{Promise}
use Rattle.gateway_core.specs.declared.beginning.Begun.{Begun}
use Rattle.gateway_core.specs.declared.beginning.Begun.TheVariants.{Granted, Answered, Denied}
use Rattle.gateway_core.specs.declared.beginning.LocalAnswer.{LocalAnswer}
use Rattle.gateway_core.specs.declared.beginning.Denial.{Denial}
use Rattle.gateway_core.specs.declared.beginning.Denial.TheVariants.{UnknownKey, Unexpanded, BadBody, Refused, NotLocal, Short, Full, Work, Memory}
use Rattle.gateway_core.specs.Rules.{Rules, client_of, window_of, greatest}
use Rattle.gateway_core.specs.Requests.{IsRefusedBody, IsPricedAt, IsPromisedFor, IsAnsweredFor, IsLocalAt, IsNotLocal}
use Rattle.gateway_core.specs.declared.grant.Grant.{Grant}
use Rattle.gateway_core.specs.Grants.{promise_of}
use Rattle.gateway_core.specs.declared.finishing.Finished.{Finished}
use Rattle.gateway_core.specs.Finishes.{finished_as, IsStarved}

-- Why a body of the client at this place, with this key, is denied. The key is tested first, then the expansion, then the body,
-- then the operation, and last whether its grant can be kept, and whether the account has room for its bound, or for the cost of the
-- gateway's own answer. For want of memory nothing is said of the body, nor for want of steps, of which there is none but where a number of
-- steps is handed in.
abbrev pub IsDenied : Rules → List ℕ → List ℕ → ℕ → Denial → Type 0
IsDenied rules key body client UnknownKey = client_of rules key ≡ None
IsDenied rules key body client (Unexpanded fault) = (client_of rules key ≡ Some client) × IsUnexpandedBy rules.trusted body fault
IsDenied rules key body client (BadBody fault) = (client_of rules key ≡ Some client) × HasFaultBy rules.trusted body fault
IsDenied rules key body client (Refused refusal) = (client_of rules key ≡ Some client) × IsRefusedBody rules body refusal
IsDenied rules key body client (NotLocal fault) = (client_of rules key ≡ Some client) × IsNotLocal rules body fault
IsDenied rules key body client (Short left bound) = (client_of rules key ≡ Some client) × (IsPricedAt rules body bound ⊎ IsLocalAt rules body bound)
IsDenied rules key body client Full = (client_of rules key ≡ Some client) × ((bound : Cost) × (IsPricedAt rules body bound ⊎ IsLocalAt rules body bound))
IsDenied rules key body client Work = (client_of rules key ≡ Some client) × IsSome rules.most_work
IsDenied rules key body client Memory = client_of rules key ≡ Some client

-- Why a body is denied, whoever sent it: it isn't expanded, it is no request, or its operation is refused; or there was no memory, or there
-- were no steps left of the number that was handed in.
abbrev pub IsUnfit : Rules → List ℕ → Denial → Type 0
IsUnfit rules body (Unexpanded fault) = IsUnexpandedBy rules.trusted body fault
IsUnfit rules body (BadBody fault) = HasFaultBy rules.trusted body fault
IsUnfit rules body (Refused refusal) = IsRefusedBody rules body refusal
IsUnfit rules body (NotLocal fault) = IsNotLocal rules body fault
IsUnfit rules body Work = IsSome rules.most_work
IsUnfit rules body Memory = ⊤
IsUnfit rules body other = ⊥

-- It is said of the body why it is denied: that is not for want of memory or of steps.
abbrev pub IsVerdict : Denial → Type 0
IsVerdict Work = ⊥
IsVerdict Memory = ⊥
IsVerdict other = ⊤

-- The gateway has one answer to what the body asks of it, at one cost; and where it has, the body has no price and isn't unfit. For
-- want of memory or of steps nothing is said.
pub record HasOneAnswer (rules : Rules) (body : List ℕ) : Type 0 where
  pub text : (answer other : Local) → IsAnsweredFor rules body answer → IsAnsweredFor rules body other → answer.text ≡ other.text
  pub cost : (cost other : Cost) → IsLocalAt rules body cost → IsLocalAt rules body other → cost ≡ other
  pub not_priced : (bound cost : Cost) → IsPricedAt rules body bound → IsLocalAt rules body cost → ⊥
  pub not_unfit : (cost : Cost) (denial : Denial) → IsVerdict denial → IsLocalAt rules body cost → IsUnfit rules body denial → ⊥

-- It is granted to the client: its operation is promised, and the ticket is the client's, under this number of a call.
pub record IsGranted (rules : Rules) (key body : List ℕ) (client made : ℕ) (g : Grant) : Type 0 where
  pub known : client_of rules key ≡ Some client
  pub promised : IsPromisedFor rules body (promise_of g)
  pub to_client : g.ticket.client ≡ client
  pub numbered : g.ticket.seq ≡ made

-- The answer was written with 200; or, for want of memory, its body is empty. What it costs is charged.
abbrev pub IsWritten : Local → Finished → Type 0
IsWritten answer f = (f ≡ finished_as 200 answer.text answer.cost answer.cost) ⊎ IsStarved answer.cost f

-- It is answered by the gateway, at what the answer costs, and its call has this number.
pub record IsAnswered (rules : Rules) (key body : List ℕ) (client made : ℕ) (a : LocalAnswer) : Type 0 where
  pub known : client_of rules key ≡ Some client
  pub answer : Local
  pub answered : IsAnsweredFor rules body answer
  pub finished : IsWritten answer a.finished
  pub numbered : a.seq ≡ made

abbrev pub IsBegun : Rules → List ℕ → List ℕ → ℕ → ℕ → Begun → Type 0
IsBegun rules key body client made (Granted g) = IsGranted rules key body client made g
IsBegun rules key body client made (Answered a) = IsAnswered rules key body client made a
IsBegun rules key body client made (Denied denial) = IsDenied rules key body client denial

-- The calls for an answer of the gateway: what it costs was reserved, and settled at once.
abbrev pub calls_answered : ℕ → ℕ → LocalAnswer → List ClientCall
calls_answered client window a = client_call client (reservation window a.finished.bound) (granted a.window)
    ∷ client_call client (settlement a.seq a.window a.finished.bound a.finished.charged) done ∷ []

-- The calls that a beginning made: its one reservation where it is granted or short, those for an answer, and else none.
abbrev pub calls_begun : ℕ → ℕ → Begun → List ClientCall
calls_begun client window (Granted g) = client_call client (reservation window g.ticket.bound) (granted g.ticket.window) ∷ []
calls_begun client window (Answered a) = calls_answered client window a
calls_begun client window (Denied (Short left bound)) = client_call client (reservation window bound) (short left) ∷ []
calls_begun client window (Denied other) = []

-- How a request of this key and body begins at a moment behind so many numbers of calls. `Gained` says that just these calls were made.
abbrev pub Begins : Rules → ℕ → (List ClientCall → Type 0) → List ℕ → List ℕ → ℕ → Begun → Type 0
Begins rules made Gained key body moment begun =
    (client : ℕ) × IsBegun rules key body client made begun × Gained (calls_begun client (window_of rules moment) begun)

-- what is granted is open
abbrev pub OpensIfBegun : (Grant → Type 0) → Begun → Type 0
OpensIfBegun IsOpen (Granted g) = IsOpen g
OpensIfBegun IsOpen other = ⊤

-- It is denied as full where there is no room for a grant; and where there is none, nothing is granted, and no account is told to be
-- short.
abbrev pub TellsFull : Type 0 → Begun → Type 0
TellsFull NoRoom (Denied Full) = NoRoom
TellsFull NoRoom (Denied (Short left bound)) = NoRoom → ⊥
TellsFull NoRoom (Denied other) = ⊤
TellsFull NoRoom other = NoRoom → ⊥

-- the costs of a denial are within the cap
abbrev pub HasCostsWithin : Denial → Type 0
HasCostsWithin (Short left bound) = Within greatest left × Within greatest bound
HasCostsWithin other = ⊤

abbrev pub IfDenied : Begun → (Denial → Type 0) → Type 0
IfDenied (Granted g) P = ⊤
IfDenied (Answered a) P = ⊤
IfDenied (Denied denial) P = P denial

abbrev pub IfAnswered : Begun → (LocalAnswer → Type 0) → Type 0
IfAnswered (Answered a) P = P a
IfAnswered other P = ⊤

-- an answer has the status of one, or that of want of memory, and its costs are within the cap
abbrev pub IsGiven : LocalAnswer → Type 0
IsGiven a = ((a.finished.status ≡ 200) ⊎ (a.finished.status ≡ 500)) × Within greatest a.finished.bound × Within greatest a.finished.charged

-- ---- what serves proofs

-- the fault of a stage is told, and want of memory as such
abbrev pub TellsFault : AcceptFault → Denial → Type 0
TellsFault (NotAccepted refusal) denial = denial ≡ Refused refusal
TellsFault NoMemory denial = denial ≡ Memory

-- it is a refusal for which this holds, or want of memory
abbrev pub IfRefusal : Denial → (Refusal → Type 0) → Type 0
IfRefusal (Refused refusal) P = P refusal
IfRefusal Memory P = ⊤
IfRefusal other P = ⊥

-- The account of the client covers the bound of the promise, and the ticket has this number; or it is short of it, or full.
abbrev pub IsReserved : Promise → ℕ → ℕ → Begun → Type 0
IsReserved promise client made (Granted g) = (promise_of g ≡ promise) × (g.ticket.client ≡ client) × (g.ticket.seq ≡ made)
IsReserved promise client made (Denied (Short left bound)) = bound ≡ promise.bound
IsReserved promise client made (Denied Full) = ⊤
IsReserved promise client made other = ⊥

-- The account of the client covered the cost of the answer, under this number of a call; or it is short of it, or full.
abbrev pub IsPaid : Local → ℕ → Begun → Type 0
IsPaid answer made (Answered a) = IsWritten answer a.finished × (a.seq ≡ made)
IsPaid answer made (Denied (Short left bound)) = bound ≡ answer.cost
IsPaid answer made (Denied Full) = ⊤
IsPaid answer made other = ⊥
