-- When a response is due to a request, and that it was given.
use Rattle.std.specs.Prelude.{◌≡◌, ◌⊎◌, ℕ, true, false, [], ◌∷◌, Some, IsSome, Ok, ⊤}
use Rattle.std.specs.List.{AllByRecursion}
use Rattle.cost_num.specs.declared.Cost.{Cost}
use Rattle.account_core.specs.declared.Ticket.{Ticket}
use Rattle.account_core.specs.Machine.{reservation, granted, short}
use Rattle.account_shared.specs.Gains.{client_call}
use Rattle.outside.specs.Dials.{Dial}
pub use Rattle.upstream_link.specs.declared.reply.UpstreamReply.{UpstreamReply}
use Rattle.upstream_link.specs.Replies.{ReplyOf}
use Rattle.gateway_core.specs.Rules.{client_of, window_of}
pub use Rattle.gateway_core.specs.Measures.{Metered}
use Rattle.gateway_core.specs.Measures.{IsMeasuredFor, AreMeasuredAlike}
use Rattle.gateway_core.specs.PassedOn.{Local}
use Rattle.gateway_core.specs.declared.beginning.Denial.TheVariants.{Full, Work}
use Rattle.gateway_core.specs.declared.beginning.LocalAnswer.{LocalAnswer}
use Rattle.gateway_core.specs.Numbers.{IsFullAt}
use Rattle.gateway_core.specs.Messages.{message_body, denial_text}
use Rattle.gateway_core.specs.Requests.{IsAnsweredFor}
use Rattle.gateway_core.specs.Begins.{calls_answered}
use Rattle.gateway_core.specs.Finishes.{settling, finished_as}
use Rattle.gateway_connections.specs.Replies.{reply_as, finished_reply}
use Rattle.gateway_connections.specs.Exchanges.{Service, Exchange, IsExchange}

-- it went so, behind some calls
abbrev pub WasExchanged : Service → Exchange → Type 0
WasExchanged s x = (made : ℕ) × IsExchange s made ⊤ x

-- The account of a client was short at its turn.
abbrev pub WasShort : Service → Exchange → Type 0
WasShort s x = (client : ℕ) × (bound : Cost) × (left : Cost) × (x.calls ≡ client_call client (reservation (window_of s.rules x.moment) bound) (short left) ∷ [])

-- The dial was answered, no transfer failed, and what was taken begins with this reply.
abbrev pub Brought : UpstreamReply → Dial → Type 0
Brought reply d = (d.answered ≡ true) × (d.failed ≡ false) × ReplyOf (Ok reply) d.taken d.ended

-- So it is of the dial of an exchange, if it made one.
abbrev pub WasBrought : UpstreamReply → Exchange → Type 0
WasBrought reply x = AllByRecursion (Brought reply) x.dials

-- The exchange made one dial, which brought this reply.
abbrev pub HasBrought : UpstreamReply → Exchange → Type 0
HasBrought reply x = (d : Dial) × (x.dials ≡ d ∷ []) × Brought reply d

-- There was no room for a grant at its turn, behind so many numbers of calls, and its reply says so.
abbrev pub WasFull : Service → ℕ → Exchange → Type 0
WasFull s made x = IsFullAt s.slots made × ((x.reply.status ≡ 503) × (x.reply.body ≡ message_body (denial_text Full)))

-- More steps were asked of a request than it may take, where that is said, and its reply says so.
abbrev pub WasTooMuch : Service → Exchange → Type 0
WasTooMuch s x = IsSome s.rules.most_work × ((x.reply.status ≡ 400) × (x.reply.body ≡ message_body (denial_text Work)))

-- A response is due to a request behind so many numbers of calls: the key is a client's, whose account wasn't short, and there was room for a
-- grant; the body asks for an operation that is accepted, and not for too many steps; and what the upstream replied, without a fault of the wire, is a response to it that
-- keeps the declared sizes, of which this is measured.
pub record IsDue (s : Service) (made : ℕ) (x : Exchange) (metered : Metered) : Type 0 where
  pub client : ℕ
  pub known : client_of s.rules x.ask.key ≡ Some client
  pub covered : WasShort s x → ⊥
  pub room : WasFull s made x → ⊥
  pub in_work : WasTooMuch s x → ⊥
  pub reply : UpstreamReply
  pub brought : WasBrought reply x
  pub measured : IsMeasuredFor s.rules x.ask.body.items reply.body.items metered

-- It was given: replied with 200, as the upstream's reply was measured, and settled at the measured cost.
pub record WasGiven (s : Service) (x : Exchange) (metered : Metered) : Type 0 where
  pub ticket : Ticket
  pub calls : x.calls ≡ client_call ticket.client (reservation (window_of s.rules x.moment) ticket.bound) (granted ticket.window)
      ∷ settling ticket metered.cost ∷ []
  pub replied : x.reply ≡ reply_as 200 (Some (ticket.bound, metered.cost)) metered.text

-- It was given as the upstream's reply was measured in one way, which is alike. Where the schema lets no floats in there is one way.
abbrev pub WasGivenAlike : Service → ℕ → Exchange → Metered → Type 0
WasGivenAlike s made x metered = (own : Metered) × (due : IsDue s made x own) × AreMeasuredAlike due.reply.body.items metered own × WasGiven s x own

-- It was given, or memory was wanting.
abbrev pub WasGivenOr500 : Service → ℕ → Exchange → Metered → Type 0
WasGivenOr500 s made x metered = WasGivenAlike s made x metered ⊎ (x.reply.status ≡ 500)

-- The gateway's own answer is due: the key is a client's, whose account wasn't short, and there was room for a grant; and the body asks
-- for what is answered so, and not for too many steps.
pub record IsDueHere (s : Service) (made : ℕ) (x : Exchange) (answer : Local) : Type 0 where
  pub client : ℕ
  pub known : client_of s.rules x.ask.key ≡ Some client
  pub covered : WasShort s x → ⊥
  pub room : WasFull s made x → ⊥
  pub in_work : WasTooMuch s x → ⊥
  pub is_answer : IsAnsweredFor s.rules x.ask.body.items answer

-- It was given: replied with 200 and its text, and reserved and settled at its cost.
pub record WasGivenHere (s : Service) (x : Exchange) (answer : Local) : Type 0 where
  pub client : ℕ
  pub given : LocalAnswer
  pub is_answer : given.finished ≡ finished_as 200 answer.text answer.cost answer.cost
  pub calls : x.calls ≡ calls_answered client (window_of s.rules x.moment) given
  pub replied : x.reply ≡ finished_reply given.finished

-- A response was due, its reply was brought by one dial, and it was given.
abbrev pub WasDueAndGiven : Service → ℕ → Exchange → Type 0
WasDueAndGiven s made x = (metered : Metered) × (due : IsDue s made x metered) × HasBrought due.reply x × WasGiven s x metered
