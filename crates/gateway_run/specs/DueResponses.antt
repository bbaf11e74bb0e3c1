-- What is promised of responses that are due, whatever keeps the accounts.
use Rattle.std.specs.Prelude.{◌≡◌, ℕ, ⊤}
use Rattle.gateway_serving.specs.PassedOn.{Service, Exchange, IsExchange, Metered, UpstreamReply, WasExchanged, WasBrought, IsDue, WasGivenOr500}

-- A response that is due is given with 200 and settled at its cost, or memory was wanting.
abbrev pub GivesWhatIsDue : Service → Type 0
GivesWhatIsDue s = (made : ℕ) (x : Exchange) (metered : Metered) → IsExchange s made ⊤ x → IsDue s made x metered → WasGivenOr500 s made x metered

-- For one body and one reply of the upstream there are not both 200 and 502.
abbrev pub AnswersAlike : Service → Type 0
AnswersAlike s = (x y : Exchange) (reply : UpstreamReply) → WasExchanged s x → WasExchanged s y → x.ask.body.items ≡ y.ask.body.items → WasBrought reply x → WasBrought reply y
    → x.reply.status ≡ 200 → y.reply.status ≡ 502 → ⊥
