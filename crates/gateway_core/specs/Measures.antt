-- What a reply to the operation of a body is, whoever reads the body.
use Rattle.std.specs.Prelude.{◌≡◌, ◌⊎◌, ℕ, List}
use Rattle.plan_table.specs.declared.table.Plan.{Plan}
pub use Rattle.response_meter.specs.declared.metered.Metered.{Metered}
use Rattle.response_meter.specs.declared.fault.MeterFault.{MeterFault}
use Rattle.upstream_link.specs.declared.reply.UpstreamReply.{UpstreamReply}
use Rattle.gateway_core.specs.declared.promise.Promise.{Promise}
use Rattle.gateway_core.specs.declared.grant.Grant.{Grant}
use Rattle.gateway_core.specs.declared.finishing.Finished.{Finished}
use Rattle.gateway_core.specs.declared.finishing.Outcome.TheVariants.{Reply}
use Rattle.response_meter.specs.Metered.{TypesDiffer}
pub use Rattle.response_meter.specs.Metered.{AreMeasuredAlike}
use Rattle.gateway_core.specs.Rules.{Rules}
use Rattle.gateway_core.specs.Requests.{IsPromisedFor}
use Rattle.gateway_core.specs.PlanBounds.{IsMeasuredBy, IsFaultyBy}
use Rattle.gateway_core.specs.Begins.{IsGranted}
use Rattle.gateway_core.specs.Finishes.{finished_as, IsStarved, IsFinished}

-- The types of the schema have different names, as those of each schema that is built have (GraphQL October 2021, 3.3).
abbrev pub HasNamedTypes : Rules → Type 0
HasNamedTypes rules = TypesDiffer rules.schema

-- The operation of the body is accepted, and this holds of its plan, and of the alias under which names of types are asked for.
abbrev pub OfPromised : Rules → List ℕ → (Plan → List ℕ → Type 0) → Type 0
OfPromised rules body P = (promise : Promise) × IsPromisedFor rules body promise × P promise.plan promise.alias

-- The reply is a response to it that keeps the declared sizes, and this is measured of it.
abbrev pub IsMeasuredFor : Rules → List ℕ → List ℕ → Metered → Type 0
IsMeasuredFor rules body reply metered = OfPromised rules body (λ plan alias. IsMeasuredBy plan alias reply metered)

-- This is the first test that the reply to it doesn't pass.
abbrev pub IsFaultyFor : Rules → List ℕ → List ℕ → MeterFault → Type 0
IsFaultyFor rules body reply fault = OfPromised rules body (λ plan alias. IsFaultyBy plan alias reply fault)

-- It is answered with 200 and as the reply was measured in one way, which is alike, and charged the measured cost.
abbrev pub IsAnsweredAlike : Rules → List ℕ → List ℕ → Grant → Metered → Finished → Type 0
IsAnsweredAlike rules body reply g metered f = (own : Metered) × IsMeasuredFor rules body reply own × AreMeasuredAlike reply metered own × (f ≡ finished_as 200 own.text g.ticket.bound own.cost)

-- So whatever is granted finishes where the reply to it is measured; or memory was wanting.
abbrev pub MeasuredIsAnswered : Rules → Type 0
MeasuredIsAnswered rules = (key body : List ℕ) (client made : ℕ) (g : Grant) (reply : UpstreamReply) (metered : Metered) (f : Finished)
    → IsGranted rules key body client made g → IsMeasuredFor rules body reply.body.items metered → IsFinished g (Reply reply) f
    → IsAnsweredAlike rules body reply.body.items g metered f ⊎ IsStarved g.ticket.bound f
