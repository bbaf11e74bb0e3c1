-- What a request comes to whose operation doesn't go to the upstream.
use Rattle.std.specs.Prelude.{◌≡◌, ◌≢◌, ◌⊎◌, ℕ, Option, None, Some, Ok}
use Rattle.document_reader.specs.Picking.{picked}
use Rattle.acceptance.specs.Requests.{RequestData}
use Rattle.operation_class.specs.declared.classes.Class.TheVariants.{Upstream}
use Rattle.operation_class.specs.Classes.{class_at}
use Rattle.local_introspection.specs.declared.facts.Facts.{Facts}
use Rattle.local_introspection.specs.declared.fault.LocalFault.{LocalFault}
use Rattle.local_introspection.specs.declared.fault.LocalFault.TheVariants.{Memory}
use Rattle.local_introspection.specs.declared.walk.Local.{Local}
use Rattle.local_introspection.specs.LocalRequests.{LocalRequest, local_request}
use Rattle.local_introspection.specs.LocalAnswers.{IsAnsweredWith, IsRefusedFor}

-- what a request asks by these facts, where its operation is picked at this place
abbrev pub asked_at : Facts → RequestData → ℕ → LocalRequest
asked_at facts r place = local_request facts r.document place r.given

-- An operation is picked that doesn't go to the upstream, and this holds of what is asked by facts that are known.
abbrev pub IsHereThat : (Facts → Type 0) → (LocalRequest → Type 0) → RequestData → Type 0
IsHereThat Known P r = (facts : Facts) × Known facts
    × ((place : ℕ) × (picked r.name r.document ≡ Ok place) × (class_at r.document place ≢ Upstream) × P (asked_at facts r place))

-- It is answered so.
abbrev pub IsAnsweredHere : (Facts → Type 0) → Local → RequestData → Type 0
IsAnsweredHere Known answer r = IsHereThat Known (λ q. IsAnsweredWith q answer) r

-- It is refused for this, which is no want of memory.
abbrev pub IsRefusedHere : (Facts → Type 0) → LocalFault → RequestData → Type 0
IsRefusedHere Known fault r = (fault ≢ Memory) × IsHereThat Known (λ q. IsRefusedFor q fault) r
