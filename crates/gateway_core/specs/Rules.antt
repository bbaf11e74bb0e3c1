-- By what a gate decides.
use Rattle.std.specs.Prelude.{◌≡◌, ℕ, ◌+◌, ◌-◌, ◌*◌, ◌/◌, ◌<◌, ◌≤◌, Bool, false, if◌then◌else◌, List, Option, None, Some}
use Rattle.trusted_documents.specs.Listings.{Listing}
use Rattle.local_introspection.specs.declared.facts.Facts.{Facts}
use Rattle.cost_num.specs.declared.TheConstants.{CAP}
use Rattle.cost_num.specs.declared.Cost.{Cost}
use Rattle.cost_num.specs.Within.{Within}
use Rattle.gql_base.specs.names.Names.{first_of_name, place_of_name}
use Rattle.schema_model.specs.SchemaData.{SchemaData}
use Rattle.cost_directives.specs.Weights.{WeightsData, weights_of}
use Rattle.plan_model.specs.Sound.{CanBeFilled}
use Rattle.client_files.specs.declared.client.Client.{Client}
use Rattle.account_core.specs.Costs.{cost, nothing, together, is_within}
use Rattle.account_core.specs.declared.Account.{Account}
use Rattle.account_core.specs.declared.Limit.{Limit}

-- The list by which bodies are expanded and what introspection is answered by, if there are any; a schema with its weights, the
-- clients, how many seconds a window has, and how many steps the examination of a request may take, where that is said.
pub record Rules : Type 0 where
  pub trusted : Option Listing
  pub facts : Option Facts
  pub schema : SchemaData
  pub weights : WeightsData
  pub clients : List Client
  pub seconds : ℕ
  pub most_work : Option ℕ

abbrev pub rules_with : SchemaData → WeightsData → List Client → ℕ → Rules
rules_with schema weights clients seconds = record { trusted = None; facts = None; schema = schema; weights = weights; clients = clients; seconds = seconds; most_work = None }

-- the weights are those of the schema, and leaves of the schema can be filled
abbrev pub HasWeights : SchemaData → WeightsData → Type 0
HasWeights schema weights = ((undeclared : ℕ) × (weights ≡ weights_of schema undeclared)) × CanBeFilled schema

-- the place among the clients of the one with this key
abbrev pub client_of : Rules → List ℕ → Option ℕ
client_of rules key = place_of_name (λ client. client.key) rules.clients key

-- the window of a moment: its seconds divided by the length of a window, rounded down
abbrev pub window_of : Rules → ℕ → ℕ
window_of rules moment = moment / rules.seconds

-- the first second of the window after that of a moment
abbrev pub next_window_at : Rules → ℕ → ℕ
next_window_at rules moment = (window_of rules moment + 1) * rules.seconds

-- the seconds from a moment up to the next window
abbrev pub seconds_left : Rules → ℕ → ℕ
seconds_left rules moment = next_window_at rules moment - moment

-- So many seconds from a moment on, at least one and at most a whole window, the next window begins, and no sooner.
pub record IsUpToNext (rules : Rules) (moment left : ℕ) : Type 0 where
  pub some : 0 < left
  pub whole : left ≤ rules.seconds
  pub next : window_of rules (moment + left) ≡ window_of rules moment + 1
  pub not_sooner : (sooner : ℕ) → sooner < left → window_of rules (moment + sooner) ≡ window_of rules moment

-- the client with this key
abbrev pub client_named : Rules → List ℕ → Option Client
client_named rules key = first_of_name (λ client. client.key) rules.clients key

-- what a client may spend
abbrev pub client_limit : Client → Limit
client_limit client = record { allowance = client.allowance; carry = client.carry }

-- the most that may ever be carried into a window
abbrev pub most_carried : Limit → Cost
most_carried limit = if limit.carry then limit.allowance else nothing

-- the most that a client may ever spend in one window: its allowance, and as much again where it carries over
abbrev pub most_of : Limit → Cost
most_of limit = together limit.allowance (most_carried limit)

-- whether a client, if there is one, may ever have room for a bound
abbrev pub room_of : Option Client → Cost → Bool
room_of None bound = false
room_of (Some client) bound = is_within (most_of (client_limit client)) bound

-- whether the client with this key may
abbrev pub may_have_room : Rules → List ℕ → Cost → Bool
may_have_room rules key bound = room_of (client_named rules key) bound

-- the greatest cost that is counted
abbrev pub greatest : Cost
greatest = cost CAP CAP

-- what is settled in an account is within the cap
abbrev pub IsSettledWithin : Account → Type 0
IsSettledWithin account = Within greatest account.settled

-- what is carried into the window of an account is within the cap
abbrev pub IsCarriedWithin : Account → Type 0
IsCarriedWithin account = Within greatest account.carried
