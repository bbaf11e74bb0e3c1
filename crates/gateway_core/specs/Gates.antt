-- A gate as contracts see it.
use Rattle.std.specs.Prelude.{List, map, option_map}
use Rattle.account_core.specs.declared.Limit.{Limit}
use Rattle.trusted_documents.specs.Listings.{listing_of}
use Rattle.schema_model.specs.SchemaViews.{schema_data}
use Rattle.cost_directives.specs.WeightViews.{weights_data}
use Rattle.gateway_core.specs.declared.gate.Gate.{Gate}
use Rattle.gateway_core.specs.Rules.{Rules, rules_with, client_limit}

abbrev pub rules_of : Gate → Rules
rules_of g = record (rules_with (schema_data g.schema) (weights_data g.weights) g.clients.items.items g.settings.window_seconds) { trusted = option_map listing_of g.trusted; facts = g.facts; most_work = g.most_work }

-- what the clients may spend, in their order
abbrev pub limits_of : Gate → List Limit
limits_of g = map client_limit g.clients.items.items
