use Rattle.std.proofs.Common.{◌≡◌, ◌++◌, drop, map}
use Rattle.schema_model.specs.SchemaViews.{schema_data}
use Rattle.document_rules.specs.Sites.{sites_of_met}
use Rattle.document_rules.specs.Views.{site_data, met_data, defined_data}
use Rattle.document_rules.proofs.sites.add_fragments.Given as goal

abbrev pub invariant-loop-place : goal.invariant-loop-place
invariant-loop-place l = map site_data l.into.items ++ sites_of_met (schema_data l.schema) (map defined_data l.defined) l.place (map met_data (drop l.place l.met)) ≡ map site_data l.fn.into.items ++ sites_of_met (schema_data l.schema) (map defined_data l.defined) 0 (map met_data l.met)
