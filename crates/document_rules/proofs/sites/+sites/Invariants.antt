use Rattle.std.proofs.Common.{◌≡◌, ◌++◌, drop, map}
use Rattle.schema_model.specs.SchemaViews.{schema_data}
use Rattle.std.specs.Prelude.{option_map}
use Rattle.schema_model.specs.Numbers.{type_number}
use Rattle.document_reader.specs.Trees.{set_tree}
use Rattle.document_rules.specs.Sites.{sites_in}
use Rattle.document_rules.specs.Views.{site_data}
use Rattle.document_rules.proofs.sites.+sites.Given as goal

abbrev pub invariant-add_selections-loop-selection : goal.invariant-add_selections-loop-selection
invariant-add_selections-loop-selection l = map site_data l.into.items ++ sites_in (schema_data l.schema) l.within (option_map type_number l.parent) (set_tree (drop l.selection-index l.selections)) ≡ map site_data l.fn.into.items ++ sites_in (schema_data l.schema) l.within (option_map type_number l.parent) (set_tree l.selections)
