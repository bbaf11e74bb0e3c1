use Rattle.std.proofs.Common.{◌≡◌, ◌++◌, drop, map}
use Rattle.document_reader.specs.Trees.{variable_tree}
use Rattle.document_rules.specs.Sites.{variable_site}
use Rattle.document_rules.specs.Views.{site_data}
use Rattle.document_rules.proofs.sites.add_variables.Given as goal

abbrev pub invariant-loop-variable : goal.invariant-loop-variable
invariant-loop-variable l = map site_data l.into.items ++ map variable_site (map variable_tree (drop l.variable-index l.variables)) ≡ map site_data l.fn.into.items ++ map variable_site (map variable_tree l.variables)
