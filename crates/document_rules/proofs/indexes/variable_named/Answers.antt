use Rattle.std.proofs.Common.{sym}
use Rattle.std.specs.Str.{bytes_eq}
use Rattle.schema_rules.proofs.Namings.{seen_some, seen_none}
use Rattle.document_rules.specs.Rules.{variable_name}
use Rattle.document_rules.specs.Views.{declared_tree}
use Rattle.document_rules.proofs.indexes.variable_named.Goals as goal

pub returns-in-Some : goal.returns-in-Some
returns-in-Some c = sym (seen_some declared_tree (λ v. bytes_eq (variable_name v) c.args.name.now) c.args.variables.now.items.items c.first_named.result c.in-Some.declared c.first_named.ensures c.in-Some.is)

pub returns-in-None : goal.returns-in-None
returns-in-None c = sym (seen_none declared_tree (λ v. bytes_eq (variable_name v) c.args.name.now) c.args.variables.now.items.items c.first_named.result c.first_named.ensures c.in-None.is)
