use Rattle.std.proofs.Common.{◌∙◌}
use Rattle.std.specs.Str.{bytes_eq}
use Rattle.schema_rules.proofs.Namings.{any_view}
use Rattle.document_rules.specs.Rules.{variable_name}
use Rattle.document_rules.specs.Views.{declared_tree}
use Rattle.document_rules.proofs.indexes.is_declared.Goals as goal

pub returns : goal.returns
returns c = c.has.ensures ∙ any_view declared_tree (λ v. bytes_eq (variable_name v) c.args.name.now) c.args.variables.now.items.items
