use Rattle.std.proofs.Common.{◌∙◌}
use Rattle.std.specs.Str.{bytes_eq}
use Rattle.schema_rules.specs.Views.{named_kind}
use Rattle.schema_rules.proofs.Namings.{any_view}
use Rattle.schema_rules.proofs.type_names.has_type.Goals as goal

pub returns : goal.returns
returns c = c.has.ensures ∙ any_view named_kind (λ t. bytes_eq t.name c.args.name.now) c.args.types.now.items.now
