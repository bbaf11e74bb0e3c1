use Rattle.std.proofs.Common.{◌∙◌}
use Rattle.std.specs.Str.{bytes_eq}
use Rattle.schema_rules.proofs.Namings.{any_view}
use Rattle.document_rules.specs.Parts.{fragment_name}
use Rattle.document_rules.specs.Views.{defined_data}
use Rattle.document_rules.proofs.indexes.is_defined.Goals as goal

pub returns : goal.returns
returns c = c.has.ensures ∙ any_view defined_data (λ f. bytes_eq (fragment_name f) c.args.name.now) c.args.fragments.now.items.items
