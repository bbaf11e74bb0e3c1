use Rattle.std.proofs.Common.{◌∙◌}
use Rattle.std.specs.Str.{bytes_eq}
use Rattle.schema_rules.proofs.Namings.{position_view}
use Rattle.document_rules.specs.Parts.{fragment_name}
use Rattle.operation_class.specs.RootFields.{defined_data}
use Rattle.operation_class.proofs.root_fields.number_of.Goals as goal

pub returns-clause-place : goal.returns-clause-place
returns-clause-place c = c.position.ensures.place ∙ position_view defined_data (λ f. bytes_eq (fragment_name f) c.args.name.now) 0 c.args.fragments.now.items.items
