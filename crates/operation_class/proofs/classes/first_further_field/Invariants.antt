use Rattle.std.proofs.Common.{◌≡◌, drop, map}
use Rattle.document_rules.specs.Views.{seen_name}
use Rattle.operation_class.specs.Classes.{first_further_field}
use Rattle.operation_class.proofs.classes.first_further_field.Given as goal

abbrev pub invariant-fields : goal.invariant-fields
invariant-fields l = first_further_field (map seen_name (drop l.field-index l.fields)) ≡ first_further_field (map seen_name l.fields)
