use Rattle.std.proofs.Common.{◌≡◌, drop, map}
use Rattle.document_rules.specs.Views.{seen_name}
use Rattle.operation_class.specs.Classes.{has_meta_field}
use Rattle.operation_class.proofs.classes.has_meta_field.Given as goal

abbrev pub invariant-fields : goal.invariant-fields
invariant-fields l = has_meta_field (map seen_name (drop l.field-index l.fields)) ≡ has_meta_field (map seen_name l.fields)
