use Rattle.std.proofs.Common.{◌≡◌, drop, map}
use Rattle.schema_model.specs.Numbers.{type_number}
use Rattle.schema_model.specs.DraftViews.{field_view, type_view}
use Rattle.schema_model.specs.Implementing.{lacking_field}
use Rattle.schema_model.proofs.implementing.lacking_field.Given as goal

-- What is left answers as the whole.
abbrev pub invariant-loop-interface : goal.invariant-loop-interface
invariant-loop-interface l = lacking_field (map type_view l.types) (map field_view l.own.items.items) (map type_number (drop l.interface-index l.interfaces)) ≡ lacking_field (map type_view l.types) (map field_view l.own.items.items) (map type_number l.interfaces)
