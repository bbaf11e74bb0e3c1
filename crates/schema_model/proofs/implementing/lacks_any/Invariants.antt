use Rattle.std.proofs.Common.{◌≡◌, drop, map}
use Rattle.schema_model.specs.Numbers.{type_number}
use Rattle.schema_model.specs.DraftViews.{type_view}
use Rattle.schema_model.specs.Implementing.{lacks_interfaces}
use Rattle.schema_model.proofs.implementing.lacks_any.Given as goal

-- What is left answers as the whole.
abbrev pub invariant-loop-interface : goal.invariant-loop-interface
invariant-loop-interface l = lacks_interfaces (map type_view l.types) (map type_number l.own.numbers.now) (map type_number (drop l.interface-index l.some)) ≡ lacks_interfaces (map type_view l.types) (map type_number l.own.numbers.now) (map type_number l.some)
