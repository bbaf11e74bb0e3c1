use Rattle.std.proofs.Common.{◌≡◌, ◌++◌, drop, map}
use Rattle.schema_model.specs.Numbers.{type_number}
use Rattle.schema_rules.specs.Views.{named_kind}
use Rattle.schema_model.specs.Drafts.{number_named}
use Rattle.schema_model.proofs.draft.numbers_of.Given as goal

-- Those so far, and then those of what is left.
abbrev pub invariant-loop-name : goal.invariant-loop-name
invariant-loop-name l = map type_number l.numbers.items ++ map (number_named (map named_kind l.types.items.now)) (drop l.name-index l.names) ≡ map (number_named (map named_kind l.types.items.now)) l.names
