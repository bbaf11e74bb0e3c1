use Rattle.std.proofs.Common.{◌≡◌, ◌++◌, drop, map}
use Rattle.schema_model.specs.Drafts.{value_name}
use Rattle.schema_reader.specs.Trees.{enum_value_tree}
use Rattle.schema_model.proofs.finish.values_of.Given as goal

-- Those so far, and then those of what is left.
abbrev pub invariant-loop-value : goal.invariant-loop-value
invariant-loop-value l = l.names.items ++ map value_name (map enum_value_tree (drop l.value-index l.values)) ≡ map value_name (map enum_value_tree l.values)
