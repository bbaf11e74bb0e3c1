use Rattle.std.proofs.Common.{◌≡◌, ◌++◌, drop, map}
use Rattle.schema_model.specs.Schemas.{texts_of}
use Rattle.gql_base.specs.parts.Trees.{value_tree}
use Rattle.gql_base.specs.parts.Values.{values_from}
use Rattle.schema_model.proofs.sizes.texts_of.Given as goal

-- Those so far, and then those of what is left.
abbrev pub invariant-loop-value : goal.invariant-loop-value
invariant-loop-value l = l.texts.items ++ texts_of (values_from (map value_tree (drop l.value-index l.values))) ≡ texts_of (values_from (map value_tree l.values))
