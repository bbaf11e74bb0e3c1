-- Shapes, literals and values that are opened.
use Rattle.gql_base.proofs.PartLaws.ValueSteps.{variable_tree, integer_tree, float_tree, string_tree, boolean_tree, null_tree, enum_tree, list_tree, object_tree}
use Rattle.input_values.proofs.CoercedTrees.{null_made, integer_made, float_made, string_made, boolean_made, enum_made, list_made as coerced_list_made, object_made, shared_made}
use Rattle.input_values.proofs.ShapeTrees.{named_made, list_made}

pub ruleset opened_shapes = (named_made, list_made)

pub ruleset opened_literals = (variable_tree, integer_tree, float_tree, string_tree, boolean_tree, null_tree, enum_tree, list_tree, object_tree)

pub ruleset opened_values = (null_made, integer_made, float_made, string_made, boolean_made, enum_made)

pub ruleset opened_coerced = (null_made, integer_made, float_made, string_made, boolean_made, enum_made, coerced_list_made, object_made, shared_made)
