-- Parts of documents, and values, that are opened.
use Rattle.gql_base.proofs.PartLaws.ValueSteps.{variable_tree, integer_tree, float_tree, string_tree, boolean_tree, null_tree, enum_tree, list_tree, object_tree}
use Rattle.gql_base.proofs.PrintingLaws.PrintSteps.{open_argument}
use Rattle.input_values.proofs.CoercedTrees.{null_made, integer_made, float_made, string_made, boolean_made, enum_made, list_made, object_made, shared_made, field_opened}
use Rattle.document_reader.proofs.ReadingSteps.{tree_of_field, tree_of_inline}
use Rattle.document_reader.proofs.PrintingSteps.{tree_of_spread, open_field}

pub ruleset value_parts = (variable_tree, integer_tree, float_tree, string_tree, boolean_tree, null_tree, enum_tree, list_tree, object_tree)

pub ruleset opened_argument = (open_argument)

pub ruleset selection_parts = (tree_of_field, tree_of_spread, tree_of_inline, open_field)

pub ruleset coerced_parts = (null_made, integer_made, float_made, string_made, boolean_made, enum_made, list_made, object_made, shared_made)

pub ruleset opened_field = (field_opened)
