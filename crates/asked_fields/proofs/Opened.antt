-- Coerced values that are opened.
use Rattle.input_values.proofs.CoercedTrees.{null_made, integer_made, float_made, string_made, boolean_made, enum_made, list_made, object_made, shared_made}

pub ruleset coerced_parts = (null_made, integer_made, float_made, string_made, boolean_made, enum_made, list_made, object_made, shared_made)
