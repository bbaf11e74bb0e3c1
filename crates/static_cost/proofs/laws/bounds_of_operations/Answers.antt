use Rattle.response_model.specs.Cost.{types, fields}
use Rattle.static_cost.proofs.OperationBounds.{to_operation, from_operation}
use Rattle.static_cost.proofs.laws.bounds_of_operations.Goals as goal

pub returns-clause-of : goal.returns-clause-of
returns-clause-of c e root undeclared o bound well of is within = (
  to_operation types e root undeclared o bound.types well of is.of_types within.of_types,
  to_operation fields e root undeclared o bound.fields well of is.of_fields within.of_fields,
)

pub returns-clause-only : goal.returns-clause-only
returns-clause-only c e root undeclared o bound well of are within = record {
  of_types = from_operation types e root undeclared o bound.types well of are.0 within.of_types;
  of_fields = from_operation fields e root undeclared o bound.fields well of are.1 within.of_fields;
}
