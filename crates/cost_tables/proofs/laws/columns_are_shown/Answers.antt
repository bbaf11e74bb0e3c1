use Rattle.cost_tables.proofs.ShownColumns.{types_shown, fields_shown}
use Rattle.cost_tables.proofs.laws.columns_are_shown.Goals as goal

pub returns-clause-of_types : goal.returns-clause-of_types
returns-clause-of_types c = types_shown

pub returns-clause-of_fields : goal.returns-clause-of_fields
returns-clause-of_fields c = fields_shown
