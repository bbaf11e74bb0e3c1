-- The first type of the name is the first of that name here, where it is one of these.
use Rattle.std.proofs.Common.{sym, map}
use Rattle.schema_model.specs.Numbers.{type_number}
use Rattle.schema_model.specs.SchemaViews.{schema_data}
use Rattle.response_meter.proofs.Possible.{first_of_name_here}
use Rattle.response_meter.proofs.types.type_of_name.Goals as goal

pub returns-then-is_found : goal.returns-then-is_found
returns-then-is_found c =
    sym (first_of_name_here (schema_data c.args.schema.now) (map type_number c.args.possible.now) c.args.name.now c.in-Some.first.number c.requires (sym c.in-Some.ensures) (c.is_found.ensures c.if-is_found.true))
