use Rattle.collected_fields.proofs.Fields.{below_is}
use Rattle.collected_fields.proofs.lookups.below_field.Goals as goal

pub returns : goal.returns
returns c = below_is _ _ c.args.field.now _ c.as_str.result.now c.below_name.ensures c.as_str.ensures
