use Rattle.std.proofs.Common.{true}
use Rattle.std.proofs.lemmas.Result.{on_ok_weaker}
use Rattle.schema_model.specs.SchemaViews.{schema_data}
use Rattle.collected_fields.proofs.MissedTypes.{missed_where}
use Rattle.collected_fields.proofs.reach.Reach.add_possible.Goals as goal

pub returns-then-has_type : goal.returns-then-has_type
returns-then-has_type c = on_ok_weaker c.add_all.result (λ added T object misses. let here = added T misses in (
  here.0,
  missed_where (schema_data c.args.schema.now) c.args.on.number c.possible-types.result.now T true c.possible-types.ensures (c.has_type.ensures.0 c.if-has_type.true) object here.1,
)) c.add_all.ensures
