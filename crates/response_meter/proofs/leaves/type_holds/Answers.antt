use Rattle.std.proofs.Common.{sym, ap₂, ◌∙◌}
use Rattle.serde_json.specs.View.{view}
use Rattle.input_values.specs.coercion.Kinds.{scalar_kind}
use Rattle.schema_model.specs.SchemaViews.{schema_data}
use Rattle.response_meter.proofs.HeldLeaves.{enum_held, scalar_held}
use Rattle.response_meter.proofs.leaves.type_holds.Goals as goal

pub returns-in-Enum : goal.returns-in-Enum
returns-in-Enum c =
    enum_held (schema_data c.args.schema.now) c.args.of.number (view c.args.value.now) c.enum_holds.result c.in-Enum.ensures (c.enum_holds.ensures (sym c.in-Enum.ensures))

pub returns-in_default : goal.returns-in_default
returns-in_default c =
    scalar_held (schema_data c.args.schema.now) c.args.of.number (view c.args.value.now) c.scalar_holds.result c.scalar_kind.result (λ e. c.in_default.not-Enum (c.kind.ensures ∙ e))
    (c.scalar_kind.ensures ∙ ap₂ scalar_kind c.is_lax.ensures (c.as_str.ensures ∙ c.type_name.ensures)) c.scalar_holds.ensures
