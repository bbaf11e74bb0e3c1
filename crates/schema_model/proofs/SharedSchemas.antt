-- Threads may share a checked schema, as they may share its parts.
use denote.Param.Send.{IsSend, IsSync, sendable, recorded_send, recorded_sync}
use Rattle.std.proofs.Crossing.{crosses}
use Rattle.std.proofs.MapsCrossing.{crosses as maps_cross}
use Rattle.input_values.proofs.inputs.shape.Shape.TheLaws.TheKnot.{send-Shape, sync-Shape}
use Rattle.input_values.proofs.values.coerced.Coerced.TheLaws.TheKnot.{both_send-Coerced, both_sync-Coerced}
use Rattle.schema_model.specs.contracts.entries.TypeEntry as entry
use Rattle.schema_model.specs.contracts.entries.FieldEntry as field
use Rattle.schema_model.specs.contracts.schema.Schema.{the_field, the_type, the_row}

entry_send : IsSend (entry.the_field).row
entry_send = search (sendable, crosses, maps_cross, send-Shape, both_send-Coerced) depth 40 fits 20000

entry_sync : IsSync (entry.the_field).row
entry_sync = search (sendable, crosses, maps_cross, sync-Shape, both_sync-Coerced) depth 40 fits 20000

field_send : IsSend (field.the_field).row
field_send = search (sendable, crosses, maps_cross, send-Shape, both_send-Coerced) depth 40 fits 20000

field_sync : IsSync (field.the_field).row
field_sync = search (sendable, crosses, maps_cross, sync-Shape, both_sync-Coerced) depth 40 fits 20000

pub schema_field_send : IsSend (the_field).row
schema_field_send = search (sendable, crosses, maps_cross, entry_send, field_send) depth 40 fits 20000

pub schema_field_sync : IsSync (the_field).row
schema_field_sync = search (sendable, crosses, maps_cross, entry_sync, field_sync) depth 40 fits 20000

pub schema_send : IsSend the_row
schema_send = recorded_send (the_field).row _ _ (the_type).to_one schema_field_send

pub schema_sync : IsSync the_row
schema_sync = recorded_sync (the_field).row _ _ (the_type).to_one schema_field_sync
