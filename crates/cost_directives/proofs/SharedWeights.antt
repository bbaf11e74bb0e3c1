-- Threads may share weights, as they may share their parts.
use denote.Param.Send.{IsSend, IsSync, sendable, recorded_send, recorded_sync}
use Rattle.std.proofs.Crossing.{crosses}
use Rattle.std.proofs.MapsCrossing.{crosses as maps_cross}
use Rattle.input_values.proofs.inputs.shape.Shape.TheLaws.TheKnot.{send-Shape, sync-Shape}
use Rattle.cost_directives.specs.contracts.entries.TypeWeight as of_type
use Rattle.cost_directives.specs.contracts.entries.FieldWeight as of_field
use Rattle.cost_directives.specs.contracts.weights.Weights.{the_field, the_type, the_row}

type_send : IsSend (of_type.the_field).row
type_send = search (sendable, crosses, maps_cross, send-Shape) depth 40 fits 20000

type_sync : IsSync (of_type.the_field).row
type_sync = search (sendable, crosses, maps_cross, sync-Shape) depth 40 fits 20000

field_send : IsSend (of_field.the_field).row
field_send = search (sendable, crosses, send-Shape) depth 40 fits 20000

field_sync : IsSync (of_field.the_field).row
field_sync = search (sendable, crosses, sync-Shape) depth 40 fits 20000

pub weights_field_send : IsSend (the_field).row
weights_field_send = search (sendable, crosses, type_send, field_send) depth 40 fits 20000

pub weights_field_sync : IsSync (the_field).row
weights_field_sync = search (sendable, crosses, type_sync, field_sync) depth 40 fits 20000

pub weights_send : IsSend the_row
weights_send = recorded_send (the_field).row _ _ (the_type).to_one weights_field_send

pub weights_sync : IsSync the_row
weights_sync = recorded_sync (the_field).row _ _ (the_type).to_one weights_field_sync
