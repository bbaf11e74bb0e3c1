-- Threads may share what introspection is answered by, as they may share its parts.
use denote.Param.Send.{IsSend, IsSync, sendable, struct_send, struct_sync, recorded_send, recorded_sync}
use denote.Struct.Declared.{shape}
use Rattle.std.proofs.Crossing.{crosses}
use Rattle.std.proofs.MapsCrossing.{crosses as maps_cross}
use Rattle.schema_model.proofs.SharedSchemas.{schema_field_send, schema_field_sync}
use Rattle.cost_directives.proofs.SharedWeights.{weights_field_send, weights_field_sync}
use Rattle.schema_facts.proofs.SharedFacts.{facts_field_send as known_send, facts_field_sync as known_sync}
use Rattle.meta_schema.specs.contracts.schema.MetaSchema as meta
use Rattle.local_introspection.specs.contracts.facts.Facts.{the_field, the_type, the_row}

meta_send : IsSend (meta.the_field).row
meta_send = search (sendable, crosses, maps_cross, schema_field_send, weights_field_send) depth 40 fits 20000

meta_sync : IsSync (meta.the_field).row
meta_sync = search (sendable, crosses, maps_cross, schema_field_sync, weights_field_sync) depth 40 fits 20000

pub facts_send : IsSend the_row
facts_send = recorded_send (the_field).row _ _ (the_type).to_one (struct_send (shape the_type) (known_send, (meta_send, (search (sendable, crosses) depth 40 fits 20000, tt))))

pub facts_sync : IsSync the_row
facts_sync = recorded_sync (the_field).row _ _ (the_type).to_one (struct_sync (shape the_type) (known_sync, (meta_sync, (search (sendable, crosses) depth 40 fits 20000, tt))))
