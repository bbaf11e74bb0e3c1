-- Threads may share a gate, as they may share its parts.
use denote.Param.Send.{IsSend, IsSync, sendable, struct_send, struct_sync, recorded_send, recorded_sync}
use denote.Struct.Declared.{shape}
use Rattle.std.proofs.Crossing.{crosses}
use Rattle.std.proofs.MapsCrossing.{crosses as maps_cross}
use Rattle.schema_model.proofs.SharedSchemas.{schema_field_send, schema_field_sync}
use Rattle.cost_directives.proofs.SharedWeights.{weights_field_send, weights_field_sync}
use Rattle.account_shared.proofs.Accounts.TheSendSync as accounts
use Rattle.client_files.proofs.client.Client.TheSendSync as client
use Rattle.client_files.specs.contracts.client.Client.{the_row as client_row}
use Rattle.client_files.specs.contracts.client.ClientNamed.TheImpl.{ghosts as names}
use Rattle.gql_base.proofs.names.owned_index.Indexed.TheSendSync as indexed
use Rattle.gateway_core.proofs.gate.Settings.TheSendSync as settings
use Rattle.std.specs.contracts.option.Option as option
use Rattle.serde_json.proofs.value.Value.TheLaws.TheKnot.{send-Value, sync-Value}
use Rattle.trusted_documents.specs.contracts.listing.Trusted as trusted
use Rattle.local_introspection.specs.contracts.facts.Facts as facts
use Rattle.local_introspection.proofs.SharedFacts.{facts_send, facts_sync}
use Rattle.gateway_core.specs.contracts.gate.Gate.{the_field, the_type, the_row}

trusted_send : IsSend (option.the_field trusted.the_row).row
trusted_send = search (sendable, crosses, maps_cross, send-Value) depth 40 fits 20000

trusted_sync : IsSync (option.the_field trusted.the_row).row
trusted_sync = search (sendable, crosses, maps_cross, sync-Value) depth 40 fits 20000

facts_sent : IsSend (option.the_field facts.the_row).row
facts_sent = search (sendable, crosses, maps_cross, facts_send) depth 40 fits 20000

facts_shared : IsSync (option.the_field facts.the_row).row
facts_shared = search (sendable, crosses, maps_cross, facts_sync) depth 40 fits 20000

pub gate_send : IsSend the_row
gate_send = recorded_send (the_field).row _ _ (the_type).to_one (struct_send (shape the_type)
    (trusted_send, (facts_sent, (schema_field_send, (weights_field_send, (indexed.the_field_send client_row names client.the_send, (settings.the_field_send, (accounts.the_send, (search (sendable, crosses) depth 40 fits 20000, tt)))))))))

pub gate_sync : IsSync the_row
gate_sync = recorded_sync (the_field).row _ _ (the_type).to_one (struct_sync (shape the_type)
    (trusted_sync, (facts_shared, (schema_field_sync, (weights_field_sync, (indexed.the_field_sync client_row names client.the_sync, (settings.the_field_sync, (accounts.the_sync, (search (sendable, crosses) depth 40 fits 20000, tt)))))))))
