-- Threads may share the parts of a schema, as they may share what they consist of.
use denote.Param.Send.{IsSend, IsSync, sendable, recorded_send, recorded_sync}
use Rattle.std.proofs.Crossing.{crosses}
use Rattle.gql_base.proofs.parts.trees.Value.TheLaws.TheKnot.{send-Value, sync-Value}
use Rattle.gql_base.proofs.parts.trees.TypeRef.TheLaws.TheKnot.{send-TypeRef, sync-TypeRef}
use Rattle.gql_base.specs.contracts.parts.trees.Directive as directive
use Rattle.schema_reader.specs.contracts.trees.InputValue as input
use Rattle.schema_reader.specs.contracts.trees.FieldDef as field
use Rattle.schema_reader.specs.contracts.trees.EnumValueDef as enum_value
use Rattle.schema_reader.specs.contracts.trees.DefBody as body
use Rattle.schema_reader.specs.contracts.trees.SchemaDef as definition
use Rattle.schema_facts.specs.contracts.known.KnownType as known

directive_send : IsSend (directive.the_field).row
directive_send = search (sendable, crosses, send-Value) depth 40 fits 20000

directive_sync : IsSync (directive.the_field).row
directive_sync = search (sendable, crosses, sync-Value) depth 40 fits 20000

input_send : IsSend (input.the_field).row
input_send = search (sendable, crosses, send-Value, send-TypeRef, directive_send) depth 40 fits 20000

input_sync : IsSync (input.the_field).row
input_sync = search (sendable, crosses, sync-Value, sync-TypeRef, directive_sync) depth 40 fits 20000

field_send : IsSend (field.the_field).row
field_send = search (sendable, crosses, send-TypeRef, directive_send, input_send) depth 40 fits 20000

field_sync : IsSync (field.the_field).row
field_sync = search (sendable, crosses, sync-TypeRef, directive_sync, input_sync) depth 40 fits 20000

enum_value_send : IsSend (enum_value.the_field).row
enum_value_send = search (sendable, crosses, directive_send) depth 40 fits 20000

enum_value_sync : IsSync (enum_value.the_field).row
enum_value_sync = search (sendable, crosses, directive_sync) depth 40 fits 20000

body_send : IsSend (body.the_field).row
body_send = search (sendable, crosses, field_send, input_send, enum_value_send) depth 40 fits 40000

body_sync : IsSync (body.the_field).row
body_sync = search (sendable, crosses, field_sync, input_sync, enum_value_sync) depth 40 fits 40000

definition_field_send : IsSend (definition.the_field).row
definition_field_send = search (sendable, crosses, directive_send, body_send) depth 40 fits 20000

pub definition_send : IsSend definition.the_row
definition_send = recorded_send (definition.the_field).row _ _ (definition.the_type).to_one definition_field_send

definition_field_sync : IsSync (definition.the_field).row
definition_field_sync = search (sendable, crosses, directive_sync, body_sync) depth 40 fits 20000

pub definition_sync : IsSync definition.the_row
definition_sync = recorded_sync (definition.the_field).row _ _ (definition.the_type).to_one definition_field_sync

known_field_send : IsSend (known.the_field).row
known_field_send = search (sendable, crosses, definition_field_send) depth 40 fits 20000

pub known_send : IsSend known.the_row
known_send = recorded_send (known.the_field).row _ _ (known.the_type).to_one known_field_send

known_field_sync : IsSync (known.the_field).row
known_field_sync = search (sendable, crosses, definition_field_sync) depth 40 fits 20000

pub known_sync : IsSync known.the_row
known_sync = recorded_sync (known.the_field).row _ _ (known.the_type).to_one known_field_sync
