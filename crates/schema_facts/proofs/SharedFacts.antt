-- Threads may share what is known of a schema, as they may share its parts.
use denote.Param.Send.{IsSend, IsSync, sendable, struct_send, struct_sync, recorded_send, recorded_sync}
use denote.Struct.Declared.{shape}
use Rattle.std.proofs.Crossing.{crosses}
use denote.Builtin.{usize}
use denote.Struct.Field.{usize-field}
use Rattle.std.specs.contracts.option.Option as option
use Rattle.std.specs.contracts.vec.Vec as vec
use Rattle.std.specs.contracts.alloc.Global as heap
use Rattle.std.specs.contracts.impls.GlobalAllocator.TheImpl.{ghosts}
use Rattle.gql_base.specs.contracts.lexical.text.Text as text
use Rattle.schema_reader.specs.contracts.trees.SchemaDef.{the_row as definition_row}
use Rattle.gql_base.proofs.names.owned_index.Indexed.TheSendSync as indexed
use Rattle.schema_facts.specs.contracts.known.KnownType.{the_row as known_row}
use Rattle.schema_facts.specs.contracts.known.KnownTypeNamed.TheImpl.{ghosts as names}
use Rattle.schema_facts.proofs.SharedParts.{known_send, known_sync, definition_send, definition_sync}
use Rattle.schema_facts.specs.contracts.facts.SchemaFacts.{the_field, the_type, the_row}

description_send : IsSend (option.the_field text.the_row).row
description_send = search (sendable, crosses) depth 40

lists_send : IsSend (vec.the_field (vec.the_row usize heap.the_row ghosts) heap.the_row ghosts).row
lists_send = search (sendable, crosses) depth 40

name_send : IsSend (text.the_field).row
name_send = search (sendable, crosses) depth 40

number_send : IsSend (usize-field).row
number_send = search (sendable, crosses) depth 40

maybe_send : IsSend (option.the_field usize).row
maybe_send = search (sendable, crosses) depth 40

definitions_send : IsSend (vec.the_field definition_row heap.the_row ghosts).row
definitions_send = search (sendable, crosses, definition_send) depth 40

pub facts_field_send : IsSend (the_field).row
facts_field_send = struct_send (shape the_type) (description_send, (indexed.the_field_send known_row names known_send, (lists_send, (lists_send, (lists_send, (name_send, (number_send, (maybe_send, (maybe_send, (definitions_send, tt))))))))))

pub facts_send : IsSend the_row
facts_send = recorded_send (the_field).row _ _ (the_type).to_one facts_field_send

description_sync : IsSync (option.the_field text.the_row).row
description_sync = search (sendable, crosses) depth 40

lists_sync : IsSync (vec.the_field (vec.the_row usize heap.the_row ghosts) heap.the_row ghosts).row
lists_sync = search (sendable, crosses) depth 40

name_sync : IsSync (text.the_field).row
name_sync = search (sendable, crosses) depth 40

number_sync : IsSync (usize-field).row
number_sync = search (sendable, crosses) depth 40

maybe_sync : IsSync (option.the_field usize).row
maybe_sync = search (sendable, crosses) depth 40

definitions_sync : IsSync (vec.the_field definition_row heap.the_row ghosts).row
definitions_sync = search (sendable, crosses, definition_sync) depth 40

pub facts_field_sync : IsSync (the_field).row
facts_field_sync = struct_sync (shape the_type) (description_sync, (indexed.the_field_sync known_row names known_sync, (lists_sync, (lists_sync, (lists_sync, (name_sync, (number_sync, (maybe_sync, (maybe_sync, (definitions_sync, tt))))))))))

pub facts_sync : IsSync the_row
facts_sync = recorded_sync (the_field).row _ _ (the_type).to_one facts_field_sync
