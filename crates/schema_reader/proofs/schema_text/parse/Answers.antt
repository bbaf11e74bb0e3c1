use Rattle.std.proofs.Common.{sym, ◌∙◌, map}
use Rattle.gql_base.specs.ways.Sources.{ahead}
use Rattle.schema_reader.specs.Trees.{definition_tree}
use Rattle.schema_reader.proofs.ParsedSchemas.{no_trees, some_trees, schema_found, nothing_found, extension_found, halt_found, schema_same, no_rest, some_definition, memory_alone}
use Rattle.schema_reader.proofs.schema_text.parse.Goals as goal

pub returns-then-is_there-clause-only : goal.returns-then-is_there-clause-only
returns-then-is_there-clause-only c = λ trees is. absurd (no_rest (ahead c.args.source.now 0) trees (map definition_tree c.in-Ok.definitions.items) (ahead c.args.source.now c.in-Ok.end) is c.in-Ok.ensures.read (sym c.is_there.ensures.there ∙ c.if-is_there.true))

pub returns-then-is_there-clause-fault : goal.returns-then-is_there-clause-fault
returns-then-is_there-clause-fault c = extension_found c.args.source.now (map definition_tree c.in-Ok.definitions.items) c.in-Ok.end c.offset-at.result c.in-Ok.ensures.read (sym c.is_there.ensures.there ∙ c.if-is_there.true) c.in-Ok.ensures.end c.offset-at.ensures

pub returns-then-is_empty-clause-only : goal.returns-then-is_empty-clause-only
returns-then-is_empty-clause-only c = λ trees is. absurd (some_definition (ahead c.args.source.now 0) trees (map definition_tree c.in-Ok.definitions.items) (ahead c.args.source.now c.in-Ok.end) is c.in-Ok.ensures.read (no_trees c.is_empty.result c.in-Ok.definitions.len c.in-Ok.definitions.items c.in-Ok.definitions.ok.0 c.is_empty.ensures c.if-is_empty.true))

pub returns-then-is_empty-clause-fault : goal.returns-then-is_empty-clause-fault
returns-then-is_empty-clause-fault c = nothing_found c.args.source.now (map definition_tree c.in-Ok.definitions.items) c.in-Ok.end c.offset-at.result c.in-Ok.ensures.read (sym c.is_there.ensures.there ∙ c.if-is_there.false)
    (no_trees c.is_empty.result c.in-Ok.definitions.len c.in-Ok.definitions.items c.in-Ok.definitions.ok.0 c.is_empty.ensures c.if-is_empty.true) c.offset-at.ensures

pub returns-else-is_empty-clause-found : goal.returns-else-is_empty-clause-found
returns-else-is_empty-clause-found c = schema_found c.args.source.now (map definition_tree c.in-Ok.definitions.items) c.in-Ok.end c.in-Ok.ensures.read (sym c.is_there.ensures.there ∙ c.if-is_there.false)
    (some_trees c.is_empty.result c.in-Ok.definitions.len c.in-Ok.definitions.items c.in-Ok.definitions.ok.0 c.is_empty.ensures c.if-is_empty.false)

pub returns-else-is_empty-clause-only : goal.returns-else-is_empty-clause-only
returns-else-is_empty-clause-only c = λ trees is. schema_same (ahead c.args.source.now 0) trees (map definition_tree c.in-Ok.definitions.items) (ahead c.args.source.now c.in-Ok.end) is c.in-Ok.ensures.read

pub returns-in-Err-clause-only : goal.returns-in-Err-clause-only
returns-in-Err-clause-only c = λ trees is. memory_alone c.args.source.now c.in-Err.halt c.fault_of.result trees is c.in-Err.ensures.read c.fault_of.ensures

pub returns-in-Err-clause-fault : goal.returns-in-Err-clause-fault
returns-in-Err-clause-fault c = halt_found c.args.source.now c.in-Err.halt c.fault_of.result c.in-Err.ensures.read c.fault_of.ensures
