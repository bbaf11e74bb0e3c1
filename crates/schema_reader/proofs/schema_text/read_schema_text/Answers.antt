use Rattle.std.proofs.Common.{[], sym, ◌∙◌, subst}
use Rattle.gql_base.specs.lexical.Tokens.{Lexes}
use Rattle.gql_base.specs.ways.Symbols.{symbols_from}
use Rattle.gql_base.specs.ways.FirstFaults.{level_limit, IsWritten}
use Rattle.schema_reader.specs.Schemas.{IsSchema}
use Rattle.schema_reader.proofs.ParsedSchemas.{found_in_text, fault_in_text, fault_of_no_tokens, memory_of_lexing, lexed_alike}
use Rattle.schema_reader.proofs.schema_text.read_schema_text.Goals as goal

pub returns-in-Ok-clause-found : goal.returns-in-Ok-clause-found
returns-in-Ok-clause-found c =
    found_in_text c.lets_floats.result c.args.text.now c.as_slice.result.now c.parse.result c.lets_floats.ensures
    (subst (Lexes c.lets_floats.result c.args.text.now) (sym c.as_slice.ensures.value) c.in-Ok.ensures.found) c.parse.ensures.found

pub returns-in-Ok-clause-only : goal.returns-in-Ok-clause-only
returns-in-Ok-clause-only c = λ trees is.
    let tree = is.2 in
    let alike = lexed_alike c.args.text.now c.lets_floats.result is.0 tree.0 c.lets_floats.ensures is.1 tree.1 in
    c.parse.ensures.only trees
    (subst (λ ts. IsWritten IsSchema level_limit (symbols_from c.args.text.now ts 0) trees []) (sym (c.as_slice.ensures.value ∙ c.in-Ok.ensures.only tree.0 alike)) tree.2)

pub returns-in-Ok-clause-fault : goal.returns-in-Ok-clause-fault
returns-in-Ok-clause-fault c =
    fault_in_text c.lets_floats.result c.args.text.now c.as_slice.result.now c.parse.result c.lets_floats.ensures
    (subst (Lexes c.lets_floats.result c.args.text.now) (sym c.as_slice.ensures.value) c.in-Ok.ensures.found) c.parse.ensures.fault

pub returns-in-Err-clause-only : goal.returns-in-Err-clause-only
returns-in-Err-clause-only c = λ trees is.
    let tree = is.2 in
    let alike = lexed_alike c.args.text.now c.lets_floats.result is.0 tree.0 c.lets_floats.ensures is.1 tree.1 in
    memory_of_lexing c.in-Err.fault c.lexical.result (c.in-Err.ensures.only tree.0 alike) c.lexical.ensures

pub returns-in-Err-clause-fault : goal.returns-in-Err-clause-fault
returns-in-Err-clause-fault c = fault_of_no_tokens c.lets_floats.result c.args.text.now c.in-Err.fault c.lexical.result c.lets_floats.ensures c.in-Err.ensures.fault c.lexical.ensures
