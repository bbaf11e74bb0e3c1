use Rattle.gql_base.proofs.LexicalLaws.StringScans.{block_faulty, block_sound}
use Rattle.gql_base.proofs.lexical.strings.block_fault.Goals as goal

pub returns-then-good-body-clause-first : goal.returns-then-good-body-clause-first
returns-then-good-body-clause-first c = block_faulty c.args.bytes.now c.after-body.result.now c.block_length-good.result c.after-body.ensures c.block_length-good.ensures.longest c.if-good-body.true

pub returns-else-good-body-clause-first : goal.returns-else-good-body-clause-first
returns-else-good-body-clause-first c = block_sound c.args.bytes.now c.after-body.result.now c.block_length-good.result c.after-body.ensures c.block_length-good.ensures.longest c.if-good-body.false
