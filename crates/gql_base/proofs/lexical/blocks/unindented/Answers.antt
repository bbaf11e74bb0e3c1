use Rattle.std.proofs.Common.{arith}
use Rattle.gql_base.proofs.LexicalLaws.BlockLines.{border_of_indent}
use Rattle.gql_base.proofs.lexical.blocks.unindented.Goals as goal

pub range_from-requires : goal.range_from-requires
range_from-requires c = λ some. border_of_indent c.args.line.now c.min.result c.utf8.line some (omega (arith, c.min.ensures, c.indent.ensures.value))
