use Rattle.std.proofs.Common.{ap, arith, length}
use Rattle.std.proofs.lemmas.List.{length-drop}
use Rattle.gql_base.proofs.LexicalLaws.StringScans.{escape_within}
use Rattle.gql_base.proofs.lexical.strings.escape_at.Goals as goal

pub returns-in-None-clause-within : goal.returns-in-None-clause-within
returns-in-None-clause-within c =
    escape_within c.code_escape.result c.code_unit.result c.code_unit-in-None.result (length c.args.bytes.now) (length c.after.result.now) c.code_escape.ensures.within c.code_unit.ensures.within c.code_unit-in-None.ensures.within
    (omega (arith, ap length c.after.ensures, length-drop 6 c.args.bytes.now))
