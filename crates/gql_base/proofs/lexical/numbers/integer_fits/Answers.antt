use Rattle.std.proofs.Common.{◌∙◌}
use Rattle.gql_base.proofs.LexicalLaws.Integers.{integer_is_text, parsing_tells}
use Rattle.gql_base.proofs.lexical.numbers.integer_fits.Goals as goal

pub returns-in-Ok : goal.returns-in-Ok
returns-in-Ok c = λ minus whole cut is. c.is_ok.ensures.value ∙ parsing_tells c.args.bytes.now c.in-Ok.text.now whole minus c.parse.result cut c.in-Ok.ensures.cases.0 is c.parse.ensures.value.0

pub returns-in-Err : goal.returns-in-Err
returns-in-Err c = λ minus whole cut is. absurd (c.in-Err.ensures.cases.0 (integer_is_text c.args.bytes.now whole minus cut is))
