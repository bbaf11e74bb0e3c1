use Rattle.gql_base.proofs.LexicalLaws.IntegerValues.{number_read, none_read}
use Rattle.gql_base.proofs.lexical.literals.integer_value.Goals as goal

pub returns-in-Ok : goal.returns-in-Ok
returns-in-Ok c = number_read c.args.digits.now c.parse.result c.in-Ok.number c.parse.ensures.value.0 c.in-Ok.is

pub returns-in-Err : goal.returns-in-Err
returns-in-Err c = none_read c.args.digits.now c.parse.result c.in-Err.field-0 c.parse.ensures.value.0 c.in-Err.is
