use Rattle.gql_base.proofs.LexicalLaws.DirectiveUses.{used_once, used_or_not}
use Rattle.gql_base.proofs.lexical.laws.a_directive_is_used_or_not.Goals as goal

pub returns-clause-either : goal.returns-clause-either
returns-clause-either c = used_or_not

pub returns-clause-one : goal.returns-clause-one
returns-clause-one c = used_once
