use Rattle.acceptance.proofs.ReadKeys.{read_so, member_so, member_within, once}
use Rattle.acceptance.proofs.laws.read_values_are_in_order.Goals as goal

pub returns-clause-whole : goal.returns-clause-whole
returns-clause-whole c = read_so

pub returns-clause-member : goal.returns-clause-member
returns-clause-member c = member_so

pub returns-clause-within : goal.returns-clause-within
returns-clause-within c = member_within

pub returns-clause-once : goal.returns-clause-once
returns-clause-once c = once
