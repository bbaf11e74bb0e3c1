use Rattle.collected_fields.proofs.JoinLaws.{number_of_list, list_of_number}
use Rattle.collected_fields.proofs.joins.Joins.list_at.Goals as goal

pub returns-in-Some-clause-there : goal.returns-in-Some-clause-there
returns-in-Some-clause-there c = let h = c.in-Some.ensures.lookup in number_of_list c.args.self.now c.args.number c.deref.result.now c.if-number-self.false c.deref.ensures.value h.3.0

pub returns-in-Some-clause-list : goal.returns-in-Some-clause-list
returns-in-Some-clause-list c = let h = c.in-Some.ensures.lookup in list_of_number c.args.self.now c.args.number c.deref.result.now c.if-number-self.false c.deref.ensures.value h.3.0 c.in-Some.sets.now c.as_slice.result.now h.1 c.as_slice.ensures.value
