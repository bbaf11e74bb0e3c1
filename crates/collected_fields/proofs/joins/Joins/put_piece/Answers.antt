use Rattle.std.proofs.Common.{subst}
use Rattle.collected_fields.specs.Lists.{MayStandForList}
use Rattle.collected_fields.proofs.PieceLaws.{piece_put}
use Rattle.collected_fields.proofs.joins.Joins.put_piece.Goals as goal

pub returns-in_ok-push-in-Some-clause-put : goal.returns-in_ok-push-in-Some-clause-put
returns-in_ok-push-in-Some-clause-put c = λ is. piece_put c.args.self.now c.number_of.new.self c.args.piece.items c.args.numbers.now.items c.push.new.self.items c.in-Some.number c.in_ok-push-in-Some.ensures.items c.number_of.ensures.more (subst (MayStandForList c.number_of.new.self c.args.piece.items) c.in-Some.is c.in_ok-number.ensures.number)
