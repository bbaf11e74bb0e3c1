use Rattle.std.proofs.Common.{◌≡◌, take}
use Rattle.collected_fields.specs.Lists.{HasMore, AreForBefore}
use Rattle.collected_fields.proofs.joins.Joins.pieces.Given as goal

abbrev pub invariant-loop-set : goal.invariant-loop-set
invariant-loop-set l = (l.self.count ≡ l.fn.self.count) × (HasMore l.fn.self l.self × AreForBefore l.self (take l.set-index l.list) l.numbers.items l.piece.items)
