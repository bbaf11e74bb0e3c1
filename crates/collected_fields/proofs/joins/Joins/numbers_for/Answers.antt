use Rattle.std.proofs.Common.{List, ℕ, subst}
use Rattle.std.specs.Option.{IfSome}
use Rattle.collected_fields.specs.Lists.{AreFor}
use Rattle.collected_fields.proofs.PieceLaws.{still_pieces}
use Rattle.collected_fields.proofs.joins.Joins.numbers_for.Goals as goal

pub returns-clause-numbers : goal.returns-clause-numbers
returns-clause-numbers c = subst (λ (xs : List ℕ). IfSome c.in_ok-pieces.pieces (λ some. AreFor c.number_of.new.self xs some.items)) c.as_slice-2.ensures.value (still_pieces c.pieces.new.self c.number_of.new.self c.as_slice-2.result.now c.in_ok-pieces.pieces c.number_of.ensures.more c.in_ok-pieces.ensures.pieces)
