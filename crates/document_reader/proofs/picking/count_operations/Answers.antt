use Rattle.std.proofs.Common.{true, false, sym, ◌∙◌, arith}
use Rattle.document_reader.specs.Picking.{is_operation}
use Rattle.document_reader.proofs.Picks.{count_next, count_none}
use Rattle.document_reader.proofs.picking.count_operations.Goals.{then-is_operation, else-is_operation}
use Rattle.document_reader.proofs.picking.count_operations.Goals as goal

pub loop-at-preserved : goal.loop-at-preserved
loop-at-preserved c = elim c.if-is_operation.branch [
  | then-is_operation w ↦
      let next = count_next is_operation c.args.definitions.now c.loop-at.at c.index-definitions-at.result true c.loop-at-test.true c.index-definitions-at.is (sym c.is_operation.ensures ∙ w.if-is_operation.true) in
      record { whole = omega (arith, w.count-is, c.loop-at.invariant.whole, next); fewer = omega (arith, w.count-is, c.loop-at.invariant.fewer) }
  | else-is_operation w ↦
      let next = count_next is_operation c.args.definitions.now c.loop-at.at c.index-definitions-at.result false c.loop-at-test.true c.index-definitions-at.is (sym c.is_operation.ensures ∙ w.if-is_operation.false) in
      record { whole = omega (arith, w.count-is, c.loop-at.invariant.whole, next); fewer = omega (arith, w.count-is, c.loop-at.invariant.fewer) }
]

pub returns : goal.returns
returns c = omega (arith, c.loop-at.invariant.whole, count_none is_operation c.args.definitions.now c.loop-at.at c.loop-at-test.false)
