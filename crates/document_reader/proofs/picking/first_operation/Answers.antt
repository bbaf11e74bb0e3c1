use Rattle.std.proofs.Common.{sym, ◌∙◌}
use Rattle.document_reader.specs.Picking.{is_operation}
use Rattle.document_reader.proofs.Picks.{first_passes, first_fails, first_none}
use Rattle.document_reader.proofs.picking.first_operation.Goals as goal

pub returns-then-is_operation : goal.returns-then-is_operation
returns-then-is_operation c = sym (first_passes is_operation c.args.definitions.now c.loop-at.at c.index-definitions-at.result c.loop-at-test.true c.index-definitions-at.is (sym c.is_operation.ensures ∙ c.if-is_operation.true)) ∙ c.loop-at.invariant

pub loop-at-preserved : goal.loop-at-preserved
loop-at-preserved c = sym (first_fails is_operation c.args.definitions.now c.loop-at.at c.index-definitions-at.result c.loop-at-test.true c.index-definitions-at.is (sym c.is_operation.ensures ∙ c.if-is_operation.false)) ∙ c.loop-at.invariant

pub returns : goal.returns
returns c = sym (first_none is_operation c.args.definitions.now c.loop-at.at c.loop-at-test.false) ∙ c.loop-at.invariant
