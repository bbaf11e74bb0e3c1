use Rattle.std.proofs.Common.{sym, ◌∙◌}
use Rattle.document_reader.specs.Picking.{is_named}
use Rattle.document_reader.proofs.Picks.{first_passes, first_fails, first_none}
use Rattle.document_reader.proofs.picking.first_named.Goals as goal

pub returns-then-is_named : goal.returns-then-is_named
returns-then-is_named c = sym (first_passes (is_named c.args.name.now) c.args.definitions.now c.loop-at.at c.index-definitions-at.result c.loop-at-test.true c.index-definitions-at.is (sym c.is_named.ensures ∙ c.if-is_named.true)) ∙ c.loop-at.invariant

pub loop-at-preserved : goal.loop-at-preserved
loop-at-preserved c = sym (first_fails (is_named c.args.name.now) c.args.definitions.now c.loop-at.at c.index-definitions-at.result c.loop-at-test.true c.index-definitions-at.is (sym c.is_named.ensures ∙ c.if-is_named.false)) ∙ c.loop-at.invariant

pub returns : goal.returns
returns c = sym (first_none (is_named c.args.name.now) c.args.definitions.now c.loop-at.at c.loop-at-test.false) ∙ c.loop-at.invariant
