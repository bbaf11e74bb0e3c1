use Rattle.std.proofs.Common.{rules, ◌∙◌, ◌∷◌, [], ◌++◌, take, ap}
use Rattle.aligned_lines.specs.Aligned.{lines_seen}
use Rattle.cost_tables.specs.declared.TheConstants.{SHOWN}
use Rattle.cost_tables.specs.Cells.{node_cells}
use Rattle.cost_tables.specs.Tables.{share_at, shown_cells}
use Rattle.cost_tables.proofs.Written.{rows_shown, nodes_begun, node_written, nodes_written}
use Rattle.cost_tables.proofs.nodes.push_nodes.Goals as goal

pub loop-at-init : goal.loop-at-init
loop-at-init c = nodes_begun c.args.of.now c.args.types.now c.args.fields.now (lines_seen c.args.lines.now.items) (take c.min.result c.node_rows-rows.result.now) c.push.new.self.items
    (c.in_ok-push.ensures.items ∙ (ap (λ s. s ++ (c.in_ok-at_root.field-0 ∷ [])) c.new-stack.ensures.items ∙ ap (λ a. a ∷ []) c.in_ok-at_root.ensures))
    (rows_shown c.node_rows-rows.result.now c.min.result c.min.ensures ∙ ap (λ rows. take SHOWN rows) c.node_rows-rows.ensures)

pub loop-at-preserved : goal.loop-at-preserved
loop-at-preserved c = node_written c.args.of.now c.args.types.now c.args.fields.now (take c.min.result c.node_rows-rows.result.now) (lines_seen c.args.lines.now.items ++ shown_cells c.args.of.now c.args.types.now c.args.fields.now)
    c.loop-at.at c.index-shown-at.result c.loop-at.stack.items c.go_behind.new.stack.items c.in_ok-line.line c.loop-at.lines.items c.push-in-loop-at.new.self.items
    c.loop-at-test.true c.index-shown-at.is
    (c.in_ok-line.ensures
    ∙ (ap (λ s. node_cells c.args.of.now s c.index-shown-at.result c.share_at.result c.share_at-in-loop-at.result) c.deref.ensures.value
    ∙ (ap (λ t. node_cells c.args.of.now c.loop-at.stack.items c.index-shown-at.result t c.share_at-in-loop-at.result) c.share_at.ensures
    ∙ ap (λ f. node_cells c.args.of.now c.loop-at.stack.items c.index-shown-at.result (share_at c.loop-at.at c.args.types.now) f) c.share_at-in-loop-at.ensures)))
    c.in_ok-push-2.ensures.items c.in_ok-go_behind.ensures c.loop-at.invariant

pub returns : goal.returns
returns c = nodes_written c.args.of.now c.args.types.now c.args.fields.now (take c.min.result c.node_rows-rows.result.now) (lines_seen c.args.lines.now.items ++ shown_cells c.args.of.now c.args.types.now c.args.fields.now)
    c.loop-at.at c.loop-at.stack.items c.loop-at.lines.items (search rules) c.loop-at.invariant
