use Rattle.std.proofs.Common.{◌∙◌, List, ap}
use Rattle.std.proofs.lemmas.Result.{IfOk-weaker}
use Rattle.std.proofs.lemmas.List.{length-map}
use Rattle.plan_table.specs.Tables.{row_in}
use Rattle.aligned_lines.specs.declared.lines.Line.{Line}
use Rattle.aligned_lines.specs.Aligned.{lines_seen}
use Rattle.cost_tables.specs.Tables.{IsTable}
use Rattle.cost_tables.proofs.Written.{table_told}
use Rattle.cost_tables.proofs.table.price_table.Goals as goal

pub returns : goal.returns
returns c = IfOk-weaker c.aligned.result _ (λ text. IsTable c.args.of.now c.args.price text.items) (λ text is. (
  c.in_ok-types.types.items,
  c.in_ok-fields.fields.items,
  record { nodes = c.in_ok-types.ensures.nodes; rows = c.in_ok-types.ensures.rows ∙ length-map c.args.of.now.rows.items (row_in c.args.of.now); sum = c.in_ok-types.ensures.sum },
  record { nodes = c.in_ok-fields.ensures.nodes; rows = c.in_ok-fields.ensures.rows ∙ length-map c.args.of.now.rows.items (row_in c.args.of.now); sum = c.in_ok-fields.ensures.sum },
  table_told c.args.of.now c.args.price text.items (lines_seen c.deref-3.result.now) c.deref.result.now c.deref-2.result.now c.in_ok-types.types.items c.in_ok-fields.fields.items is
      (ap (λ (lines : List Line). lines_seen lines) c.deref-3.ensures.value ∙ c.in_ok-lines.ensures) c.deref.ensures.value c.deref-2.ensures.value,
)) c.aligned.ensures
