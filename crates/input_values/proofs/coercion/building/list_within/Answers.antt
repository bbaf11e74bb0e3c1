use Rattle.std.proofs.Common.{None, Some, ap, map}
use Rattle.input_values.specs.values.Coerced.{coerced_tree}
use Rattle.input_values.proofs.CoercionSteps.Pieces.{items_end, beyond}
use Rattle.input_values.proofs.coercion.building.list_within.Goals as goal

pub returns-then-count-from : goal.returns-then-count-from
returns-then-count-from c = λ before whole l. items_end c.args.limit (map coerced_tree c.args.built.items) before c.args.count None whole l (beyond c.args.limit c.from.result c.args.count c.from.ensures c.if-count-from.true)

pub returns : goal.returns
returns c = λ before whole l. items_end c.args.limit (map coerced_tree c.args.built.items) before c.args.count (Some c.list.result) whole l (λ k. ap Some c.list.ensures)
