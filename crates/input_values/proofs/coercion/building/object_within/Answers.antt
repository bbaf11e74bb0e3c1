use Rattle.std.proofs.Common.{None, Some, ap, map}
use Rattle.input_values.specs.values.Coerced.{named_tree}
use Rattle.input_values.proofs.CoercionSteps.Pieces.{fields_end, beyond}
use Rattle.input_values.proofs.coercion.building.object_within.Goals as goal

pub returns-then-count-from : goal.returns-then-count-from
returns-then-count-from c = λ before whole l. fields_end c.args.limit (map named_tree c.args.built.items) before c.args.count None whole l (beyond c.args.limit c.from.result c.args.count c.from.ensures c.if-count-from.true)

pub returns : goal.returns
returns c = λ before whole l. fields_end c.args.limit (map named_tree c.args.built.items) before c.args.count (Some c.object.result) whole l (λ k. ap Some c.object.ensures)
