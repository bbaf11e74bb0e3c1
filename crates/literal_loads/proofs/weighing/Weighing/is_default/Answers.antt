use Rattle.std.proofs.Common.{inl, inr, sym, ap}
use Rattle.std.specs.Prelude.{option_map}
use Rattle.input_values.specs.values.Coerced.{coerced_tree}
use Rattle.literal_loads.proofs.weighing.Weighing.is_default.Goals as goal

pub returns-then-is_absent : goal.returns-then-is_absent
returns-then-is_absent c = λ same. inl (sym c.if-is_absent.ensures)

pub returns-in-Some : goal.returns-in-Some
returns-in-Some c = λ same. inr (coerced_tree c.in-Some.default, ap (option_map coerced_tree) c.in-Some.is, c.comes_to.ensures same)
