use Rattle.std.proofs.Common.{◌≡◌, map, take}
use Rattle.gql_base.specs.parts.Trees.{value_tree, named_value}
use Rattle.input_values.specs.coercion.Literals.{literal_given}
use Rattle.variable_coercion.specs.Calls.{environment}
use Rattle.plan_model.specs.GivenAlike.{AreGivenSame}
use Rattle.distinct_selections.specs.SameVariables.{AreRight}
use Rattle.distinct_selections.proofs.copying.+copy.Given as goal

abbrev pub invariant-copy_items-items : goal.invariant-copy_items-items
invariant-copy_items-items l = AreRight l.stand_ins → map (literal_given (environment l.stand_ins.variables.now)) (map value_tree (take l.item-index l.items)) ≡ map (literal_given (environment l.stand_ins.variables.now)) (map value_tree l.copies.items)

abbrev pub invariant-copy_arguments-arguments : goal.invariant-copy_arguments-arguments
invariant-copy_arguments-arguments l = AreRight l.stand_ins → AreGivenSame (environment l.stand_ins.variables.now) (map named_value (take l.argument-index l.arguments)) (map named_value l.copies.items)
