use Rattle.std.proofs.Common.{Err, refl, ap, ◌∙◌}
use Rattle.plan_table.specs.Trees.{tree_of}
use Rattle.response_model.specs.Components.{part_of}
use Rattle.static_cost.specs.declared.filling.WorstFault.TheVariants.{TooLarge}
use Rattle.static_cost.proofs.FilledRows.{worst_filled, worst_too_large, same_fault}
use Rattle.static_cost.proofs.Floatless.{filled_floatless}
use Rattle.static_cost.proofs.filling.worst.Goals as goal

pub returns-in-Ok-clause-filled : goal.returns-in-Ok-clause-filled
returns-in-Ok-clause-filled c plan of = worst_filled c.args.of.now (part_of c.args.part) plan c.deref.result.now c.root-on.result.number (tree_of c.object_tree.result) _ c.fill_entries.new.left 99999 of c.requires
    (c.deref.ensures.value ∙ c.in_ok-choices.ensures) (ap (λ on. on.number) c.root-on.ensures)
    c.object_tree.ensures c.in-Ok.ensures.0 c.in-Ok.ensures.1

pub returns-clause-too_large : goal.returns-clause-too_large
returns-clause-too_large c told plan of = worst_too_large c.args.of.now (part_of c.args.part) plan c.deref.result.now c.root-on.result.number 99999 c.in-Err.fault of c.requires
    (c.deref.ensures.value ∙ c.in_ok-choices.ensures) (ap (λ on. on.number) c.root-on.ensures) c.in-Err.ensures (same_fault c.in-Err.fault TooLarge (Err c.in-Err.fault) refl told)

pub returns-in-Ok-clause-floatless : goal.returns-in-Ok-clause-floatless
returns-in-Ok-clause-floatless c = filled_floatless c.args.of.now c.deref.result.now 0 1 c.root-on.result.number (tree_of c.object_tree.result) _ c.object_tree.ensures c.in-Ok.ensures.1
