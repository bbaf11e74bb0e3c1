use Rattle.std.proofs.Common.{◌≡◌, map, drop}
use Rattle.schema_model.specs.Numbers.{type_number}
use Rattle.plan_table.specs.Tables.{weighed, setting_in}
use Rattle.response_model.specs.Components.{part_of}
use Rattle.static_cost.specs.Choices.{first_attaining}
use Rattle.static_cost.proofs.choices.first_attaining.Given as goal

abbrev pub invariant-loop-on : goal.invariant-loop-on
invariant-loop-on l = first_attaining (part_of l.part) l.most l.greatest l.pick (map (weighed (setting_in l.of)) (map type_number (drop l.on-index l.possible))) ≡ first_attaining (part_of l.part) l.most l.greatest l.pick (map (weighed (setting_in l.of)) (map type_number l.possible))
