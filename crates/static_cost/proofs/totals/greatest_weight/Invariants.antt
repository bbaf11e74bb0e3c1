use Rattle.std.proofs.Common.{◌≡◌, max, map, drop}
use Rattle.response_model.specs.Cost.{types}
use Rattle.schema_model.specs.Numbers.{type_number}
use Rattle.plan_table.specs.Tables.{weighed, setting_in}
use Rattle.plan_table.specs.Totals.{greatest_alone}
use Rattle.static_cost.proofs.totals.greatest_weight.Given as goal

abbrev pub invariant-loop-on : goal.invariant-loop-on
invariant-loop-on l = max l.greatest (greatest_alone types (map (weighed (setting_in l.of)) (map type_number (drop l.on-index l.possible)))) ≡ greatest_alone types (map (weighed (setting_in l.of)) (map type_number l.possible))
