-- Variables that stand in for others, which have the same value.
use Rattle.std.specs.Prelude.{◌≡◌, All}
use Rattle.input_values.specs.coercion.Literals.{Environment}
use Rattle.variable_coercion.specs.Calls.{environment}
use Rattle.distinct_selections.specs.declared.stand_ins.StandIn.{StandIn}
use Rattle.distinct_selections.specs.declared.stand_ins.StandIns.{StandIns}

abbrev pub StandsIn : Environment → StandIn → Type 0
StandsIn values s = values s.other.now ≡ values s.name.now

abbrev pub AreRight : StandIns → Type 0
AreRight s = All (StandsIn (environment s.variables.now)) s.others.items
