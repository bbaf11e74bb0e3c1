use Rattle.std.proofs.Common.{◌≡◌, length, map}
use Rattle.std.specs.Prelude.{nat_eq, ◌-◌}
use Rattle.std.specs.List.{list_any}
use Rattle.document_rules.specs.Met.{outward, inside_at}
use Rattle.document_rules.specs.Views.{met_data}
use Rattle.document_rules.proofs.rules.fragment_cycle.is_inside_of.Given as goal

abbrev pub invariant-loop-step : goal.invariant-loop-step
invariant-loop-step l = list_any (nat_eq l.number) (outward (length (map met_data l.met) - l._step) (map met_data l.met) l.at) ≡ list_any (nat_eq l.number) (inside_at (map met_data l.met) l.fn.within)
