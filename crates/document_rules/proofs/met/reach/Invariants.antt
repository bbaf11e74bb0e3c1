use Rattle.std.proofs.Common.{◌≡◌, ◌+◌, length, map}
use Rattle.document_rules.specs.Views.{defined_data, met_data}
use Rattle.document_reader.specs.Trees.{set_tree}
use Rattle.document_rules.specs.Met.{reached, walk}
use Rattle.document_rules.specs.Steps.{to_come, unseen_spreads, AreSeen}
use Rattle.document_rules.proofs.met.reach.Given as goal

abbrev pub invariant-loop-spread : goal.invariant-loop-spread
invariant-loop-spread l = record {
  seen : AreSeen (map defined_data l.fragments.items.items) l.met.items l.seen.items;
  goes : walk (map defined_data l.fragments.items.items) (length l.spreads.items + unseen_spreads l.seen.items (map defined_data l.fragments.items.items)) (map met_data l.met.items) (to_come l.spreads.items) ≡ reached (map defined_data l.fragments.items.items) (set_tree l.below);
}

abbrev pub decreases-loop-spread : goal.decreases-loop-spread
decreases-loop-spread l = length l.spreads.items + unseen_spreads l.seen.items (map defined_data l.fragments.items.items)
