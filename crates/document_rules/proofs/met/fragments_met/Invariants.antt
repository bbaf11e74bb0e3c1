use Rattle.std.proofs.Common.{◌≡◌, ◌++◌, drop, map}
use Rattle.document_rules.specs.Met.{fragments_met}
use Rattle.document_rules.specs.Views.{defined_fragment, met_data}
use Rattle.document_rules.proofs.met.fragments_met.Given as goal

abbrev pub invariant-loop-one : goal.invariant-loop-one
invariant-loop-one l = map (λ f. f.now) l.fragments.items ++ fragments_met (map defined_fragment l.defined) (map met_data (drop l.one-index l.met)) ≡ fragments_met (map defined_fragment l.defined) (map met_data l.met)
