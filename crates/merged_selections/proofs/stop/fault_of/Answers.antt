use Rattle.std.proofs.Common.{ap, ◌∙◌, subst}
use Rattle.std.specs.Prelude.{codes, ◌++◌}
use Rattle.merged_selections.specs.NodeTests.{fault_told}
use Rattle.merged_selections.specs.Outcomes.{answer_from, IsStop}
use Rattle.merged_selections.proofs.VisitedParts.{stop_at_root}
use Rattle.merged_selections.proofs.stop.fault_of.Goals as goal

pub returns-in-Ok : goal.returns-in-Ok
returns-in-Ok c = λ o h. stop_at_root c.in-At.path c.in-Ok.at (fault_told c.in-At.why) o c.fault_at.result (subst (λ s. IsStop s o) c.in-At.is h)
    (c.in-Ok.ensures ∙ ap (λ rest. codes "data" ++ rest) c.as_str.ensures) c.fault_at.ensures.told (c.fault_at.ensures.untold (answer_from o))
