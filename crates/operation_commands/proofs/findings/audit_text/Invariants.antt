use Rattle.std.proofs.Common.{◌≡◌, ◌++◌, drop}
use Rattle.std.specs.Prelude.{flat_map}
use Rattle.command_outcomes.specs.Texts.{line}
use Rattle.operation_commands.specs.Audit.{finding_text}
use Rattle.operation_commands.proofs.findings.audit_text.Given as goal

-- With the findings that are left these are the lines of all.
abbrev pub invariant-loop-at : goal.invariant-loop-at
invariant-loop-at l = l.text.items ++ flat_map (λ f. line (finding_text f)) (drop l.at l.findings) ≡ flat_map (λ f. line (finding_text f)) l.findings
