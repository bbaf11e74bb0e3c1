use Rattle.std.proofs.Common.{◌≡◌, drop}
use Rattle.operation_commands.specs.Audit.{all_pass}
use Rattle.operation_commands.proofs.findings.all_pass.Given as goal

-- What is left answers as the whole.
abbrev pub invariant-findings : goal.invariant-findings
invariant-findings l = all_pass l.most (drop l.finding-index l.findings) ≡ all_pass l.most l.findings
