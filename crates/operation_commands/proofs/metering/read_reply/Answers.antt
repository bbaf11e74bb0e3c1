-- The reply file was not read, or is longer than its limit.
use Rattle.std.proofs.Common.{◌≡◌, ◌∙◌, inl, inr, subst, arith}
use Rattle.command_outcomes.specs.declared.limits.TheConstants.{REPLY_LIMIT}
use Rattle.command_outcomes.specs.Reading.{IsRead}
use Rattle.command_outcomes.specs.Outcomes.{files_told, IsStopped}
use Rattle.operation_commands.proofs.metering.read_reply.Goals as goal

pub returns-in-Ok-read_file-clause-none : goal.returns-in-Ok-read_file-clause-none
returns-in-Ok-read_file-clause-none g c =
    inr (
      c.in-Ok-read_file.read.items,
      subst (λ name. IsRead REPLY_LIMIT (g.F.Files.content c.args.files.now name) c.in-Ok-read_file.read.items) (c.in-Ok.ensures ∙ c.as_str.ensures) c.in-Ok-read_file.ensures.read,
      omega (arith, c.if-len-gt-REPLY_LIMIT.true, c.len.ensures),
      c.too_large.ensures,
      c.in-Ok-read_file.ensures.still,
    )

pub returns-in-Err-clause-none : goal.returns-in-Err-clause-none
returns-in-Err-clause-none g c =
    inl (subst (λ name. IsStopped (λ other. other ≡ name) (files_told (g.F.Files.content c.args.files.now) (g.F.Files.faults c.args.files.now) (g.F.Files.faults c.read_file.new.files)) c.in-Err.outcome) (c.in-Ok.ensures ∙ c.as_str.ensures) c.in-Err.ensures.stopped)
