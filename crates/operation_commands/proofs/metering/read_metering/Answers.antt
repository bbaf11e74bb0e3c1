-- The files before hold what they must, and reading them changed none.
use Rattle.std.proofs.Common.{inl, inr, ◌∙◌}
use Rattle.operation_commands.proofs.AskedFiles.{stayed_then, reply_sooner, no_reply_sooner, no_variables_sooner}
use Rattle.operation_commands.proofs.metering.read_metering.Goals as goal

pub returns-in-Err-clause-none : goal.returns-in-Err-clause-none
returns-in-Err-clause-none g c = inl c.in-Err.ensures.none

pub returns-in-Err-read_reply-clause-none : goal.returns-in-Err-read_reply-clause-none
returns-in-Err-read_reply-clause-none g c =
    inr (inl (
      ((c.in-Ok.texts.schema, c.in-Ok.ensures.schema), (c.in-Ok.texts.document, c.in-Ok.ensures.document)),
      no_reply_sooner (g.F.Files.content c.args.files.now) (g.F.Files.content c.read_operation.new.files) (g.F.Files.faults c.args.files.now) (g.F.Files.faults c.read_operation.new.files) (g.F.Files.faults c.read_reply.new.files)
          c.in-Ok.ensures.same c.in-Ok.ensures.still c.args.reply.now c.in-Err-read_reply.outcome c.in-Err-read_reply.ensures.none,
    ))

pub returns-in-Err-read_variables-clause-none : goal.returns-in-Err-read_variables-clause-none
returns-in-Err-read_variables-clause-none g c =
    inr (inr (
      ((c.in-Ok.texts.schema, c.in-Ok.ensures.schema), (c.in-Ok.texts.document, c.in-Ok.ensures.document)),
      (c.in-Ok-read_reply.reply.items, reply_sooner (g.F.Files.content c.args.files.now) (g.F.Files.content c.read_operation.new.files) c.in-Ok.ensures.same c.args.reply.now c.in-Ok-read_reply.reply.items c.in-Ok-read_reply.ensures.held),
      no_variables_sooner (g.F.Files.content c.args.files.now) (g.F.Files.content c.read_reply.new.files) (g.F.Files.faults c.args.files.now) (g.F.Files.faults c.read_reply.new.files) (g.F.Files.faults c.read_variables.new.files)
          (c.in-Ok-read_reply.ensures.same ∙ c.in-Ok.ensures.same) (stayed_then (g.F.Files.faults c.args.files.now) (g.F.Files.faults c.read_operation.new.files) (g.F.Files.faults c.read_reply.new.files) c.in-Ok.ensures.still c.in-Ok-read_reply.ensures.still)
          c.args.asked.now.variables c.in-Err-read_variables.outcome c.in-Err-read_variables.ensures.none,
    ))
