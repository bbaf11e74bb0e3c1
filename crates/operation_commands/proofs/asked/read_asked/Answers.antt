-- The files before were texts, and reading them changed none.
use Rattle.std.proofs.Common.{◌∙◌, inl, inr}
use Rattle.operation_commands.proofs.AskedFiles.{no_variables_sooner}
use Rattle.operation_commands.proofs.asked.read_asked.Goals as goal

pub returns-in-Err-clause-none : goal.returns-in-Err-clause-none
returns-in-Err-clause-none g c = inl c.in-Err.ensures.none

pub returns-in-Err-read_variables-clause-none : goal.returns-in-Err-read_variables-clause-none
returns-in-Err-read_variables-clause-none g c =
    inr (
      ((c.in-Ok.texts.schema, c.in-Ok.ensures.schema), (c.in-Ok.texts.document, c.in-Ok.ensures.document)),
      no_variables_sooner (g.F.Files.content c.args.files.now) (g.F.Files.content c.read_operation.new.files) (g.F.Files.faults c.args.files.now) (g.F.Files.faults c.read_operation.new.files) (g.F.Files.faults c.read_variables.new.files)
          c.in-Ok.ensures.same c.in-Ok.ensures.still c.args.asked.now.variables c.in-Err-read_variables.outcome c.in-Err-read_variables.ensures.none,
    )

pub returns-in-Ok-read_variables-clause-still : goal.returns-in-Ok-read_variables-clause-still
returns-in-Ok-read_variables-clause-still g c name = c.in-Ok-read_variables.ensures.still name ∙ c.in-Ok.ensures.still name
