-- The files before were texts, and reading them changed none.
use Rattle.std.proofs.Common.{◌∙◌, inl, inr}
use Rattle.account_commands.proofs.ListFiles.{no_list_sooner}
use Rattle.gateway_run.proofs.serve_inputs.read_serve.Goals as goal

pub returns-in-Err-clause-none : goal.returns-in-Err-clause-none
returns-in-Err-clause-none g c = inl c.in-Err.ensures.none

pub returns-in-Err-read_list-clause-none : goal.returns-in-Err-read_list-clause-none
returns-in-Err-read_list-clause-none g c =
    inr (
      ((c.in-Ok.rules.schema, c.in-Ok.ensures.held.is_schema), (c.in-Ok.rules.clients, c.in-Ok.ensures.held.are_clients)),
      no_list_sooner (g.F.Files.content c.args.files.now) (g.F.Files.content c.read_rules.new.files) (g.F.Files.faults c.args.files.now) (g.F.Files.faults c.read_rules.new.files) (g.F.Files.faults c.read_list.new.files)
          c.in-Ok.ensures.same c.in-Ok.ensures.still c.args.asked.now.list c.in-Err-read_list.outcome c.in-Err-read_list.ensures.none,
    )

pub returns-in-Ok-read_list-clause-still : goal.returns-in-Ok-read_list-clause-still
returns-in-Ok-read_list-clause-still g c name = c.in-Ok-read_list.ensures.still name ∙ c.in-Ok.ensures.still name
