-- The files before were texts, and reading them changed none.
use Rattle.std.proofs.Common.{◌∙◌, inl, inr}
use Rattle.command_outcomes.specs.declared.limits.TheConstants.{SCRIPT_LIMIT}
use Rattle.command_outcomes.proofs.ReadFiles.{no_text_sooner}
use Rattle.account_commands.proofs.replay_texts.read_script.Goals as goal

pub returns-in-Err-clause-none : goal.returns-in-Err-clause-none
returns-in-Err-clause-none g c = inl c.in-Err.ensures.none

pub returns-in-Err-read_text-clause-none : goal.returns-in-Err-read_text-clause-none
returns-in-Err-read_text-clause-none g c =
    inr (
      ((c.in-Ok.rules.schema, c.in-Ok.ensures.held.is_schema), (c.in-Ok.rules.clients, c.in-Ok.ensures.held.are_clients)),
      no_text_sooner (g.F.Files.content c.args.files.now) (g.F.Files.content c.read_rules.new.files) (g.F.Files.faults c.args.files.now) (g.F.Files.faults c.read_rules.new.files) (g.F.Files.faults c.read_text.new.files)
          c.in-Ok.ensures.same c.in-Ok.ensures.still SCRIPT_LIMIT c.args.asked.now.script c.in-Err-read_text.outcome c.in-Err-read_text.ensures.none,
    )

pub returns-in-Ok-read_text-clause-still : goal.returns-in-Ok-read_text-clause-still
returns-in-Ok-read_text-clause-still g c name = c.in-Ok-read_text.ensures.still name ∙ c.in-Ok.ensures.still name
