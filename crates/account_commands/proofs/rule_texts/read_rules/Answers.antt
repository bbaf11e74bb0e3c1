-- The schema was a text, and reading it changed none.
use Rattle.std.proofs.Common.{◌∙◌, inl, inr}
use Rattle.command_outcomes.specs.declared.limits.TheConstants.{CLIENTS_LIMIT}
use Rattle.command_outcomes.proofs.ReadFiles.{no_text_sooner}
use Rattle.account_commands.proofs.rule_texts.read_rules.Goals as goal

pub returns-in-Err-clause-none : goal.returns-in-Err-clause-none
returns-in-Err-clause-none g c = inl c.in-Err.ensures.none

pub returns-in-Err-read_text-clause-none : goal.returns-in-Err-read_text-clause-none
returns-in-Err-read_text-clause-none g c =
    inr (
      (c.in-Ok.schema, c.in-Ok.ensures.held),
      no_text_sooner (g.F.Files.content c.args.files.now) (g.F.Files.content c.read_text.new.files) (g.F.Files.faults c.args.files.now) (g.F.Files.faults c.read_text.new.files) (g.F.Files.faults c.read_text-2.new.files)
          c.in-Ok.ensures.same c.in-Ok.ensures.still CLIENTS_LIMIT c.args.clients.now c.in-Err-read_text.outcome c.in-Err-read_text.ensures.none,
    )

pub returns-in-Ok-read_text-clause-still : goal.returns-in-Ok-read_text-clause-still
returns-in-Ok-read_text-clause-still g c name = c.in-Ok-read_text.ensures.still name ∙ c.in-Ok.ensures.still name
