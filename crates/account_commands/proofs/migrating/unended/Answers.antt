-- The last byte is the line end.
use Rattle.std.proofs.Common.{◌∙◌, ap}
use Rattle.command_outcomes.specs.Texts.{line}
use Rattle.account_commands.proofs.Migrations.{ended_again}
use Rattle.account_commands.proofs.migrating.unended.Goals as goal

pub returns : goal.returns
returns c =
    let is = c.into_bytes-bytes.ensures in
    let cut = ended_again c.into_bytes-bytes.result.items c.into_bytes-bytes.result.len (c.requires.0, is ∙ c.requires.1) c.into_bytes-bytes.result.ok.0 in
    ap line c.pop.ensures.rest ∙ (cut ∙ is)
