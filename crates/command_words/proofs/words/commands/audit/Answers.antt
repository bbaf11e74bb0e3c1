use Rattle.clap.specs.Walk.{rows_of}
use Rattle.clap.specs.Simple.{app_of}
use Rattle.clap.specs.Matches.{found_of}
use Rattle.command_words.specs.declared.command.WordsFault.TheVariants.{Usage}
use Rattle.command_words.specs.Apps.{audit_app}
use Rattle.command_words.specs.Words.{GivesAudit}
use Rattle.command_words.proofs.Readings.{texts, same_fault, asked, refused}
use Rattle.command_words.proofs.words.commands.audit.Goals as goal

pub returns-in-Ok-matches_of-clause-found : goal.returns-in-Ok-matches_of-clause-found
returns-in-Ok-matches_of-clause-found c =
    asked audit_app (app_of c.in-Ok.command) (texts c.args.words.now) c.in-Ok.ensures
    (rows_of (found_of c.in-Ok-matches_of.matches)) c.audit_of.result GivesAudit
    c.in-Ok-matches_of.ensures.faultless c.in-Ok-matches_of.ensures.rows c.audit_of.ensures.found

pub returns-in-Err-clause-usage : goal.returns-in-Err-clause-usage
returns-in-Err-clause-usage c = λ failed command.
    refused audit_app (app_of c.in-Ok.command) (texts c.args.words.now) c.in-Ok.ensures (λ rows. GivesAudit rows command)
    (c.in-Err.ensures.usage (same_fault c.in-Err.fault Usage failed))
