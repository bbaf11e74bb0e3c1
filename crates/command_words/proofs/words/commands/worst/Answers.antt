use Rattle.clap.specs.Walk.{rows_of}
use Rattle.clap.specs.Simple.{app_of}
use Rattle.clap.specs.Matches.{found_of}
use Rattle.command_words.specs.declared.command.WordsFault.TheVariants.{Usage}
use Rattle.command_words.specs.Apps.{worst_app}
use Rattle.command_words.specs.Words.{GivesWorst}
use Rattle.command_words.proofs.Readings.{texts, same_fault, asked, refused}
use Rattle.command_words.proofs.words.commands.worst.Goals as goal

pub returns-in-Ok-matches_of-clause-found : goal.returns-in-Ok-matches_of-clause-found
returns-in-Ok-matches_of-clause-found c =
    asked worst_app (app_of c.in-Ok.command) (texts c.args.words.now) c.in-Ok.ensures
    (rows_of (found_of c.in-Ok-matches_of.matches)) c.worst_of.result GivesWorst
    c.in-Ok-matches_of.ensures.faultless c.in-Ok-matches_of.ensures.rows c.worst_of.ensures.found

pub returns-in-Err-clause-usage : goal.returns-in-Err-clause-usage
returns-in-Err-clause-usage c = λ failed command.
    refused worst_app (app_of c.in-Ok.command) (texts c.args.words.now) c.in-Ok.ensures (λ rows. GivesWorst rows command)
    (c.in-Err.ensures.usage (same_fault c.in-Err.fault Usage failed))
