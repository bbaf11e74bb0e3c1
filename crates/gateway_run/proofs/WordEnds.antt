-- What words come to that are not read into a command.
use Rattle.std.proofs.Common.{◌≡◌, inl, inr, refl, ℕ, List}
use Rattle.command_words.specs.declared.command.WordsFault.{WordsFault}
use Rattle.command_words.specs.declared.command.WordsFault.TheVariants.{Usage, Memory}
use Rattle.command_words.specs.Words.{IsNoCommand}
use Rattle.account_commands.specs.PassedOn.{Outcome, FilesTold, NoFileFailed}
use Rattle.gateway_run.specs.Serve.{OutsideCall, AreUntouched}
use Rattle.gateway_run.specs.Program.{no_command, ComeTo}

pub unread : (words : List (List ℕ)) (files : FilesTold) (outside : OutsideCall) (fault : WordsFault) (outcome : Outcome) → (fault ≡ Usage → IsNoCommand words) → outcome ≡ no_command fault → NoFileFailed files → AreUntouched outside → ComeTo words files outside outcome
unread words files outside Usage outcome none same read still = inr (inl (none refl, same, read, still))
unread words files outside Memory outcome none same read still = inr (inr (same, read, still))
