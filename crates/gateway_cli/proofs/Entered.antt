-- Doors for what words came to are doors for the words.
use Rattle.std.proofs.Common.{◌≡◌, inl, inr, ℕ, List, Option, Result, Ok, Err, IfOk, refl}
use Rattle.command_words.specs.declared.command.Command.{Command}
use Rattle.command_words.specs.declared.command.WordsFault.{WordsFault}
use Rattle.command_words.specs.declared.command.WordsFault.TheVariants.{Usage, Memory}
use Rattle.command_words.specs.Words.{Asks, IsNoCommand}
use Rattle.gateway_cli.specs.Entering.{AreEnteredBy, IsEntered}

pub entered : (words : List (List ℕ)) (command : Result Command WordsFault) (waiting : Option ℕ) (stop : Option (List ℕ)) → IfOk command (Asks words) → (command ≡ Err Usage → IsNoCommand words)
    → AreEnteredBy command waiting stop → IsEntered words waiting stop
entered words (Ok command) waiting stop asks none by = inl (command, asks, by.0, by.1)
entered words (Err Usage) waiting stop asks none by = inr (none refl, by.0, by.1)
entered words (Err Memory) waiting stop asks none by = absurd by
