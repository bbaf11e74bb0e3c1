-- A command is simple where it is simple and free.
use Rattle.std.proofs.Common.{◌≡◌, Bool, true, false, refl}
use Rattle.std.specs.Prelude.{◌&&◌}
use Rattle.clap.specs.Simple.{app_of, is_simple}
use Rattle.command_words.proofs.words.matches.matches_of.Goals as goal

first_of_both : (a b : Bool) → (a && b) ≡ true → a ≡ true
first_of_both true b both = refl
first_of_both false b both = absurd (cc)

pub returns-in-Ok-clause-rows : goal.returns-in-Ok-clause-rows
returns-in-Ok-clause-rows c = (c.in-Ok.ensures.matches (first_of_both (is_simple (app_of c.args.command)) _ c.requires.simple)).0
