-- The name that is told is the file's.
use Rattle.std.proofs.Common.{inl, inr, subst, ◌∙◌}
use Rattle.command_outcomes.specs.Check.{CheckOf}
use Rattle.command_outcomes.proofs.checking.check.Goals as goal

pub returns-in-Ok-read_file : goal.returns-in-Ok-read_file
returns-in-Ok-read_file g c =
    inr (c.in-Ok-read_file.read.items, c.in-Ok-read_file.ensures.read, subst (λ name. CheckOf name c.in-Ok-read_file.read.items c.check_bytes.result) (c.in-Ok.ensures ∙ c.as_str.ensures) c.check_bytes.ensures, c.in-Ok-read_file.ensures.still)

pub returns : goal.returns
returns g c = inl c.in-Err-read_file.ensures.stopped
