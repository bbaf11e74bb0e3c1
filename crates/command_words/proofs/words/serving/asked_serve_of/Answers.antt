use Rattle.std.proofs.lemmas.Result.{err_from_is_err_and}
use Rattle.command_words.specs.declared.command.WordsFault.TheVariants.{Usage}
use Rattle.command_words.proofs.Readings.{same_fault}
use Rattle.command_words.proofs.words.serving.asked_serve_of.Goals as goal

pub returns-in_err-connections-clause-usage : goal.returns-in_err-connections-clause-usage
returns-in_err-connections-clause-usage c =
    let p = err_from_is_err_and c.from_residual-in_err-connections.result c.from_residual-in_err-connections.ensures.1 in
    rw (p.1, p.2) (λ failed asked gives.
    c.in_err-connections.ensures.usage (same_fault c.in_err-connections.field-0.0 Usage failed) asked.connections gives.connections)
