use Rattle.std.proofs.Common.{sym, ◌∙◌}
use Rattle.acceptance.proofs.SentBodies.{sent_read}
use Rattle.acceptance.proofs.laws.sent_texts_are_read_alike.Goals as goal

pub returns-clause-read : goal.returns-clause-read
returns-clause-read c = sent_read

pub returns-clause-alike : goal.returns-clause-alike
returns-clause-alike c r p alias text other given is it = sent_read r p alias text given is ∙ sym (sent_read r p alias other given it)
