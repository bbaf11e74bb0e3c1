use Rattle.std.proofs.Common.{rules, ◌==◌, ◌&&◌, not}
use Rattle.std.proofs.lemmas.Fn.{filter_same}
use Rattle.account_journal.specs.declared.reading.OpenGrant.{OpenGrant}
use Rattle.account_journal.proofs.reading.close.Goals as goal

pub returns : goal.returns
returns c = filter_same _ (λ (o : OpenGrant). not ((o.client == c.args.client) && (o.slot == c.args.slot))) _ (λ x b f2 t. search rules) _ _ c.retain.ensures.filtered
