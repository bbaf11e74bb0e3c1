use Rattle.sent_replies.proofs.KeptInterfaces.{built_keeps}
use Rattle.sent_replies.proofs.laws.built_schemas_keep_interfaces.Goals as goal

pub returns : goal.returns
returns c text schema built = built_keeps text schema built
