use Rattle.sent_replies.proofs.SentOperations.{tells}
use Rattle.sent_replies.proofs.laws.plans_ask_for_names.Goals as goal

pub returns : goal.returns
returns c alias x well = tells alias x well
