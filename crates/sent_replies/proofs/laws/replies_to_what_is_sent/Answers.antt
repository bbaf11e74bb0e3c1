use Rattle.sent_replies.proofs.SentOperations.{reply_reads}
use Rattle.sent_replies.proofs.laws.replies_to_what_is_sent.Goals as goal

pub returns : goal.returns
returns c alias x t json well response say = reply_reads alias x t json well response say
