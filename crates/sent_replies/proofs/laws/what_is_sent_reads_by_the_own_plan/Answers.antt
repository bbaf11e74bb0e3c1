use Rattle.sent_replies.proofs.Readings.{value_reads}
use Rattle.sent_replies.proofs.laws.what_is_sent_reads_by_the_own_plan.Goals as goal

pub returns : goal.returns
returns c alias e form asked place p q plan sent t json fits say = value_reads alias e form asked place p q plan t json sent fits say
