use Rattle.std.proofs.Common.{refl}
use Rattle.response_model.proofs.examples.reply_read.Goals as goal

-- from within: the author of a post; the post; the reply that holds the post and a null
pub returns-clause-read : goal.returns-clause-read
returns-clause-read c = (_, refl, refl, (refl, tt), (refl, (_, refl, (_, refl, ((_, refl, (refl, refl), (refl, (refl, tt)), (refl, (_, refl, (_, refl, refl, (refl, tt), (refl, (_, refl, (refl, refl)), tt))), tt)), (refl, tt)))), tt))

-- the tags, which hold a null, and the kind
pub returns-clause-in_order : goal.returns-clause-in_order
returns-clause-in_order c = (_, refl, refl, (refl, (refl, tt)), (refl, (_, refl, (_, refl, (refl, tt))), (refl, (_, refl, (refl, refl)), tt)))
