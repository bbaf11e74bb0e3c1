-- By the lemmas on one reply, on whole replies, and on more bytes.
use Rattle.upstream_link.proofs.OneReply.{one_reply}
use Rattle.upstream_link.proofs.Later.{reply_later}
use Rattle.upstream_link.proofs.NoFault.{no_fault}
use Rattle.upstream_link.proofs.laws.bytes_begin_with_one_reply.Goals as goal

pub returns-clause-no_fault : goal.returns-clause-no_fault
returns-clause-no_fault c = no_fault

pub returns-clause-one : goal.returns-clause-one
returns-clause-one c = one_reply

pub returns-clause-later : goal.returns-clause-later
returns-clause-later c = reply_later
