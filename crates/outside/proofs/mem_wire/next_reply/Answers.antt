-- The last reply is the next.
use Rattle.std.proofs.Common.{inl, refl}
use Rattle.outside.proofs.mem_wire.next_reply.Goals as goal

pub returns-in-Some : goal.returns-in-Some
returns-in-Some c = inl (c.in-Some.reply, c.in-Some.ensures.items, refl)
