use Rattle.std.proofs.Common.{inl, subst, None, arith}
use Rattle.std.proofs.KnownBytes.{Appends-nil}
use Rattle.gateway_connections.specs.Replies.{IsFaultReply}
use Rattle.gateway_connections.proofs.turn.refuse.Goals as goal

pub returns-in_default-clause-refuses : goal.returns-in_default-clause-refuses
returns-in_default-clause-refuses g c =
    (None, subst (IsFaultReply c.args.fault) c.in_default.is c.fault_reply.ensures.reply, inl (Appends-nil (g.K.Sink.written c.args.to.now), omega arith, c.end_of_silence.ensures.end c.args.number))

pub returns-in_default-clause-cause : goal.returns-in_default-clause-cause
returns-in_default-clause-cause g c = λ e. absurd (c.end_of_silence.ensures.written e)
