-- The request was sent, and then the reply was received.
use Rattle.std.proofs.Common.{◌++◌, Ok, Err, refl, subst, inr, false}
use Rattle.outside.specs.Dials.{sends}
use Rattle.outside.proofs.Dialling.{last_then}
use Rattle.upstream_link.specs.Received.{receives, is_failure}
use Rattle.upstream_link.specs.Replies.{ReplyOf}
use Rattle.upstream_link.specs.Exchanges.{bytes_of}
use Rattle.upstream_link.proofs.asking.exchange.Goals as goal

pub returns-in-Ok-take_reply-clause-exact : goal.returns-in-Ok-take_reply-clause-exact
returns-in-Ok-take_reply-clause-exact g c =
    let sent = bytes_of c.args.request.now in
    let got = c.in-Ok-take_reply.ensures.exact in
    let reply = c.in-Ok-take_reply.reply in record {
      change = λ d. receives got.bytes got.ended false (sends sent d);
      becomes = last_then (sends sent) (receives got.bytes got.ended false) (g.W.Wire.log c.args.wire.now) (g.W.Wire.log c.send_request.new.wire) (g.W.Wire.log c.take_reply.new.wire) c.in-Ok.ensures.exact got.brings.1;
      came_to = inr record { answered = refl; sent = refl; taken = subst (λ l. ReplyOf (Ok reply) (l ++ got.bytes) got.ended) c.requires.nothing got.says; marked = refl };
    }

pub returns-in-Err-take_reply-clause-exact : goal.returns-in-Err-take_reply-clause-exact
returns-in-Err-take_reply-clause-exact g c =
    let sent = bytes_of c.args.request.now in
    let got = c.in-Err-take_reply.ensures.exact in
    let f = c.in-Err-take_reply.fault in
    let failed = is_failure f in record {
      change = λ d. receives got.bytes got.ended failed (sends sent d);
      becomes = last_then (sends sent) (receives got.bytes got.ended failed) (g.W.Wire.log c.args.wire.now) (g.W.Wire.log c.send_request.new.wire) (g.W.Wire.log c.take_reply.new.wire) c.in-Ok.ensures.exact got.brings.1;
      came_to = inr record { answered = refl; sent = refl; taken = subst (λ l. ReplyOf (Err f) (l ++ got.bytes) got.ended) c.requires.nothing got.says; marked = refl };
    }
