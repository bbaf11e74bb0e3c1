-- The head, and then the body.
use Rattle.std.proofs.Common.{◌++◌, length, subst}
use Rattle.std.specs.Io.KnownBytes.{Appends}
use Rattle.std.proofs.KnownBytes.{Appends-trans}
use Rattle.outside.specs.Contents.{AppendsFront}
use Rattle.outside.proofs.Fronts.{front_more, front_then}
use Rattle.http_front.specs.ReplyBytes.{head_bytes}
use Rattle.http_front.proofs.reply.write_reply.Goals as goal

pub returns-in-Err-clause-front : goal.returns-in-Err-clause-front
returns-in-Err-clause-front g c =
    let a = c.args.answer.now in
    let old = g.K.Sink.written c.args.to.now in
    let now = g.K.Sink.written c.write_whole-2.new.to in
    let body = c.as_slice-body.result.now in
    subst (λ l. AppendsFront old now (head_bytes a.status a.close a.costs a.hint (length l) ++ l)) c.as_slice-body.ensures.value
    (front_more old now (head_bytes a.status a.close a.costs a.hint (length body)) body
    (subst (AppendsFront old now) c.put_head-head.ensures.head c.in-Err.ensures.front))

pub returns-in-Ok-write_whole-clause-whole : goal.returns-in-Ok-write_whole-clause-whole
returns-in-Ok-write_whole-clause-whole g c =
    let a = c.args.answer.now in
    let old = g.K.Sink.written c.args.to.now in
    let now = g.K.Sink.written c.write_whole-2.new.to in
    let new = g.K.Sink.written c.write_whole-3.new.to in
    let body = c.as_slice-body.result.now in
    subst (λ l. Appends old new (head_bytes a.status a.close a.costs a.hint (length l) ++ l)) c.as_slice-body.ensures.value
    (Appends-trans old now new (head_bytes a.status a.close a.costs a.hint (length body)) body
    (subst (Appends old now) c.put_head-head.ensures.head c.in-Ok.ensures.whole) c.in-Ok-write_whole.ensures.whole)

pub returns-in-Err-write_whole-clause-front : goal.returns-in-Err-write_whole-clause-front
returns-in-Err-write_whole-clause-front g c =
    let a = c.args.answer.now in
    let old = g.K.Sink.written c.args.to.now in
    let now = g.K.Sink.written c.write_whole-2.new.to in
    let new = g.K.Sink.written c.write_whole-3.new.to in
    let body = c.as_slice-body.result.now in
    subst (λ l. AppendsFront old new (head_bytes a.status a.close a.costs a.hint (length l) ++ l)) c.as_slice-body.ensures.value
    (front_then old now new (head_bytes a.status a.close a.costs a.hint (length body)) body
    (subst (Appends old now) c.put_head-head.ensures.head c.in-Ok.ensures.whole) c.in-Err-write_whole.ensures.front)
