use Rattle.std.proofs.Common.{◌∙◌, sym, ap}
use Rattle.gateway_connections.specs.Replies.{bytes_with, written}
use Rattle.gateway_connections.proofs.WrittenReplies.{with_body, without_body, front_as}
use Rattle.gateway_connections.proofs.reply.write.Goals as goal

pub returns-then-not-is_empty-clause-front : goal.returns-then-not-is_empty-clause-front
returns-then-not-is_empty-clause-front g c =
    let r = c.args.reply in
    let body = c.into_bytes-body.result.items in
    front_as c.write_with.result.0 (g.K.Sink.written c.args.to.now) (g.K.Sink.written c.write_with.new.to) (bytes_with c.args.close r.status r.costs r.hint body) (written c.args.close r)
    (with_body c.args.close r body c.into_bytes-body.result.len c.into_bytes-body.result.ok.0 c.into_bytes-body.ensures (sym c.if-not-is_empty.true ∙ c.is_empty.ensures)) c.write_with.ensures.front

pub returns-clause-front : goal.returns-clause-front
returns-clause-front g c =
    let r = c.args.reply in
    let body = c.into_bytes-body.result.items in
    let spare = c.replace-held.result.items in
    front_as c.write_with-wrote.result.0 (g.K.Sink.written c.args.to.now) (g.K.Sink.written c.write_with-wrote.new.to) (bytes_with c.args.close r.status r.costs r.hint spare) (written c.args.close r)
    (without_body c.args.close r body spare c.into_bytes-body.result.len c.into_bytes-body.result.ok.0 c.into_bytes-body.ensures (sym c.if-not-is_empty.false ∙ c.is_empty.ensures) (ap (λ v. v.items) c.replace-held.ensures.value ∙ c.requires.spare)) c.write_with-wrote.ensures.front
