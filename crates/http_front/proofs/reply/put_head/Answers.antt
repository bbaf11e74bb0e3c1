-- Eleven pieces.
use Rattle.std.proofs.Common.{◌++◌, ap, ◌∙◌, take}
use Rattle.std.specs.Prelude.{codes}
use Rattle.std.specs.Fmt.{decimal}
use Rattle.cost_num.proofs.Digits.{written_twice}
use Rattle.http_front.specs.ReplyBytes.{status_text, connection_text, status_field, cost_fields, hint_fields}
use Rattle.http_front.proofs.reply.put_head.Goals as goal

pub returns-clause-head : goal.returns-clause-head
returns-clause-head c =
    let status = c.put-at-2.ensures.written ∙ ap (λ l. take c.put-at.result c.put-at.new.into ++ l) c.status_of.ensures.text in
    let connection = c.put-at-5.ensures.written ∙ ap (λ l. take c.put-at-4.result c.put-at-4.new.into ++ l) c.connection_of.ensures.text in
    let field = c.put-at-7.ensures.written ∙ ap (λ l. take c.put-at-6.result c.put-at-6.new.into ++ l) c.field_of.ensures.text in
    let piece1 = codes "HTTP/1.1 " in
    let piece2 = status_text c.args.status in
    let piece3 = codes "\r\ncontent-type: application/json\r\ncontent-length: " in
    let piece4 = decimal c.args.length in
    let piece5 = codes "\r\nconnection: " in
    let piece6 = connection_text c.args.close in
    let piece7 = codes "\r\n" in
    let piece8 = status_field c.args.status in
    let piece9 = cost_fields c.args.costs in
    let piece10 = hint_fields c.args.hint in
    let piece11 = codes "\r\n" in
    let after0 = take 0 c.args.into.now in
    let after1 = take c.put-at.result c.put-at.new.into in
    let after2 = take c.put-at-2.result c.put-at-2.new.into in
    let after3 = take c.put-at-3.result c.put-at-3.new.into in
    let after4 = take c.put_length-at.result c.put_length-at.new.into in
    let after5 = take c.put-at-4.result c.put-at-4.new.into in
    let after6 = take c.put-at-5.result c.put-at-5.new.into in
    let after7 = take c.put-at-6.result c.put-at-6.new.into in
    let after8 = take c.put-at-7.result c.put-at-7.new.into in
    let after9 = take c.put_if_costs-at.result c.put_if_costs-at.new.into in
    let after10 = take c.put_if_hint-at.result c.put_if_hint-at.new.into in
    let after11 = take c.put.result c.put.new.into in
    let to2 = written_twice after0 after1 after2 (piece1) piece2 status c.put-at.ensures.written in
    let to3 = written_twice after0 after2 after3 (piece1 ++ piece2) piece3 c.put-at-3.ensures.written to2 in
    let to4 = written_twice after0 after3 after4 (piece1 ++ piece2 ++ piece3) piece4 c.put_length-at.ensures.written to3 in
    let to5 = written_twice after0 after4 after5 (piece1 ++ piece2 ++ piece3 ++ piece4) piece5 c.put-at-4.ensures.written to4 in
    let to6 = written_twice after0 after5 after6 (piece1 ++ piece2 ++ piece3 ++ piece4 ++ piece5) piece6 connection to5 in
    let to7 = written_twice after0 after6 after7 (piece1 ++ piece2 ++ piece3 ++ piece4 ++ piece5 ++ piece6) piece7 c.put-at-6.ensures.written to6 in
    let to8 = written_twice after0 after7 after8 (piece1 ++ piece2 ++ piece3 ++ piece4 ++ piece5 ++ piece6 ++ piece7) piece8 field to7 in
    let to9 = written_twice after0 after8 after9 (piece1 ++ piece2 ++ piece3 ++ piece4 ++ piece5 ++ piece6 ++ piece7 ++ piece8) piece9 c.put_if_costs-at.ensures.written to8 in
    let to10 = written_twice after0 after9 after10 (piece1 ++ piece2 ++ piece3 ++ piece4 ++ piece5 ++ piece6 ++ piece7 ++ piece8 ++ piece9) piece10 c.put_if_hint-at.ensures.written to9 in
    written_twice after0 after10 after11 (piece1 ++ piece2 ++ piece3 ++ piece4 ++ piece5 ++ piece6 ++ piece7 ++ piece8 ++ piece9 ++ piece10) piece11 c.put.ensures.written to10
