-- Five pieces.
use Rattle.std.proofs.Common.{◌++◌, take}
use Rattle.std.specs.Prelude.{codes}
use Rattle.std.specs.Fmt.{decimal}
use Rattle.cost_num.specs.CostText.{cost_text}
use Rattle.cost_num.proofs.Digits.{written_twice}
use Rattle.http_front.proofs.reply.put_hint.Goals as goal

pub returns-clause-written : goal.returns-clause-written
returns-clause-written c =
    let piece1 = codes "retry-after: " in
    let piece2 = decimal c.args.hint.seconds in
    let piece3 = codes "\r\nx-cost-left: " in
    let piece4 = cost_text c.args.hint.left in
    let piece5 = codes "\r\n" in
    let after0 = take c.args.at c.args.into.now in
    let after1 = take c.put-at.result c.put-at.new.into in
    let after2 = take c.put_length-at.result c.put_length-at.new.into in
    let after3 = take c.put-at-2.result c.put-at-2.new.into in
    let after4 = take c.put_cost-at.result c.put_cost-at.new.into in
    let after5 = take c.put.result c.put.new.into in
    let to2 = written_twice after0 after1 after2 (piece1) piece2 c.put_length-at.ensures.written c.put-at.ensures.written in
    let to3 = written_twice after0 after2 after3 (piece1 ++ piece2) piece3 c.put-at-2.ensures.written to2 in
    let to4 = written_twice after0 after3 after4 (piece1 ++ piece2 ++ piece3) piece4 c.put_cost-at.ensures.written to3 in
    written_twice after0 after4 after5 (piece1 ++ piece2 ++ piece3 ++ piece4) piece5 c.put.ensures.written to4
