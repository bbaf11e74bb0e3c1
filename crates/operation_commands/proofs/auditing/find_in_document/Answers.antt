use Rattle.std.proofs.Common.{◌≤◌, ◌<◌, inl, inr, length, arith}
use Rattle.std.proofs.lemmas.Result.{on_ok_weaker}
use Rattle.operation_commands.proofs.AuditWalks.{some_found, none_found}
use Rattle.operation_commands.proofs.Verdicts.{read_by, empty_found}
use Rattle.operation_commands.proofs.auditing.find_in_document.Goals as goal

pub returns-then-len-before : goal.returns-then-len-before
returns-then-len-before c =
    let before = c.args.into.now.items in
    let after = c.find_operations.new.into.items in
    let more : length before < length after = omega (arith, c.if-len-before.true, c.len-before.ensures, c.len.ensures) in
    let found = some_found c.args.of.now.asked.now c.args.texts.now c.args.name.now c.args.document.now (read_by c.args.of.now c.args.texts.now c.args.document.now c.requires.ready c.requires.document) before after more c.in_ok-find_operations.ensures in
    record { found = (found.0, found.1, inr (inr (inl (c.requires.text, found.2)))) }

pub returns : goal.returns
returns c =
    let before = c.args.into.now.items in
    let now = c.find_operations.new.into.items in
    let few : length now ≤ length before = omega (arith, c.if-len-before.false, c.len-before.ensures, c.len.ensures) in
    let none = none_found c.args.of.now.asked.now c.args.texts.now c.args.name.now c.args.document.now (read_by c.args.of.now c.args.texts.now c.args.document.now c.requires.ready c.requires.document) before now few c.in_ok-find_operations.ensures in
    record {
      found = on_ok_weaker c.push_whole.result
          (empty_found c.args.of.now c.args.texts.now c.requires.ready c.requires.text c.args.name.now c.in_ok-asked.asked c.in_ok-asked.ensures c.args.document.now c.in_ok-verdict.verdict before now
          c.push_whole.new.into.items c.requires.document none.0 none.1 c.in_ok-verdict.ensures.verdict) c.push_whole.ensures;
    }
