use Rattle.std.proofs.Common.{◌≤◌, length, arith}
use Rattle.operation_commands.specs.Audit.{names_in, FindEach}
use Rattle.operation_commands.proofs.AuditWalks.{ended, FindFrom, none_left}
use Rattle.operation_commands.proofs.auditing.find_operations.Goals as goal

pub returns : goal.returns
returns c =
    let audit = c.args.of.now.asked.now in
    let texts = c.args.texts.now in
    let name = c.args.name.now in
    let definitions = c.args.document.now.definitions.items in
    let over : length definitions ≤ c.loop-at.at = omega (arith, c.loop-at-test.false, c.len-at-end.ensures, c.args.document.now.definitions.ok.0) in
    ended (FindFrom audit texts name definitions c.loop-at.at) (FindEach audit texts name (names_in definitions)) c.args.into.now.items c.loop-at.into.items
    (none_left audit texts name definitions c.loop-at.at over) c.loop-at.invariant
