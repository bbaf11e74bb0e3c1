use Rattle.std.proofs.Common.{arith, []}
use Rattle.client_files.proofs.LeadingClients.{none_so_far, one_more, full_front, broken_front, whole_front}
use Rattle.client_files.proofs.reading.leading_clients.Goals as goal

pub loop-line-init : goal.loop-line-init
loop-line-init c = none_so_far c.args.version _ c.new-clients.result.items c.new-clients.ensures.items

pub returns-then-len-gt-CLIENT_LIMIT : goal.returns-then-len-gt-CLIENT_LIMIT
returns-then-len-gt-CLIENT_LIMIT c = full_front c.args.version c.args.lines.now c.loop-line.clients.items c.loop-line.line-index c.loop-line.invariant (omega (arith, c.if-len-gt-CLIENT_LIMIT.true, c.len.ensures, c.loop-line.clients.ok.0))

pub returns-in-None : goal.returns-in-None
returns-in-None c = broken_front c.args.version c.args.lines.now c.loop-line.clients.items c.loop-line.line-index c.loop-line.invariant (record { ref_ptr = (0, 0); now = [] }) c.loop-line-test.true (let h = rw c.in-None.is at (c.in_ok-client.ensures.none) in h)

pub loop-line-preserved : goal.loop-line-preserved
loop-line-preserved c = one_more c.args.version c.args.lines.now c.loop-line.clients.items c.loop-line.line-index c.loop-line.invariant (record { ref_ptr = (0, 0); now = [] }) c.in-Some.client _ c.loop-line-test.true
    (omega (arith, c.if-len-gt-CLIENT_LIMIT.false, c.len.ensures, c.loop-line.clients.ok.0)) (let h = rw c.in-Some.is at (c.in_ok-client.ensures.some) in h) c.in_ok-push-in-Some.ensures.items

pub returns : goal.returns
returns c = whole_front c.args.version c.args.lines.now c.loop-line.clients.items c.loop-line.line-index c.loop-line.invariant c.loop-line-test.false
