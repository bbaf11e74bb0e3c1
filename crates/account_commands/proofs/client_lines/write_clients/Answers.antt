-- A line more was written.
use Rattle.std.proofs.Common.{◌≡◌, ◌<◌, length, get_or, subst, string_bytes, arith}
use Rattle.account_commands.proofs.Replays.{one_line_more}
use Rattle.account_commands.proofs.client_lines.write_clients.Goals as goal

pub clients-preserved : goal.clients-preserved
clients-preserved c =
    let low : c.clients.at < length c.args.totals.now.clients.items.items = subst (λ clients. c.clients.at < length clients) c.clients-clients.ensures c.clients-test.true in
    one_line_more c.args.totals.now.clients.items.items c.args.totals.now.accounts c.clients.at c.index-clients-at.result c.account.result (string_bytes c.args.into.now) (string_bytes c.clients.into) (string_bytes c.write_client.new.into)
    low (omega (arith, low, c.args.totals.now.paired))
    (subst (λ clients. c.index-clients-at.result ≡ get_or clients c.clients.at c.index-clients-at.result) c.clients-clients.ensures c.index-clients-at.is)
    (c.account.ensures.account c.account.result) c.clients.invariant c.in_ok-write_client.ensures
