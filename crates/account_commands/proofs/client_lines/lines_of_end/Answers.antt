-- The last line is that of a client, and it is ended.
use Rattle.std.proofs.Common.{◌∙◌, string_bytes}
use Rattle.account_commands.proofs.Replays.{ends_line}
use Rattle.account_commands.proofs.client_lines.lines_of_end.Goals as goal

pub unended-requires : goal.unended-requires
unended-requires c =
    let written = ends_line (string_bytes c.args.end.report.lines) c.args.end.totals.clients.items.items c.args.end.totals.accounts c.args.end.totals.paired c.requires.some in
    (written.0, c.from.ensures ∙ (c.in_ok-write_clients.ensures ∙ written.1))
