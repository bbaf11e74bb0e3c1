-- A line more was written; and all are written at the end.
use Rattle.std.proofs.Common.{◌<◌, ◌++◌, ◌∙◌, length, get_or, ap, string_bytes, arith}
use Rattle.std.proofs.lemmas.List.{get_or_default}
use Rattle.account_core.specs.declared.Account.{Account}
use Rattle.account_core.specs.Costs.{nothing}
use Rattle.account_commands.proofs.Replays.{one_line_more, all_written}
use Rattle.account_commands.proofs.client_lines.write_accounts.Goals as goal

abbrev no_account : Account
no_account = record { window = 0; settled = nothing; held = nothing; carried = nothing }

pub clients-preserved : goal.clients-preserved
clients-preserved c =
    let accounts = c.args.accounts.now in
    let at = c.clients.at in
    let account = get_or accounts at no_account in
    let known : at < length accounts = omega (arith, c.clients-test.true, c.min-at-end.ensures) in
    one_line_more c.args.clients.now accounts at c.index-clients-at.result account (string_bytes c.args.into.now) (string_bytes c.clients.into) (string_bytes c.write_client.new.into)
    (omega (arith, c.clients-test.true, c.min-at-end.ensures)) known c.index-clients-at.is (get_or_default accounts at no_account account known) c.clients.invariant c.in_ok-write_client.ensures

pub returns : goal.returns
returns c = c.clients.invariant ∙ ap (λ text. string_bytes c.args.into.now ++ text) (all_written c.args.clients.now c.args.accounts.now c.clients.at (omega (arith, c.clients-test.false, c.min-at-end.ensures)))
