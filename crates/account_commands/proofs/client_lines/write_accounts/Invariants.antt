use Rattle.std.proofs.Common.{◌≡◌, ◌++◌, string_bytes, take}
use Rattle.account_commands.specs.Replay.{client_lines}
use Rattle.account_commands.proofs.client_lines.write_accounts.Given as goal

-- What was added so far is the lines of the first clients.
abbrev pub invariant-clients : goal.invariant-clients
invariant-clients l = string_bytes l.into ≡ string_bytes l.fn.into ++ client_lines (take l.at l.clients) (take l.at l.accounts)
