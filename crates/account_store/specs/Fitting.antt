-- A row as an account of a limit.
use Rattle.std.specs.Prelude.{if◌then◌else◌}
use Rattle.cost_num.specs.Within.{Within}
use Rattle.cost_num.specs.declared.Cost.{Cost}
use Rattle.account_core.specs.declared.Account.{Account}
use Rattle.account_core.specs.declared.Limit.{Limit}
use Rattle.account_core.specs.Costs.{nothing, smaller, together, remaining}
use Rattle.account_store.specs.declared.step.AccountRow.{AccountRow}

-- the account of a row as it stands, with nothing held
abbrev pub account_in : AccountRow → Account
account_in row = record { window = row.window; settled = row.settled; held = nothing; carried = row.carried }

-- what is carried under a limit: at most an allowance, part by part, and nothing without carry
abbrev pub fitted_carried : Limit → Cost → Cost
fitted_carried limit carried = if limit.carry then smaller limit.allowance carried else nothing

-- The account of a row under a limit: what is settled is cut, part by part, to an allowance and what is carried.
abbrev pub fitted_account : Limit → AccountRow → Account
fitted_account limit row =
    let carried = fitted_carried limit row.carried in
    record { window = row.window; settled = smaller row.settled (together limit.allowance carried); held = nothing; carried = carried }

-- what an allowance and what is carried leave of what is settled
abbrev pub left_under : Limit → Cost → Cost → Cost
left_under limit settled carried = remaining (together limit.allowance carried) settled

-- Under the limit the account has at most what the row leaves there.
abbrev pub LeavesNoMore : Limit → AccountRow → Account → Type 0
LeavesNoMore limit row account = Within (left_under limit row.settled row.carried) (left_under limit account.settled account.carried)
