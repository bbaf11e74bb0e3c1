use Rattle.account_journal.specs.Journals.{grant_of}
use Rattle.account_journal.proofs.Following.{held_open, some_opened}
use Rattle.account_journal.proofs.laws.open_tickets_may_be_settled.Goals as goal

pub returns : goal.returns
returns g c j hs ticket measured is_open within =
    let held = held_open j.limits.items j.accounts.items j.used j.opened hs is_open.follows (grant_of ticket) is_open.client is_open.holds in
    record {
      opened = some_opened j.limits.items j.accounts.items j.used j.opened hs is_open.follows (grant_of ticket) is_open.holds;
      client = is_open.client;
      within = within;
      window = held.0;
      held = held.1;
    }
