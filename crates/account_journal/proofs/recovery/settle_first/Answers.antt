use Rattle.std.proofs.Common.{arith, length, map, ap, ◌∙◌}
use Rattle.account_core.specs.Machine.{open_grant}
use Rattle.account_journal.specs.Recovery.{grant_view}
use Rattle.account_journal.proofs.Following.{is_held, first_settled, first_found}
use Rattle.account_journal.proofs.recovery.settle_first.Goals as goal

pub settle-requires-clause-may : goal.settle-requires-clause-may
settle-requires-clause-may g c =
    let r = c.requires.ready.ready in
    let held = is_held c.args.journal.limits.items c.args.journal.accounts.items c.args.journal.used c.args.journal.opened c.requires.ready.entries r.stands (grant_view c.args.first) (map grant_view c.requires.ready.others) r.leaves in
    record {
      opened = omega (arith, r.stands.counted, ap length r.leaves);
      client = held.0;
      within = record { types = omega arith; fields = omega arith };
      window = held.1;
      held = held.2;
    }

pub returns-in-Ok-clause-ready : goal.returns-in-Ok-clause-ready
returns-in-Ok-clause-ready g c rest hs r =
    let is_open = ap (open_grant c.args.first.client c.args.first.slot) r.leaves ∙ first_found (grant_view c.args.first) (map grant_view rest) in
    record {
      stands = c.in-Ok.ensures.follows hs r.stands is_open;
      kept = c.in-Ok.ensures.stores hs is_open r.kept;
      leaves = first_settled c.args.journal.limits.items c.args.journal.accounts.items c.args.journal.used c.args.journal.opened hs r.stands (grant_view c.args.first) (map grant_view rest) c.args.journal.used c.args.first.bound r.leaves;
    }
