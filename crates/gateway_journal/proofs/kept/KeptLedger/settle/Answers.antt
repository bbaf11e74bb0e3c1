-- An open grant may be settled, and its settlement is the journal's.
use Rattle.std.proofs.Common.{[], ◌∷◌, ◌++◌, ap, ◌∙◌}
use Rattle.account_journal.specs.Journals.{ticket_settlement}
use Rattle.gateway_workers.proofs.PassedOn.{on_err}
use Rattle.gateway_journal.specs.Kept.{kept_ticket}
use Rattle.gateway_journal.proofs.KeptCalls.{settled_gained}
use Rattle.gateway_journal.proofs.kept.KeptLedger.settle.Goals as goal

pub settle_mut-requires-clause-may : goal.settle_mut-requires-clause-may
settle_mut-requires-clause-may g c =
    c.open_tickets_may_be_settled.ensures c.args.self.now.journal c.requires.open.0 (kept_ticket c.args.ticket) c.args.measured c.requires.open.1 c.requires.measured

pub returns-clause-belong : goal.returns-clause-belong
returns-clause-belong g c = record {
  sound = c.in_ok-settle_mut.ensures.sound;
  rests = c.in_ok-settle_mut.ensures.rest;
  limits = ap (λ (l : _). l.items) c.in_ok-settle_mut.ensures.limits ∙ c.requires.belong.limits;
  history = c.requires.open.0 ++ ticket_settlement c.args.self.now.journal.used (kept_ticket c.args.ticket) c.args.measured ∷ [];
  follows = c.in_ok-settle_mut.ensures.follows c.requires.open.0 c.requires.open.1.follows c.requires.open.1.holds;
}

pub returns-clause-call : goal.returns-clause-call
returns-clause-call g c =
    let e = c.in_ok-settle_mut.ensures in
    settled_gained g.D.Disk.reads g.D.Disk.image g.D.Disk.faults c.args.self.now.journal c.settle_mut.new.self c.args.ticket c.args.measured c.requires.open.1.client e.settled e.limits e.follows e.stores e.tells e.count

pub returns-in_err-settle_mut-clause-lost : goal.returns-in_err-settle_mut-clause-lost
returns-in_err-settle_mut-clause-lost g c = on_err c.from_residual.result _ record { tells = c.settle_mut.ensures.tells; leaves = c.settle_mut.ensures.any_moment }
