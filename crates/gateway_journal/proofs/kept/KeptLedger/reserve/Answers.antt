-- The journal's answer is the ledger's.
use Rattle.std.proofs.Common.{◌≡◌, ℕ, ◌+◌, ◌-◌, ◌<◌, List, [], ◌++◌, length, sym, ap, ◌∙◌, subst}
use Rattle.account_core.specs.Machine.{Entry}
use Rattle.account_core.specs.Numbers.{reservation_reply}
use Rattle.account_journal.specs.declared.journal.KeptReply.TheVariants.{Granted}
use Rattle.account_journal.specs.declared.journal.KeptTicket.{KeptTicket}
use Rattle.account_journal.specs.Journals.{Follows, Stores, limit_in, account_in, answer_in, IsAnswered, IsReserved, gained_by, HoldsReply}
use Rattle.gateway_workers.proofs.PassedOn.{on_err}
use Rattle.gateway_journal.specs.Kept.{HasGained}
use Rattle.gateway_journal.specs.Composed.{none_gained}
use Rattle.gateway_journal.proofs.OpenedJournals.{known_here}
use Rattle.gateway_journal.proofs.KeptCalls.{granted_is, granted_gained, refused_gained, granted_in_room, short_in_room, full_is, left_told}
use Rattle.gateway_journal.proofs.kept.KeptLedger.reserve.Goals as goal

pub returns-in-Granted-clause-reserved : goal.returns-in-Granted-clause-reserved
returns-in-Granted-clause-reserved g c =
    let a = c.args.self.now.journal in
    let answered = subst (λ r. IsAnswered r c.args.client a.used c.args.bound (answer_in a c.args.client c.args.window c.args.bound)) c.in-Granted.is c.in_ok-reply.ensures.reply in
    let is = granted_is c.in-Granted.ticket c.args.client a.used c.args.bound (answer_in a c.args.client c.args.window c.args.bound) answered in
    (ap (λ (t : KeptTicket). t.client) is.1, ap (λ (t : KeptTicket). t.slot) is.1, ap (λ (t : KeptTicket). t.bound) is.1)

pub returns-in-Granted-clause-open : goal.returns-in-Granted-clause-open
returns-in-Granted-clause-open g c =
    let a = c.args.self.now.journal in
    let b = c.reserve_mut.new.self in
    let hs = c.requires.belong.history in
    let answered = subst (λ r. IsAnswered r c.args.client a.used c.args.bound (answer_in a c.args.client c.args.window c.args.bound)) c.in-Granted.is c.in_ok-reply.ensures.reply in
    let is = granted_is c.in-Granted.ticket c.args.client a.used c.args.bound (answer_in a c.args.client c.args.window c.args.bound) answered in
    let low : c.args.client < length b.limits.items = subst (λ (l : _). c.args.client < length l.items) (sym c.in_ok-reply.ensures.limits) (known_here c.args.gate.now c.args.client a.limits.items c.requires.belong.limits c.requires.client) in (
      hs ++ gained_by (Granted c.in-Granted.ticket),
      record {
        follows = (subst (λ r. (h : List Entry) → Follows a h → Follows b (h ++ gained_by r)) c.in-Granted.is c.in_ok-reply.ensures.follows) hs c.requires.belong.follows;
        holds = (subst (λ r. (h : List Entry) → Follows a h → HoldsReply (h ++ gained_by r) r) c.in-Granted.is c.in_ok-reply.ensures.holds) hs c.requires.belong.follows;
        client = subst (λ (n : ℕ). n < length b.limits.items) (sym (ap (λ (t : KeptTicket). t.client) is.1)) low;
      },
    )

pub returns-in-Granted-clause-call : goal.returns-in-Granted-clause-call
returns-in-Granted-clause-call g c =
    let a = c.args.self.now.journal in
    let b = c.reserve_mut.new.self in
    let e = c.in_ok-reply.ensures in
    granted_gained g.D.Disk.reads g.D.Disk.image g.D.Disk.faults a b c.args.client c.args.window c.args.bound c.in-Granted.ticket c.requires.belong.sound
    (known_here c.args.gate.now c.args.client a.limits.items c.requires.belong.limits c.requires.client)
    (subst (λ r. IsAnswered r c.args.client a.used c.args.bound (answer_in a c.args.client c.args.window c.args.bound)) c.in-Granted.is e.reply)
    (subst (λ r. IsReserved r a b c.args.client c.args.window c.args.bound) c.in-Granted.is e.reserved)
    e.limits
    (subst (λ r. (h : List Entry) → Follows a h → Follows b (h ++ gained_by r)) c.in-Granted.is e.follows)
    (subst (λ r. (h : List Entry) → Follows a h → Stores g.D.Disk.reads g.D.Disk.image a h → Stores g.D.Disk.reads g.D.Disk.image b (h ++ gained_by r)) c.in-Granted.is e.stores)
    e.tells e.count

pub returns-in-Granted-clause-full : goal.returns-in-Granted-clause-full
returns-in-Granted-clause-full g c =
    let a = c.args.self.now.journal in
    granted_in_room c.in-Granted.ticket c.args.client a.used c.args.bound (4194304 - a.used) (a.opened + 2) (reservation_reply (limit_in a c.args.client) (account_in a c.args.client) c.args.window c.args.bound)
    (subst (λ r. IsAnswered r c.args.client a.used c.args.bound (answer_in a c.args.client c.args.window c.args.bound)) c.in-Granted.is c.in_ok-reply.ensures.reply)

pub returns-in-Short-clause-call : goal.returns-in-Short-clause-call
returns-in-Short-clause-call g c =
    let a = c.args.self.now.journal in
    let b = c.reserve_mut.new.self in
    refused_gained g.D.Disk.reads g.D.Disk.image g.D.Disk.faults a b c.args.client c.args.window c.args.bound c.in-Short.left c.requires.belong.sound
    (known_here c.args.gate.now c.args.client a.limits.items c.requires.belong.limits c.requires.client)
    (subst (λ r. IsAnswered r c.args.client a.used c.args.bound (answer_in a c.args.client c.args.window c.args.bound)) c.in-Short.is c.in_ok-reply.ensures.reply)
    (subst (λ r. IsReserved r a b c.args.client c.args.window c.args.bound) c.in-Short.is c.in_ok-reply.ensures.reserved)

pub returns-in-Short-clause-full : goal.returns-in-Short-clause-full
returns-in-Short-clause-full g c =
    let a = c.args.self.now.journal in
    short_in_room c.in-Short.left c.args.client a.used c.args.bound (4194304 - a.used) (a.opened + 2) (reservation_reply (limit_in a c.args.client) (account_in a c.args.client) c.args.window c.args.bound)
    (subst (λ r. IsAnswered r c.args.client a.used c.args.bound (answer_in a c.args.client c.args.window c.args.bound)) c.in-Short.is c.in_ok-reply.ensures.reply)

pub returns-in-Full-clause-call : goal.returns-in-Full-clause-call
returns-in-Full-clause-call g c =
    let a = c.args.self.now.journal in
    let b = c.reserve_mut.new.self in
    let same : b ≡ a = subst (λ r. IsReserved r a b c.args.client c.args.window c.args.bound) c.in-Full.is c.in_ok-reply.ensures.reserved in
    subst (λ (j : _). HasGained g.D.Disk.reads g.D.Disk.image g.D.Disk.faults a j []) (sym same) (none_gained g.D.Disk.reads g.D.Disk.image g.D.Disk.faults a)

pub returns-in-Full-clause-full : goal.returns-in-Full-clause-full
returns-in-Full-clause-full g c =
    let a = c.args.self.now.journal in
    full_is c.args.client a.used c.args.bound (4194304 - a.used) (a.opened + 2) (reservation_reply (limit_in a c.args.client) (account_in a c.args.client) c.args.window c.args.bound)
    (subst (λ r. IsAnswered r c.args.client a.used c.args.bound (answer_in a c.args.client c.args.window c.args.bound)) c.in-Full.is c.in_ok-reply.ensures.reply)

pub returns-in-Granted-clause-belong : goal.returns-in-Granted-clause-belong
returns-in-Granted-clause-belong g c = record {
  sound = c.in_ok-reply.ensures.sound;
  rests = c.in_ok-reply.ensures.rest;
  limits = ap (λ (l : _). l.items) c.in_ok-reply.ensures.limits ∙ c.requires.belong.limits;
  history = c.requires.belong.history ++ gained_by c.in_ok-reply.reply;
  follows = c.in_ok-reply.ensures.follows c.requires.belong.history c.requires.belong.follows;
}

pub returns-in-Short-clause-belong : goal.returns-in-Short-clause-belong
returns-in-Short-clause-belong g c = record {
  sound = c.in_ok-reply.ensures.sound;
  rests = c.in_ok-reply.ensures.rest;
  limits = ap (λ (l : _). l.items) c.in_ok-reply.ensures.limits ∙ c.requires.belong.limits;
  history = c.requires.belong.history ++ gained_by c.in_ok-reply.reply;
  follows = c.in_ok-reply.ensures.follows c.requires.belong.history c.requires.belong.follows;
}

pub returns-in-Full-clause-belong : goal.returns-in-Full-clause-belong
returns-in-Full-clause-belong g c = record {
  sound = c.in_ok-reply.ensures.sound;
  rests = c.in_ok-reply.ensures.rest;
  limits = ap (λ (l : _). l.items) c.in_ok-reply.ensures.limits ∙ c.requires.belong.limits;
  history = c.requires.belong.history ++ gained_by c.in_ok-reply.reply;
  follows = c.in_ok-reply.ensures.follows c.requires.belong.history c.requires.belong.follows;
}

pub reserve_mut-requires-clause-client : goal.reserve_mut-requires-clause-client
reserve_mut-requires-clause-client g c = known_here c.args.gate.now c.args.client c.args.self.now.journal.limits.items c.requires.belong.limits c.requires.client

pub returns-in-Short-clause-reserved : goal.returns-in-Short-clause-reserved
returns-in-Short-clause-reserved g c =
    let a = c.args.self.now.journal in
    left_told a c.args.client c.args.window c.args.bound c.in-Short.left c.requires.belong.sound (known_here c.args.gate.now c.args.client a.limits.items c.requires.belong.limits c.requires.client)
    (subst (λ r. IsAnswered r c.args.client a.used c.args.bound (answer_in a c.args.client c.args.window c.args.bound)) c.in-Short.is c.in_ok-reply.ensures.reply)

pub returns-in_err-reply-clause-lost : goal.returns-in_err-reply-clause-lost
returns-in_err-reply-clause-lost g c = on_err c.from_residual.result _ record { tells = c.reserve_mut.ensures.tells; leaves = c.reserve_mut.ensures.any_moment }
