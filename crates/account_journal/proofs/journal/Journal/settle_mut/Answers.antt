use Rattle.std.proofs.Common.{◌-◌, ◌++◌, [], ◌∷◌, List, ℕ, get_or, set, sym, subst, ap, ◌∙◌, arith, rules}
use Rattle.account_core.specs.declared.Limit.{Limit}
use Rattle.account_core.specs.History.{state_after, entries_by}
use Rattle.account_journal.specs.Histories.{AccountsFollow, no_limit, no_account, entries_of, settlement_if_open, settlement_entry}
use Rattle.account_journal.specs.Journals.{ticket_settlement, grant_of}
use Rattle.account_journal.proofs.Spelling.{read_settlement}
use Rattle.account_journal.proofs.Longer.{one_more_or_not, kept_more, rests_more, told_before}
use Rattle.account_journal.proofs.Following.{stands_settled, stands_at, sound_set, state_open}
use Rattle.journal_disk.proofs.Moments.{weaker}
use Rattle.account_journal.proofs.journal.Journal.settle_mut.Goals as goal

pub returns-in-Ok-clause-sound : goal.returns-in-Ok-clause-sound
returns-in-Ok-clause-sound g c =
    subst (λ (l : List Limit). Rattle.account_journal.specs.Histories.AreSound l c.write.new.self.accounts.items c.write.new.self.used (c.write.new.self.opened - 1)) (ap (λ v. v.items) (sym c.in-Ok.ensures.limits))
    (sound_set c.args.self.now.limits.items c.args.self.now.accounts.items c.write.new.self.accounts.items c.args.self.now.used c.write.new.self.used c.args.self.now.opened (c.write.new.self.opened - 1) c.args.ticket.client c.settled_account-next.result c.requires.sound c.requires.may.client c.in-Ok.ensures.accounts
    c.settled_account-next.ensures.inside (omega (arith, c.requires.sound.room, c.requires.may.opened, c.in-Ok.ensures.used, c.in-Ok.ensures.opened)))

pub returns-in-Ok-clause-follows : goal.returns-in-Ok-clause-follows
returns-in-Ok-clause-follows g c hs stands is_open =
    let limit = get_or c.args.self.now.limits.items c.args.ticket.client no_limit in
    let s = state_after limit (entries_by c.args.ticket.client hs) in
    let each = stands.each c.args.ticket.client c.requires.may.client in
    let step = c.settled_account-next.ensures.step limit s each.1 (state_open limit c.args.ticket.client c.args.ticket.slot hs each.0 ∙ is_open) in
    stands_at c.args.self.now.limits.items c.write.new.self.limits.items _ _ _ _ (c.args.self.now.opened - 1) _ _ (ap (λ v. v.items) c.in-Ok.ensures.limits) c.in-Ok.ensures.accounts c.in-Ok.ensures.used (ap (λ (n : ℕ). n - 1) c.in-Ok.ensures.opened)
    (stands_settled c.args.self.now.limits.items c.args.self.now.accounts.items c.args.self.now.used c.args.self.now.opened hs stands (grant_of c.args.ticket) c.args.measured c.settled_account-next.result c.requires.may.client c.requires.sound.clients is_open step (c.args.self.now.opened - 1) (omega (arith, c.requires.may.opened)))

pub returns-in-Ok-clause-stores : goal.returns-in-Ok-clause-stores
returns-in-Ok-clause-stores g c hs is_open kept =
    let reads = read_settlement c.args.ticket.client c.args.ticket.slot c.args.measured (search rules) (search rules) c.in-Ok.ensures.types c.in-Ok.ensures.fields in
    let makes = ap (settlement_if_open c.args.self.now.used c.args.measured) is_open in
    subst (λ (n : ℕ). Rattle.account_journal.specs.Histories.IsStored (g.D.Disk.reads c.write.new.self.disk) (g.D.Disk.image c.write.new.self.disk) n (hs ++ ticket_settlement c.args.self.now.used c.args.ticket c.args.measured ∷ [])) (sym c.in-Ok.ensures.used)
    (kept_more (g.D.Disk.reads c.args.self.now.disk) _ _ _ c.args.self.now.used _ _ _ hs reads makes kept c.in-Ok.ensures.rest (λ x told. told_before _ _ x c.in-Ok.ensures.tells told))

pub returns-in-Ok-clause-any_moment : goal.returns-in-Ok-clause-any_moment
returns-in-Ok-clause-any_moment g c hs is_open told kept =
    let reads = read_settlement c.args.ticket.client c.args.ticket.slot c.args.measured (search rules) (search rules) c.in-Ok.ensures.types c.in-Ok.ensures.fields in
    let makes = ap (settlement_if_open c.args.self.now.used c.args.measured) is_open in
    weaker g.D.Disk.moment g.D.Disk.image_since _ _ _ _ (λ x. one_more_or_not x told.0 _ c.args.self.now.used _ _ hs (kept.rest told.0 told.1) (kept.same told.0 told.1) reads makes) (c.write.ensures.any_moment told.0 told.1 (kept.durable told.0 told.1))

pub returns-in-Err-clause-any_moment : goal.returns-in-Err-clause-any_moment
returns-in-Err-clause-any_moment g c hs is_open told kept =
    let reads = read_settlement c.args.ticket.client c.args.ticket.slot c.args.measured (search rules) (search rules) c.in-Err.ensures.types c.in-Err.ensures.fields in
    let makes = ap (settlement_if_open c.args.self.now.used c.args.measured) is_open in
    weaker g.D.Disk.moment g.D.Disk.image_since _ _ _ _ (λ x. one_more_or_not x told.0 _ c.args.self.now.used _ _ hs (kept.rest told.0 told.1) (kept.same told.0 told.1) reads makes) (c.write.ensures.any_moment told.0 told.1 (kept.durable told.0 told.1))

pub returns-in-Ok-clause-settled : goal.returns-in-Ok-clause-settled
returns-in-Ok-clause-settled g c = record {
  used = c.in-Ok.ensures.used;
  opened = omega (arith, c.requires.may.opened, c.in-Ok.ensures.opened);
  accounts = c.in-Ok.ensures.accounts ∙ ap (set c.args.self.now.accounts.items c.args.ticket.client) c.settled_account-next.ensures.account;
}

pub returns-in-Ok-clause-rest : goal.returns-in-Ok-clause-rest
returns-in-Ok-clause-rest g c x told =
    rests_more (g.D.Disk.reads c.args.self.now.disk) (g.D.Disk.reads c.write.new.self.disk) (g.D.Disk.image c.write.new.self.disk) c.args.self.now.used c.write.new.self.used _ c.in-Ok.ensures.used c.in-Ok.ensures.rest c.in-Ok.ensures.tells x told
