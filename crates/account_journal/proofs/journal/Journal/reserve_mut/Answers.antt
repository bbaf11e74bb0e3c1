use Rattle.std.proofs.Common.{◌+◌, ◌++◌, [], ◌∷◌, inl, List, ℕ, get_or, set, refl, sym, subst, ap, ◌∙◌, arith, rules}
use Rattle.account_core.specs.declared.Account.{Account}
use Rattle.account_core.specs.declared.Limit.{Limit}
use Rattle.account_core.specs.History.{state_after, entries_by}
use Rattle.account_journal.specs.Histories.{AccountsFollow, AreSound, IsStored, HasEntryOrNot, history_in, no_limit, grant_entry}
use Rattle.account_journal.proofs.Spelling.{read_grant}
use Rattle.account_journal.proofs.Longer.{one_more_or_not, kept_more, rests_more, told_before}
use Rattle.account_journal.proofs.Following.{grant_opens, stands_grant, stands_at, sound_set}
use Rattle.journal_disk.proofs.Moments.{weaker, started}
use Rattle.account_journal.proofs.journal.Journal.reserve_mut.Goals as goal

pub returns-then-self-clause-any_moment : goal.returns-then-self-clause-any_moment
returns-then-self-clause-any_moment g c hs told kept =
    started g.D.Disk.moment g.D.Disk.image_since c.args.self.now.disk _ (λ x left. inl (ap history_in (kept.durable told.0 told.1 x (g.met.D.Disk.since_now c.args.self.now.disk x left)) ∙ kept.same told.0 told.1))

pub returns-in-Err-clause-any_moment : goal.returns-in-Err-clause-any_moment
returns-in-Err-clause-any_moment g c hs told kept =
    started g.D.Disk.moment g.D.Disk.image_since c.args.self.now.disk _ (λ x left. inl (ap history_in (kept.durable told.0 told.1 x (g.met.D.Disk.since_now c.args.self.now.disk x left)) ∙ kept.same told.0 told.1))

pub returns-in-Ok-write-clause-sound : goal.returns-in-Ok-write-clause-sound
returns-in-Ok-write-clause-sound g c =
    subst (λ (l : List Limit). AreSound l c.write.new.self.accounts.items c.write.new.self.used (c.write.new.self.opened + 1)) (ap (λ v. v.items) (sym c.in-Ok-write.ensures.limits))
    (sound_set c.args.self.now.limits.items c.args.self.now.accounts.items c.write.new.self.accounts.items c.args.self.now.used c.write.new.self.used c.args.self.now.opened (c.write.new.self.opened + 1) c.args.client c.in-Ok.next c.requires.sound c.requires.client c.in-Ok-write.ensures.accounts
    c.in-Ok.ensures.inside (omega (arith, c.requires.sound.room, c.if-self.false, c.in-Ok-write.ensures.used, c.in-Ok-write.ensures.opened)))

pub returns-in-Ok-write-clause-follows : goal.returns-in-Ok-write-clause-follows
returns-in-Ok-write-clause-follows g c hs stands =
    let limit = get_or c.args.self.now.limits.items c.args.client no_limit in
    let each = stands.each c.args.client c.requires.client in
    let step = c.in-Ok.ensures.step (state_after limit (entries_by c.args.client hs)) each.1 in
    stands_at c.args.self.now.limits.items c.write.new.self.limits.items _ _ _ _ (c.args.self.now.opened + 1) _ _ (ap (λ v. v.items) c.in-Ok-write.ensures.limits) c.in-Ok-write.ensures.accounts c.in-Ok-write.ensures.used (ap (λ (n : ℕ). n + 1) c.in-Ok-write.ensures.opened)
    (stands_grant c.args.self.now.limits.items c.args.self.now.accounts.items c.args.self.now.used c.args.self.now.opened hs stands c.args.client c.in-Ok.at c.args.bound c.in-Ok.next c.requires.client c.requires.sound.clients step)

pub returns-in-Ok-write-clause-stores : goal.returns-in-Ok-write-clause-stores
returns-in-Ok-write-clause-stores g c hs stands kept =
    let reads = read_grant c.args.client c.in-Ok.at c.args.bound (search rules) (search rules) c.in-Ok-write.ensures.types c.in-Ok-write.ensures.fields in
    subst (λ (n : ℕ). IsStored (g.D.Disk.reads c.write.new.self.disk) (g.D.Disk.image c.write.new.self.disk) n (hs ++ grant_entry c.args.client c.args.self.now.used c.in-Ok.at c.args.bound ∷ [])) (sym c.in-Ok-write.ensures.used)
    (kept_more (g.D.Disk.reads c.args.self.now.disk) _ _ _ c.args.self.now.used _ _ _ hs reads refl kept c.in-Ok-write.ensures.rest (λ x told. told_before _ _ x c.in-Ok-write.ensures.tells told))

pub returns-in-Ok-write-clause-any_moment : goal.returns-in-Ok-write-clause-any_moment
returns-in-Ok-write-clause-any_moment g c hs told kept =
    let reads = read_grant c.args.client c.in-Ok.at c.args.bound (search rules) (search rules) c.in-Ok-write.ensures.types c.in-Ok-write.ensures.fields in
    weaker g.D.Disk.moment g.D.Disk.image_since _ _ _ _ (λ x now. subst (λ (at : ℕ). HasEntryOrNot hs (grant_entry c.args.client c.args.self.now.used at c.args.bound) x) c.in-Ok.ensures.at (one_more_or_not x told.0 _ c.args.self.now.used _ (grant_entry c.args.client c.args.self.now.used c.in-Ok.at c.args.bound) hs (kept.rest told.0 told.1) (kept.same told.0 told.1) reads refl now)) (c.write.ensures.any_moment told.0 told.1 (kept.durable told.0 told.1))

pub returns-in-Err-write-clause-any_moment : goal.returns-in-Err-write-clause-any_moment
returns-in-Err-write-clause-any_moment g c hs told kept =
    let reads = read_grant c.args.client c.in-Ok.at c.args.bound (search rules) (search rules) c.in-Err-write.ensures.types c.in-Err-write.ensures.fields in
    weaker g.D.Disk.moment g.D.Disk.image_since _ _ _ _ (λ x now. subst (λ (at : ℕ). HasEntryOrNot hs (grant_entry c.args.client c.args.self.now.used at c.args.bound) x) c.in-Ok.ensures.at (one_more_or_not x told.0 _ c.args.self.now.used _ (grant_entry c.args.client c.args.self.now.used c.in-Ok.at c.args.bound) hs (kept.rest told.0 told.1) (kept.same told.0 told.1) reads refl now)) (c.write.ensures.any_moment told.0 told.1 (kept.durable told.0 told.1))

pub returns-in-Ok-write-clause-reserved : goal.returns-in-Ok-write-clause-reserved
returns-in-Ok-write-clause-reserved g c =
    (c.in-Ok-write.ensures.used, ap (λ (n : ℕ). n + 1) c.in-Ok-write.ensures.opened, c.in-Ok-write.ensures.accounts ∙ ap (set c.args.self.now.accounts.items c.args.client) c.in-Ok.ensures.account)

pub returns-in-Ok-write-clause-rest : goal.returns-in-Ok-write-clause-rest
returns-in-Ok-write-clause-rest g c x told =
    rests_more (g.D.Disk.reads c.args.self.now.disk) (g.D.Disk.reads c.write.new.self.disk) (g.D.Disk.image c.write.new.self.disk) c.args.self.now.used c.write.new.self.used _ c.in-Ok-write.ensures.used c.in-Ok-write.ensures.rest c.in-Ok-write.ensures.tells x told

pub returns-in-Ok-write-clause-holds : goal.returns-in-Ok-write-clause-holds
returns-in-Ok-write-clause-holds g c hs stands =
    grant_opens c.args.self.now.limits.items c.write.new.self.accounts.items c.args.self.now.used (c.args.self.now.used + 1) (c.args.self.now.opened + 1) hs c.args.client c.in-Ok.at c.args.bound
    (subst (λ (l : List Account). AccountsFollow c.args.self.now.limits.items l (c.args.self.now.used + 1) (c.args.self.now.opened + 1) (hs ++ grant_entry c.args.client c.args.self.now.used c.in-Ok.at c.args.bound ∷ [])) (sym c.in-Ok-write.ensures.accounts)
    (stands_grant c.args.self.now.limits.items c.args.self.now.accounts.items c.args.self.now.used c.args.self.now.opened hs stands c.args.client c.in-Ok.at c.args.bound c.in-Ok.next c.requires.client c.requires.sound.clients
    (c.in-Ok.ensures.step (state_after (get_or c.args.self.now.limits.items c.args.client no_limit) (entries_by c.args.client hs)) (stands.each c.args.client c.requires.client).1))) c.requires.client
