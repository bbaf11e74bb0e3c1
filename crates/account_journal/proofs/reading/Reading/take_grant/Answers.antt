use Rattle.std.proofs.Common.{length, get_or, refl, sym, subst, arith}
use Rattle.std.proofs.lemmas.List.{get_or_read_under}
use Rattle.account_core.specs.declared.Account.{Account}
use Rattle.account_core.specs.History.{state_after, entries_by}
use Rattle.account_core.specs.Numbers.{StandsFor}
use Rattle.account_journal.specs.Histories.{no_limit, no_account}
use Rattle.account_journal.proofs.Taking.{listed_grant}
use Rattle.account_journal.proofs.reading.Reading.take_grant.Goals as goal

pub returns-in-Ok-clause-lists : goal.returns-in-Ok-clause-lists
returns-in-Ok-clause-lists c hs lists =
    let there = c.if-place-limits.false in
    let s = state_after (get_or c.args.limits.now c.args.client no_limit) (entries_by c.args.client hs) in
    let a = get_or_read_under c.args.self.now.accounts.items c.args.client (length c.args.self.now.accounts.items) c.index.result.now no_account c.index.ensures (omega (arith, there, c.requires.reading.sound.clients)) refl in
    listed_grant c.args.limits.now c.args.self.now.accounts.items c.args.self.now.used c.args.self.now.opens.items hs lists c.args.client c.args.window c.args.bound c.in-Some.next c.push.new.self.items
    there c.requires.reading.sound.clients (c.in-Some.ensures.step s (subst (λ (x : Account). StandsFor x s) (sym a) (lists.stands.each c.args.client there).1)) c.in-Ok.ensures.items
