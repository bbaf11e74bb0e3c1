use Rattle.std.proofs.Common.{◌∙◌, length, refl, ap, arith, sym, subst}
use Rattle.std.proofs.lemmas.List.{get_or_read_under}
use Rattle.account_core.specs.declared.Account.{Account}
use Rattle.account_core.specs.Numbers.{StandsFor, settled_account}
use Rattle.account_journal.specs.Histories.{no_account}
use Rattle.account_journal.proofs.journal.Journal.settled_account.Goals as goal

pub returns-clause-step : goal.returns-clause-step
returns-clause-step g c limit s stands is_open =
    let a = get_or_read_under c.args.self.now.accounts.items c.args.ticket.now.client (length c.args.self.now.accounts.items) c.index.result.now no_account c.index.ensures (omega (arith, c.requires.client, c.requires.sound.clients)) refl in
    c.settle.ensures.step limit s c.args.ticket.now.client c.args.self.now.used (subst (λ (x : Account). StandsFor x s) (sym a) stands) is_open

pub returns-clause-account : goal.returns-clause-account
returns-clause-account g c =
    let a = get_or_read_under c.args.self.now.accounts.items c.args.ticket.now.client (length c.args.self.now.accounts.items) c.index.result.now no_account c.index.ensures (omega (arith, c.requires.client, c.requires.sound.clients)) refl in
    c.settle.ensures.account ∙ ap (λ (x : Account). settled_account x c.args.ticket.now.window c.args.ticket.now.bound c.args.measured) a
