use Rattle.std.proofs.Common.{◌≡◌, ℕ, length, max, refl, sym, subst, ap, ◌∙◌, arith}
use Rattle.std.proofs.lemmas.List.{get_or_read_under}
use Rattle.account_core.specs.declared.Account.{Account}
use Rattle.account_core.specs.declared.Limit.{Limit}
use Rattle.account_core.specs.declared.Ticket.{Ticket}
use Rattle.account_core.specs.Machine.{entry, reservation, granted}
use Rattle.account_core.specs.Numbers.{StandsFor, StepsTo, reply_at, account_at, reservation_reply, reserved_account}
use Rattle.account_journal.specs.Histories.{no_limit, no_account, grant_entry}
use Rattle.account_journal.proofs.journal.Journal.next_account.Goals as goal

pub returns-in-Granted-clause-step : goal.returns-in-Granted-clause-step
returns-in-Granted-clause-step g c s stands =
    let a = get_or_read_under c.args.self.now.accounts.items c.args.client (length c.args.self.now.accounts.items) c.index.result.now no_account c.index.ensures (omega (arith, c.requires.client, c.requires.sound.clients)) refl in
    let l = get_or_read_under c.args.self.now.limits.items c.args.client (length c.args.self.now.limits.items) c.index-2.result.now no_limit c.index-2.ensures (omega (arith, c.requires.client)) refl in
    let step = c.in-Granted.ensures.step s c.args.client (subst (λ (x : Account). StandsFor x s) (sym a) stands) in
    let w : c.in-Granted.ticket.window ≡ c.max-at.result = omega (arith, ap (λ (t : Ticket). t.window) c.in-Granted.ensures.ticket, c.max-at.ensures) in
    subst (λ (x : Limit). StepsTo x s (grant_entry c.args.client c.args.self.now.used c.max-at.result c.args.bound) c.reserve.new.self) l
    (subst (λ (x : ℕ). StepsTo c.index-2.result.now s (entry c.args.client c.args.self.now.used (reservation c.max-at.result c.args.bound) (granted x)) c.reserve.new.self) w step)

pub returns-in-Granted-clause-reply : goal.returns-in-Granted-clause-reply
returns-in-Granted-clause-reply g c =
    let a = get_or_read_under c.args.self.now.accounts.items c.args.client (length c.args.self.now.accounts.items) c.index.result.now no_account c.index.ensures (omega (arith, c.requires.client, c.requires.sound.clients)) refl in
    let l = get_or_read_under c.args.self.now.limits.items c.args.client (length c.args.self.now.limits.items) c.index-2.result.now no_limit c.index-2.ensures (omega (arith, c.requires.client)) refl in
    let w : c.in-Granted.ticket.window ≡ c.max-at.result = omega (arith, ap (λ (t : Ticket). t.window) c.in-Granted.ensures.ticket, c.max-at.ensures) in
    let at : max c.index.result.now.window c.max-at.result ≡ max c.index.result.now.window c.args.window = omega (arith, c.max-at.ensures) in
    sym (c.in-Granted.ensures.reply ∙ ap (λ (n : ℕ). reply_at c.index-2.result.now c.index.result.now n c.args.bound) at ∙ (λ i. reservation_reply (l i) (a i) c.args.window c.args.bound)) ∙ ap granted w

pub returns-in-Granted-clause-account : goal.returns-in-Granted-clause-account
returns-in-Granted-clause-account g c =
    let a = get_or_read_under c.args.self.now.accounts.items c.args.client (length c.args.self.now.accounts.items) c.index.result.now no_account c.index.ensures (omega (arith, c.requires.client, c.requires.sound.clients)) refl in
    let l = get_or_read_under c.args.self.now.limits.items c.args.client (length c.args.self.now.limits.items) c.index-2.result.now no_limit c.index-2.ensures (omega (arith, c.requires.client)) refl in
    let at : max c.index.result.now.window c.max-at.result ≡ max c.index.result.now.window c.args.window = omega (arith, c.max-at.ensures) in
    c.in-Granted.ensures.account ∙ ap (λ (n : ℕ). account_at c.index-2.result.now c.index.result.now n c.args.bound) at ∙ (λ i. reserved_account (l i) (a i) c.args.window c.args.bound)

pub returns-in-Short-clause-short : goal.returns-in-Short-clause-short
returns-in-Short-clause-short g c =
    let a = get_or_read_under c.args.self.now.accounts.items c.args.client (length c.args.self.now.accounts.items) c.index.result.now no_account c.index.ensures (omega (arith, c.requires.client, c.requires.sound.clients)) refl in
    let l = get_or_read_under c.args.self.now.limits.items c.args.client (length c.args.self.now.limits.items) c.index-2.result.now no_limit c.index-2.ensures (omega (arith, c.requires.client)) refl in
    let at : max c.index.result.now.window c.max-at.result ≡ max c.index.result.now.window c.args.window = omega (arith, c.max-at.ensures) in
    sym (c.in-Short.ensures.reply ∙ ap (λ (n : ℕ). reply_at c.index-2.result.now c.index.result.now n c.args.bound) at ∙ (λ i. reservation_reply (l i) (a i) c.args.window c.args.bound))
