use Rattle.std.proofs.Common.{◌≡◌, List, ℕ, ◌+◌, length, get_or, set, refl, sym, ap, subst, arith, rules, ◌∙◌, ◌++◌, Option, option_map, map}
use Rattle.std.proofs.lemmas.List.{get_or_read_under}
use Rattle.account_core.specs.declared.Account.{Account}
use Rattle.account_core.specs.Machine.{Grant, open_grant}
use Rattle.account_core.specs.History.{state_after, entries_by}
use Rattle.account_core.specs.Numbers.{StandsFor}
use Rattle.account_journal.specs.declared.reading.OpenGrant.{OpenGrant}
use Rattle.account_journal.specs.Histories.{no_limit, no_account, settlement_if_open}
use Rattle.account_journal.specs.Recovery.{grant_view}
use Rattle.account_journal.specs.Reading.{AreEntries}
use Rattle.account_journal.proofs.Following.{sound_set, state_open}
use Rattle.account_journal.proofs.Taking.{found_in, no_step, too_much, held_by, is_settlement, one_fewer, listed_settlement}
use Rattle.account_journal.proofs.reading.Reading.take_settlement.Goals as goal

abbrev finds : (client of : ℕ) → Option OpenGrant → List OpenGrant → Type 0
finds client of r os = option_map grant_view r ≡ open_grant client of (map grant_view os)

pub returns-in-None-clause-refused : goal.returns-in-None-clause-refused
returns-in-None-clause-refused c = (
  refl,
  λ hs lists step.
      let found = subst (finds c.args.client c.args.of c.find_open.result) c.deref.ensures.value c.find_open.ensures.found in
      no_step c.args.limits.now c.args.self.now.accounts.items c.args.self.now.used c.args.self.now.opens.items hs lists c.args.client c.args.of c.args.measured
      (ap (open_grant c.args.client c.args.of) lists.leaves ∙ sym found ∙ ap (option_map grant_view) c.in-None.is) step,
)

pub returns-then-not-covers-clause-refused : goal.returns-then-not-covers-clause-refused
returns-then-not-covers-clause-refused c = (
  refl,
  λ hs lists step.
      let found = subst (finds c.args.client c.args.of c.find_open.result) c.deref.ensures.value c.find_open.ensures.found in
      too_much c.args.limits.now c.args.self.now.accounts.items c.args.self.now.used c.args.self.now.opens.items hs lists c.args.client c.args.of c.in-Some.open.window c.in-Some.open.bound c.args.measured
      (found_in c.args.client c.args.of c.args.self.now.opens.items c.in-Some.open c.find_open.result hs lists.leaves found c.in-Some.is c.in-Some.ensures.own) (search rules) step,
)

pub settled_account-requires-clause-window : goal.settled_account-requires-clause-window
settled_account-requires-clause-window c =
    let some = c.requires.some in
    let found = subst (finds c.args.client c.args.of c.find_open.result) c.deref.ensures.value c.find_open.ensures.found in
    let a = get_or_read_under c.args.self.now.accounts.items c.args.client (length c.args.self.now.accounts.items) c.index.result.now no_account c.index.ensures (omega (arith, c.if-place-limits.false, c.requires.reading.sound.clients)) refl in
    (held_by c.args.limits.now c.args.self.now.accounts.items c.args.self.now.used c.args.self.now.opens.items some.list some.lists c.args.client c.args.of c.in-Some.open.window c.in-Some.open.bound c.if-place-limits.false
    (found_in c.args.client c.args.of c.args.self.now.opens.items c.in-Some.open c.find_open.result some.list some.lists.leaves found c.in-Some.is c.in-Some.ensures.own) c.index.result.now a).0

pub settled_account-requires-clause-held : goal.settled_account-requires-clause-held
settled_account-requires-clause-held c =
    let some = c.requires.some in
    let found = subst (finds c.args.client c.args.of c.find_open.result) c.deref.ensures.value c.find_open.ensures.found in
    let a = get_or_read_under c.args.self.now.accounts.items c.args.client (length c.args.self.now.accounts.items) c.index.result.now no_account c.index.ensures (omega (arith, c.if-place-limits.false, c.requires.reading.sound.clients)) refl in
    (held_by c.args.limits.now c.args.self.now.accounts.items c.args.self.now.used c.args.self.now.opens.items some.list some.lists c.args.client c.args.of c.in-Some.open.window c.in-Some.open.bound c.if-place-limits.false
    (found_in c.args.client c.args.of c.args.self.now.opens.items c.in-Some.open c.find_open.result some.list some.lists.leaves found c.in-Some.is c.in-Some.ensures.own) c.index.result.now a).1

pub returns-else-not-covers-clause-reading : goal.returns-else-not-covers-clause-reading
returns-else-not-covers-clause-reading c =
    let some = c.requires.some in
    let there = c.if-place-limits.false in
    let s = state_after (get_or c.args.limits.now c.args.client no_limit) (entries_by c.args.client some.list) in
    let found = subst (finds c.args.client c.args.of c.find_open.result) c.deref.ensures.value c.find_open.ensures.found in
    let is_open = found_in c.args.client c.args.of c.args.self.now.opens.items c.in-Some.open c.find_open.result some.list some.lists.leaves found c.in-Some.is c.in-Some.ensures.own in
    let a = get_or_read_under c.args.self.now.accounts.items c.args.client (length c.args.self.now.accounts.items) c.index.result.now no_account c.index.ensures (omega (arith, there, c.requires.reading.sound.clients)) refl in
    let each = some.lists.stands.each c.args.client there in
    let step = c.settled_account.ensures.step (get_or c.args.limits.now c.args.client no_limit) c.args.self.now.used s (subst (λ (x : Account). StandsFor x s) (sym a) each.1)
    (state_open (get_or c.args.limits.now c.args.client no_limit) c.args.client c.args.of some.list each.0 ∙ is_open) in
    let less = one_fewer c.args.limits.now c.args.self.now.accounts.items c.args.self.now.used c.args.self.now.opens.items some.list some.lists c.args.client c.args.of c.in-Some.open.window c.in-Some.open.bound there is_open
    c.args.measured c.settled_account.result c.close.new.opens.items c.requires.reading.sound.clients step c.close.ensures in
    record {
      sound = sound_set c.args.limits.now c.args.self.now.accounts.items (set c.args.self.now.accounts.items c.args.client c.settled_account.result) c.args.self.now.used (c.args.self.now.used + 1) (length c.args.self.now.opens.items) (length c.close.new.opens.items) c.args.client c.settled_account.result
          c.requires.reading.sound there refl c.settled_account.ensures.inside (omega (arith, less, c.requires.reading.sound.room));
      fewer = omega (arith, less, c.requires.reading.fewer);
    }

pub returns-else-not-covers-clause-step : goal.returns-else-not-covers-clause-step
returns-else-not-covers-clause-step c hs lists =
    let found = subst (finds c.args.client c.args.of c.find_open.result) c.deref.ensures.value c.find_open.ensures.found in
    let is_open = found_in c.args.client c.args.of c.args.self.now.opens.items c.in-Some.open c.find_open.result hs lists.leaves found c.in-Some.is c.in-Some.ensures.own in
    is_settlement c.args.limits.now c.args.self.now.accounts.items c.args.self.now.used c.args.self.now.opens.items hs lists c.args.client c.args.of c.in-Some.open.window c.in-Some.open.bound c.if-place-limits.false is_open c.args.measured (search rules)

pub returns-else-not-covers-clause-lists : goal.returns-else-not-covers-clause-lists
returns-else-not-covers-clause-lists c hs lists =
    let there = c.if-place-limits.false in
    let s = state_after (get_or c.args.limits.now c.args.client no_limit) (entries_by c.args.client hs) in
    let found = subst (finds c.args.client c.args.of c.find_open.result) c.deref.ensures.value c.find_open.ensures.found in
    let is_open = found_in c.args.client c.args.of c.args.self.now.opens.items c.in-Some.open c.find_open.result hs lists.leaves found c.in-Some.is c.in-Some.ensures.own in
    let a = get_or_read_under c.args.self.now.accounts.items c.args.client (length c.args.self.now.accounts.items) c.index.result.now no_account c.index.ensures (omega (arith, there, c.requires.reading.sound.clients)) refl in
    let each = lists.stands.each c.args.client there in
    let step = c.settled_account.ensures.step (get_or c.args.limits.now c.args.client no_limit) c.args.self.now.used s (subst (λ (x : Account). StandsFor x s) (sym a) each.1)
    (state_open (get_or c.args.limits.now c.args.client no_limit) c.args.client c.args.of hs each.0 ∙ is_open) in
    subst (λ (o : Option Grant). AreEntries c.args.limits.now (set c.args.self.now.accounts.items c.args.client c.settled_account.result) (c.args.self.now.used + 1) c.close.new.opens.items (hs ++ settlement_if_open c.args.self.now.used c.args.measured o)) (sym is_open)
    (listed_settlement c.args.limits.now c.args.self.now.accounts.items c.args.self.now.used c.args.self.now.opens.items hs lists c.args.client c.args.of c.in-Some.open.window c.in-Some.open.bound there is_open
    c.args.measured c.settled_account.result c.close.new.opens.items c.requires.reading.sound.clients step c.close.ensures)
