use Rattle.std.proofs.Common.{map, ap, sym, subst, ◌∙◌, arith}
use Rattle.std.proofs.lemmas.Result.{err_from_is_err_and}
use Rattle.sqlite_trees.specs.Tree.{Trees}
use Rattle.sqlite_trees.specs.View.{View}
use Rattle.store_trees.specs.Tables.{client_tree, account_tree, grant_tree, account_row, grant_row}
use Rattle.store_trees.specs.Clients.{AreClients, IsNextOf}
use Rattle.store_trees.specs.Opening.{AreAccounts, AreGrants, HasFailed}
use Rattle.store_trees.proofs.Sequences.{was_clean, read_thrice, quiet_on}
use Rattle.store_trees.proofs.Refusals.{rows_refused, failed_on, number_past}
use Rattle.store_trees.proofs.opening.read_tables.Goals as goal

pub returns-in_err-read_meta-clause-refused : goal.returns-in_err-read_meta-clause-refused
returns-in_err-read_meta-clause-refused g c =
    let p = err_from_is_err_and c.from_residual.result c.from_residual.ensures.1 in
    rw (p.1, p.2) (λ clean. c.in_err-read_meta.ensures.refused clean)

pub returns-in_err-accounts-clause-refused : goal.returns-in_err-accounts-clause-refused
returns-in_err-accounts-clause-refused g c =
    let p = err_from_is_err_and c.from_residual-in_err-accounts.result c.from_residual-in_err-accounts.ensures.1 in
    rw (p.1, p.2) (λ clean.
    let start = c.args.store.now in
    let one = c.read_meta.new.store in
    let two = c.read_accounts.new.store in
    let failed = HasFailed g.S.Store.view g.S.Store.faults in
    let was = was_clean (g.S.Store.view one) (g.S.Store.view two) c.read_accounts.ensures.quiet.clean clean in
    let same = c.in_ok-read_meta.ensures.same was in
    rows_refused (g.S.Store.view start).trees c.args.seconds (AreAccounts ((g.S.Store.view one).trees account_tree)) (failed one two) (failed start two) (c.in_ok-read_meta.ensures.found was)
    (λ both. subst (λ (t : Trees). AreAccounts (t account_tree)) (sym (ap (λ (v : View). v.trees) same)) both.accounts)
    (failed_on g.S.Store.view g.S.Store.faults start one two (ap (λ (v : View). v.is_broken) same) c.read_meta.ensures.quiet.counts)
    c.in_err-accounts.field-0.0 (c.in_err-accounts.ensures.refused clean))

pub returns-in_err-grants-clause-refused : goal.returns-in_err-grants-clause-refused
returns-in_err-grants-clause-refused g c =
    let p = err_from_is_err_and c.from_residual-in_err-grants.result c.from_residual-in_err-grants.ensures.1 in
    rw (p.1, p.2) (λ clean.
    let start = c.args.store.now in
    let one = c.read_meta.new.store in
    let two = c.read_accounts.new.store in
    let three = c.read_grants.new.store in
    let failed = HasFailed g.S.Store.view g.S.Store.faults in
    let was2 = was_clean (g.S.Store.view two) (g.S.Store.view three) c.read_grants.ensures.quiet.clean clean in
    let was1 = was_clean (g.S.Store.view one) (g.S.Store.view two) c.read_accounts.ensures.quiet.clean was2 in
    let first = c.in_ok-read_meta.ensures.same was1 in
    let second = c.in_ok-accounts.ensures.same was2 in
    rows_refused (g.S.Store.view start).trees c.args.seconds (AreGrants ((g.S.Store.view two).trees grant_tree)) (failed two three) (failed start three) (c.in_ok-read_meta.ensures.found was1)
    (λ both. subst (λ (t : Trees). AreGrants (t grant_tree)) (sym (ap (λ (v : View). v.trees) second ∙ ap (λ (v : View). v.trees) first)) both.grants)
    (failed_on g.S.Store.view g.S.Store.faults start two three (ap (λ (v : View). v.is_broken) second ∙ ap (λ (v : View). v.is_broken) first)
    (omega (arith, c.read_meta.ensures.quiet.counts, c.read_accounts.ensures.quiet.counts)))
    c.in_err-grants.field-0.0 (c.in_err-grants.ensures.refused clean))

pub returns-in_err-next-clause-refused : goal.returns-in_err-next-clause-refused
returns-in_err-next-clause-refused g c =
    let p = err_from_is_err_and c.from_residual-in_err-next.result c.from_residual-in_err-next.ensures.1 in
    rw (p.1, p.2) (λ clean.
    let start = c.args.store.now in
    let one = c.read_meta.new.store in
    let two = c.read_accounts.new.store in
    let three = c.read_grants.new.store in
    let four = c.read_next.new.store in
    let view = g.S.Store.view in
    let failed = HasFailed view g.S.Store.faults in
    let was3 = was_clean (view three) (view four) c.read_next.ensures.quiet.clean clean in
    let was2 = was_clean (view two) (view three) c.read_grants.ensures.quiet.clean was3 in
    let was1 = was_clean (view one) (view two) c.read_accounts.ensures.quiet.clean was2 in
    let same = read_thrice (view start) (view one) (view two) (view three) (c.in_ok-read_meta.ensures.same was1) (c.in_ok-accounts.ensures.same was2) (c.in_ok-grants.ensures.same was3) in
    rows_refused (view start).trees c.args.seconds (AreClients ((view three).trees client_tree)) (failed three four) (failed start four) (c.in_ok-read_meta.ensures.found was1)
    (λ both. subst (λ (t : Trees). AreClients (t client_tree)) (sym same.0) both.clients)
    (failed_on view g.S.Store.faults start three four same.1 (omega (arith, c.read_meta.ensures.quiet.counts, c.read_accounts.ensures.quiet.counts, c.read_grants.ensures.quiet.counts)))
    c.in_err-next.field-0.0 (c.in_err-next.ensures.refused clean))

pub returns-then-not-are_below-clause-refused : goal.returns-then-not-are_below-clause-refused
returns-then-not-are_below-clause-refused g c clean =
    let view = g.S.Store.view in
    let start = view c.args.store.now in
    let one = view c.read_meta.new.store in
    let two = view c.read_accounts.new.store in
    let three = view c.read_grants.new.store in
    let was3 = was_clean three (view c.read_next.new.store) c.read_next.ensures.quiet.clean clean in
    let was2 = was_clean two three c.read_grants.ensures.quiet.clean was3 in
    let was1 = was_clean one two c.read_accounts.ensures.quiet.clean was2 in
    let first = ap (λ (v : View). v.trees) (c.in_ok-read_meta.ensures.same was1) in
    let second = ap (λ (v : View). v.trees) (c.in_ok-accounts.ensures.same was2) in
    let third = ap (λ (v : View). v.trees) (c.in_ok-grants.ensures.same was3) in
    let next = c.in_ok-next.next in (
      c.in_ok-read_meta.ensures.found was1,
      number_past start.trees c.deref.result.now c.deref-2.result.now next
          (ap (λ (t : Trees). t account_tree) (sym first) ∙ (c.in_ok-accounts.ensures.found was2 ∙ ap (map account_row) (sym c.deref.ensures.value)))
          (ap (λ (t : Trees). t grant_tree) (sym (second ∙ first)) ∙ (c.in_ok-grants.ensures.found was3 ∙ ap (map grant_row) (sym c.deref-2.ensures.value)))
          (subst (λ (t : Trees). IsNextOf (t client_tree) next) (third ∙ (second ∙ first)) (c.in_ok-next.ensures.next clean)) (sym c.if-not-are_below.ensures),
    )

pub returns-in_err-next-clause-quiet : goal.returns-in_err-next-clause-quiet
returns-in_err-next-clause-quiet g c =
    let both = quiet_on g.S.Store.view g.S.Store.faults g.S.Store.recovers g.S.Store.is_shielded in
    let start = c.args.store.now in
    let three = c.read_grants.new.store in
    both start three c.read_next.new.store
    (both start c.read_accounts.new.store three (both start c.read_meta.new.store c.read_accounts.new.store c.read_meta.ensures.quiet c.read_accounts.ensures.quiet) c.read_grants.ensures.quiet) c.read_next.ensures.quiet

pub returns-then-not-are_below-clause-quiet : goal.returns-then-not-are_below-clause-quiet
returns-then-not-are_below-clause-quiet g c =
    let both = quiet_on g.S.Store.view g.S.Store.faults g.S.Store.recovers g.S.Store.is_shielded in
    let start = c.args.store.now in
    let three = c.read_grants.new.store in
    both start three c.read_next.new.store
    (both start c.read_accounts.new.store three (both start c.read_meta.new.store c.read_accounts.new.store c.read_meta.ensures.quiet c.read_accounts.ensures.quiet) c.read_grants.ensures.quiet) c.read_next.ensures.quiet

pub returns-clause-quiet : goal.returns-clause-quiet
returns-clause-quiet g c =
    let both = quiet_on g.S.Store.view g.S.Store.faults g.S.Store.recovers g.S.Store.is_shielded in
    let start = c.args.store.now in
    let three = c.read_grants.new.store in
    both start three c.read_next.new.store
    (both start c.read_accounts.new.store three (both start c.read_meta.new.store c.read_accounts.new.store c.read_meta.ensures.quiet c.read_accounts.ensures.quiet) c.read_grants.ensures.quiet) c.read_next.ensures.quiet
