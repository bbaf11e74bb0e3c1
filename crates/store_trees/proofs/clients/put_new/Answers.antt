use Rattle.std.proofs.Common.{◌⊎◌, ◌≤◌, ◌+◌, ◌^◌, inl, sym, ap, subst, ◌∙◌, length, drop}
use Rattle.std.proofs.lemmas.Result.{err_from_is_err_and}
use Rattle.std.proofs.lemmas.List.{take_rest}
use Rattle.sqlite_trees.specs.View.{View}
use Rattle.store_trees.specs.Tables.{client_tree}
use Rattle.store_trees.specs.Clients.{AreClients, HaveRoom, Grows, TakesClients}
use Rattle.store_trees.specs.Opening.{HasFailed, FailsOn, KeepFails}
use Rattle.store_trees.proofs.Sequences.{was_clean}
use Rattle.store_trees.proofs.Numberings.{entered, room_behind}
use Rattle.store_trees.proofs.Refusals.{fails_on, failed_on, keep_fails, told_keep}
use Rattle.store_trees.proofs.clients.put_new.Goals as goal

pub returns-in-Ok-clause-ok : goal.returns-in-Ok-clause-ok
returns-in-Ok-clause-ok g c clean =
    let old = g.S.Store.view c.args.store.now in
    let mid = g.S.Store.view c.read_known.new.store in
    let new = g.S.Store.view c.put_clients.new.store in
    let was = was_clean mid new c.put_clients.ensures.quiet.clean clean in
    let read = c.in_ok-known.ensures in
    entered old mid new c.in_ok-known.known.clients.items c.numbers.new.self.clients.items _ c.numbers.new.self.next c.args.sums.now c.in_ok-numbers.numbers.items
    (ap (λ (v : View). v.trees) (read.same was)) (read.rows was)
    (subst (λ n. Grows c.in_ok-known.known.clients.items n c.args.sums.now c.numbers.new.self.clients.items c.numbers.new.self.next) read.known.is_next c.in_ok-numbers.ensures.grows)
    (take_rest c.as_slice-clients.result.now (length c.as_slice-before.result.now) ∙ (λ i. drop (length (c.as_slice-before.ensures.value i)) (c.as_slice-clients.ensures.value i)))
    c.in_ok-numbers.ensures.known c.in_ok-numbers.ensures.numbers (c.in-Ok.ensures.ok clean)

pub returns-in_err-known-clause-refused : goal.returns-in_err-known-clause-refused
returns-in_err-known-clause-refused g c =
    let p = err_from_is_err_and c.from_residual.result c.from_residual.ensures.1 in
    let old = g.S.Store.view c.args.store.now in
    let failed = HasFailed g.S.Store.view g.S.Store.faults c.args.store.now c.read_known.new.store in
    rw (p.1, p.2) (λ clean. fails_on (AreClients (old.trees client_tree)) (HaveRoom (old.trees client_tree) (length c.args.sums.now)) failed (failed ⊎ (¬ TakesClients (old.reals client_tree)))
    (λ have. have.clients) inl c.in_err-known.field-0.0 (c.in_err-known.ensures.refused clean))

pub returns-in_err-numbers-clause-refused : goal.returns-in_err-numbers-clause-refused
returns-in_err-numbers-clause-refused g c =
    let p = err_from_is_err_and c.from_residual-in_err-numbers.result c.from_residual-in_err-numbers.ensures.1 in
    let old = g.S.Store.view c.args.store.now in
    let rows = old.trees client_tree in
    let known = c.in_ok-known.known in
    let count = length c.args.sums.now in
    let failed = HasFailed g.S.Store.view g.S.Store.faults c.args.store.now c.read_known.new.store in
    rw (p.1, p.2) (λ clean. fails_on (known.next + count ≤ 2 ^ 32) (HaveRoom rows count) ⊥ (failed ⊎ (¬ TakesClients (old.reals client_tree)))
    (room_behind rows known.clients.items known.next count (c.in_ok-known.ensures.rows clean) c.in_ok-known.ensures.known.is_next) (λ f. absurd f) c.in_err-numbers.field-0.0 c.in_err-numbers.ensures.refused)

pub returns-clause-refused : goal.returns-clause-refused
returns-clause-refused g c clean =
    let view = g.S.Store.view in
    let start = c.args.store.now in
    let mid = c.read_known.new.store in
    let new = c.put_clients.new.store in
    let failed = HasFailed view g.S.Store.faults in
    let have = HaveRoom ((view start).trees client_tree) (length c.args.sums.now) in
    let none = ¬ TakesClients ((view start).reals client_tree) in
    let same = c.in_ok-known.ensures.same (was_clean (view mid) (view new) c.put_clients.ensures.quiet.clean clean) in
    let e = c.in-Err.error in
    let fails : KeepFails (failed start new) none e =
    keep_fails (failed mid new) (failed start new) (¬ TakesClients ((view mid).reals client_tree)) none e (failed_on view g.S.Store.faults start mid new (ap (λ (v : View). v.is_broken) same) c.read_known.ensures.quiet.counts)
    (λ un all. un (subst TakesClients (sym (ap (λ (v : View). v.reals client_tree) same)) all)) (c.in-Err.ensures.cause clean) in
    subst (FailsOn have (failed start new ⊎ none)) (sym c.read_fault.ensures) (told_keep have (failed start new) none e fails)
