use Rattle.std.proofs.Common.{◌≡◌, ◌≤◌, ◌+◌, None, Some, is_some, cond, sym, ap, subst, ◌∙◌, arith}
use Rattle.std.proofs.lemmas.Bool.Decides.{nat_tests}
use Rattle.store_trees.specs.Clients.{number_of, is_sum, AreKnown}
use Rattle.store_trees.proofs.Numberings.{none_if, known_push, number_push, push_finds}
use Rattle.store_trees.proofs.clients.Known.add.Goals as goal

pub returns-clause-known : goal.returns-clause-known
returns-clause-known c =
    let old = c.args.self.now.clients.items in
    let new : number_of old c.args.sum ≡ None = sym (c.requires.index c.args.sum) ∙ none_if _ (sym c.if-contains_key.ensures) in
    let le : c.args.self.now.next ≤ c.args.number = (let e = c.from.ensures in let f = c.if-from-self.false in grind (arith, nat_tests, e, f)) in
    subst (λ n. AreKnown c.push.new.self.items (n + 1)) (sym c.from-2.ensures)
    (subst (λ cs. AreKnown cs (c.args.number + 1)) (sym c.in_ok-push.ensures.items) (known_push old c.args.self.now.next c.args.number c.args.sum c.requires.known le new))

pub returns-clause-index : goal.returns-clause-index
returns-clause-index c = λ q.
    let old = c.args.self.now.clients.items in
    let new : number_of old c.args.sum ≡ None = sym (c.requires.index c.args.sum) ∙ none_if _ (sym c.if-contains_key.ensures) in
    c.in_ok-insert.ensures.updates.0 q
    ∙ (ap (cond (is_sum c.args.sum q) (Some c.args.number)) (c.requires.index q)
    ∙ (number_push old c.args.number c.args.sum q new ∙ ap (λ cs. number_of cs q) (sym c.in_ok-push.ensures.items)))

pub returns-clause-number : goal.returns-clause-number
returns-clause-number c =
    let old = c.args.self.now.clients.items in
    let new : number_of old c.args.sum ≡ None = sym (c.requires.index c.args.sum) ∙ none_if _ (sym c.if-contains_key.ensures) in
    ap (λ cs. number_of cs c.args.sum) c.in_ok-push.ensures.items ∙ push_finds old c.args.number c.args.sum new

pub returns-then-from-self-clause-refused : goal.returns-then-from-self-clause-refused
returns-then-from-self-clause-refused c = λ taken. let e = c.from.ensures in let f = c.if-from-self.true in let le = taken.0 in grind (arith, nat_tests, e, f, le)

pub returns-then-contains_key-clause-refused : goal.returns-then-contains_key-clause-refused
returns-then-contains_key-clause-refused c = λ taken. let e = c.if-contains_key.ensures ∙ ap is_some (c.requires.index c.args.sum ∙ taken.1) in cc
