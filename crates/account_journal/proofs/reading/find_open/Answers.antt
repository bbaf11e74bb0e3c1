use Rattle.std.proofs.Common.{◌≡◌, ◌+◌, List, true, drop, get_or, map, sym, ◌∙◌, ap, arith}
use Rattle.std.proofs.lemmas.List.{drop_more}
use Rattle.std.proofs.lemmas.Bool.Decides.{nat_tests}
use Rattle.account_core.specs.Machine.{is_grant, open_grant}
use Rattle.account_core.proofs.GrantLists.{found_first}
use Rattle.account_journal.specs.declared.reading.OpenGrant.{OpenGrant}
use Rattle.account_journal.specs.Recovery.{grant_view}
use Rattle.account_journal.proofs.reading.find_open.Goals as goal

pub returns-then-open-slot-clause-found : goal.returns-then-open-slot-clause-found
returns-then-open-slot-clause-found c =
    let d : OpenGrant = record { client = 0; slot = 0; window = 0; bound = record { types = 0; fields = 0 } } in
    let o = get_or c.args.opens.now c.loop-open.open-index d in
    let mine : is_grant c.args.client c.args.slot (grant_view o) ≡ true = grind (arith, nat_tests, c.if-open-client.true, c.if-open-slot.true) in
    sym (found_first c.args.client c.args.slot (grant_view o) (map grant_view (drop (c.loop-open.open-index + 1) c.args.opens.now)) mine)
    ∙ ap (λ (l : List OpenGrant). open_grant c.args.client c.args.slot (map grant_view l)) (sym (drop_more c.args.opens.now c.loop-open.open-index d c.loop-open-test.true))
    ∙ c.loop-open.invariant
