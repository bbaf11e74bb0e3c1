use Rattle.std.proofs.Common.{◌≡◌, ◌==◌, ◌&&◌, Bool, true, drop, get_or, sym, ◌∙◌, ap, arith}
use Rattle.std.proofs.lemmas.Bool.Decides.{nat_tests}
use Rattle.std.specs.List.{list_all}
use Rattle.account_journal.proofs.Spelling.{zero_from}
use Rattle.account_journal.proofs.records.is_header.Goals as goal

pub returns-then-body-eq0 : goal.returns-then-body-eq0
returns-then-body-eq0 c =
    let z : (get_or c.args.body.now 0 0 == 0) ≡ true = grind (arith, nat_tests, c.if-body-eq0.true) in
    c.are_zero.ensures ∙ zero_from c.args.body.now 33 30 c.told-body ∙ ap (λ (t : Bool). t && list_all (λ b. b == 0) (drop 33 c.args.body.now)) (sym z)
